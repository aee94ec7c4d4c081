-- The names of cells and the canonical texts of contents are UTF-8.
use Rattle.std.proofs.Common.{◌≡◌, ℕ, ℤ, pos, negsuc, zero, suc, ◌-◌, ◌/◌, ◌%◌, ◌<◌, Bool, true, false, cond}
use Rattle.std.proofs.Common.{List, [], ◌∷◌, ◌++◌, refl, arith}
use Rattle.std.proofs.lemmas.Bool.{and_parts, ltb-true}
use Rattle.std.proofs.lemmas.Str.{IsUtf8-from_ascii, IsUtf8-append, IsUtf8-from_is_utf8, IsAscii-append}
use Rattle.std.proofs.lemmas.Str.Ascii.{IsAscii-cons, IsAscii-nil}
use Rattle.std.specs.Prelude.{IsUtf8, nat_lt, ◌==◌}
use Rattle.std.specs.Fmt.{digits, digits_onto, digit_glyph, decimal, signed_decimal}
use Rattle.std.specs.List.{list_all}
use Rattle.std.specs.Str.{IsAscii}
use Rattle.ps_grid.specs.Place.{letter_of, column_name, column_of, row_of, cell_name}
use Rattle.ps_grid.specs.Rectangle.{first_cell, last_cell}
use Rattle.ps_grid.specs.declared.size.TheConstants.{LETTERS, COLUMNS}
use Rattle.ps_tokens.specs.Names.{function_name, operator_text}
use Rattle.ps_tokens.specs.Text.{token_text, tokens_text}
use Rattle.ps_tokens.specs.declared.token.Function.{Function}
use Rattle.ps_tokens.specs.declared.token.Function.TheVariants as functions
use Rattle.ps_tokens.specs.declared.token.Operator.{Operator}
use Rattle.ps_tokens.specs.declared.token.Operator.TheVariants as operators
use Rattle.ps_tokens.specs.declared.token.Token.{Token}
use Rattle.ps_tokens.specs.declared.token.Token.TheVariants.{Numeral, Reference, Range, Name, Symbol, Open, Close}
use Rattle.ps_tokens.specs.declared.token.Token.TheVariants.{Separator}
use Rattle.ps_formula.specs.Canonical.{canon, tokens_of}
use Rattle.ps_formula.specs.Tree.{Tree}
use Rattle.ps_value.specs.Label.{is_label, IsLabel}
use Rattle.ps_content.specs.Content.{canonical_text, IsContent}
use Rattle.ps_content.specs.declared.content.Content.{Content}
use Rattle.ps_content.specs.declared.content.Content.TheVariants.{Blank, Number, Text, Formula, Tally, Choice}

-- a text whose bytes are tested
ascii : (bytes : List ℕ) → list_all (λ b. nat_lt b 128) bytes ≡ true → IsAscii bytes
ascii [] h = IsAscii-nil
ascii (b ∷ bytes) h =
    let both = and_parts (nat_lt b 128) (list_all (λ x. nat_lt x 128) bytes) h in
    IsAscii-cons b bytes (ltb-true b 128 both.0) (ascii bytes both.1)

glyph_small : (d : ℕ) → d < 10 → digit_glyph false d < 128
glyph_small d h = search arith

either_ascii : (b : Bool) (xs ys : List ℕ) → IsAscii xs → IsAscii ys → IsAscii (cond b xs ys)
either_ascii true xs ys h k = h
either_ascii false xs ys h k = k

digits_onto_ascii : (k n : ℕ) (rest : List ℕ) → IsAscii rest → IsAscii (digits_onto k 10 false n rest)
digits_onto_ascii zero n rest h = h
digits_onto_ascii (suc k) n rest h =
    let d = digit_glyph false (n % 10) in
    let more = IsAscii-cons d rest (glyph_small (n % 10) (omega arith)) h in
    either_ascii (n / 10 == 0) (d ∷ rest) _ more (digits_onto_ascii k (n / 10) (d ∷ rest) more)

decimal_ascii : (n : ℕ) → IsAscii (decimal n)
unfolding digits
decimal_ascii n = digits_onto_ascii 64 n [] IsAscii-nil

signed_ascii : (z : ℤ) → IsAscii (signed_decimal z)
signed_ascii (pos n) = decimal_ascii n
signed_ascii (negsuc n) = IsAscii-cons 45 _ (omega arith) (decimal_ascii (suc n))

letter_ascii : (k : ℕ) (rest : List ℕ) → k < LETTERS → IsAscii rest → IsAscii (letter_of k ∷ rest)
letter_ascii k rest below h = IsAscii-cons (letter_of k) rest (omega arith) h

column_ascii : (column : ℕ) → column < COLUMNS → (b : Bool) → nat_lt column LETTERS ≡ b
    → IsAscii (cond b (letter_of column ∷ []) (letter_of (column / LETTERS - 1) ∷ letter_of (column % LETTERS) ∷ []))
column_ascii column below true e = letter_ascii column [] (ltb-true column LETTERS e) IsAscii-nil
column_ascii column below false e =
    letter_ascii (column / LETTERS - 1) (letter_of (column % LETTERS) ∷ []) (omega arith)
    (letter_ascii (column % LETTERS) [] (omega arith) IsAscii-nil)

name_ascii : (c : ℕ) → IsAscii (cell_name c)
name_ascii c =
    IsAscii-append (column_name (column_of c)) (decimal (row_of c))
    (column_ascii (column_of c) (omega arith) (nat_lt (column_of c) LETTERS) refl) (decimal_ascii (row_of c))

function_ascii : (f : Function) → IsAscii (function_name f)
function_ascii functions.Sum = ascii (function_name functions.Sum) refl
function_ascii functions.Min = ascii (function_name functions.Min) refl
function_ascii functions.Max = ascii (function_name functions.Max) refl
function_ascii functions.Count = ascii (function_name functions.Count) refl
function_ascii functions.If = ascii (function_name functions.If) refl
function_ascii functions.Mod = ascii (function_name functions.Mod) refl
function_ascii functions.Quotient = ascii (function_name functions.Quotient) refl
function_ascii functions.Abs = ascii (function_name functions.Abs) refl
function_ascii functions.And = ascii (function_name functions.And) refl
function_ascii functions.Or = ascii (function_name functions.Or) refl
function_ascii functions.Not = ascii (function_name functions.Not) refl
function_ascii functions.True = ascii (function_name functions.True) refl
function_ascii functions.False = ascii (function_name functions.False) refl

operator_ascii : (o : Operator) → IsAscii (operator_text o)
operator_ascii operators.Plus = ascii (operator_text operators.Plus) refl
operator_ascii operators.Minus = ascii (operator_text operators.Minus) refl
operator_ascii operators.Times = ascii (operator_text operators.Times) refl
operator_ascii operators.Equal = ascii (operator_text operators.Equal) refl
operator_ascii operators.NotEqual = ascii (operator_text operators.NotEqual) refl
operator_ascii operators.Less = ascii (operator_text operators.Less) refl
operator_ascii operators.LessOrEqual = ascii (operator_text operators.LessOrEqual) refl
operator_ascii operators.Greater = ascii (operator_text operators.Greater) refl
operator_ascii operators.GreaterOrEqual = ascii (operator_text operators.GreaterOrEqual) refl

-- a text in brackets
bracketed : (inner : List ℕ) → IsAscii inner → IsAscii (91 ∷ 46 ∷ (inner ++ 93 ∷ []))
bracketed inner h =
    let rest = ascii (93 ∷ []) refl in
    IsAscii-append (91 ∷ 46 ∷ []) (inner ++ 93 ∷ []) (ascii (91 ∷ 46 ∷ []) refl)
    (IsAscii-append inner (93 ∷ []) h rest)

token_ascii : (t : Token) → IsAscii (token_text t)
token_ascii (Numeral z) = signed_ascii z
token_ascii (Reference c) = bracketed (cell_name c) (name_ascii c)
token_ascii (Range a) =
    let second = IsAscii-append (cell_name (last_cell a)) (93 ∷ []) (name_ascii (last_cell a)) (ascii (93 ∷ []) refl) in
    let colon = IsAscii-append (58 ∷ 46 ∷ []) (cell_name (last_cell a) ++ 93 ∷ []) (ascii (58 ∷ 46 ∷ []) refl) second in
    IsAscii-append (91 ∷ 46 ∷ []) _ (ascii (91 ∷ 46 ∷ []) refl)
    (IsAscii-append (cell_name (first_cell a)) _ (name_ascii (first_cell a)) colon)
token_ascii (Name f) = function_ascii f
token_ascii (Symbol o) = operator_ascii o
token_ascii Open = ascii (40 ∷ []) refl
token_ascii Close = ascii (41 ∷ []) refl
token_ascii Separator = ascii (59 ∷ []) refl

tokens_ascii : (ts : List Token) → IsAscii (tokens_text ts)
tokens_ascii [] = IsAscii-nil
tokens_ascii (t ∷ ts) = IsAscii-append (token_text t) (tokens_text ts) (token_ascii t) (tokens_ascii ts)

label_utf8 : (text : List ℕ) → IsLabel text → IsUtf8 text
unfolding is_label
label_utf8 text label = IsUtf8-from_is_utf8 text (and_parts _ _ label).1

-- the name of a cell is UTF-8
pub name_utf8 : (c : ℕ) → IsUtf8 (cell_name c)
name_utf8 c = IsUtf8-from_ascii (cell_name c) (name_ascii c)

-- so is a text whose bytes are tested
pub tested_utf8 : (bytes : List ℕ) → list_all (λ b. nat_lt b 128) bytes ≡ true → IsUtf8 bytes
tested_utf8 bytes h = IsUtf8-from_ascii bytes (ascii bytes h)

-- and what is written of a number
pub decimal_utf8 : (n : ℕ) → IsUtf8 (decimal n)
decimal_utf8 n = IsUtf8-from_ascii (decimal n) (decimal_ascii n)

pub signed_utf8 : (z : ℤ) → IsUtf8 (signed_decimal z)
signed_utf8 z = IsUtf8-from_ascii (signed_decimal z) (signed_ascii z)

-- a label with the quote that marks it as a text is UTF-8, and so is the canonical text of a formula
pub quoted_utf8 : (label : List ℕ) → IsLabel label → IsUtf8 (39 ∷ label)
quoted_utf8 label h =
    IsUtf8-append (39 ∷ []) label (IsUtf8-from_ascii (39 ∷ []) (ascii (39 ∷ []) refl)) (label_utf8 label h)

pub formula_utf8 : (t : Tree) → IsUtf8 (canon t)
formula_utf8 t =
    let text = tokens_text (tokens_of t) in
    IsUtf8-from_ascii (61 ∷ text) (IsAscii-cons 61 text (omega arith) (tokens_ascii (tokens_of t)))

-- the text of a content is UTF-8
pub content_utf8 : (c : Content) → IsContent c → IsUtf8 (canonical_text c)
content_utf8 Blank h = tested_utf8 [] refl
content_utf8 (Number z) h = signed_utf8 z
content_utf8 (Text t) h = quoted_utf8 t h
content_utf8 (Formula t) h = formula_utf8 t
content_utf8 Tally h = tested_utf8 (canonical_text Tally) refl
content_utf8 Choice h = tested_utf8 (canonical_text Choice) refl
