-- No byte of what is written for a value is a line feed.
use Rattle.std.proofs.Common.{◌≡◌, ◌≢◌, ℕ, ℤ, pos, negsuc, zero, suc, ◌/◌, ◌%◌, ◌<◌, ◌==◌, Bool, true, false, cond}
use Rattle.std.proofs.Common.{List, [], ◌∷◌, ◌++◌, refl, arith, nat_lt}
use Rattle.std.proofs.lemmas.Bool.Decides.{nat_tests}
use Rattle.std.proofs.lemmas.List.Elements.{All-append, All-cons, All-nil}
use Rattle.std.specs.Char.{digit_char}
use Rattle.std.specs.Fmt.{decimal, digit_glyph, digits, digits_onto, signed_decimal}
use Rattle.json.specs.Print.{escape, escape_byte, escape_letter, quoted}
use Rattle.serde_json.specs.Data.{Data, Num, unsigned, negative, float, null, boolean, number, string, array, object}
use Rattle.serde_json.specs.Data.{Items, no_items, item, Members, no_members, member}
use Rattle.serde_json.specs.Written.{comma_if, compact_text, items_text, members_text, number_text}
use Rattle.ps_delta.specs.Deltas.{Entries}
use Rattle.ps_wire.specs.Line.{IsOneLine, delta_text}
use Rattle.ps_wire.specs.Value.{delta_value}

record Line (text : List ℕ) : Type 0 where
  all : IsOneLine text

none : Line []
none = record { all = All-nil (λ b. b ≢ 10) }

one : (b : ℕ) (bs : List ℕ) → b ≢ 10 → Line bs → Line (b ∷ bs)
one b bs apart rest = record { all = All-cons (λ x. x ≢ 10) b bs apart rest.all }

both : (a b : List ℕ) → Line a → Line b → Line (a ++ b)
both a b h k = record { all = All-append (λ x. x ≢ 10) a b h.all k.all }

either : (t : Bool) (a b : List ℕ) → (t ≡ true → Line a) → (t ≡ false → Line b) → Line (cond t a b)
either true a b f g = f refl
either false a b f g = g refl

above : (b : ℕ) → 10 < b → b ≢ 10
above b h e = omega (arith, h, e)

-- ---- numbers

glyph_above : (d : ℕ) → 10 < digit_glyph false d
glyph_above d = search arith

digits_line : (k n : ℕ) (rest : List ℕ) → Line rest → Line (digits_onto k 10 false n rest)
digits_line zero n rest h = h
digits_line (suc k) n rest h =
    let d = digit_glyph false (n % 10) in
    let more = one d rest (above d (glyph_above (n % 10))) h in
    either (n / 10 == 0) (d ∷ rest) _ (λ _. more) (λ _. digits_line k (n / 10) (d ∷ rest) more)

decimal_line : (n : ℕ) → Line (decimal n)
unfolding digits
decimal_line n = digits_line 64 n [] none

signed_line : (z : ℤ) → Line (signed_decimal z)
signed_line (pos n) = decimal_line n
signed_line (negsuc n) = one 45 _ (above 45 (omega arith)) (decimal_line (suc n))

number_line : (n : Num) → Line (number_text n)
number_line (unsigned n) = decimal_line n
number_line (negative z) = signed_line z
number_line (float x) = none

-- ---- strings

digit_above : (d : ℕ) → 10 < digit_char d
digit_above d = search arith

letter_above : (x : ℕ) → nat_lt 0 (escape_letter x) ≡ true → 10 < escape_letter x
letter_above x h = grind (arith, nat_tests, h)

byte_line : (x : ℕ) → Line (escape_byte x)
unfolding escape_byte
byte_line x =
    either (nat_lt 0 (escape_letter x)) (92 ∷ escape_letter x ∷ []) _
    (λ h. one 92 _ (above 92 (omega arith)) (one (escape_letter x) [] (above _ (letter_above x h)) none))
    (λ h. either (nat_lt x 32) _ (x ∷ [])
    (λ _. one 92 _ (above 92 (omega arith)) (one 117 _ (above 117 (omega arith)) (one 48 _ (above 48 (omega arith))
    (one 48 _ (above 48 (omega arith)) (one _ _ (above _ (digit_above (x / 16)))
    (one _ _ (above _ (digit_above (x % 16)))
    none))))))
    (λ l. one x [] (above x (grind (arith, nat_tests, l))) none))

escape_line : (s : List ℕ) → Line (escape s)
escape_line [] = none
escape_line (x ∷ s) = both (escape_byte x) (escape s) (byte_line x) (escape_line s)

quoted_line : (s : List ℕ) → Line (quoted s)
quoted_line s =
    one 34 _ (above 34 (omega arith)) (both (escape s) (34 ∷ []) (escape_line s)
    (one 34 [] (above 34 (omega arith)) none))

-- ---- values

comma_line : (later : Bool) → Line (comma_if later)
comma_line true = one 44 [] (above 44 (omega arith)) none
comma_line false = none

boolean_line : (b : Bool) → Line (compact_text (boolean b))
boolean_line true = one 116 _ (above 116 (omega arith)) (one 114 _ (above 114 (omega arith))
    (one 117 _ (above 117 (omega
    arith)) (one 101 _ (above 101 (omega arith)) none)))
boolean_line false = one 102 _ (above 102 (omega arith)) (one 97 _ (above 97 (omega arith)) (one 108 _ (above 108 (omega
    arith)) (one 115 _ (above 115 (omega arith)) (one 101 _ (above 101 (omega arith)) none))))

null_line : Line (compact_text null)
null_line = one 110 _ (above 110 (omega arith)) (one 117 _ (above 117 (omega arith)) (one 108 _ (above 108 (omega
    arith)) (one 108 _ (above 108 (omega arith)) none)))

mutual
  value_line : (d : Data) → Line (compact_text d)
  value_line null = null_line
  value_line (boolean b) = boolean_line b
  value_line (number n) = number_line n
  value_line (string s) = quoted_line s
  value_line (array ds) = one 91 _ (above 91 (omega arith)) (items_line false ds)
  value_line (object ms) = one 123 _ (above 123 (omega arith)) (members_line false ms)

  items_line : (later : Bool) (ds : Items) → Line (items_text later ds)
  items_line later no_items = one 93 [] (above 93 (omega arith)) none
  items_line later (item d ds) =
      both (comma_if later) _ (comma_line later) (both (compact_text d) _ (value_line d) (items_line true ds))

  members_line : (later : Bool) (ms : Members) → Line (members_text later ms)
  members_line later no_members = one 125 [] (above 125 (omega arith)) none
  members_line later (member k d ms) =
      both (comma_if later) _ (comma_line later) (both (quoted k) _ (quoted_line k) (one 58 _ (above 58 (omega arith))
      (both (compact_text d) _ (value_line d) (members_line true ms))))

-- the text of a delta is one line
pub delta_line : (delta : Entries) → IsOneLine (delta_text delta)
unfolding delta_text
delta_line delta = (value_line (delta_value delta)).all
