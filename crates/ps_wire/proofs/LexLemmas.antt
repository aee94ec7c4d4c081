-- A JSON text has a byte for each byte of what is printed again: from bytes to lexemes.
use Rattle.std.proofs.Common.{◌≡◌, ℕ, suc, ◌+◌, ◌-◌, ◌≤◌, Bool, true, false, cond, ◌&&◌, ◌||◌, ◌==◌}
use Rattle.std.proofs.Common.{List, [], ◌∷◌, length}
use Rattle.std.proofs.Common.{take, drop, Option, Some, None, option_and_then, refl, sym, ap}
use Rattle.std.proofs.Common.{◌∙◌, arith}
use Rattle.std.proofs.lemmas.Bool.{eqb-true, and_parts}
use Rattle.std.proofs.lemmas.Bool.Decides.{nat_tests}
use Rattle.std.proofs.lemmas.List.{length-append, length-take}
use Rattle.json.specs.Print.{escape}
use Rattle.std.specs.Prelude.{⊤, nat_eq}
use Rattle.std.specs.Char.{is_ascii_digit}
use Rattle.std.specs.List.{prefix_len, starts_with}
use Rattle.json.specs.Token.{Token, number, boolean, null, bad}
use Rattle.json.specs.Ascii as ascii
use Rattle.json.specs.Text.{content, plain}
use Rattle.json.specs.Word.{is_operator, is_space, head, ends_word, after_digits, after_minus, after_sign}
use Rattle.json.specs.Word.{after_whole}
use Rattle.json.specs.Word.{after_fraction, after_exponent, after_number, number_before, literal, word}
use Rattle.json.specs.Lex.{Lexeme, token, comma, colon, Class, quote, backslash, operator, space, other, class}
use Rattle.json.specs.Lex.{Mode, between, in_word, in_string, in_escape, lex, lex_byte, operator_lexeme, string_token}
use Rattle.json.specs.Align.{span, span_byte}
use Rattle.ps_wire.proofs.CostLemmas.{width, weight}
use Rattle.ps_wire.proofs.EscapeLemmas.{Escaped, content_escaped}

-- ---- how far a word goes on

abbrev run_byte : Class → ℕ → ℕ
run_byte quote k = 1 + k
run_byte backslash k = 1 + k
run_byte operator k = 0
run_byte space k = 0
run_byte other k = 1 + k

abbrev run : List ℕ → ℕ
run [] = 0
run (x ∷ xs) = run_byte (class x) (run xs)

goes_by : (q b o s : Bool) (k : ℕ) → o ≡ false → s ≡ false
    → run_byte (cond q quote (cond b backslash (cond o operator (cond s space other)))) k ≡ 1 + k
goes_by true b o s k e f = refl
goes_by false true o s k e f = refl
goes_by false false o s k e f = rw (e, f) refl

goes_on : (x : ℕ) (xs : List ℕ) → is_operator x ≡ false → is_space x ≡ false → run (x ∷ xs) ≡ 1 + run xs
goes_on x xs o s = goes_by (x == 34) (x == 92) (is_operator x) (is_space x) (run xs) o s

-- what stands before `rest` in the text belongs to the word
abbrev Passes : List ℕ → List ℕ → Type 0
Passes text rest = length text + run rest ≤ run text + length rest

abbrev PassesTo : List ℕ → Option (List ℕ) → Type 0
PassesTo text None = ⊤
PassesTo text (Some rest) = Passes text rest

onward : (t r : List ℕ) (o : Option (List ℕ)) → Passes t r → PassesTo r o → PassesTo t o
onward t r None h k = tt
onward t r (Some s) h k = omega (arith, h, k)

then : (t : List ℕ) (f : List ℕ → Option (List ℕ)) (o : Option (List ℕ)) → PassesTo t o
    → ((r : List ℕ) → PassesTo r (f r)) → PassesTo t (option_and_then f o)
then t f None h k = tt
then t f (Some r) h k = onward t r (f r) h (k r)

-- one byte of a word
one_byte : (t : List ℕ) (c : ℕ) → is_operator c ≡ false → is_space c ≡ false → head t ≡ c → Passes t (drop 1 t)
one_byte [] c o s e = omega arith
one_byte (x ∷ xs) c o s e =
    let same : x ≡ c = e in
    omega (arith, goes_on x xs (ap is_operator same ∙ o) (ap is_space same ∙ s))

if_byte : (t : List ℕ) (c : ℕ) (b : Bool) → is_operator c ≡ false → is_space c ≡ false → (head t == c) ≡ b
    → Passes t (cond b (drop 1 t) t)
if_byte t c true o s e = one_byte t c o s (eqb-true (head t) c e)
if_byte t c false o s e = omega arith

digit_operator : (x : ℕ) → is_ascii_digit x ≡ true → is_operator x ≡ false
digit_operator x h = grind (arith, nat_tests, h)

digit_space : (x : ℕ) → is_ascii_digit x ≡ true → is_space x ≡ false
digit_space x h = grind (arith, nat_tests, h)

drop_next : (n x : ℕ) (xs : List ℕ) → drop (1 + n) (x ∷ xs) ≡ drop n xs
drop_next n x xs = let e : 1 + n ≡ suc n = omega arith in ap (λ k. drop k (x ∷ xs)) e

one_digit : (x : ℕ) (xs : List ℕ) (b : Bool) → Passes xs (drop (prefix_len is_ascii_digit xs) xs) → is_ascii_digit x ≡ b
    → Passes (x ∷ xs) (drop (cond b (1 + prefix_len is_ascii_digit xs) 0) (x ∷ xs))
one_digit x xs true rest e =
    rw (drop_next (prefix_len is_ascii_digit xs) x xs)
    (omega (arith, goes_on x xs (digit_operator x e) (digit_space x e), rest))
one_digit x xs false rest e = omega arith

digits_pass : (t : List ℕ) → Passes t (drop (prefix_len is_ascii_digit t) t)
digits_pass [] = omega arith
digits_pass (x ∷ xs) = one_digit x xs (is_ascii_digit x) (digits_pass xs) refl

some_digits : (t : List ℕ) → PassesTo t (after_digits t)
some_digits t = by_test (prefix_len is_ascii_digit t == 0)
  where
    by_test : (b : Bool) → PassesTo t (cond b None (Some (drop (prefix_len is_ascii_digit t) t)))
    by_test true = tt
    by_test false = digits_pass t

whole_passes : (t : List ℕ) → PassesTo t (after_whole t)
whole_passes t = by_test (head t == ascii.zero) refl
  where
    by_test : (b : Bool) → (head t == ascii.zero) ≡ b → PassesTo t (cond b (Some (drop 1 t)) (after_digits t))
    by_test true e = one_byte t 48 refl refl (eqb-true (head t) 48 e)
    by_test false e = some_digits t

fraction_passes : (t : List ℕ) → PassesTo t (after_fraction t)
fraction_passes t = by_test (head t == ascii.dot) refl
  where
    by_test : (b : Bool) → (head t == ascii.dot) ≡ b → PassesTo t (cond b (after_digits (drop 1 t)) (Some t))
    by_test true e =
        onward t (drop 1 t) (after_digits (drop 1 t)) (one_byte t 46 refl refl (eqb-true (head t) 46 e))
        (some_digits (drop 1 t))
    by_test false e = omega arith

either_byte : (t : List ℕ) (c d : ℕ) (a b : Bool) → is_operator c ≡ false → is_space c ≡ false → is_operator d ≡ false
    → is_space d ≡ false → (head t == c) ≡ a → (head t == d) ≡ b → (a || b) ≡ true → Passes t (drop 1 t)
either_byte t c d true b o s p r e f h = one_byte t c o s (eqb-true (head t) c e)
either_byte t c d false true o s p r e f h = one_byte t d p r (eqb-true (head t) d f)
either_byte t c d false false o s p r e f h = absurd cc

sign_passes : (t : List ℕ) → Passes t (after_sign t)
sign_passes t = by_test ((head t == ascii.minus) || (head t == ascii.plus)) refl
  where
    by_test : (b : Bool) → ((head t == ascii.minus) || (head t == ascii.plus)) ≡ b → Passes t (cond b (drop 1 t) t)
    by_test true e = either_byte t 45 43 (head t == 45) (head t == 43) refl refl refl refl refl refl e
    by_test false e = omega arith

exponent_passes : (t : List ℕ) → PassesTo t (after_exponent t)
exponent_passes t = by_test ((head t == ascii.lower_e) || (head t == ascii.upper_e)) refl
  where
    by_test : (b : Bool) → ((head t == ascii.lower_e) || (head t == ascii.upper_e)) ≡ b
        → PassesTo t (cond b (after_digits (after_sign (drop 1 t))) (Some t))
    by_test true e =
        onward t (drop 1 t) _ (either_byte t 101 69 (head t == 101) (head t == 69) refl refl refl refl refl refl e)
        (onward (drop 1 t) (after_sign (drop 1 t)) _ (sign_passes (drop 1 t)) (some_digits (after_sign (drop 1 t))))
    by_test false e = omega arith

number_passes : (t : List ℕ) → PassesTo t (after_number t)
unfolding after_number
number_passes t =
    then t after_exponent _ (then t after_fraction _ (onward t (after_minus t) (after_whole (after_minus t))
    (if_byte t 45 (head t == 45) refl refl refl) (whole_passes (after_minus t))) fraction_passes) exponent_passes

-- ---- words

number_width : (t : List ℕ) (o : Option (List ℕ)) → PassesTo t o → width (number_before t o) ≤ run t
number_width t None h = omega arith
number_width t (Some rest) h = by_test (ends_word rest)
  where
    by_test : (b : Bool) → width (cond b (number (take (length t - length rest) t)) bad) ≤ run t
    by_test true = omega (arith, h, length-take (length t - length rest) t)
    by_test false = omega arith

no_width : (b c : Bool) (n : ℕ) → width (cond b (boolean c) bad) ≤ n
no_width true c n = omega arith
no_width false c n = omega arith

boolean_width : (name t : List ℕ) (c : Bool) → width (literal name (boolean c) t) ≤ run t
boolean_width name t c = no_width (starts_with nat_eq t name && ends_word (drop (length name) t)) c (run t)

letter : (c x : ℕ) (xs : List ℕ) → is_operator c ≡ false → is_space c ≡ false → nat_eq c x ≡ true
    → run (x ∷ xs) ≡ 1 + run xs
letter c x xs o s e =
    let same : c ≡ x = eqb-true c x e in
    goes_on x xs (ap is_operator (sym same) ∙ o) (ap is_space (sym same) ∙ s)

abbrev AreLetters : List ℕ → Type 0
AreLetters [] = ⊤
AreLetters (c ∷ cs) = (is_operator c ≡ false) × (is_space c ≡ false) × AreLetters cs

name_run : (name t : List ℕ) → AreLetters name → starts_with nat_eq t name ≡ true → length name ≤ run t
name_run [] t h e = omega arith
name_run (c ∷ cs) [] h e = absurd cc
name_run (c ∷ cs) (x ∷ xs) h e =
    let both = and_parts (nat_eq c x) _ e in
    omega (arith, letter c x xs h.0 h.1 both.0, name_run cs xs h.2 both.1)

null_width : (t : List ℕ) → width (literal ascii.null_text null t) ≤ run t
null_width t = by_test (starts_with nat_eq t ascii.null_text) (ends_word (drop (length ascii.null_text) t)) refl
  where
    by_test : (a b : Bool) → starts_with nat_eq t ascii.null_text ≡ a → width (cond (a && b) null bad) ≤ run t
    by_test true true e = name_run ascii.null_text t (refl, refl, (refl, refl, (refl, refl, (refl, refl, tt)))) e
    by_test true false e = omega arith
    by_test false b e = omega arith

chosen : (b : Bool) (x y : Token) (n : ℕ) → width x ≤ n → width y ≤ n → width (cond b x y) ≤ n
chosen true x y n h k = h
chosen false x y n h k = k

word_width : (t : List ℕ) → width (word t) ≤ run t
unfolding word
word_width t =
    let numeral = number_before t (after_number t) in
    let none = literal ascii.null_text null t in
    let no = literal ascii.false_text (boolean false) t in
    chosen (head t == ascii.lower_t) (literal ascii.true_text (boolean true) t)
    (cond (head t == ascii.lower_f) no (cond (head t == ascii.lower_n) none numeral)) (run t)
    (boolean_width ascii.true_text t true)
    (chosen (head t == ascii.lower_f) no (cond (head t == ascii.lower_n) none numeral) (run t)
    (boolean_width ascii.false_text t false)
    (chosen (head t == ascii.lower_n) none numeral (run t) (null_width t)
    (number_width t (after_number t) (number_passes t))))

-- ---- lexemes

operator_weight : (x : ℕ) (ls : List Lexeme) → weight (operator_lexeme x ∷ ls) ≤ 1 + weight ls
operator_weight x ls =
    by_tests (x == ascii.open_brace) (x == ascii.close_brace) (x == ascii.open_bracket) (x == ascii.close_bracket)
    (x == ascii.comma)
  where
    by_tests : (a b c d e : Bool)
        → weight (cond a (token Token.begin_object) (cond b (token Token.end_object) (cond c (token Token.begin_array)
        (cond d (token Token.end_array) (cond e comma colon)))) ∷ ls) ≤ 1 + weight ls
    by_tests true b c d e = omega arith
    by_tests false true c d e = omega arith
    by_tests false false true d e = omega arith
    by_tests false false false true e = omega arith
    by_tests false false false false true = omega arith
    by_tests false false false false false = omega arith

string_width : (n : ℕ) (o : Option (List ℕ)) → Escaped n o → width (string_token o) ≤ 1 + n
string_width n None h = omega arith
string_width n (Some s) h = omega (arith, h, length-append (escape s) (34 ∷ []))

-- what the lexer passes over before the next lexeme
abbrev passed : Mode → List ℕ → ℕ
passed between xs = 0
passed in_word xs = run xs
passed in_string xs = span in_string xs
passed in_escape xs = span in_escape xs

byte_pays : (m : Mode) (c : Class) (x : ℕ) (xs : List ℕ) → class x ≡ c
    → ((next : Mode) → weight (lex next xs) + passed next xs ≤ length xs)
    → weight (lex_byte m c x xs (λ next. lex next xs)) + passed m (x ∷ xs) ≤ 1 + length xs
unfolding span
byte_pays between quote x xs e h =
    let text = string_width (span in_string xs + 0) (content plain xs) (content_escaped plain xs) in
    omega (arith, text, h in_string)
byte_pays between backslash x xs e h = omega (arith, h in_word)
byte_pays between operator x xs e h = omega (arith, h between, operator_weight x (lex between xs))
byte_pays between space x xs e h = omega (arith, h between)
byte_pays between other x xs e h =
    let goes : run (x ∷ xs) ≡ 1 + run xs = ap (λ k. run_byte k (run xs)) e in
    omega (arith, h in_word, word_width (x ∷ xs), goes)
byte_pays in_word operator x xs e h =
    let goes : run (x ∷ xs) ≡ 0 = ap (λ k. run_byte k (run xs)) e in
    omega (arith, h between, operator_weight x (lex between xs), goes)
byte_pays in_word space x xs e h =
    let goes : run (x ∷ xs) ≡ 0 = ap (λ k. run_byte k (run xs)) e in
    omega (arith, h between, goes)
byte_pays in_word c x xs e h =
    let goes : run (x ∷ xs) ≡ 1 + run xs = ap (λ k. run_byte k (run xs)) e in
    omega (arith, h in_word, goes)
byte_pays in_string quote x xs e h =
    let goes : span in_string (x ∷ xs) ≡ 1 = ap (λ k. span_byte in_string k (λ n. span n xs)) e in
    omega (arith, h between, goes)
byte_pays in_string backslash x xs e h =
    let goes : span in_string (x ∷ xs) ≡ 1 + span in_escape xs = ap (λ k. span_byte in_string k (λ n. span n xs)) e in
    omega (arith, h in_escape, goes)
byte_pays in_string c x xs e h =
    let goes : span in_string (x ∷ xs) ≡ 1 + span in_string xs = ap (λ k. span_byte in_string k (λ n. span n xs)) e in
    omega (arith, h in_string, goes)
byte_pays in_escape c x xs e h =
    let goes : span in_escape (x ∷ xs) ≡ 1 + span in_string xs = refl in omega (arith, h in_string, goes)

lexed_from : (m : Mode) (xs : List ℕ) → weight (lex m xs) + passed m xs ≤ length xs
unfolding lex span
lexed_from between [] = omega arith
lexed_from in_word [] = omega arith
lexed_from in_string [] = omega arith
lexed_from in_escape [] = omega arith
lexed_from m (x ∷ xs) = omega (arith, byte_pays m (class x) x xs refl (λ next. lexed_from next xs))

-- the lexemes of a text take no more bytes than it has
pub lexed : (text : List ℕ) → weight (lex between text) ≤ length text
lexed text = omega (arith, lexed_from between text)
