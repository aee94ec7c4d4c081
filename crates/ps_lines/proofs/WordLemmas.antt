-- How a line is divided into words, and the number that a word of digits stands for.
use Rattle.std.proofs.Common.{◌≡◌, ◌≢◌, ◌+◌, ◌-◌, ◌<◌, ◌≤◌, ◌^◌, ◌==◌, ℕ, Bool, true, false, cond, ◌&&◌}
use Rattle.std.proofs.Common.{Bor, List, [], ◌∷◌, ◌++◌, get_or, length, subst}
use Rattle.std.proofs.Common.{take, drop, nat_lt, Option, Some, None, refl, sym, ap, ◌∙◌, arith, rules}
use Rattle.std.specs.Prelude.{MatchOption, position}
use Rattle.std.specs.Char.{is_ascii_digit}
use Rattle.std.specs.Fmt.{decimal}
use Rattle.std.specs.List.{list_all, onto_first, position_or_len}
use Rattle.std.specs.Option.{SomeIff}
use Rattle.std.specs.Str.Parse.{IsNumeral, digits_value}
use Rattle.std.proofs.lemmas.Bool.{eqb-true, ltb-true, ltb-false, lt-ltb}
use Rattle.std.proofs.lemmas.Fmt.{decimal_nonempty, digits_decimal, digits_value-decimal}
use Rattle.std.proofs.lemmas.List.{append_cancel_left, take_rest}
use Rattle.std.proofs.lemmas.List.Splits.{slice_split_first, slice_split_none}
use Rattle.std.proofs.lemmas.List.Sums.{fails_before_first, passes_at_first, split_at_first}
use Rattle.std.proofs.lemmas.Str.Parse.{IsNumeralModel, numerals_by_value}
use Rattle.ps_lines.specs.Words.{is_whole, parts, whole_number}

position_cases : (b : Bool) (m n : ℕ) → cond b (Some m) None ≡ Some n → (b ≡ true) × (m ≡ n)
position_cases true m n e = (refl, cc)
position_cases false m n e = cc

no_position : (b : Bool) (m : ℕ) → cond b (Some m) None ≡ None → b ≡ false
no_position true m e = cc
no_position false m e = refl

-- a text with a separator is its first part, and then the parts after the separator
pub parts_at : (separator : ℕ) (text : List ℕ) (place : ℕ) → position (λ b. b == separator) text ≡ Some place
    → parts separator text
    ≡ take place text ∷ parts separator (take (length text - (place + 1)) (drop (place + 1) text))
parts_at separator text place e =
    let is_separator : ℕ → Bool = λ b. b == separator in
    let n = position_or_len is_separator text in
    let cases = position_cases (nat_lt n (length text)) n place e in
    let split : parts separator text ≡ take n text ∷ parts separator (drop (n + 1) text)
    = slice_split_first is_separator text 0 (ltb-true n (length text) cases.0) in
    let there : parts separator text ≡ take place text ∷ parts separator (drop (place + 1) text)
    = rw cases.1 at split in
    rw (take_rest text (place + 1)) there

-- .. and it is what stands before the first separator, the separator, and what stands after it
pub divided_at : (separator : ℕ) (text : List ℕ) (place : ℕ) → position (λ b. b == separator) text ≡ Some place
    → text ≡ take place text ++ separator ∷ take (length text - (place + 1)) (drop (place + 1) text)
divided_at separator text place e =
    let is_separator : ℕ → Bool = λ b. b == separator in
    let n = position_or_len is_separator text in
    let cases = position_cases (nat_lt n (length text)) n place e in
    let within = ltb-true n (length text) cases.0 in
    let there : text ≡ take n text ++ separator ∷ drop (n + 1) text =
    split_at_first is_separator text 0 within
    ∙ ap (λ b. take n text ++ b ∷ drop (n + 1) text)
    (eqb-true (get_or text n 0) separator (passes_at_first is_separator text 0 within)) in
    subst (λ k. text ≡ take k text ++ separator ∷ take (length text - (k + 1)) (drop (k + 1) text)) cases.1
    (there ∙ ap (λ rest. take n text ++ separator ∷ rest) (sym (take_rest text (n + 1))))

-- a text without a separator is one part
pub one_part : (separator : ℕ) (text : List ℕ) → position (λ b. b == separator) text ≡ None
    → parts separator text ≡ text ∷ []
one_part separator text e =
    let is_separator : ℕ → Bool = λ b. b == separator in
    let n = position_or_len is_separator text in
    let beyond : length text ≤ n = ltb-false n (length text) (no_position (nat_lt n (length text)) n e) in
    slice_split_none is_separator text (λ k d lt. fails_before_first is_separator text k d (omega arith))

-- there is a first part, which may be empty
pub record AreSome (texts : List (List ℕ)) : Type 0 where
  pub first : List ℕ
  pub others : List (List ℕ)
  pub are : texts ≡ first ∷ others

onto_some : (b : ℕ) (texts : List (List ℕ)) → AreSome (onto_first b texts)
onto_some b [] = record { first = b ∷ []; others = []; are = refl }
onto_some b (text ∷ texts) = record { first = b ∷ text; others = texts; are = refl }

some_by : (s : Bool) (b : ℕ) (texts : List (List ℕ)) → AreSome (cond s ([] ∷ texts) (onto_first b texts))
some_by true b texts = record { first = []; others = texts; are = refl }
some_by false b texts = onto_some b texts

pub parts_are_some : (separator : ℕ) (text : List ℕ) → AreSome (parts separator text)
parts_are_some separator [] = record { first = []; others = []; are = refl }
parts_are_some separator (b ∷ bs) = some_by (b == separator) b (parts separator bs)

-- the library's words for digits and ours
digits : IsNumeralModel (λ ds. list_all is_ascii_digit ds ≡ true) (digits_value 10)
digits = numerals_by_value (λ ds. list_all is_ascii_digit ds ≡ true) (search rules)

-- no number is written by a word that isn't digits
pub whole_number-other : (word : List ℕ) → list_all is_ascii_digit word ≡ false → None ≡ whole_number word
unfolding whole_number is_whole
whole_number-other word other = rw other refl

whole_number-fits : (word : List ℕ) → list_all is_ascii_digit word ≡ true → 0 < length word
    → digits_value 10 word < 2 ^ 64 → whole_number word ≡ Some (digits_value 10 word)
unfolding whole_number is_whole
whole_number-fits word all some fits =
    rw (all, lt-ltb 0 (length word) some, lt-ltb (digits_value 10 word) (2 ^ 64) fits) refl

no_number : (length value : ℕ) (b c : Bool) → nat_lt 0 length ≡ b → nat_lt value (2 ^ 64) ≡ c
    → ¬ ((0 < length) × (value < 2 ^ 64)) → cond (true && b && c) (Some value) None ≡ None
no_number length value true true some fits refuted =
    absurd (refuted (ltb-true 0 length some, ltb-true value (2 ^ 64) fits))
no_number length value true false some fits refuted = refl
no_number length value false c some fits refuted = refl

whole_number-none : (word : List ℕ) → list_all is_ascii_digit word ≡ true
    → ¬ ((0 < length word) × (digits_value 10 word < 2 ^ 64)) → whole_number word ≡ None
unfolding whole_number is_whole
whole_number-none word all refuted =
    rw all (no_number (length word) (digits_value 10 word) (nat_lt 0 (length word))
    (nat_lt (digits_value 10 word) (2 ^ 64)) refl refl refuted)

-- what is read of digits is the number that they write
pub whole_number-read : (word : List ℕ) (r : Option ℕ)
    → SomeIff r (IsNumeral 10 word × (digits_value 10 word < 2 ^ 64)) (digits_value 10 word) → r ≡ whole_number word
whole_number-read word (Some n) is =
    ap Some is.1 ∙ sym (whole_number-fits word (digits.from word is.0.0.1) is.0.0.0 is.0.1)
whole_number-read word None refuted = by (list_all is_ascii_digit word) refl
  where
    by : (b : Bool) → list_all is_ascii_digit word ≡ b → None ≡ whole_number word
    by false other = whole_number-other word other
    by true all =
        sym (whole_number-none word all (λ both. refuted ((both.0, digits.to word all), both.1)))

-- the number whose decimal digits a word is
pub whole_number-decimal : (n : ℕ) → n < 2 ^ 64 → whole_number (decimal n) ≡ Some n
whole_number-decimal n fits =
    let value = digits_value-decimal digits n fits in
    whole_number-fits (decimal n) (digits_decimal digits n fits) (decimal_nonempty n fits)
    (subst (λ v. v < 2 ^ 64) (sym value) fits)
    ∙ ap Some value

-- after a word of a text, the space and what stands after it
pub after_space : (text word after : List ℕ) (r : Option (Bor (List ℕ))) → text ≡ word ++ after
    → MatchOption r ((rest : List ℕ) → after ≢ 32 ∷ rest) (λ x. after ≡ 32 ∷ x.now)
    → MatchOption r ((rest : List ℕ) → text ≢ word ++ 32 ∷ rest) (λ x. text ≡ word ++ 32 ∷ x.now)
after_space text word after None whole never =
    λ rest e. never rest (append_cancel_left word after (32 ∷ rest) (sym whole ∙ e))
after_space text word after (Some x) whole is = whole ∙ ap (λ a. word ++ a) is
