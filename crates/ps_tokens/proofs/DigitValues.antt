-- The value of digits, and the test that it is small enough.
use Rattle.std.proofs.Common.{◌≡◌, ℕ, ◌+◌, ◌-◌, ◌*◌, ◌^◌, ◌<◌, ◌≤◌, Some, None, List, [], ◌∷◌, ◌++◌, length, take}
use Rattle.std.proofs.Common.{drop, get_or, refl, ap, arith}
use Rattle.std.specs.Char.{digit_value}
use Rattle.std.specs.Int.{IsInRange}
use Rattle.std.specs.Str.Parse.{AllDigits, digits_value, digits_value_after}
use Rattle.std.proofs.lemmas.Bool.{lt-ltb, le-ltb}
use Rattle.std.proofs.lemmas.Int.Digits.{digits_value_more}
use Rattle.std.proofs.lemmas.List.{take-append-drop}
use Rattle.std.proofs.lemmas.Str.{digit_value_digit}
use Rattle.std.proofs.lemmas.Str.Parse.{digit_at}
use Rattle.ps_tokens.specs.Inside.Lexing.{number_in}

-- further digits make no number smaller
digits_value_after-ge : (n : ℕ) (ds : List ℕ) → n ≤ digits_value_after 10 n ds
digits_value_after-ge n [] = omega arith
digits_value_after-ge n (c ∷ ds) = omega (arith, digits_value_after-ge (n * 10 + digit_value c) ds)

digits_value_after-append : (n : ℕ) (xs ys : List ℕ)
    → digits_value_after 10 n (xs ++ ys) ≡ digits_value_after 10 (digits_value_after 10 n xs) ys
digits_value_after-append n [] ys = refl
digits_value_after-append n (c ∷ xs) ys = digits_value_after-append (n * 10 + digit_value c) xs ys

pub digits_value-take-le : (i : ℕ) (ds : List ℕ) → digits_value 10 (take i ds) ≤ digits_value 10 ds
digits_value-take-le i ds =
    let joined = digits_value_after-append 0 (take i ds) (drop i ds) in
    let whole = ap (digits_value 10) (take-append-drop i ds) in
    omega (arith, digits_value_after-ge (digits_value 10 (take i ds)) (drop i ds))

-- one more digit
pub value_more : (v i : ℕ) (ds : List ℕ) → AllDigits 10 ds → i < length ds → v ≡ digits_value 10 (take i ds)
    → (v * 10 + (get_or ds i 0 - 48) ≡ digits_value 10 (take (i + 1) ds)) × (IsInRange 48 57 (get_or ds i 0))
value_more v i ds digits within is =
    let range = digit_at ds i digits within in
    let value = digit_value_digit (get_or ds i 0) range in
    let more = digits_value_more 10 ds i within in
    (omega arith, range)

pub number_in-small : (w : List ℕ) → digits_value 10 w < 2 ^ 63 → number_in w ≡ Some (digits_value 10 w)
unfolding number_in
number_in-small w h = rw lt-ltb

pub number_in-large : (w : List ℕ) → 2 ^ 63 ≤ digits_value 10 w → number_in w ≡ None
unfolding number_in
number_in-large w h = rw le-ltb
