-- What an entry writes as a number.
use Rattle.std.proofs.Common.{◌<◌, zero, suc, subst, ◌≡◌, ℕ, ℤ, pos, negsuc, ◌^◌, Bool, true, false, cond, ◌&&◌}
use Rattle.std.proofs.Common.{List, length, Option, None, Some, refl, sym, ap, ◌∙◌, arith}
use Rattle.std.specs.Prelude.{FitsSigned, MatchBool, neg_ℤ, ◌≤◌, nat_lt}
use Rattle.std.specs.Int.{w64}
use mir.Val.{to_z, of_z}
use Rattle.std.specs.Str.{all_ascii_digits}
use Rattle.std.specs.Str.Parse.{IsNumeral, without_leading_sign, signed_digits_value}
use Rattle.std.specs.Str.Parse.{starts_with_minus}
use Rattle.std.specs.Option.{SomeIff}
use Rattle.std.specs.Str.Parse.{digits_value}
use Rattle.std.proofs.lemmas.Option.{cond_some}
use Rattle.std.proofs.lemmas.Bool.{ltb-true, lt-ltb, false≢true}
use Rattle.std.proofs.lemmas.Int.{to_z-of_z}
use Rattle.std.proofs.lemmas.Str.Parse.{IsNumeralModel, numerals_by_value, tells_all_ascii_digits}
use Rattle.ps_content.specs.Entry.{fits_64, is_number, number_of}

-- the library's words for digits and ours
digits : IsNumeralModel (λ ds. all_ascii_digits ds ≡ true) (digits_value 10)
digits = numerals_by_value (λ ds. all_ascii_digits ds ≡ true) tells_all_ascii_digits

left_of_and : (a b : Bool) → (a && b) ≡ true → a ≡ true
left_of_and true b both = refl
left_of_and false b both = both

right_of_and : (a b : Bool) → (a && b) ≡ true → b ≡ true
right_of_and true b both = both
right_of_and false b both = absurd (false≢true both)

test_fails : (b : Bool) → (b ≡ true → ⊥) → b ≡ false
test_fails true refuted = absurd (refuted refl)
test_fails false refuted = refl

fits_64-from : (z : ℤ) → FitsSigned w64 z → fits_64 z ≡ true
fits_64-from (pos n) fits = lt-ltb n (2 ^ 63) fits.sfits
fits_64-from (negsuc n) fits = lt-ltb n (2 ^ 63) fits.sfits

fits_64-to : (z : ℤ) → fits_64 z ≡ true → FitsSigned w64 z
fits_64-to (pos n) test = record { sfits = ltb-true n (2 ^ 63) test }
fits_64-to (negsuc n) test = record { sfits = ltb-true n (2 ^ 63) test }

pub is_number-from : (bytes : List ℕ) → IsNumeral 10 (without_leading_sign bytes)
    → FitsSigned w64 (signed_digits_value 10 bytes) → is_number bytes ≡ true
unfolding is_number
is_number-from bytes numeral fits =
    rw (
      lt-ltb 0 (length (without_leading_sign bytes)) numeral.0,
      digits.from (without_leading_sign bytes)
          numeral.1,
      fits_64-from (signed_digits_value 10 bytes) fits,
    ) refl

pub is_number-to : (bytes : List ℕ) → is_number bytes ≡ true
    → IsNumeral 10 (without_leading_sign bytes) × FitsSigned w64 (signed_digits_value 10 bytes)
unfolding is_number
is_number-to bytes test =
    let ds = without_leading_sign bytes in
    let some = nat_lt 0 (length ds) in
    let front = left_of_and (some && all_ascii_digits ds) (fits_64 (signed_digits_value 10 bytes)) test in (
      (
        ltb-true 0 (length ds) (left_of_and some (all_ascii_digits ds) front),
        digits.to ds
            (right_of_and some (all_ascii_digits ds) front),
      ),
      fits_64-to (signed_digits_value 10 bytes)
          (right_of_and (some && all_ascii_digits ds) (fits_64 (signed_digits_value 10 bytes)) test),
    )

pub number_of-some : (bytes : List ℕ) → is_number bytes ≡ true → number_of bytes ≡ Some (signed_digits_value 10 bytes)
unfolding number_of
number_of-some bytes test = rw test refl

pub number_of-none : (bytes : List ℕ) → is_number bytes ≡ false → number_of bytes ≡ None
unfolding number_of
number_of-none bytes test = rw test refl

-- the number of a sign and a magnitude
abbrev signed : Bool → ℕ → ℤ
signed is_negative n = cond is_negative (neg_ℤ (pos n)) (pos n)

-- the option has that number, if it has 64 bits
abbrev pub HasSigned : Option ℤ → Bool → ℕ → Type 0
HasSigned o is_negative n =
    MatchBool is_negative (SomeIff o (n ≤ 2 ^ 63) (neg_ℤ (pos n))) (SomeIff o (n < 2 ^ 63) (pos n))

magnitude_fits : (is_negative : Bool) (n : ℕ) → FitsSigned w64 (signed is_negative n) → n < 2 ^ 64
magnitude_fits true zero fits = omega arith
magnitude_fits true (suc n) fits = omega (arith, fits.sfits)
magnitude_fits false n fits = omega (arith, fits.sfits)

found_fits : (is_negative : Bool) (n : ℕ) (z : ℤ) → HasSigned (Some z) is_negative n
    → FitsSigned w64 (signed is_negative n) × (z ≡ signed is_negative n)
found_fits true zero z found = (record { sfits = omega arith }, found.1)
found_fits true (suc n) z found = (record { sfits = omega (arith, found.0) }, found.1)
found_fits false n z found = (record { sfits = found.0 }, found.1)

none_fits : (is_negative : Bool) (n : ℕ) → HasSigned None is_negative n → ¬ (FitsSigned w64 (signed is_negative n))
none_fits true zero none = λ fits. none (omega arith)
none_fits true (suc n) none = λ fits. none (omega (arith, fits.sfits))
none_fits false n none = λ fits. none fits.sfits

-- what is made of the sign and the digits is the number
pub number_of-signed : (bytes : List ℕ) (is_negative : Bool) (ds : List ℕ) (n : ℕ) (r : Option ℤ)
    → is_negative ≡ starts_with_minus bytes → ds ≡ without_leading_sign bytes → IsNumeral 10 ds
    → n ≡ digits_value 10 ds → HasSigned r is_negative n → r ≡ number_of bytes
number_of-signed bytes is_negative ds n r sign rest numeral value told = by r (rw (sign, value, rest) at told)
  where
    digits : IsNumeral 10 (without_leading_sign bytes)
    digits = subst (IsNumeral 10) rest numeral

    magnitude : ℕ
    magnitude = digits_value 10 (without_leading_sign bytes)

    by : (o : Option ℤ) → HasSigned o (starts_with_minus bytes) magnitude → o ≡ number_of bytes
    by (Some z) has =
        let found = found_fits (starts_with_minus bytes) magnitude z has in
        ap Some found.1 ∙ sym (number_of-some bytes (is_number-from bytes digits found.0))
    by None has =
        sym (number_of-none bytes (test_fails (is_number bytes) (λ test.
        none_fits (starts_with_minus bytes) magnitude has (is_number-to bytes test).1)))

-- what has no digits of 64 bits after its sign is no number
pub number_of-unsigned : (bytes ds : List ℕ) → ds ≡ without_leading_sign bytes
    → ¬ (IsNumeral 10 ds × (digits_value 10 ds < 2 ^ 64)) → None ≡ number_of bytes
number_of-unsigned bytes ds rest none =
    sym (number_of-none bytes (test_fails (is_number bytes) (λ test.
    let number = is_number-to bytes test in
    (rw rest at none) (
      number.0,
      magnitude_fits (starts_with_minus bytes) (digits_value 10 (without_leading_sign bytes)) number.1,
    ))))

none_cases : (b : Bool) (v : ℤ) → cond b (Some v) None ≡ None → b ≡ false
none_cases true v e = cc
none_cases false v e = refl

-- an entry that writes a number
pub is_number-some : (bytes : List ℕ) (z : ℤ) → Some z ≡ number_of bytes → is_number bytes ≡ true
unfolding number_of
is_number-some bytes z e = (cond_some (is_number bytes) (signed_digits_value 10 bytes) z (sym e)).0

pub is_number-none : (bytes : List ℕ) → None ≡ number_of bytes → is_number bytes ≡ false
unfolding number_of
is_number-none bytes e = none_cases (is_number bytes) (signed_digits_value 10 bytes) (sym e)

pub is_number-default : (bytes : List ℕ) (r : Option ℤ) → r ≡ number_of bytes → ((z : ℤ) → r ≡ Some z → ⊥)
    → is_number bytes ≡ false
is_number-default bytes None e other = is_number-none bytes e
is_number-default bytes (Some z) e other = absurd (other z refl)

-- which number it writes, as the code keeps it
pub kept_number : (bytes : List ℕ) (z : ℤ) → Some z ≡ number_of bytes
    → to_z w64 (of_z w64 z) ≡ signed_digits_value 10 bytes
unfolding number_of
kept_number bytes z e =
    let value = (cond_some (is_number bytes) (signed_digits_value 10 bytes) z (sym e)).1 in
    rw (← value) (to_z-of_z w64 (signed_digits_value 10 bytes) (is_number-to bytes (is_number-some bytes z e)).1)
