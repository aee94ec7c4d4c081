-- Digits read one after another, and the number that they write so far.
use Rattle.std.proofs.Common.{◌≡◌, ℕ, ◌+◌, ◌*◌, ◌^◌, ◌<◌, ◌≤◌, List, length, get_or, take, subst, ◌∙◌, arith}
use Rattle.std.specs.Char.{digit_value}
use Rattle.std.specs.Str.Parse.{AllDigits, digits_value}
use Rattle.std.proofs.lemmas.Int.Digits.{digits_more, digits_value_more}
use Rattle.std.proofs.lemmas.List.{take_all, length-take-le}
use Rattle.std.proofs.lemmas.Str.{digit_value_digit}
use Rattle.std.proofs.lemmas.Str.Parse.{IsNumeralModel, numerals_by_value, tells_digits, digit_at, digits_value_short}
use Rattle.std.proofs.lemmas.Str.Parse.{digits_value-take-le}

model : IsNumeralModel (AllDigits 10) (digits_value 10)
model = numerals_by_value (AllDigits 10) tells_digits

-- the first `i` bytes are digits, and write the number
abbrev pub Writes : List ℕ → ℕ → ℕ → Type 0
Writes ds i number = AllDigits 10 (take i ds) × (digits_value 10 (take i ds) ≡ number)

module _ (ds : List ℕ) (i number : ℕ) (inside : i < length ds) where
  -- all are digits, so the next one is
  pub next_digit : AllDigits 10 ds → digit_value (get_or ds i 0) < 10
  next_digit all =
      let range = digit_at ds i all inside in
      omega (arith, digit_value_digit (get_or ds i 0) range, range)

  module _ (so_far : Writes ds i number) where
    -- one digit more
    pub writes_more : digit_value (get_or ds i 0) < 10
        → Writes ds (i + 1) (number * 10 + digit_value (get_or ds i 0))
    writes_more digit =
        (digits_more 10 ds i inside so_far.0 digit, digits_value_more 10 ds i inside ∙ omega (arith, so_far.1))

    -- so few digits leave room for one more
    pub room_for_one : length ds ≤ 19 → number < 10 ^ 18
    room_for_one few =
        subst (λ n. n < 10 ^ 18) so_far.1
        (digits_value_short model (take i ds) 18 so_far.0 (omega (arith, length-take-le {A = ℕ})))

    -- what is written in the end is no less
    pub no_less : number * 10 + digit_value (get_or ds i 0) ≤ digits_value 10 ds
    no_less =
        omega (
          arith,
          so_far.1,
          digits_value_more 10 ds i inside,
          digits_value-take-le 10 ds (i + 1) (omega arith),
        )

-- all are read
pub writes_all : (ds : List ℕ) (i number : ℕ) → length ds ≤ i → Writes ds i number
    → AllDigits 10 ds × (digits_value 10 ds ≡ number)
writes_all ds i number end so_far =
    subst (λ l. AllDigits 10 l × (digits_value 10 l ≡ number)) (take_all i ds end) so_far
