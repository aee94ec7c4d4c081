-- The row that digits write.
use Rattle.std.proofs.Common.{◌≡◌, ℕ, zero, suc, ◌<◌, ◌≤◌, ◌↔◌, List, length, get_or, Option, Some, None}
use Rattle.std.proofs.Common.{sym, ap, subst, ◌∙◌, arith}
use Rattle.std.specs.Fmt.{decimal}
use Rattle.std.specs.Str.Parse.{AllDigits, IsNumeral, digits_value}
use Rattle.std.proofs.lemmas.Str.Parse.{IsNumeralModel, numerals_by_value, tells_digits}
use Rattle.std.proofs.lemmas.Fmt.{decimal-digits_value, decimal_digit, decimal_is_IsNumeral, first_decimal}
use Rattle.std.proofs.lemmas.Fmt.{length-decimal-le}
use Rattle.ps_grid.specs.declared.size.TheConstants.{NAME_BYTES, ROWS}

model : IsNumeralModel (AllDigits 10) (digits_value 10)
model = numerals_by_value (AllDigits 10) tells_digits

-- the option has the row that the digits write, if the grid has it
abbrev pub HasRow : Option ℕ → List ℕ → Type 0
HasRow o ds = (row : ℕ) → (o ≡ Some row) ↔ ((1 ≤ row) × (row ≤ ROWS) × (ds ≡ decimal row))

pub no_row : (ds : List ℕ) (o : Option ℕ) → o ≡ None
    → ((row : ℕ) → 1 ≤ row → row ≤ ROWS → ds ≡ decimal row → ⊥) → HasRow o ds
no_row ds o none refuted row = (
  λ e. absurd (let f : Some row ≡ None = sym e ∙ none in cc),
  λ h. absurd (refuted row h.0 h.1 h.2),
)

-- the decimal text of a row is short, has no zero in front, and is a numeral of the row
module _ (ds : List ℕ) (row : ℕ) (above : 1 ≤ row) (inside : row ≤ ROWS) (is : ds ≡ decimal row) where
  pub row_is_short : length ds ≤ NAME_BYTES
  row_is_short = omega (arith, length-decimal-le 4 row (omega arith) (omega arith) (omega arith), ap length is)

  pub row_has_no_zero : get_or ds 0 0 ≡ 48 → ⊥
  row_has_no_zero zero_first =
      let first : 48 < get_or (decimal row) 0 0 = first_decimal row (omega arith) (omega arith) in
      let same : get_or ds 0 0 ≡ get_or (decimal row) 0 0 = ap (λ l. get_or l 0 0) is in
      omega (arith, first, same, zero_first)

  pub row_is_numeral : IsNumeral 10 ds × (digits_value 10 ds ≡ row)
  row_is_numeral =
      subst (λ l. IsNumeral 10 l × (digits_value 10 l ≡ row)) (sym is) (decimal_is_IsNumeral row (omega arith))

-- a text with no zero in front is not the text of 0
positive : (ds : List ℕ) (n : ℕ) → ds ≡ decimal n → (get_or ds 0 0 ≡ 48 → ⊥) → 1 ≤ n
positive ds zero is starts = absurd (starts (ap (λ l. get_or l 0 0) (is ∙ decimal_digit 0 (omega arith))))
positive ds (suc n) is starts = omega arith

-- a numeral with no zero in front is the decimal text of its value
pub row_of_value : (ds : List ℕ) (n : ℕ) → IsNumeral 10 ds → (get_or ds 0 0 ≡ 48 → ⊥) → n ≡ digits_value 10 ds
    → n ≤ ROWS → HasRow (Some n) ds
row_of_value ds n numeral no_zero value inside row =
    let written : ds ≡ decimal n =
    sym (decimal-digits_value model ds numeral.1 numeral.0 (λ e. absurd (no_zero e)) (omega arith))
    ∙ ap decimal (sym value) in
    let above = positive ds n written no_zero in (
      λ e. let same : n ≡ row = cc in (omega (arith, above, same), omega (arith, same), written ∙ ap decimal same),
      λ h.
          let worth = row_is_numeral ds row h.0 h.1 h.2 in
          let same : n ≡ row = value ∙ worth.1 in
          ap Some same,
    )
