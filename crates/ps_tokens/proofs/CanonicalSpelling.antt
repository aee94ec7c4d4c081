-- The canonical spelling of a token is a spelling of it.
use Rattle.std.proofs.Common.{◌≡◌, ℕ, ◌+◌, ◌-◌, ◌*◌, ◌/◌, ◌%◌, ◌^◌, ◌<◌, false, List, pos, refl, sym, ap, subst}
use Rattle.std.proofs.Common.{◌∙◌, arith}
use Rattle.std.specs.Str.Parse.{digits_value}
use Rattle.std.proofs.lemmas.Fmt.{decimal_is_IsNumeral}
use Rattle.ps_grid.specs.Place.{cell_name}
use Rattle.ps_grid.specs.Rectangle.{Area, LiesInGrid, first_cell, last_cell, spanned}
use Rattle.ps_grid.specs.declared.size.TheConstants.{CELLS, COLUMNS, ROWS}
use Rattle.ps_tokens.specs.Text.{IsCorner, IsToken, Spells, token_text, tokens_text}
use Rattle.ps_tokens.specs.Text.Spells.{nothing, a_blank, a_token}
use Rattle.ps_tokens.specs.declared.token.Token.{Token}
use Rattle.ps_tokens.specs.declared.token.Token.TheVariants.{Numeral, Reference, Range, Name, Symbol, Open, Close}
use Rattle.ps_tokens.specs.declared.token.Token.TheVariants.{Separator}

IsNumber-decimal : (n : ℕ) → n < 2 ^ 63 → IsToken (token_text (Numeral (pos n))) (Numeral (pos n))
IsNumber-decimal n h =
    let numeral = decimal_is_IsNumeral n (omega arith) in
    record { digits = numeral.0; small = omega (arith, numeral.1); value = ap pos (sym numeral.1) }

IsCorner-cell_name : (c : ℕ) → c < CELLS → IsCorner (cell_name c) c
IsCorner-cell_name c h = record { column_fixed = false; row_fixed = false; in_grid = h; text = refl }

spanned-in_grid : (c d : ℕ) → c < CELLS → d < CELLS → LiesInGrid (spanned c d)
spanned-in_grid c d ch dh = record {
  some_width = omega arith;
  some_height = omega arith;
  within_columns = omega arith;
  within_rows = omega arith;
}

same_area : (a b : Area) → a.left ≡ b.left → a.top ≡ b.top → a.width ≡ b.width → a.height ≡ b.height → a ≡ b
same_area a b l t w h =
    let made : ℕ → ℕ → ℕ → ℕ → Area = λ p q r v. record { left = p; top = q; width = r; height = v } in
    ap (λ v. made v a.top a.width a.height) l ∙ ap (λ v. made b.left v a.width a.height) t
    ∙ ap (λ v. made b.left b.top v a.height) w
    ∙ ap (λ v. made b.left b.top b.width v) h

-- where the first and the last cell of a rectangle lie
record Ends (a : Area) : Type 0 where
  first_column : first_cell a % COLUMNS ≡ a.left
  first_row : first_cell a / COLUMNS ≡ a.top
  last_column : last_cell a % COLUMNS ≡ a.left + a.width - 1
  last_row : last_cell a / COLUMNS ≡ a.top + a.height - 1
  first_below : first_cell a < CELLS
  last_below : last_cell a < CELLS

place_of_cell : (r k c : ℕ) → k < COLUMNS → r < ROWS → c ≡ r * COLUMNS + k
    → (c % COLUMNS ≡ k) × (c / COLUMNS ≡ r) × (c < CELLS)
place_of_cell r k c kh rh e = (omega arith, omega arith, omega arith)

ends : (a : Area) → LiesInGrid a → Ends a
ends a h =
    let width = h.some_width in
    let height = h.some_height in
    let columns = h.within_columns in
    let rows = h.within_rows in
    let first = place_of_cell a.top a.left (first_cell a) (omega arith) (omega arith) refl in
    let last = place_of_cell (a.top + a.height - 1) (a.left + a.width - 1) (last_cell a) (omega arith)
    (omega arith) refl in
    record {
      first_column = first.0;
      first_row = first.1;
      last_column = last.0;
      last_row = last.1;
      first_below = first.2;
      last_below = last.2;
    }

spanned-ends : (a : Area) → LiesInGrid a → spanned (first_cell a) (last_cell a) ≡ a
spanned-ends a h =
    let e = ends a h in
    let width = h.some_width in
    let height = h.some_height in
    let left = e.first_column in
    let right = e.last_column in
    let upper = e.first_row in
    let lower = e.last_row in
    same_area (spanned (first_cell a) (last_cell a)) a (omega arith) (omega arith) (omega arith) (omega arith)

IsRange-text : (a : Area) → LiesInGrid a → IsToken (token_text (Range a)) (Range a)
IsRange-text a h =
    let e = ends a h in
    record {
      first = cell_name (first_cell a);
      second = cell_name (last_cell a);
      from = first_cell a;
      to = last_cell a;
      is_first = IsCorner-cell_name (first_cell a) e.first_below;
      is_second = IsCorner-cell_name (last_cell a) e.last_below;
      rectangle = sym (spanned-ends a h);
      text = refl;
    }

-- a token that some text spells is spelled by its canonical text
pub IsToken-token_text : (w : List ℕ) (x : Token) → IsToken w x → IsToken (token_text x) x
IsToken-token_text w (Numeral z) h =
    subst (λ v. IsToken (token_text (Numeral v)) (Numeral v)) (sym h.value)
    (IsNumber-decimal (digits_value 10 w) h.small)
IsToken-token_text w (Reference c) h =
    record { corner = cell_name c; is_corner = IsCorner-cell_name c h.is_corner.in_grid; text = refl }
IsToken-token_text w (Range a) h =
    IsRange-text a
    (subst LiesInGrid (sym h.rectangle) (spanned-in_grid h.from h.to h.is_first.in_grid h.is_second.in_grid))
IsToken-token_text w (Name f) h = refl
IsToken-token_text w (Symbol x) h = refl
IsToken-token_text w Open h = refl
IsToken-token_text w Close h = refl
IsToken-token_text w Separator h = refl

-- tokens that some text spells are spelled by their canonical text
pub text_spells : (s : List ℕ) (ts : List Token) → Spells s ts → Spells (tokens_text ts) ts
text_spells _ _ nothing = nothing
text_spells _ _ (a_blank {s} {ts} h sp) = text_spells s ts sp
text_spells _ _ (a_token w {s} {x} {ts} token sp) = a_token (token_text x) (IsToken-token_text w x token)
    (text_spells s ts sp)
