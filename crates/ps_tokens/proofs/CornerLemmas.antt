-- A corner is read from a text exactly where one stands at its front.
use Rattle.std.proofs.Common.{◌≡◌, ℕ, ◌<◌, ◌^◌, ◌==◌, Bool, true, false}
use Rattle.std.proofs.Common.{Option, Some, List, [], ◌∷◌, ◌++◌, length, take, drop, refl, sym, ap, subst, ◌∙◌}
use Rattle.std.proofs.Common.{append_assoc, arith, ⊎_elim, ◌≤◌}
use Rattle.std.specs.Char.{is_ascii_digit, is_ascii_uppercase}
use Rattle.std.specs.Fmt.{decimal}
use Rattle.std.specs.Int.{IsInRange}
use Rattle.std.specs.List.{list_all}
use Rattle.std.specs.Option.{option_map}
use Rattle.std.specs.Str.Parse.{AllDigits, IsNumeral}
use Rattle.std.proofs.lemmas.Bool.{and_from, and_parts}
use Rattle.std.proofs.lemmas.Bool.Decides.{nat_tests}
use Rattle.std.proofs.lemmas.Fmt.{decimal_is_IsNumeral}
use Rattle.std.proofs.lemmas.List.{take-append-drop}
use Rattle.std.proofs.lemmas.Str.Parse.{digit_from_value}
use Rattle.ps_grid.specs.Place.{column_name, column_of, row_of}
use Rattle.ps_grid.specs.declared.size.TheConstants.{CELLS, COLUMNS}
use Rattle.ps_grid.proofs.NameLemmas.{all_letters, length-column_name, some_letter}
use Rattle.ps_tokens.specs.Inside.Lexing.{capitals_at, cell_in, corner_at, digits_at, unmarked}
use Rattle.ps_tokens.specs.Text.{mark, IsCorner}
use Rattle.ps_tokens.proofs.OptionLemmas.{option_map_from}
use Rattle.ps_tokens.proofs.MarkLemmas.{unmarked-mark, unmarked_text}
use Rattle.ps_tokens.proofs.NamedCells.{cell_in-name, cell_in-some}
use Rattle.ps_tokens.proofs.LongestRuns.{Stops, drop-run, drop-short_run, take-run, take-short_run}

-- the front of s is a corner of the cell, and r stands after it
pub record TakesCorner (s : List ℕ) (c : ℕ) (r : List ℕ) : Type 0 where
  pub word : List ℕ
  pub is_corner : IsCorner word c
  pub text : s ≡ word ++ r

-- the pieces of a corner, put together
pieces : (a b l d r : List ℕ) → a ++ (l ++ (b ++ (d ++ r))) ≡ (a ++ (l ++ (b ++ d))) ++ r
pieces a b l d r = simp append_assoc

pub corner_at-some : (s : List ℕ) (c : ℕ) (r : List ℕ) → corner_at s ≡ Some (c, r) → TakesCorner s c r
unfolding corner_at
corner_at-some s c r e =
    let t = unmarked s in
    let front = take (capitals_at t) t in
    let u = unmarked (drop (capitals_at t) t) in
    let back = take (digits_at u) u in
    let first = unmarked_text s in
    let second = unmarked_text (drop (capitals_at t) t) in
    option_map_from (λ (k : ℕ). (k, drop (digits_at u) u)) (cell_in front back) (c, r)
    (λ k found same.
    let cell : k ≡ c = ap (λ p. p.0) same in
    let rest : drop (digits_at u) u ≡ r = ap (λ p. p.1) same in
    let named = cell_in-some front back k found in
    let split_u : u ≡ back ++ r = sym (take-append-drop (digits_at u) u) ∙ ap (λ v. back ++ v) rest in
    let split_t : t ≡ front ++ (mark second.0 ++ (back ++ r)) =
    sym (take-append-drop (capitals_at t) t)
    ∙ ap (λ v. front ++ v) (second.1 ∙ ap (λ v. mark second.0 ++ v) split_u) in
    record {
      word = mark first.0 ++ (front ++ (mark second.0 ++ back));
      is_corner = record {
        column_fixed = first.0;
        row_fixed = second.0;
        in_grid = subst (λ v. v < CELLS) cell named.2;
        text = ap (λ v. mark first.0 ++ (v ++ (mark second.0 ++ back)))
            (named.0 ∙ ap (λ v. column_name (column_of v)) cell)
            ∙ ap (λ v. mark first.0 ++ (column_name (column_of c) ++ (mark second.0 ++ v)))
            (named.1 ∙ ap (λ v. decimal (row_of v)) cell);
      };
      text = first.1 ∙ ap (λ v. mark first.0 ++ v) split_t ∙ pieces (mark first.0) (mark second.0) front back r;
    })
    e

pub all_digits : (w : List ℕ) → AllDigits 10 w → list_all is_ascii_digit w ≡ true
all_digits [] h = refl
all_digits (c ∷ w) h = and_from _ _ (digit_in_range c (digit_from_value c h.0)) (all_digits w h.1)
  where
    digit_in_range : (b : ℕ) → IsInRange 48 57 b → is_ascii_digit b ≡ true
    digit_in_range b r = grind (arith, nat_tests)

-- a digit is no capital letter and no `$`
digit_is_other : (c : ℕ) → IsInRange 48 57 c → (is_ascii_uppercase c ≡ false) × ((c == 36) ≡ false)
digit_is_other c r = (grind (arith, nat_tests), grind (arith, nat_tests))

capital_is_other : (c : ℕ) → is_ascii_uppercase c ≡ true → (c == 36) ≡ false
capital_is_other c h = grind (arith, nat_tests)

-- digits begin with no capital letter and no `$`
digits_stop : (w s : List ℕ) → IsNumeral 10 w → Stops is_ascii_uppercase (w ++ s) × Stops (λ c. c == 36) (w ++ s)
digits_stop [] s h = absurd (omega (arith, h.0))
digits_stop (c ∷ w) s h = digit_is_other c (digit_from_value c h.1.0)

-- a `$` before digits is no capital letter either
mark_stops : (fixed : Bool) (s : List ℕ) → Stops is_ascii_uppercase s → Stops is_ascii_uppercase (mark fixed ++ s)
mark_stops true s h = refl
mark_stops false s h = h

-- a column's letters do not begin with `$`
capitals_stop : (w s : List ℕ) → 0 < length w → list_all is_ascii_uppercase w ≡ true → Stops (λ c. c == 36) (w ++ s)
capitals_stop [] s some h = absurd (omega arith)
capitals_stop (c ∷ w) s some h = capital_is_other c (and_parts _ _ h).0

-- a corner that stands at the front is read, if no digit stands after it
pub corner_at-corner : (w : List ℕ) (c : ℕ) (s : List ℕ) → IsCorner w c → Stops is_ascii_digit s
    → corner_at (w ++ s) ≡ Some (c, s)
unfolding corner_at
corner_at-corner w c s corner stop =
    let letters = column_name (column_of c) in
    let digits = decimal (row_of c) in
    let numeral = (decimal_is_IsNumeral (row_of c) (row_small c corner.in_grid)).0 in
    let column = column_below c corner.in_grid in
    let capitals = all_letters (column_of c) column in
    let last = digits ++ s in
    let middle = mark corner.row_fixed ++ last in
    let whole = letters ++ middle in
    let stops = digits_stop digits s numeral in
    let stop_letters = mark_stops corner.row_fixed last stops.0 in
    let text : w ++ s ≡ mark corner.column_fixed ++ whole =
    ap (λ v. v ++ s) corner.text
    ∙ sym (pieces (mark corner.column_fixed) (mark corner.row_fixed) letters digits s) in
    let read_letters : unmarked (w ++ s) ≡ whole =
    ap unmarked text
    ∙ unmarked-mark corner.column_fixed whole
    (capitals_stop letters middle (some_letter (column_of c)) capitals) in
    let read_digits : unmarked middle ≡ last = unmarked-mark corner.row_fixed last stops.1 in
    let result : List ℕ → List ℕ → Option (ℕ × List ℕ) = λ l u. option_map (λ (k : ℕ). (k, drop (digits_at u) u))
    (cell_in l (take (digits_at u) u)) in
    ap (λ t. result (take (capitals_at t) t) (unmarked (drop (capitals_at t) t))) read_letters
    ∙ ap (λ v. result v (unmarked (drop (capitals_at whole) whole)))
    (take-short_run is_ascii_uppercase 2 letters middle capitals stop_letters (short (column_of c)))
    ∙ ap (λ v. result letters (unmarked v))
    (drop-short_run is_ascii_uppercase 2 letters middle capitals stop_letters (short (column_of c)))
    ∙ ap (result letters) read_digits
    ∙ ap (λ v. option_map (λ (k : ℕ). (k, drop (digits_at last) last)) (cell_in letters v))
    (take-run is_ascii_digit digits s (all_digits digits numeral.1) stop)
    ∙ ap (λ o. option_map (λ (k : ℕ). (k, drop (digits_at last) last)) o) (cell_in-name c corner.in_grid)
    ∙ ap (λ v. Some (c, v)) (drop-run is_ascii_digit digits s (all_digits digits numeral.1) stop)
  where
    row_small : (k : ℕ) → k < CELLS → row_of k < 2 ^ 64
    row_small k h = omega arith

    short : (k : ℕ) → length (column_name k) ≤ 2
    short k = ⊎_elim (λ one. omega (arith, one)) (λ two. omega (arith, two)) (length-column_name k)

    column_below : (k : ℕ) → k < CELLS → column_of k < COLUMNS
    column_below k h = omega arith
