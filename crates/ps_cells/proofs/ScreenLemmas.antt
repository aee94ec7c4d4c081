-- Old values that are kept aside, and put back.
use Rattle.std.proofs.Common.{◌≡◌, ◌≢◌, ℕ, ◌<◌, ◌≤◌, Bool, true, false, List, [], ◌∷◌, ◌++◌, length, set}
use Rattle.std.proofs.Common.{Vec, refl, sym, ap, ◌∙◌, arith, ⊎_elim, eqb, eq-eqb, subst}
use Rattle.std.specs.Prelude.{if◌then◌else◌}
use Rattle.std.specs.Vec.{with_items}
use Rattle.std.specs.List.{IsDistinct}
use Rattle.std.proofs.Math.Path.{fun_ext}
use Rattle.std.proofs.lemmas.Bool.{cases_eq, cases_lt}
use Rattle.std.proofs.lemmas.List.{get_or_past, map-append, length-map, length-append, length-set}
use Rattle.std.proofs.lemmas.List.{with_items_is}
use Rattle.ps_grid.specs.Chains.{In}
use Rattle.ps_grid.specs.declared.size.TheConstants.{CELLS}
use Rattle.ps_grid.proofs.ChainLemmas.{In-one, In-cases}
use Rattle.ps_value.specs.declared.value.Value.{Value}
use Rattle.ps_eval.specs.Items.{Assignment}
use Rattle.ps_shown.specs.declared.kept.Kept.{Kept}
use Rattle.ps_shown.specs.Kept.{value_of as value_kept}
use Rattle.ps_shown.specs.Shown.{shown_at, with_value}
use Rattle.ps_cells.specs.Inside.Steps.{flag_at}
use Rattle.ps_cells.specs.Inside.Screens.{ScreenView, before_of, cells_in, put_back, IsNoted}
use Rattle.ps_cells.proofs.SettledValues.{true_not_false}
use Rattle.ps_cells.proofs.PutValues.{with_value-here, with_value-there}
use Rattle.ps_cells.proofs.FlagTables.{flag_here, flag_there}
use Rattle.ps_cells.proofs.ListedCells.{In-pushed, In-end, In-pushed_cases}
use Rattle.ps_cells.proofs.CyclicLists.{IsDistinct-joined}
use Rattle.ps_cells.proofs.CellCounts.{distinct_below_cells}

-- another cell's value is put back over whatever it is
pub back_there : (olds : List (ℕ × Kept)) (v : Assignment) (x c : ℕ) (y : Value) → c ≢ x
    → put_back olds (with_value v x y) c ≡ put_back olds v c
unfolding put_back with_value
back_there [] v x c y ne = with_value-there v x c y ne
back_there (e ∷ olds) v x c y ne = ap (λ q. if eqb e.0 c then value_kept e.1 else q) (back_there olds v x c y ne)

-- and the value of a cell of the list doesn't count
back_here : (olds : List (ℕ × Kept)) (v : Assignment) (x : ℕ) (y : Value) → In (cells_in olds) x
    → put_back olds (with_value v x y) x ≡ put_back olds v x
unfolding put_back with_value
back_here [] v x y i = absurd (let f : false ≡ true = i in cc)
back_here (e ∷ olds) v x y i =
    ⊎_elim
    (λ (same : x ≡ e.0).
    ap (λ b. if b then value_kept e.1 else put_back olds (with_value v x y) x) (eq-eqb e.0 x (sym same))
    ∙ sym (ap (λ b. if b then value_kept e.1 else put_back olds v x) (eq-eqb e.0 x (sym same))))
    (λ later. ap (λ q. if eqb e.0 x then value_kept e.1 else q) (back_here olds v x y later))
    (In-cases x e.0 (cells_in olds) i)

-- a cell of the list is put once more
pub put_again : (olds : List (ℕ × Kept)) (v : Assignment) (x : ℕ) (y : Value) → In (cells_in olds) x
    → put_back olds (with_value v x y) ≡ put_back olds v
put_again olds v x y i =
    fun_ext (λ c. ⊎_elim
    (λ (same : c ≡ x). subst (λ q. put_back olds (with_value v x y) q ≡ put_back olds v q) (sym same)
    (back_here olds v x y i))
    (λ ne. back_there olds v x c y ne)
    (cases_eq c x))

-- the last of the list is put back first
pub back_last : (olds : List (ℕ × Kept)) (e : ℕ × Kept) (v : Assignment)
    → put_back (olds ++ e ∷ []) v ≡ put_back olds (with_value v e.0 (value_kept e.1))
unfolding put_back
back_last [] e v = refl
back_last (d ∷ olds) e v = ap (λ w. with_value w d.0 (value_kept d.1)) (back_last olds e v)

-- nothing is put back
pub back_none : (olds : List (ℕ × Kept)) (v : Assignment) → length olds ≡ 0 → put_back olds v ≡ v
unfolding put_back
back_none [] v none = refl
back_none (e ∷ olds) v none = absurd (omega (arith, none))

pub still_before : (s : ScreenView) → s.olds ≡ [] → before_of s ≡ shown_at s.kept
still_before s none = back_none s.olds (shown_at s.kept) (ap length none)

-- a cell is put for the first time
pub put_first : (olds : List (ℕ × Kept)) (v : Assignment) (x : ℕ) (y : Value) (old : Kept) → value_kept old ≡ v x
    → put_back (olds ++ (x, old) ∷ []) (with_value v x y) ≡ put_back olds v
put_first olds v x y old was =
    back_last olds (x, old) (with_value v x y) ∙ ap (put_back olds)
    (fun_ext (λ c. ⊎_elim
    (λ (same : c ≡ x). subst (λ q. with_value (with_value v x y) x (value_kept old) q ≡ v q) (sym same)
    (with_value-here (with_value v x y) x (value_kept old) ∙ was))
    (λ ne. with_value-there (with_value v x y) x c (value_kept old) ne ∙ with_value-there v x c y ne)
    (cases_eq c x)))

-- nothing is kept aside
pub noted_none : (olds : List (ℕ × Kept)) (flags : List Bool) → olds ≡ [] → length flags ≡ CELLS
    → ((c : ℕ) → flag_at flags c ≡ false) → IsNoted olds flags
unfolding IsDistinct
noted_none olds flags none whole off =
    subst (λ (xs : List (ℕ × Kept)). IsNoted xs flags) (sym none) (record {
      length = whole;
      once = tt;
      flagged = λ c i. absurd (let f : false ≡ true = i in cc);
      noted = λ c on. absurd (true_not_false (flag_at flags c) on (off c));
    })

-- nor does a table all of whose flags were taken away
pub noted_none_in : {Z : Type 0} (table : Vec Bool Z) (olds : List (ℕ × Kept)) (flags : List Bool) → olds ≡ []
    → length flags ≡ table.len → length table.items ≡ CELLS → ((c : ℕ) → flag_at flags c ≡ false)
    → IsNoted olds (with_items table flags).items
noted_none_in table olds flags none same whole off =
    let is = with_items_is table flags same in
    subst (λ (xs : List Bool). IsNoted olds xs) (sym is)
    (noted_none olds flags none (same ∙ (table.ok.0 ∙ whole)) off)

-- a flag is one of a cell of the grid
flag_below : (flags : List Bool) (c : ℕ) → flag_at flags c ≡ true → c < length flags
flag_below flags c on =
    ⊎_elim (λ lt. lt)
    (λ past. absurd (true_not_false (flag_at flags c) on (get_or_past flags c false past)))
    (cases_lt c (length flags))

-- one cell more is kept aside
module _ (olds : List (ℕ × Kept)) (flags : List Bool) (x : ℕ) (old : Kept) (noted : IsNoted olds flags)
    (below : x < CELLS)
    (off : flag_at flags x ≡ false) where
  is : cells_in (olds ++ (x, old) ∷ []) ≡ cells_in olds ++ x ∷ []
  is = map-append (λ (e : ℕ × Kept). e.0) olds ((x, old) ∷ [])

  new : (c : ℕ) → In (cells_in olds) c → ¬ In (x ∷ []) c
  new c i j =
      true_not_false (flag_at flags x)
      (subst (λ q. flag_at flags q ≡ true) (In-one c x j) (noted.flagged c i)) off

  more_once : IsDistinct eqb (cells_in olds ++ x ∷ [])
  unfolding IsDistinct
  more_once = IsDistinct-joined (cells_in olds) (x ∷ []) noted.once (tt, tt) new

  -- so there is room for it
  pub room_more : length olds < CELLS
  room_more =
      let few = distinct_below_cells (cells_in olds ++ x ∷ []) more_once
      (λ c i. ⊎_elim
      (λ j. subst (λ n. c < n) noted.length (flag_below flags c (noted.flagged c j)))
      (λ same. subst (λ q. q < CELLS) (sym same) below)
      (In-pushed_cases (cells_in olds) x c i)) in
      let more = length-append (cells_in olds) (x ∷ []) in
      let same = length-map olds (λ (e : ℕ × Kept). e.0) in
      omega (arith, few, more, same)

  pub noted_more : IsNoted (olds ++ (x, old) ∷ []) (set flags x true)
  noted_more =
      let within : x < length flags = subst (λ n. x < n) (sym noted.length) below in
      record {
        length = length-set flags x true ∙ noted.length;
        once = subst (IsDistinct eqb) (sym is) more_once;
        flagged = λ c i. ⊎_elim
            (λ same. subst (λ q. flag_at (set flags x true) q ≡ true) (sym same) (flag_here flags x true within))
            (λ ne. ⊎_elim
            (λ j. flag_there flags x c true ne ∙ noted.flagged c j)
            (λ same. absurd (ne same))
            (In-pushed_cases (cells_in olds) x c (subst (λ xs. In xs c) is i)))
            (cases_eq c x);
        noted = λ c on. subst (λ xs. In xs c) (sym is) (⊎_elim
            (λ same. subst (In (cells_in olds ++ x ∷ [])) (sym same) (In-end (cells_in olds) x))
            (λ ne. In-pushed (cells_in olds) x c (noted.noted c (sym (flag_there flags x c true ne) ∙ on)))
            (cases_eq c x));
      }

-- the last of the list loses its flag
pub noted_less : (olds : List (ℕ × Kept)) (e : ℕ × Kept) (flags : List Bool) → e.0 < length flags
    → ((c : ℕ) → flag_at flags c ≡ true → In (cells_in (olds ++ e ∷ [])) c)
    → (c : ℕ) → flag_at (set flags e.0 false) c ≡ true → In (cells_in olds) c
noted_less olds e flags within so_far c on =
    ⊎_elim
    (λ same. absurd (true_not_false (flag_at (set flags e.0 false) c) on
    (subst (λ q. flag_at (set flags e.0 false) q ≡ false) (sym same) (flag_here flags e.0 false within))))
    (λ ne. ⊎_elim
    (λ i. i)
    (λ same. absurd (ne same))
    (In-pushed_cases (cells_in olds) e.0 c
    (subst (λ xs. In xs c) (map-append (λ (d : ℕ × Kept). d.0) olds (e ∷ []))
    (so_far c (sym (flag_there flags e.0 c false ne) ∙ on)))))
    (cases_eq c e.0)

-- the cells that are kept aside lie in the grid
pub noted_below : (olds : List (ℕ × Kept)) (flags : List Bool) → IsNoted olds flags
    → (c : ℕ) → In (cells_in olds) c → c < CELLS
noted_below olds flags noted c i = subst (λ n. c < n) noted.length (flag_below flags c (noted.flagged c i))

-- no more cells are kept aside than there are
pub noted_few : (olds : List (ℕ × Kept)) (flags : List Bool) → IsNoted olds flags → length olds ≤ CELLS
noted_few olds flags noted =
    let few = distinct_below_cells (cells_in olds) noted.once (noted_below olds flags noted) in
    let same = length-map olds (λ (e : ℕ × Kept). e.0) in
    omega (arith, few, same)
