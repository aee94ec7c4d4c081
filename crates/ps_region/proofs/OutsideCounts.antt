-- The counts of the cells of a set that a formula refers to, by its rectangles, their columns and their rows.
use Rattle.std.proofs.Common.{◌≡◌, ◌≢◌, ℕ, zero, suc, ◌+◌, ◌-◌, ◌*◌, ◌/◌, ◌%◌, ◌<◌, ◌≤◌, Bool, true, false, cond, ◌&&◌}
use Rattle.std.proofs.Common.{◌||◌, not, List, [], ◌∷◌, ◌++◌, refl, sym, ap, ◌∙◌, arith, ⊎_elim, eqb, eq-eqb, nat_lt}
use Rattle.std.proofs.Common.{subst, get_or, set, take, length}
use Rattle.std.proofs.lemmas.Grind.{common_steps}
use Rattle.std.proofs.lemmas.Bool.{cases_eq, cases_lt, ne_eqb, lt-ltb, le-ltb, ltb-true}
use Rattle.std.proofs.lemmas.List.{take_more, get_or-set_same, get_or-set_other}
use Rattle.std.proofs.lemmas.List.Folds.{list_any-append}
use Rattle.std.specs.List.{list_any, IsDistinct}
use Rattle.ps_grid.specs.declared.size.TheConstants.{CELLS, COLUMNS}
use Rattle.ps_grid.specs.Chains.{References}
use Rattle.ps_grid.specs.Rectangle.{Area, LiesInGrid, cell_within, is_inside}
use Rattle.ps_grid.proofs.AreaLemmas.{Spans, spans_of, inside_of}
use Rattle.ps_region.specs.CellSets.{has_cell}
use Rattle.ps_region.specs.declared.cell_set.TheConstants.{BLOCKS, HIGH}
use Rattle.ps_region.specs.Inside.Counts.{as_one, cells_left, count_below, is_in, waiting}
use Rattle.ps_region.specs.Inside.LevelWalk.{is_pending}
use Rattle.ps_region.specs.Inside.Outside.{in_columns, in_rows, is_covered, is_new, is_outside}
use Rattle.ps_region.specs.Inside.Tallies.{block_of}
use Rattle.ps_region.proofs.CellListLemmas.{bool_cases, in-push_same, in-push_other, in-take_apart}
use Rattle.ps_region.proofs.CountLemmas.{and_false, and_true_left, and_true_right, count_below-le, count_below-same}
use Rattle.ps_region.proofs.GrowthCounts.{count_below-zero, cells_left-same}
use Rattle.ps_region.proofs.TallyLemmas.{count_below-step}

-- two tests that split a third
pub count_below-split : (p a b : ℕ → Bool) (n : ℕ) → ((k : ℕ) → k < n → as_one (p k) ≡ as_one (a k) + as_one (b k))
    → count_below p n ≡ count_below a n + count_below b n
unfolding count_below
count_below-split p a b zero parts = refl
count_below-split p a b (suc n) parts =
    let ih = count_below-split p a b n (λ k lt. parts k (omega arith)) in
    let here = parts n (omega arith) in
    omega (arith, ih, here)

bool_same : (a b : Bool) → (a ≡ true → b ≡ true) → (b ≡ true → a ≡ true) → a ≡ b
bool_same true b to back = sym (to refl)
bool_same false true to back = back refl
bool_same false false to back = refl

never_true : (b : Bool) → (b ≡ true → ⊥) → b ≡ false
never_true true f = absurd (f refl)
never_true false f = refl

-- THE ROWS of a column
record InRows (r : Area) (across down d : ℕ) : Type 0 where
  inside : Spans r d
  column : d % COLUMNS ≡ r.left + across
  row : d / COLUMNS < r.top + down

rows_of : (r : Area) (across down d : ℕ) → in_rows r across down d ≡ true → InRows r across down d
rows_of r across down d h = record {
  inside = spans_of r d (and_true_left (is_inside r d) _ h);
  column = let t = and_true_right (is_inside r d) _ h in grind (arith, common_steps);
  row = let t = and_true_right (is_inside r d) _ h in grind (arith, common_steps);
}

rows_in : (r : Area) (across down d : ℕ) → InRows r across down d → in_rows r across down d ≡ true
rows_in r across down d h =
    let i = inside_of r d h.inside in
    let c = h.column in
    let w = h.row in
    grind (arith, common_steps)

module _ (r : Area) (across : ℕ) (grid : LiesInGrid r) (narrow : across < r.width) (Q : ℕ → Bool) where
  pub no_rows : count_below (λ d. in_rows r across 0 d && Q d) CELLS ≡ 0
  no_rows =
      count_below-zero (λ d. in_rows r across 0 d && Q d) CELLS
      (λ d. ap (λ b. b && Q d) (never_true (in_rows r across 0 d) (λ h.
      let s = rows_of r across 0 d h in
      let low = s.row in
      let high = s.inside.below in
      omega arith)))

  pub all_rows : (down : ℕ) → r.height ≤ down
      → count_below (λ d. in_rows r across down d && Q d) CELLS
      ≡ count_below (λ d. in_rows r across r.height d && Q d) CELLS
  all_rows down past =
      count_below-same (λ d. in_rows r across down d && Q d) (λ d. in_rows r across r.height d && Q d) CELLS
      (λ d lt. ap (λ b. b && Q d) (bool_same (in_rows r across down d) (in_rows r across r.height d)
      (λ h. let s = rows_of r across down d h in let a = s.inside.above in
      rows_in r across r.height d (record { inside = s.inside; column = s.column; row = a }))
      (λ h. let s = rows_of r across r.height d h in let a = s.row in
      rows_in r across down d (record { inside = s.inside; column = s.column; row = omega arith }))))

  column_at : (down : ℕ) → cell_within r across down % COLUMNS ≡ r.left + across
  column_at down = let w = grid.within_columns in omega arith

  row_at : (down : ℕ) → cell_within r across down / COLUMNS ≡ r.top + down
  row_at down = let w = grid.within_columns in omega arith

  pub next_row : (down : ℕ) → down < r.height
      → count_below (λ d. in_rows r across (down + 1) d && Q d) CELLS
      ≡ count_below (λ d. in_rows r across down d && Q d) CELLS + as_one (Q (cell_within r across down))
  next_row down low =
      let c : ℕ = cell_within r across down in
      let column : c % COLUMNS ≡ r.left + across = column_at down in
      let row : c / COLUMNS ≡ r.top + down = row_at down in
      let wide = grid.within_columns in
      let high = grid.within_rows in
      let now : in_rows r across (down + 1) c ≡ true =
      rows_in r across (down + 1) c (record {
        inside = record {
          right_of = omega (arith, column);
          left_of = omega (arith, column);
          below = omega (arith, row);
          above = omega (arith, row);
        };
        column = column;
        row = omega (arith, row);
      }) in
      let before : in_rows r across down c ≡ false =
      never_true (in_rows r across down c) (λ h. let s = rows_of r across down c h in let l = s.row in
      omega (arith, row, l)) in
      count_below-step (λ d. in_rows r across (down + 1) d && Q d) (λ d. in_rows r across down d && Q d) c CELLS
      (omega (arith, row, high))
      (ap (λ b. b && Q c) before)
      (λ k ne. ap (λ b. b && Q k) (bool_same (in_rows r across (down + 1) k) (in_rows r across down k)
      (λ h.
      let s = rows_of r across (down + 1) k h in
      let at = s.column in
      let l = s.row in
      ⊎_elim
      (λ (lt : k / COLUMNS < r.top + down).
      rows_in r across down k (record { inside = s.inside; column = s.column; row = lt }))
      (λ (le : r.top + down ≤ k / COLUMNS). absurd (ne (omega (arith, at, l, le, column, row))))
      (cases_lt (k / COLUMNS) (r.top + down)))
      (λ h. let s = rows_of r across down k h in let l = s.row in
      rows_in r across (down + 1) k (record { inside = s.inside; column = s.column; row = omega arith }))))
      ∙ ap (λ b. count_below (λ d. in_rows r across down d && Q d) CELLS + as_one (b && Q c)) now

  same_rows : (q x n : ℕ) → n ≡ HIGH - q % HIGH → q ≤ x → x < q + n → x / HIGH ≡ q / HIGH
  same_rows q x n is low high = omega arith

  pub skip_rows : (down n : ℕ) → n ≡ HIGH - (cell_within r across down / COLUMNS) % HIGH
      → ((d : ℕ) → block_of d ≡ block_of (cell_within r across down) → Q d ≡ false)
      → count_below (λ d. in_rows r across (down + n) d && Q d) CELLS
      ≡ count_below (λ d. in_rows r across down d && Q d) CELLS
  skip_rows down n is none =
      let c : ℕ = cell_within r across down in
      let column : c % COLUMNS ≡ r.left + across = column_at down in
      let row : c / COLUMNS ≡ r.top + down = row_at down in
      count_below-same (λ d. in_rows r across (down + n) d && Q d) (λ d. in_rows r across down d && Q d) CELLS
      (λ k lt. ⊎_elim
      (λ (on : Q k ≡ true). ap (λ b. b && Q k) (bool_same (in_rows r across (down + n) k) (in_rows r across down k)
      (λ h.
      let s = rows_of r across (down + n) k h in
      let l = s.row in
      ⊎_elim
      (λ (lt : k / COLUMNS < r.top + down).
      rows_in r across down k (record { inside = s.inside; column = s.column; row = lt }))
      (λ (le : r.top + down ≤ k / COLUMNS).
      let p : k % COLUMNS ≡ c % COLUMNS = s.column ∙ sym column in
      let q : k / COLUMNS / HIGH ≡ c / COLUMNS / HIGH =
      same_rows (c / COLUMNS) (k / COLUMNS) n is (omega (arith, row, le)) (omega (arith, row, l)) in
      let same : block_of k ≡ block_of c = λ i. p i * BLOCKS + q i in
      absurd (let f : true ≡ false = sym on ∙ none k same in cc))
      (cases_lt (k / COLUMNS) (r.top + down)))
      (λ h. let s = rows_of r across down k h in let l = s.row in
      rows_in r across (down + n) k (record { inside = s.inside; column = s.column; row = omega arith }))))
      (λ (off : Q k ≡ false).
      ap (λ b. in_rows r across (down + n) k && b) off ∙ and_false (in_rows r across (down + n) k)
      ∙ sym (ap (λ b. in_rows r across down k && b) off ∙ and_false (in_rows r across down k)))
      (bool_cases (Q k)))

-- THE COLUMNS of a rectangle
lt_more : (x k m : ℕ) → m ≡ k + 1 → as_one (nat_lt x m) ≡ as_one (nat_lt x k) + as_one (eqb x k)
lt_more x k m is = ⊎_elim
    (λ (lt : x < k). rw (lt-ltb x m (omega arith), lt-ltb x k lt, ne_eqb x k (λ e. omega arith)) refl)
    (λ (le : k ≤ x). ⊎_elim
    (λ (e : x ≡ k). rw (lt-ltb x m (omega arith), le-ltb x k le, eq-eqb x k e) refl)
    (λ (ne : x ≢ k). rw (le-ltb x m (omega arith), le-ltb x k le, ne_eqb x k ne) refl)
    (cases_eq x k))
    (cases_lt x k)

column_parts : (x q l m e w : Bool) → (x ≡ true → w ≡ true) → as_one m ≡ as_one l + as_one e
    → as_one ((x && m) && q) ≡ as_one ((x && l) && q) + as_one ((x && (e && w)) && q)
column_parts false q l m e w whole s = refl
column_parts true false l m e w whole s = rw (and_false m, and_false l, and_false (e && w)) refl
column_parts true true l m e w whole s = rw (whole refl) (yes_and l m e s)
  where
    yes_and : (l m e : Bool) → as_one m ≡ as_one l + as_one e
        → as_one (m && true) ≡ as_one (l && true) + as_one ((e && true) && true)
    yes_and true true true s = s
    yes_and true true false s = s
    yes_and true false true s = s
    yes_and true false false s = s
    yes_and false true true s = s
    yes_and false true false s = s
    yes_and false false true s = s
    yes_and false false false s = s

module _ (r : Area) (Q : ℕ → Bool) where
  pub no_columns : count_below (λ d. in_columns r 0 d && Q d) CELLS ≡ 0
  no_columns =
      count_below-zero (λ d. in_columns r 0 d && Q d) CELLS
      (λ d. ap (λ b. b && Q d) (never_true (in_columns r 0 d) (λ h.
      let s = spans_of r d (and_true_left (is_inside r d) _ h) in
      let low : d % COLUMNS < r.left + 0 = ltb-true _ _ (and_true_right (is_inside r d) _ h) in
      let high = s.right_of in
      omega arith)))

  pub next_column : (across : ℕ)
      → count_below (λ d. in_columns r (across + 1) d && Q d) CELLS
      ≡ count_below (λ d. in_columns r across d && Q d) CELLS
      + count_below (λ d. in_rows r across r.height d && Q d) CELLS
  next_column across =
      count_below-split (λ d. in_columns r (across + 1) d && Q d) (λ d. in_columns r across d && Q d)
      (λ d. in_rows r across r.height d && Q d) CELLS
      (λ d lt. column_parts (is_inside r d) (Q d) (nat_lt (d % COLUMNS) (r.left + across))
      (nat_lt (d % COLUMNS) (r.left + (across + 1))) (eqb (d % COLUMNS) (r.left + across))
      (nat_lt (d / COLUMNS) (r.top + r.height))
      (λ i. let s = spans_of r d i in lt-ltb _ _ s.above)
      (lt_more (d % COLUMNS) (r.left + across) (r.left + (across + 1)) (omega arith)))

  pub all_columns : (across : ℕ) → r.width ≤ across
      → count_below (λ d. in_columns r across d && Q d) CELLS ≡ count_below (λ d. is_inside r d && Q d) CELLS
  all_columns across past =
      count_below-same (λ d. in_columns r across d && Q d) (λ d. is_inside r d && Q d) CELLS
      (λ d lt. ap (λ b. b && Q d) (bool_same (in_columns r across d) (is_inside r d)
      (λ h. and_true_left (is_inside r d) _ h)
      (λ h. let s = spans_of r d h in let l = s.left_of in
      rw h (lt-ltb (d % COLUMNS) (r.left + across) (omega arith)))))

-- THE RECTANGLES of a formula
cover_parts : (c i o : Bool)
    → as_one ((c || (i || false)) && o) ≡ as_one (c && o) + as_one (i && (o && not c))
cover_parts true true true = refl
cover_parts true true false = refl
cover_parts true false true = refl
cover_parts true false false = refl
cover_parts false true true = refl
cover_parts false true false = refl
cover_parts false false true = refl
cover_parts false false false = refl

module _ (set marks : List Bool) where
  pub no_rects : count_below (λ d. is_covered [] d && is_outside set marks d) CELLS ≡ 0
  no_rects = count_below-zero (λ d. is_covered [] d && is_outside set marks d) CELLS (λ d. refl)

  pub next_rect : (rects more : List Area) (r : Area) → more ≡ rects ++ r ∷ []
      → count_below (λ d. is_covered more d && is_outside set marks d) CELLS
      ≡ count_below (λ d. is_covered rects d && is_outside set marks d) CELLS
      + count_below (λ d. is_inside r d && is_new set marks rects d) CELLS
  next_rect rects more r is =
      count_below-split (λ d. is_covered more d && is_outside set marks d)
      (λ d. is_covered rects d && is_outside set marks d)
      (λ d. is_inside r d && is_new set marks rects d) CELLS
      (λ d lt. ap (λ b. as_one (b && is_outside set marks d))
      (ap (λ xs. is_covered xs d) is ∙ list_any-append (λ x. is_inside x d) rects (r ∷ []))
      ∙ cover_parts (is_covered rects d) (is_inside r d) (is_outside set marks d))

-- THE MEMBERS of a region
member_parts : (r mk f h : Bool)
    → as_one (r && (cond mk f h && true)) ≡ as_one (r && (cond mk f false && true)) + as_one (r && (h && not mk))
member_parts false mk f h = refl
member_parts true true true true = refl
member_parts true true true false = refl
member_parts true true false true = refl
member_parts true true false false = refl
member_parts true false true true = refl
member_parts true false true false = refl
member_parts true false false true = refl
member_parts true false false false = refl

module _ (refers : References) (formula : ℕ → Bool) (set marks : List Bool) where
  pub member_more : (rects : List Area) (q : ℕ) → ((d : ℕ) → d < CELLS → is_covered rects d ≡ refers q d)
      → cells_left refers (is_pending formula (has_cell set) marks) [] CELLS q
      ≡ cells_left refers (is_pending formula (is_in []) marks) [] CELLS q
      + count_below (λ d. is_covered rects d && is_outside set marks d) CELLS
  member_more rects q covers =
      count_below-split (λ d. refers q d && waiting (is_pending formula (has_cell set) marks) [] d)
      (λ d. refers q d && waiting (is_pending formula (is_in []) marks) [] d)
      (λ d. is_covered rects d && is_outside set marks d) CELLS
      (λ d lt. member_parts (refers q d) (get_or marks d false) (formula d) (has_cell set d)
      ∙ ap (λ b. as_one (refers q d && (cond (get_or marks d false) (formula d) false && true))
      + as_one (b && is_outside set marks d)) (sym (covers d lt)))

  -- a cell without a formula refers to none
  pub member_none : (q : ℕ) → ((d : ℕ) → refers q d ≡ true → formula q ≡ true) → formula q ≡ false
      → cells_left refers (is_pending formula (has_cell set) marks) [] CELLS q
      ≡ cells_left refers (is_pending formula (is_in []) marks) [] CELLS q
  member_none q has off =
      count_below-same (λ d. refers q d && waiting (is_pending formula (has_cell set) marks) [] d)
      (λ d. refers q d && waiting (is_pending formula (is_in []) marks) [] d) CELLS
      (λ d lt. let none = nowhere d in
      ap (λ b. b && waiting (is_pending formula (has_cell set) marks) [] d) none
      ∙ sym (ap (λ b. b && waiting (is_pending formula (is_in []) marks) [] d) none))
    where
      nowhere : (d : ℕ) → refers q d ≡ false
      nowhere d = never_true (refers q d) (λ r. let f : true ≡ false = sym (has d r) ∙ off in absurd (cc))

  -- nor does the set count without cells
  pub member_empty : ((d : ℕ) → has_cell set d ≡ false) → (q : ℕ)
      → cells_left refers (is_pending formula (is_in []) marks) [] CELLS q
      ≡ cells_left refers (is_pending formula (has_cell set) marks) [] CELLS q
  member_empty none q =
      cells_left-same refers (is_pending formula (is_in []) marks) (is_pending formula (has_cell set) marks) CELLS q
      (λ k. ap (λ b. cond (get_or marks k false) (formula k) b) (sym (none k)))

  pub member_le : (q : ℕ) → cells_left refers (is_pending formula (is_in []) marks) [] CELLS q ≤ CELLS
  member_le q = count_below-le (λ d. refers q d && waiting (is_pending formula (is_in []) marks) [] d) CELLS

-- one member more is dealt with
module _ (full base : ℕ → ℕ) (marks : List Bool) (members left : List ℕ) (i c : ℕ) (at : c ≡ get_or members i 0)
    (lt : i < length members) (once : IsDistinct eqb members)
    (so_far : (q : ℕ) → get_or marks q false ≡ true
    → get_or left q 0 ≡ cond (list_any (eqb q) (take i members)) (full q) (base q)) where
  more : take (i + 1) members ≡ take i members ++ c ∷ []
  more = take_more members i 0 lt ∙ ap (λ x. take i members ++ x ∷ []) (sym at)

  new : list_any (eqb c) (take i members) ≡ false
  new = subst (λ x. list_any (eqb x) (take i members) ≡ false) (sym at) (in-take_apart members i once lt)

  there : list_any (eqb c) (take (i + 1) members) ≡ true
  there = ap (λ xs. list_any (eqb c) xs) more ∙ in-push_same (take i members) c

  others : (q : ℕ) → q ≢ c → list_any (eqb q) (take (i + 1) members) ≡ list_any (eqb q) (take i members)
  others q ne = ap (λ xs. list_any (eqb q) xs) more ∙ in-push_other (take i members) q c ne

  pub left_before : get_or marks c false ≡ true → get_or left c 0 ≡ base c
  left_before on = so_far c on ∙ ap (λ b. cond b (full c) (base c)) new

  pub left_counted : (n : ℕ) → c < length left → full c ≡ base c + n
      → (q : ℕ) → get_or marks q false ≡ true
      → get_or (set left c (get_or left c 0 + n)) q 0
      ≡ cond (list_any (eqb q) (take (i + 1) members)) (full q) (base q)
  left_counted n low is q on =
      ⊎_elim
      (λ (e : q ≡ c).
      let on_c : get_or marks c false ≡ true = subst (λ x. get_or marks x false ≡ true) e on in
      subst (λ x. get_or (set left c (get_or left c 0 + n)) x 0
      ≡ cond (list_any (eqb x) (take (i + 1) members)) (full x) (base x)) (sym e)
      (get_or-set_same left c (get_or left c 0 + n) 0 low
      ∙ (ap (λ x. x + n) (left_before on_c)
      ∙ (sym is ∙ sym (ap (λ b. cond b (full c) (base c)) there)))))
      (λ (ne : q ≢ c).
      get_or-set_other left c q (get_or left c 0 + n) 0 ne
      ∙ (so_far q on ∙ sym (ap (λ b. cond b (full q) (base q)) (others q ne))))
      (cases_eq q c)

  pub left_passed : full c ≡ base c
      → (q : ℕ) → get_or marks q false ≡ true
      → get_or left q 0 ≡ cond (list_any (eqb q) (take (i + 1) members)) (full q) (base q)
  left_passed is q on =
      ⊎_elim
      (λ (e : q ≡ c).
      let on_c : get_or marks c false ≡ true = subst (λ x. get_or marks x false ≡ true) e on in
      subst (λ x. get_or left x 0 ≡ cond (list_any (eqb x) (take (i + 1) members)) (full x) (base x)) (sym e)
      (left_before on_c ∙ (sym is ∙ sym (ap (λ b. cond b (full c) (base c)) there))))
      (λ (ne : q ≢ c). so_far q on ∙ sym (ap (λ b. cond b (full q) (base q)) (others q ne)))
      (cases_eq q c)

-- a cell that isn't in the set isn't new
pub clear_new : (set marks : List Bool) (rects : List Area) (d : ℕ) → has_cell set d ≡ false
    → is_new set marks rects d ≡ false
clear_new set marks rects d off =
    ap (λ b. (b && not (get_or marks d false)) && not (is_covered rects d)) off
