-- What is known of the cells that an index lists.
use Rattle.std.proofs.Common.{◌≡◌, ℕ, zero, suc, ◌<◌, ◌-◌, ◌+◌, Bool, true, false, List, sym, ◌∙◌, arith}
use Rattle.std.proofs.Common.{⊎_elim, eqb, ap, subst, ◌≤◌, ◌++◌, ◌∷◌, [], length, take, get_or}
use Rattle.std.specs.Prelude.{Option, None, Some}
use Rattle.std.specs.List.{list_any, filter, range_with_len, IsDistinct}
use Rattle.std.specs.Iterator.{AlwaysYields, Yields, YieldsFirst}
use Rattle.std.proofs.lemmas.Iterator.{YieldsList}
use Rattle.std.proofs.lemmas.Iterator.Consumers.{YieldsList-at, YieldsList-from_first, YieldsList-turn, YieldsList-end}
use Rattle.std.proofs.lemmas.List.{take_more, take_all, length_push, get_or_read}
use Rattle.ps_grid.specs.Chains.{In}
use Rattle.ps_grid.proofs.ChainLemmas.{In-cases}
use Rattle.ps_region.proofs.CellListLemmas.{in-filter, in-get_or, in-take_apart}
use Rattle.ps_region.proofs.CountLemmas.{and_true_left}
use Rattle.ps_grid.specs.Place.{cell_at, column_of, row_of}
use Rattle.ps_grid.specs.declared.size.TheConstants.{CELLS, COLUMNS, ROWS}
use Rattle.ps_index.specs.Spans.{cells_from, refers_at}
use Rattle.ps_formula.specs.References.{mentions}
use Rattle.ps_index.specs.Stands.{Puts, Stands, refers, spans_of}
use Rattle.ps_index.proofs.CellsPassing.{cells_from-any, cells_from-distinct}
use Rattle.ps_index.proofs.PairsOfFormulas.{pairs}
use Rattle.ps_index.specs.declared.span.Span.{Span}
use Rattle.ps_region.specs.Listed.{listed}

pub listed_is : (index : List (List Span)) (d : ℕ) (r : List ℕ)
    → r ≡ cells_from (refers_at (spans_of index (column_of d)) (row_of d)) 0 CELLS → r ≡ listed index d
unfolding listed
listed_is index d r e = e

below_end : (c n q : ℕ) → In (range_with_len c n) q → q < c + n
below_end c zero q h = absurd (let f : false ≡ true = h in cc)
below_end c (suc n) q h =
    ⊎_elim
    (λ e. omega arith)
    (λ i. let b = below_end (c + 1) n q i in omega arith)
    (In-cases q c (range_with_len (c + 1) n) h)

-- only cells of the grid are listed
pub listed_below : (index : List (List Span)) (d e : ℕ) → In (listed index d) e → e < CELLS
unfolding listed cells_from
listed_below index d e h = passes_below (refers_at (spans_of index (column_of d)) (row_of d)) CELLS e h
  where
    passes_below : (test : ℕ → Bool) (n e : ℕ) → In (filter test (range_with_len 0 (n - 0))) e → e < n
    passes_below test n e h =
        let b = below_end 0 (n - 0) e
        (and_true_left (list_any (eqb e) (range_with_len 0 (n - 0))) (test e)
        (sym (in-filter test (range_with_len 0 (n - 0)) e) ∙ h)) in
        omega arith

-- a cell is listed for another just where one of its formulas in the index refers to that
pub listed_refers : (index : List (List Span)) (forms : Puts) → Stands index forms → (c d : ℕ) → c < CELLS → d < CELLS
    → list_any (eqb c) (listed index d) ≡ refers forms c d
unfolding listed
listed_refers index forms stands c d c_lt d_lt =
    let row : row_of d ≤ ROWS = omega arith in
    let column : column_of d < COLUMNS = omega arith in
    let back : cell_at (column_of d) (row_of d) ≡ d = omega arith in
    cells_from-any (refers_at (spans_of index (column_of d)) (row_of d)) CELLS c c_lt
    ∙ (pairs index forms stands (column_of d) (row_of d) c column (omega arith) row
    ∙ ap (λ x. list_any (λ t. mentions t x) (forms c)) back)

-- what is known of the cell e that comes next of all cells, where these came before it
pub record IsNext (all came : List ℕ) (e : ℕ) : Type 0 where
  pub below : length came < length all
  pub at : e ≡ get_or all (length came) 0
  pub inside : In all e
  pub new : list_any (eqb e) (take (length came) all) ≡ false
  pub push : length (came ++ e ∷ []) ≡ length came + 1
  pub more : take (length came + 1) all ≡ take (length came) all ++ e ∷ []

-- an iterator that is seen as the list of what is left gives the cells that are listed for d
pub walks_listed : (index : List (List Span)) (d : ℕ) {walk : List ℕ}
    → walk ≡ cells_from (refers_at (spans_of index (column_of d)) (row_of d)) 0 CELLS
    → AlwaysYields (YieldsFirst (λ (r : List ℕ). r)) (λ (x : ℕ). x) walk (listed index d)
walks_listed index d {walk} list =
    (YieldsList-from_first (λ (x : ℕ). x) (λ (r : List ℕ). r) (listed index d) (listed_is index d walk list)).runs

-- each cell is listed once
pub listed_once : (index : List (List Span)) (d : ℕ) → IsDistinct eqb (listed index d)
unfolding listed
listed_once index d = cells_from-distinct (refers_at (spans_of index (column_of d)) (row_of d)) 0 CELLS

-- a loop over the cells that are listed for d
module _ {S : Type 0} (gives : S → Option ℕ → S → Type 0) (index : List (List Span)) (d : ℕ) (came : List ℕ)
    (rest after : S) {walk start : S} {item : Option ℕ} (is : start ≡ walk)
    (walks : AlwaysYields gives (λ (x : ℕ). x) walk (listed index d))
    (yielded : Yields gives start came rest) (steps : gives rest item after) where
  road : YieldsList gives (λ (x : ℕ). x) start (listed index d)
  road = YieldsList-at is (record { runs = walks })

  pub next_listed : (e : ℕ) → item ≡ Some e → IsNext (listed index d) came e
  next_listed e some =
      let all = listed index d in
      let t = YieldsList-turn road came _ yielded item after e some steps in
      let i = length came in
      let at : e ≡ get_or all i 0 = get_or_read all i e t.0 t.1 0 in
      record {
        below = t.0;
        at = at;
        inside = rw t.1 (in-get_or all i e t.0);
        new = subst (λ x. list_any (eqb x) (take i all) ≡ false) (sym at)
            (in-take_apart all i (listed_once index d) t.0);
        push = length_push came e;
        more = take_more all i 0 t.0 ∙ ap (λ x. take i all ++ x ∷ []) (sym at);
      }

  pub none_listed : item ≡ None → length came ≡ length (listed index d)
  none_listed none = (YieldsList-end road came _ yielded item after none steps).1

  pub all_listed : item ≡ None → take (length came) (listed index d) ≡ listed index d
  all_listed none =
      let end : length came ≡ length (listed index d) = none_listed none in
      take_all (length came) (listed index d) (omega (arith, end))
