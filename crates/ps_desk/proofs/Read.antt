-- What a read shows, given the values of all cells in order.
use Rattle.std.proofs.Common.{◌≡◌, ℕ, ◌+◌, ◌<◌, ◌≤◌, List, [], ◌∷◌, ◌++◌, length, take, sym, ap, ◌∙◌, arith}
use Rattle.std.proofs.lemmas.List.{length-set, take_all, take_more, take_more_set}
use Rattle.std.specs.Prelude.{slice_index_or, slice_set}
use Rattle.ps_grid.specs.declared.size.TheConstants.{CELLS}
use Rattle.ps_value.specs.declared.value.Value.{Value}
use Rattle.ps_value.specs.declared.value.Value.TheVariants.{Empty}
use Rattle.ps_delta.specs.Deltas.{Entries}
use Rattle.ps_face.specs.Legal.{Shows}
use Rattle.ps_face.proofs.Orders.{get-listed, length-listed}
use Rattle.ps_desk.specs.Passes.{IsShown}

-- the value at a cell of the grid is the cell's settled value
pub shown_one : (h : List Entries) (values : List Value) (c : ℕ) (x : Value) → Shows h values → c < CELLS
    → x ≡ slice_index_or values c Empty → IsShown h c x
shown_one h values c x s below is =
    (s.0, s.1, is ∙ ap (λ (vs : List Value). slice_index_or vs c Empty) s.2 ∙ get-listed s.0 CELLS c Empty below)

-- the values up to a position, after one more is written
pub one_more : (all values : List Value) (i : ℕ) (x : Value) → i < length values → length all ≡ CELLS
    → (length values ≡ CELLS) × (take i values ≡ take i all) → x ≡ slice_index_or all i Empty
    → (length (slice_set values i x) ≡ CELLS) × (take (i + 1) (slice_set values i x) ≡ take (i + 1) all)
one_more all values i x below len is same = (
  length-set values i x ∙ is.0,
  take_more_set values i x below
      ∙ ap (λ (vs : List Value). vs ++ x ∷ []) is.1
      ∙ ap (λ y. take i all ++ y ∷ []) same
      ∙ sym (take_more all i Empty (omega (arith, below, len, is.0))),
)

pub length-shown : (h : List Entries) (values : List Value) → Shows h values → length values ≡ CELLS
length-shown h values s = ap length s.2 ∙ length-listed s.0 CELLS

-- values that are the same up to the last are the same
pub whole_same : (all values : List Value) (i : ℕ) → length all ≡ CELLS → length values ≤ i
    → (length values ≡ CELLS) × (take i values ≡ take i all) → values ≡ all
whole_same all values i len end is =
    sym (take_all i values (omega (arith, end))) ∙ is.1 ∙ take_all i all (omega (arith, end, len, is.0))
