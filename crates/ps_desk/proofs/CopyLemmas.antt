-- What a list over a rectangle's cells has for each cell.
use Rattle.std.proofs.Common.{◌≡◌, ℕ, true, List, map, ap, ◌∙◌, arith, get_or}
use Rattle.std.proofs.lemmas.List.{get_or-map}
use Rattle.std.proofs.lemmas.List.FromFn.{get_or-map-range_with_len}
use Rattle.ps_grid.specs.Rectangle.{Area, cells_of, is_inside, nth_cell, place_of}
use Rattle.ps_grid.proofs.AreaLemmas.{length-cells_of, nth_cell-place_of, place_of-below}

-- the list of f c for all cells c of the rectangle has f c at the position of the cell c
pub get-copied : {A : Type 0} (f : ℕ → A) (items : List A) (a : Area) (none : A) (c : ℕ) → items ≡ map f (cells_of a)
    → is_inside a c ≡ true → get_or items (place_of a c) none ≡ f c
get-copied f items a none c is inside =
    let below = place_of-below a c inside in
    ap (λ xs. get_or xs (place_of a c) none) is
    ∙ get_or-map f (cells_of a) (place_of a c) 0 none (omega (arith, length-cells_of a, below))
    ∙ ap f (get_or-map-range_with_len (nth_cell a) 0 _ (place_of a c) (place_of a c) 0 below (omega arith)
    ∙ nth_cell-place_of a c inside)
