-- Lines that are never too long.
use Rattle.std.proofs.Common.{◌≡◌, ℕ, ◌≤◌, List, [], ◌∷◌, map, length, get_or, arith}
use Rattle.std.proofs.lemmas.List.Elements.{All-cons}
use Rattle.std.specs.FinMap as maps
use Rattle.std.specs.List.{All}
use Rattle.ps_lattice.specs.Tally.{Counts}
use Rattle.ps_lattice.specs.Choice.{Pairs, pair_cmp}
use Rattle.ps_lattice.specs.ChoiceLaws.{pairs_total, pairs_apart}
use Rattle.ps_lattice.proofs.Views.{len_by_empty}
use Rattle.std.specs.Cmp.{nat_cmp_total}
use Rattle.std.specs.FinMap.{nat_cmp-IsAntisymmetric}
use Rattle.std.specs.Ordering.{nat_cmp}
use Rattle.serde_json.specs.Data.{Data}
use Rattle.ps_delta.specs.declared.cell_state.CellState.{CellState}
use Rattle.ps_delta.specs.Deltas.{Entries}
use Rattle.ps_wire.specs.Value.{array_of, count_value, pair_value, cell_value, delta_value}
use Rattle.ps_wire.specs.Line.{delta_text}
use Rattle.ps_wire.specs.Fits.{BatchesFit, EditsFit}
use Rattle.ps_wire.specs.Length.{size}
use Rattle.ps_wire.proofs.LengthLemmas.{size-cell, size-counts, size-each, size-pairs}

-- an array without items
no_items : {X : Type 0} (f : X → Data) (xs : List X) → length xs ≡ 0 → size (array_of (map f xs)) ≤ 2
no_items f [] e = omega arith
no_items f (x ∷ xs) e = absurd (omega arith)

no_counts : (t : Counts) → t ≡ maps.empty → size (array_of (map count_value (maps.entries t))) ≤ 2
no_counts t e = no_items count_value (maps.entries t) (len_by_empty nat_cmp nat_cmp_total nat_cmp-IsAntisymmetric t e)

no_pairs : (c : Pairs) → c ≡ maps.empty → size (array_of (map pair_value (maps.entries c))) ≤ 2
no_pairs c e = no_items pair_value (maps.entries c) (len_by_empty pair_cmp pairs_total pairs_apart c e)

pub batches_fit : BatchesFit
unfolding delta_text delta_value
batches_fit delta lawful few alone =
    let short = size-each cell_value 1613 delta (λ i d within.
    let cell = size-cell (get_or delta i d) (lawful.in_grid i d within) (lawful.states i d within) in
    let empty = alone i d within in
    omega (
      arith,
      cell,
      no_counts (get_or delta i d).1.tally empty.tally,
      no_pairs (get_or delta i d).1.choice empty.choice,
    )) in
    omega (arith, short, few)

pub edits_fit : EditsFit
unfolding delta_text delta_value
edits_fit cell state option lawful same =
    let delta : Entries = (cell, state) ∷ [] in
    let here = lawful.states 0 (cell, state) (omega arith) in
    let whole = size-cell (cell, state) (lawful.in_grid 0 (cell, state) (omega arith)) here in
    let counts = size-counts (maps.entries state.tally) here.tally in
    let pairs = size-pairs option (maps.entries state.choice) here.choice same in
    let Short = λ (e : ℕ × CellState). size (cell_value e) ≤ 125599 in
    let short : All Short delta =
    All-cons Short (cell, state) [] (omega (arith, whole, counts, pairs)) (λ i d within. absurd (omega arith)) in
    omega (arith, size-each cell_value 125599 delta short)
