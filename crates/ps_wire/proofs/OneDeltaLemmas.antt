-- No two deltas have one value.
use Rattle.std.proofs.Common.{◌≡◌, ℕ, ◌<◌, map, Option, Some, None, refl, sym, ap, ◌∙◌}
use Rattle.std.specs.List.{All}
use Rattle.std.specs.FinMap as maps
use Rattle.std.specs.FinMap.{same_entries_map}
use Rattle.ps_grid.specs.Place.{cell_name}
use Rattle.ps_grid.specs.declared.size.TheConstants.{CELLS}
use Rattle.ps_grid.proofs.NameLemmas.{cell_name-injective}
use Rattle.ps_lattice.specs.declared.register.Assignment.{Assignment}
use Rattle.ps_content.specs.Content.{canonical_text}
use Rattle.ps_content.specs.declared.content.Content.{Content}
use Rattle.ps_delta.specs.declared.cell_state.CellState.{CellState}
use Rattle.ps_delta.specs.Deltas.{Entries}
use Rattle.ps_wire.specs.Value.{cell_value, count_value, pair_value, register_value, delta_value, array_of}
use Rattle.ps_wire.specs.Value.{IsRegister, IsState, IsLawful, OneValue, OneDelta}
use Rattle.ps_wire.proofs.ContentLemmas.{canonical_text-injective}
use Rattle.ps_wire.proofs.PartLemmas.{counts-injective, pairs-injective}
use Rattle.ps_wire.proofs.ArrayLemmas.{array_of-injective, map-injective}

register_value-injective : (r s : Option (Assignment Content)) → IsRegister r → IsRegister s
    → register_value r ≡ register_value s → r ≡ s
register_value-injective None None h k e = refl
register_value-injective None (Some b) h k e = absurd cc
register_value-injective (Some a) None h k e = absurd cc
register_value-injective (Some a) (Some b) h k e =
    let time : a.time ≡ b.time = cc in
    let replica : a.replica ≡ b.replica = cc in
    let text : canonical_text a.content ≡ canonical_text b.content = cc in
    let content : a.content ≡ b.content = canonical_text-injective a.content b.content h.1 k.1 text in
    ap Some (λ i. record { time = time i; replica = replica i; content = content i })

-- a cell of the grid, with a state that there is
abbrev pub Good : ℕ × CellState → Type 0
Good e = (e.0 < CELLS) × IsState e.1

cell_value-injective : (d e : ℕ × CellState) → Good d → Good e → cell_value d ≡ cell_value e → d ≡ e
unfolding cell_value
cell_value-injective d e h k same =
    let name : cell_name d.0 ≡ cell_name e.0 = cc in
    let held : register_value d.1.register ≡ register_value e.1.register = cc in
    let counters :
    array_of (map count_value (maps.entries d.1.tally)) ≡ array_of (map count_value (maps.entries e.1.tally)) = cc in
    let pairs :
    array_of (map pair_value (maps.entries d.1.choice)) ≡ array_of (map pair_value (maps.entries e.1.choice)) = cc in
    let cell = cell_name-injective d.0 e.0 h.0 k.0 name in
    let register = register_value-injective d.1.register e.1.register h.1.register k.1.register held in
    let tally = same_entries_map d.1.tally e.1.tally (counts-injective _ _ (array_of-injective _ _ counters)) in
    let choice = same_entries_map d.1.choice e.1.choice (pairs-injective _ _ (array_of-injective _ _ pairs)) in
    λ i. (cell i, record { register = register i; tally = tally i; choice = choice i })

pub cells-injective : (d e : Entries) → All Good d → All Good e → map cell_value d ≡ map cell_value e → d ≡ e
cells-injective d e h k same = map-injective cell_value Good cell_value-injective d e h k same

pub all_good : (d : Entries) → IsLawful d → All Good d
all_good d lawful i x within = (lawful.in_grid i x within, lawful.states i x within)

pub delta_value-injective : (d e : Entries) → IsLawful d → IsLawful e → delta_value d ≡ delta_value e → d ≡ e
unfolding delta_value
delta_value-injective d e h k same = cells-injective d e (all_good d h) (all_good e k) (array_of-injective _ _ same)

pub one_value : OneValue
one_value d v w h k = h.spelled ∙ sym k.spelled

pub one_delta : OneDelta
one_delta value d e h k = delta_value-injective d e h.lawful k.lawful (sym h.spelled ∙ k.spelled)
