use Rattle.std.proofs.Common.{◌≡◌, ◌≤◌, ◌<◌, ◌∙◌, length, ap, sym, subst, arith}
use Rattle.std.proofs.lemmas.Bool.{OnTrue_at, OnTrue_from}
use Rattle.std.proofs.lemmas.Bool.Decides.{nat_tests}
use Rattle.std.specs.FinMap as map
use Rattle.ps_grid.specs.declared.size.TheConstants.{CELLS}
use Rattle.ps_wire.specs.Length.{size}
use Rattle.ps_wire.specs.Value.{register_value}
use Rattle.ps_wire.proofs.BriefLemmas.{size-brief_cell}
use Rattle.ps_wire.proofs.room.is_brief.Goals as goal

pub returns : goal.returns
returns c =
    let below : c.args.cell.now.0 < CELLS = omega (arith, c.index.ensures.index, c.index.ensures.in_grid) in
    let no_counts : length c.as_slice.result.now ≡ 0 = grind (arith, nat_tests, c.if-not-is_empty.ensures) in
    let no_pairs : length c.parts-else-not-is_empty.result.now ≡ 0 = grind
    (arith, nat_tests, c.if-not-is_empty-2.ensures) in
    let tally = c.as_slice.ensures.value ∙ ap map.entries (c.parts-2.ensures.value ∙ c.parts.ensures.tally) in
    let choice = c.parts-else-not-is_empty.ensures.value ∙ ap map.entries c.parts.ensures.choice in
    OnTrue_from _ _ (λ brief.
    let register = subst (λ r. size (register_value r) ≤ 44) c.parts.ensures.register
    (OnTrue_at brief c.has_brief_content.ensures) in
    size-brief_cell c.args.cell.now below (ap length (sym tally) ∙ no_counts) (ap length (sym choice) ∙ no_pairs)
    register)
