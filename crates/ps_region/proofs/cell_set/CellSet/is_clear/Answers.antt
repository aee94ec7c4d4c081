use Rattle.std.proofs.Common.{◌≡◌, ℕ, Bool, List, false, arith, eqb-true, sym, ◌∙◌, subst}
use Rattle.ps_region.specs.CellSets.{has_cell}
use Rattle.ps_region.specs.Inside.Tallies.{block_of}
use Rattle.std.proofs.lemmas.List.{get_or_read}
use Rattle.ps_region.proofs.TallyLemmas.{none_there}
use Rattle.ps_region.proofs.cell_set.CellSet.is_clear.Goals as goal

pub returns : goal.returns
returns c = λ zero.
    let b = c.block_at.result in
    let blocks = c.self.inside.blocks.items in
    let divided = c.self.invariant.divided in
    subst (λ (xs : List Bool). (d : ℕ) → block_of d ≡ block_of c.args.c → has_cell xs d ≡ false) c.self.view_is
    (none_there c.self.inside.cells.items blocks c.self.inside.all c.args.c b c.self.invariant
    c.block_at.ensures.in_grid c.block_at.ensures.block c.block_at.ensures.below
    (sym (get_or_read blocks b c.index.result.now (omega (arith, divided, c.block_at.ensures.below)) c.index.ensures 0)
    ∙ eqb-true c.index.result.now 0 zero))
