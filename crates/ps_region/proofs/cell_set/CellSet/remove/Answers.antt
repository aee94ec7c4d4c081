use Rattle.std.proofs.Common.{◌≡◌, ◌<◌, ℕ, List, true, false, arith, sym, ap, ◌∙◌, get_or, length}
use Rattle.std.proofs.lemmas.List.{get_or_read}
use Rattle.ps_grid.specs.declared.size.TheConstants.{CELLS}
use Rattle.ps_region.specs.Inside.Tallies.{IsTallied, block_of}
use Rattle.ps_region.proofs.TallyLemmas.{taken_out, some_block, some_all}
use Rattle.ps_region.proofs.cell_set.CellSet.remove.Goals as goal

pub overflow_sub-index_mut : goal.overflow_sub-index_mut
overflow_sub-index_mut c =
    let i = c.self.inside in
    let p = c.index-place.result in
    let b = c.block_at-block.result in
    let divided = c.self.invariant.divided in
    let whole = c.self.invariant.whole in
    let on : get_or i.cells.items p false ≡ true =
    sym (get_or_read i.cells.items p c.index.result.now (omega (arith, whole, c.index-place.ensures.in_grid))
    c.index.ensures false) ∙ c.if-index.true in
    let some = some_block i.cells.items i.blocks.items i.all p b c.self.invariant c.index-place.ensures.in_grid
    (c.block_at-block.ensures.block ∙ ap block_of (sym c.index-place.ensures.index)) c.block_at-block.ensures.below on in
    let read = get_or_read i.blocks.items b c.index_mut-then-index.result.now
    (omega (arith, divided, c.block_at-block.ensures.below)) c.index_mut-then-index.ensures.value 0 in
    omega (arith, some, read)

pub overflow_sub-self : goal.overflow_sub-self
overflow_sub-self c =
    let i = c.self.inside in
    let p = c.index-place.result in
    let b = c.block_at-block.result in
    let whole = c.self.invariant.whole in
    let on : get_or i.cells.items p false ≡ true =
    sym (get_or_read i.cells.items p c.index.result.now (omega (arith, whole, c.index-place.ensures.in_grid))
    c.index.ensures false) ∙ c.if-index.true in
    let some = some_all i.cells.items i.blocks.items i.all p b c.self.invariant c.index-place.ensures.in_grid
    (c.block_at-block.ensures.block ∙ ap block_of (sym c.index-place.ensures.index)) c.block_at-block.ensures.below on in
    omega (arith, some)

pub invariant_of-self : goal.invariant_of-self
invariant_of-self c =
    let i = c.self.inside in
    let p = c.index-place.result in
    let b = c.block_at-block.result in
    let divided = c.self.invariant.divided in
    let whole = c.self.invariant.whole in
    let read = get_or_read i.blocks.items b c.index_mut-then-index.result.now
    (omega (arith, divided, c.block_at-block.ensures.below)) c.index_mut-then-index.ensures.value 0 in
    let on : get_or i.cells.items p false ≡ true =
    sym (get_or_read i.cells.items p c.index.result.now (omega (arith, whole, c.index-place.ensures.in_grid))
    c.index.ensures false) ∙ c.if-index.true in
    rw read (taken_out i.cells.items i.blocks.items i.all p b c.self.invariant c.index-place.ensures.in_grid
    (c.block_at-block.ensures.block ∙ ap block_of (sym c.index-place.ensures.index)) c.block_at-block.ensures.below on)
