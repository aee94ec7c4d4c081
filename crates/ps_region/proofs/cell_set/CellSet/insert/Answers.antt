use Rattle.std.proofs.Common.{◌≡◌, ◌<◌, ℕ, List, false, arith, sym, ap, ◌∙◌, get_or, length}
use Rattle.std.proofs.lemmas.List.{get_or_read}
use Rattle.ps_grid.specs.declared.size.TheConstants.{CELLS}
use Rattle.ps_region.specs.Inside.Tallies.{IsTallied, block_of}
use Rattle.ps_region.proofs.TallyLemmas.{put_in, small_block, small_all}
use Rattle.ps_region.proofs.cell_set.CellSet.insert.Goals as goal

pub overflow_add-index_mut : goal.overflow_add-index_mut
overflow_add-index_mut c =
    let i = c.self.inside in
    let b = c.block_at-block.result in
    let divided = c.self.invariant.divided in
    let small = small_block i.cells.items i.blocks.items i.all c.args.c b c.self.invariant
    c.block_at-block.ensures.in_grid c.block_at-block.ensures.block c.block_at-block.ensures.below in
    let read = get_or_read i.blocks.items b c.index_mut-then-not-index.result.now
    (omega (arith, divided, c.block_at-block.ensures.below)) c.index_mut-then-not-index.ensures.value 0 in
    omega (arith, small, read)

pub overflow_add-self : goal.overflow_add-self
overflow_add-self c =
    let i = c.self.inside in
    let small = small_all i.cells.items i.blocks.items i.all c.args.c c.block_at-block.result c.self.invariant
    c.block_at-block.ensures.in_grid c.block_at-block.ensures.block c.block_at-block.ensures.below in
    omega (arith, small)

pub invariant_of-self : goal.invariant_of-self
invariant_of-self c =
    let i = c.self.inside in
    let p = c.index-place.result in
    let b = c.block_at-block.result in
    let divided = c.self.invariant.divided in
    let whole = c.self.invariant.whole in
    let read = get_or_read i.blocks.items b c.index_mut-then-not-index.result.now
    (omega (arith, divided, c.block_at-block.ensures.below)) c.index_mut-then-not-index.ensures.value 0 in
    let off : get_or i.cells.items p false ≡ false =
    sym (get_or_read i.cells.items p c.index.result.now (omega (arith, whole, c.index-place.ensures.in_grid))
    c.index.ensures false) ∙ c.if-not-index.true in
    rw read (put_in i.cells.items i.blocks.items i.all p b c.self.invariant c.index-place.ensures.in_grid
    (c.block_at-block.ensures.block ∙ ap block_of (sym c.index-place.ensures.index)) c.block_at-block.ensures.below off)
