use Rattle.std.proofs.Common.{◌≡◌, ◌≤◌, ◌*◌, ◌/◌, subst, sym, arith}
use Rattle.ps_eval.specs.Summarized.{Summarizes}
use Rattle.ps_shown.specs.Blocks.{items_between}
use Rattle.ps_shown.specs.declared.blocks.TheConstants.{BLOCK}
use Rattle.ps_shown.proofs.BlockLemmas.{between_join, block_more, few_between, from_ceil, to_floor}
use Rattle.ps_shown.proofs.blocks.summary_between.Goals as goal

pub with_block-summary-requires-clause-room : goal.with_block-summary-requires-clause-room
with_block-summary-requires-clause-room c =
    let few = few_between c.args.kept.now c.args.from (c.take_known-block.result * BLOCK) in
    omega (
      arith,
      c.take_known-block.ensures.taken.counted,
      few,
      c.if-block-end.true,
      to_floor c.args.to,
      c.requires.within,
    )

pub whole-preserved-then-block-end : goal.whole-preserved-then-block-end
whole-preserved-then-block-end c =
    let kept = c.args.kept.now in
    let from = c.args.from in
    let b = c.take_known-block.result in
    let ceil = subst (λ n. from ≤ n * BLOCK) (sym c.div_ceil-first.ensures) (from_ceil from) in
    let low : from ≤ b * BLOCK = omega (arith, ceil, c.whole.invariant.order, c.take_known-block.ensures.order) in
    record {
      order = omega (arith, c.whole.invariant.order, c.take_known-block.ensures.order);
      within = omega (arith, c.if-block-end.true);
      taken = subst (λ ns. Summarizes ns c.with_block-summary.result) (block_more kept from b low)
          (c.with_block-summary.ensures (items_between kept from (b * BLOCK)) c.take_known-block.ensures.taken);
    }

pub join-requires-clause-room : goal.join-requires-clause-room
join-requires-clause-room c =
    let few = few_between c.args.kept.now c.args.from (c.whole.block * BLOCK) in
    omega (
      arith,
      c.whole.invariant.taken.counted,
      few,
      c.whole.invariant.within,
      to_floor c.args.to,
      c.requires.within,
    )

pub join-requires-clause-room_of_other : goal.join-requires-clause-room_of_other
join-requires-clause-room_of_other c =
    let few = few_between c.args.kept.now (c.args.to / BLOCK * BLOCK) c.args.to in
    omega (arith, c.walk-2.ensures.counted, few, c.requires.within)

pub returns : goal.returns
returns c =
    let kept = c.args.kept.now in
    let from = c.args.from in
    let to = c.args.to in
    let ceil = subst (λ n. from ≤ n * BLOCK) (sym c.div_ceil-first.ensures) (from_ceil from) in
    let end : c.whole.block ≡ to / BLOCK = omega (arith, c.whole-test.false, c.whole.invariant.within) in
    let so_far = subst (λ n. Summarizes (items_between kept from (n * BLOCK)) c.whole.summary) end
    c.whole.invariant.taken in
    let joined = between_join kept from (to / BLOCK * BLOCK) to (omega (arith, ceil, c.if-end-first.false))
    (to_floor to) in
    subst (λ ns. Summarizes ns c.join.new.self) joined
    (c.join.ensures.items (items_between kept from (to / BLOCK * BLOCK)) (items_between kept (to / BLOCK * BLOCK) to)
    so_far c.walk-2.ensures)
