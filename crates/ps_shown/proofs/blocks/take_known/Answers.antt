use Rattle.std.proofs.Common.{◌≤◌, ◌+◌, ◌*◌, subst, arith}
use Rattle.ps_eval.specs.Summarized.{Summarizes}
use Rattle.ps_shown.specs.Blocks.{block_items, items_between}
use Rattle.ps_shown.specs.declared.blocks.TheConstants.{BLOCK}
use Rattle.ps_shown.proofs.BlockLemmas.{block_more, few_between}
use Rattle.ps_shown.proofs.blocks.take_known.Goals as goal

pub join-requires-clause-room : goal.join-requires-clause-room
join-requires-clause-room c =
    let few = few_between c.args.kept.now c.args.from (c.known.next * BLOCK) in
    omega (arith, c.known.invariant.taken.counted, few, c.known.invariant.within, c.requires.within)

pub join-requires-clause-room_of_other : goal.join-requires-clause-room_of_other
join-requires-clause-room_of_other c =
    let b = c.known.next in
    let is = c.requires.remembered b c.in-Some.known.now c.in-Some.ensures in
    omega (arith, is.counted, few_between c.args.kept.now (b * BLOCK) (b * BLOCK + BLOCK))

pub known-preserved : goal.known-preserved
known-preserved c =
    let kept = c.args.kept.now in
    let from = c.args.from in
    let b = c.known.next in
    let low : from ≤ b * BLOCK = omega (arith, c.requires.place, c.known.invariant.order) in
    record {
      order = omega (arith, c.known.invariant.order);
      within = omega (arith, c.known-test.true, c.min-reached.ensures);
      taken = subst (λ ns. Summarizes ns c.join.new.self) (block_more kept from b low)
          (c.join.ensures.items (items_between kept from (b * BLOCK)) (block_items kept b) c.known.invariant.taken
          (c.requires.remembered b c.in-Some.known.now c.in-Some.ensures));
    }
