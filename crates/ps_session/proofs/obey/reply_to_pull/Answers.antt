use Rattle.std.proofs.Common.{◌∙◌, ◌<◌, Err, ap, arith, length, subst}
use Rattle.std.proofs.lemmas.Grind.{common_steps}
use Rattle.std.specs.Prelude.{Ok}
use Rattle.ps_lines.specs.PullReplies.{HasNone}
use Rattle.ps_lines.proofs.PulledDeltas.{replies_refusal}
use Rattle.ps_session.proofs.obey.reply_to_pull.Goals as goal

pub overflow_add-result : goal.overflow_add-result
overflow_add-result g c =
    let found = c.in-Ok-greatest_group.ensures.found in
    let items = c.in-Ok.deltas.items in
    omega (
      arith,
      found.grouped.within,
      ap length c.deref.ensures.value,
      c.in-Ok.ensures.numbered,
    )

pub returns : goal.returns
returns g c =
    let items = c.in-Ok.deltas.items in
    let some : 0 < length items = grind (arith, common_steps, c.if-is_empty.ensures) in
    let refused = c.in-Err-greatest_group in (
      Ok items,
      subst (λ m. g.B.Board.calls.pulls c.args.board.now c.args.from m (Ok items) c.pull.new.self)
          c.max.ensures c.in-Ok.ensures.pulled,
      replies_refusal c.args.from c.args.most items refused.refusal
          some refused.ensures.refused
          (λ long. subst (λ ds. HasNone ds c.args.most) c.deref.ensures.value
          (c.greatest_group.ensures.none (refused.is ∙ ap Err long))),
    )
