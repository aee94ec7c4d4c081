use Rattle.std.proofs.Common.{◌∙◌}
use Rattle.std.proofs.lemmas.Result.{err_from_is_err_and}
use Rattle.ps_device.proofs.DeviceLemmas.{HoldsBack-after}
use Rattle.ps_session.proofs.InputReadToEnd.{cut_rest, stands_more}
use Rattle.ps_lines.proofs.ReadLemmas.{turn_within}
use Rattle.ps_session.proofs.transcript.Conversation.answer_piece.Goals as goal

pub returns-in_err-start-clause-cut : goal.returns-in_err-start-clause-cut
returns-in_err-start-clause-cut g c =
    let p = err_from_is_err_and c.from_residual.result c.from_residual.ensures.1 in
    rw (p.1) (λ first written base read s. cut_rest _ first written base read c.args.piece.now c.turns.start _ _
    (c.in_err-start.ensures.cut first written base _ (c.turns.invariant.stands first written base read s)))

pub returns-then-is_to_release-clause-stands : goal.returns-then-is_to_release-clause-stands
returns-then-is_to_release-clause-stands g c = λ first written base read s.
    stands_more _ first written base read c.args.piece.now c.turns.start c.in_ok-start.field-0 _ _ _ _
    (c.in_ok-start.ensures.stands first written base _ (c.turns.invariant.stands first written base read s))

pub turns-preserved : goal.turns-preserved
turns-preserved g c = record {
  within = turn_within c.args.piece.now c.turns.start c.in_ok-start.field-0 c.turns-test.true
      c.in_ok-start.ensures.within.1;
  stands = λ first written base read s. stands_more _ first written base read c.args.piece.now c.turns.start
      c.in_ok-start.field-0 _ _ _ _
      (c.in_ok-start.ensures.stands first written base _ (c.turns.invariant.stands first written base read s));
  calm = c.in_ok-start.ensures.calm ∙ c.turns.invariant.calm;
  held = λ holds. HoldsBack-after _ _ _ _ _ _ (c.turns.invariant.held holds) (c.in_ok-start.ensures.held holds);
}
