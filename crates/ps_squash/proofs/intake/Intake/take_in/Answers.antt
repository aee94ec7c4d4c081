use Rattle.ps_lines.proofs.ReadLemmas.{turn_within}
use Rattle.ps_squash.proofs.StandsLemmas.{fault_rest, stands_more}
use Rattle.ps_squash.proofs.intake.Intake.take_in.Goals as goal

pub turns-preserved : goal.turns-preserved
turns-preserved c = record {
  within = turn_within c.args.piece.now c.turns.start c.in-Ok.taken c.turns-test.true c.in-Ok.ensures.within.1;
  stands = λ asked read s. stands_more asked read c.args.piece.now c.turns.start c.in-Ok.taken _ _ _ _
      (c.in-Ok.ensures.stands asked _ (c.turns.invariant.stands asked read s));
}

pub returns-in-Err-clause-faulty : goal.returns-in-Err-clause-faulty
returns-in-Err-clause-faulty c = λ number is asked read s. fault_rest read c.args.piece.now c.turns.start number
    (c.in-Err.ensures.faulty number is asked _ (c.turns.invariant.stands asked read s))
