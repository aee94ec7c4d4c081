use Rattle.std.specs.Prelude.{⊤}
use Rattle.ps_squash.proofs.StandsLemmas.{fault_ended}
use Rattle.ps_squash.proofs.intake.taken_in.Goals as goal

pub returns-in-Err-finish-clause-faulty : goal.returns-in-Err-finish-clause-faulty
returns-in-Err-finish-clause-faulty g c = λ number is.
    let r = c.in-Ok.ensures.read in (
      r.0,
      r.1,
      fault_ended ⊤ _ r.0 number (λ all. r.2)
          (c.in-Err-finish.ensures.faulty number is c.args.selection r.0
          (r.3 c.args.selection c.in_ok-intake.ensures.stands)),
    )

pub returns-in-Err-clause-faulty : goal.returns-in-Err-clause-faulty
returns-in-Err-clause-faulty g c = λ number is.
    let r = c.in-Err.ensures.faulty number is in (
      r.0,
      r.1,
      fault_ended ⊥ _ r.0 number (λ no. absurd no) (r.2 c.args.selection c.in_ok-intake.ensures.stands),
    )

pub returns-in-Ok-finish-clause-together : goal.returns-in-Ok-finish-clause-together
returns-in-Ok-finish-clause-together g c =
    let r = c.in-Ok.ensures.read in (
      r.0,
      r.1,
      r.2,
      c.in-Ok-finish.ensures.together c.args.selection r.0 (r.3 c.args.selection c.in_ok-intake.ensures.stands),
    )
