use Rattle.std.proofs.Common.{◌++◌, arith, take}
use Rattle.ps_lines.proofs.ReadLemmas.{Consumes-append}
use Rattle.ps_squash.proofs.intake.read_on.Goals as goal

pub pieces-preserved : goal.pieces-preserved
pieces-preserved g c = (
  (
    c.pieces.invariant.0.0 ++ take c.in-Ok.count c.take.new.piece,
    Consumes-append _ _ _ _ _ c.pieces.invariant.0.1 c.in-Ok.ensures.bytes.0,
    λ asked s. c.in-Ok-take_in.ensures.stands asked _ (c.pieces.invariant.0.2 asked s),
  ),
  omega (arith, c.in-Ok.ensures.counted, c.pieces.invariant.1),
)

pub returns-in-Err-take_in-clause-faulty : goal.returns-in-Err-take_in-clause-faulty
returns-in-Err-take_in-clause-faulty g c = λ number is. (
  c.pieces.invariant.0.0 ++ take c.in-Ok.count c.take.new.piece,
  Consumes-append _ _ _ _ _ c.pieces.invariant.0.1 c.in-Ok.ensures.bytes.0,
  λ asked s. c.in-Err-take_in.ensures.faulty number is asked _ (c.pieces.invariant.0.2 asked s),
)
