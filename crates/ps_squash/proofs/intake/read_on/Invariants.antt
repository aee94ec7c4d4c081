use Rattle.std.proofs.Common.{◌≡◌, ℕ, [], List}
use Rattle.std.specs.Io.KnownBytes.{Consumes}
use Rattle.ps_delta.specs.State.{state_at}
use Rattle.ps_squash.specs.Inside.{StandsAfter, sum_of}
use Rattle.ps_squash.specs.declared.selection.Selection.{Selection}
use Rattle.ps_squash.proofs.intake.read_on.Given as goal

abbrev pub invariant-pieces : goal.invariant-pieces
invariant-pieces g l = ((read : List ℕ)
    × Consumes (g.S.Source.remaining l.fn.source) (g.S.Source.remaining l.source) read
    × ((asked : Selection)
    → StandsAfter asked [] l.fn.intake.session.pending l.fn.intake.told
    (sum_of (state_at l.fn.intake.taken.state) l.fn.intake.taken.still) l.fn.intake.ended
    → StandsAfter asked read l.intake.session.pending l.intake.told
    (sum_of (state_at l.intake.taken.state) l.intake.taken.still) l.intake.ended))
    × (g.S.Source.failures l.source ≡ g.S.Source.failures l.fn.source)

abbrev pub decreases-pieces : goal.decreases-pieces
decreases-pieces g l = g.S.Source.left l.source
