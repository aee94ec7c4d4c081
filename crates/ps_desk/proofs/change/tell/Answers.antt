use Rattle.std.proofs.Common.{List, subst}
use Rattle.ps_delta.specs.Deltas.{Entries}
use Rattle.ps_face.specs.Legal.{Follows}
use Rattle.ps_desk.proofs.change.tell.Goals as goal

pub publish-requires-clause-legal : goal.publish-requires-clause-legal
publish-requires-clause-legal g c =
    subst (λ (h : List Entries). Follows h c.in_ok-patch.patch) c.requires.history c.in_ok-patch.ensures.follows
