use Rattle.std.proofs.Common.{◌∙◌, ap}
use Rattle.ps_keep.proofs.CoverLemmas.{cover_same}
use Rattle.ps_keep.proofs.MirrorLemmas.{after_sync}
use Rattle.ps_keep.proofs.digested.DigestedDeviceDevice.sync.Goals as goal

pub invariant_of-self-2 : goal.invariant_of-self-2
invariant_of-self-2 g c = (
  after_sync _ _ _ _ _ _ c.self.inside.trace.given c.note.new.self.given _ c.self.invariant.0
      (ap (λ v. v.has_failed) c.self.view_is ∙ c.requires.open) c.sync.ensures.same c.in_ok-sync.ensures.synced
      c.in_ok-sync.ensures.failed c.note.ensures,
  cover_same _ _ _ _ _ _ _ c.self.invariant.1 (ap (λ v. v.has_failed) c.self.view_is
      ∙ c.requires.open) c.sync.ensures.same (ap (λ given. given.written) c.note.ensures),
)
