use Rattle.std.proofs.Common.{subst}
use Rattle.ps_keep.specs.Digested.{DeviceView}
use Rattle.ps_keep.specs.Digests.{HaveNoDigests, WrongAfterTears}
use Rattle.ps_keep.specs.Lines.{whole_lines}
use Rattle.ps_keep.proofs.TearLemmas.{wrong_after}
use Rattle.ps_keep.proofs.digested.digested_files_survive.Goals as goal

pub returns-clause-tears : goal.returns-clause-tears
returns-clause-tears g c =
    subst (λ (v : DeviceView). HaveNoDigests (whole_lines v.written) → WrongAfterTears v.raw v.on_disk) c.device.view_is
    (λ have. wrong_after _ _ _ (c.device.invariant.0.cut have))
