use Rattle.std.proofs.Common.{[], ◌∷◌}
use Rattle.ps_device.specs.declared.device.Failed.{Failed}
use Rattle.ps_device.proofs.DeviceLemmas.{Sends-after}
use Rattle.ps_value.proofs.shown.put_option.Goals as goal

pub returns-clause-shown : goal.returns-clause-shown
returns-clause-shown g c =
    rw c.if-is_first.false (Sends-after Failed _ _ _ _ (44 ∷ []) _ c.in_ok-put_all.ensures.sent
    c.put_number-2.ensures.shown)
