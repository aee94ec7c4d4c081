use Rattle.std.proofs.Common.{◌∷◌, []}
use Rattle.std.proofs.lemmas.Result.{err_from_is_err_and}
use Rattle.ps_device.proofs.DeviceLemmas.{cut_after}
use Rattle.ps_value.specs.Shown.{shown_text}
use Rattle.ps_lines.proofs.reply.send_value.Goals as goal

pub returns-in_err-put_all-clause-sent : goal.returns-in_err-put_all-clause-sent
returns-in_err-put_all-clause-sent g c =
    let p = err_from_is_err_and c.from_residual.result c.from_residual.ensures.1 in
    rw (p.1) (cut_after _ _ _ (shown_text c.args.value) (10 ∷ []) c.in-Ok.ensures.shown
    c.in_err-put_all.ensures.sent)
