use Rattle.std.proofs.Common.{◌∷◌, ◌++◌, [], codes}
use Rattle.std.proofs.lemmas.Result.{err_from_is_err_and}
use Rattle.ps_device.proofs.DeviceLemmas.{cut_after}
use Rattle.ps_value.specs.Shown.{shown_text}
use Rattle.ps_lines.proofs.SendLemmas.{cut_first}
use Rattle.ps_lines.proofs.reply.send_other.Goals as goal

pub returns-in_err-put_all-clause-sent : goal.returns-in_err-put_all-clause-sent
returns-in_err-put_all-clause-sent g c =
    let p = err_from_is_err_and c.from_residual.result c.from_residual.ensures.1 in
    rw (p.1) (cut_first _ _ (codes "val ") (shown_text c.args.value ++ 10 ∷ []) c.in_err-put_all.ensures.sent)

pub returns-in_err-send_value-clause-sent : goal.returns-in_err-send_value-clause-sent
returns-in_err-send_value-clause-sent g c =
    let p = err_from_is_err_and c.from_residual-in_err-send_value.result c.from_residual-in_err-send_value.ensures.1
    in
    rw (p.1) (cut_after _ _ _ (codes "val ") (shown_text c.args.value ++ 10 ∷ []) c.in_ok-put_all.ensures.sent
    c.in_err-send_value.ensures.sent)
