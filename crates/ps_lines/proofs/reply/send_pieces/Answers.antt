use Rattle.std.proofs.Common.{refl}
use Rattle.std.proofs.lemmas.Result.{err_from_is_err_and}
use Rattle.ps_device.proofs.DeviceLemmas.{Appends-nil}
use Rattle.ps_lines.proofs.SendLemmas.{pieces_cut}
use Rattle.ps_lines.proofs.reply.send_pieces.Goals as goal

pub pieces-init : goal.pieces-init
pieces-init g c = (Appends-nil _, refl)

pub returns-in_err-put_all-clause-sent : goal.returns-in_err-put_all-clause-sent
returns-in_err-put_all-clause-sent g c =
    let p = err_from_is_err_and c.from_residual.result c.from_residual.ensures.1 in
    rw (p.1) (pieces_cut (λ piece. piece.now) c.args.pieces.now c.pieces.piece-index _ _ _ _ c.pieces-test.true
    c.pieces.invariant.0 c.in_err-put_all.ensures.sent)
