use Rattle.ps_peers.proofs.AskingLemmas.{puts_all, puts_kept}
use Rattle.ps_peers.proofs.asking.refuse_line.Goals as goal

pub returns-in_err-hand_on-clause-put : goal.returns-in_err-hand_on-clause-put
returns-in_err-hand_on-clause-put g c =
    puts_kept _ _ _ _ (puts_all _ _ _ c.in_ok-send.ensures.sent) c.hand_on.ensures.same

pub returns-clause-put : goal.returns-clause-put
returns-clause-put g c = puts_kept _ _ _ _ (puts_all _ _ _ c.in_ok-send.ensures.sent) c.hand_on.ensures.same
