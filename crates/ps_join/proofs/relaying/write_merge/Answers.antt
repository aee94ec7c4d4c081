use Rattle.ps_peers.proofs.AskingLemmas.{Appends-kept, puts_all}
use Rattle.ps_join.specs.Joins.{merge_text}
use Rattle.ps_join.proofs.relaying.write_merge.Goals as goal

pub returns-in-Err-clause-put : goal.returns-in-Err-clause-put
returns-in-Err-clause-put g c =
    puts_all _ _ (merge_text c.args.delta.now)
    (Appends-kept (g.O.Sink.contents c.args.out.now) (g.O.Sink.contents c.send_pieces.new.sink) _
    (merge_text c.args.delta.now)
    (rw c.merge_pieces-line.ensures at (rw c.as_slice.ensures at c.in_ok-send_pieces.ensures.sent))
    c.in-Err.ensures.same)
