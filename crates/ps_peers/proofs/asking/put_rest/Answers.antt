use Rattle.std.proofs.Common.{◌∙◌, ◌+◌, [], ◌∷◌, ◌++◌, ap, length-append}
use Rattle.ps_peers.proofs.AskingLemmas.{writes_cut, writes_push, writes_stop}
use Rattle.ps_peers.proofs.asking.put_rest.Goals as goal

pub returns-in-Err-clause-some : goal.returns-in-Err-clause-some
returns-in-Err-clause-some g c =
    writes_stop c.loop.invariant.lines _ _ _ _ c.loop.invariant.writes _ c.in-Err.ensures.taken

pub returns-in-Err-put_line-clause-some : goal.returns-in-Err-put_line-clause-some
returns-in-Err-put_line-clause-some g c =
    writes_cut c.loop.invariant.lines _ _ _ _ c.loop.invariant.writes c.read_more.new.self.line _ _
    c.in-Ok.ensures.more.one c.in-Ok.ensures.more.read (rw c.reply.ensures at c.put_line.ensures.put)

pub loop-preserved : goal.loop-preserved
loop-preserved g c =
    let i = c.loop.invariant in
    record {
      lines = i.lines ++ c.read_more.new.self.line ∷ [];
      many = length-append i.lines (c.read_more.new.self.line ∷ []) ∙ ap (λ n. n + 1) i.many;
      writes = writes_push i.lines _ _ _ _ i.writes c.read_more.new.self.line _ _
          c.in-Ok.ensures.more.one c.in-Ok.ensures.more.read (rw c.reply.ensures at c.in-Ok-put_line.ensures.sent);
      unasked = c.in-Ok.ensures.more.unasked ∙ i.unasked;
      first = c.in-Ok.ensures.more.calm ∙ i.first;
      second = c.in-Ok-put_line.ensures.calm ∙ i.second;
    }
