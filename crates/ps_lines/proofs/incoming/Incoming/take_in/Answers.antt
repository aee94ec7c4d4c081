use Rattle.std.proofs.Common.{◌-◌, ◌≤◌, length, take, drop, arith}
use Rattle.std.proofs.lemmas.List.{length-take}
use Rattle.ps_lines.proofs.IncomingLemmas.{consumes_part}
use Rattle.ps_lines.proofs.incoming.Incoming.take_in.Goals as goal

pub returns-clause-fed : goal.returns-clause-fed
returns-clause-fed g c =
    let self = c.args.self.now in
    let taken = c.feed-fed.result.taken in
    let fed = rw c.deref.ensures.value at c.feed-fed.ensures.fed in
    let within = rw c.deref.ensures.value at c.feed-fed.ensures.within in
    let short : length (take (self.end - self.start) (drop self.start self.piece.items)) ≤ self.end - self.start =
    rw length-take (omega arith) in
    (_, consumes_part self.piece.items self.start self.end taken _ (omega (arith, within, short)), fed)
