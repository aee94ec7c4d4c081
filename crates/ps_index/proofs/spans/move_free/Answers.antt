use Rattle.ps_index.proofs.PartedLists.{moved_down, moved_up}
use Rattle.std.proofs.Common.{arith}
use Rattle.ps_index.proofs.spans.move_free.Goals as goal

pub returns-then-to-front-clause-same : goal.returns-then-to-front-clause-same
returns-then-to-front-clause-same c =
    moved_down c.args.places.now.items c.copy_within.new.self.items c.args.front c.args.free c.args.to c.requires.within
    c.if-to-front.true (omega (arith, c.copy_within.ensures.len, c.copy_within.new.self.ok, c.args.places.now.ok))
    c.copy_within.ensures.by_index.0
    c.copy_within.ensures.by_index.1 c.copy_within.ensures.by_index.2

pub returns-else-to-front-clause-same : goal.returns-else-to-front-clause-same
returns-else-to-front-clause-same c =
    let w = c.copy_within-else-to-front in
    moved_up c.args.places.now.items w.new.self.items c.args.front c.args.free c.args.to (omega arith)
    c.requires.to (omega (arith, w.ensures.len, w.new.self.ok, c.args.places.now.ok)) w.ensures.by_index.0 w.ensures.by_index.1 w.ensures.by_index.2
