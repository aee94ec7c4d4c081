use Rattle.std.proofs.Common.{rules, sym, arith}
use Rattle.ps_lattice.proofs.Rising.{adjacent_sorted, not_sorted}
use Rattle.ps_lattice.proofs.entries.is_ascending.Goals as goal

-- two neighbors are out of order
pub returns-then-not-is_lt : goal.returns-then-not-is_lt
returns-then-not-is_lt g c =
    not_sorted g.K.Ord.cmp g.met.K.Ord.total c.args.entries.now c.loop-i.i c.index-entries-i.result
    c.index-entries-i-in-loop-i.result (omega arith)
    (omega arith) c.index-entries-i.is c.index-entries-i-in-loop-i.is (search rules)

-- all neighbors are in order
pub returns : goal.returns
returns g c =
    sym (adjacent_sorted g.K.Ord.cmp g.met.K.Ord.total c.args.entries.now
    (λ k d within. c.loop-i.invariant k d (omega arith)))
