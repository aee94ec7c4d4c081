use Rattle.std.proofs.Common.{◌++◌, ◌-◌, ◌-ℤ◌, refl, arith}
use Rattle.std.proofs.lemmas.Int.{ints}
use Rattle.ps_eval.specs.Items.{numbers_in}
use Rattle.ps_eval.proofs.SummaryLemmas.{counted_among, known-less, total_bounded}
use Rattle.ps_eval.proofs.summary.Summary.leave_out.Goals as goal

pub invariant_of-self : goal.invariant_of-self
invariant_of-self c =
    let n = c.args.number in
    let front = c.requires.among.0 in
    let back = c.requires.among.1 in
    let s = c.requires.among.2 in
    let less = known-less front back n (c.args.self.now.count - 1) (c.args.self.now.sum -ℤ n) s
    c.requires.within.0 c.requires.within.1 (omega (arith, s.counted, counted_among front n back)) refl in
    record {
      bounded = omega (arith, ints, less.summed, less.counted, total_bounded (numbers_in (front ++ back)) less.ranged);
    }

pub returns-clause-items : goal.returns-clause-items
returns-clause-items c = λ front back s.
    known-less front back c.args.number _ _ s c.requires.within.0 c.requires.within.1
    (omega (arith, s.counted, counted_among front c.args.number back)) (omega (arith, ints))
