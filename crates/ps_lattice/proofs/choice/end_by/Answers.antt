use Rattle.std.proofs.Common.{◌≡◌, ◌+◌, ◌-◌, false, arith, subst}
use Rattle.ps_lattice.specs.Inside.Places.{IsStretch}
use Rattle.ps_lattice.proofs.Stretches.{stretch_more}
use Rattle.ps_lattice.proofs.choice.end_by.Goals as goal

-- the last of so many pairs has the option
pub loop-end-preserved : goal.loop-end-preserved
loop-end-preserved c =
    let es = c.args.pairs.now in
    let from = c.args.from in
    let end = c.loop-end.end in
    let step = c.args.step in
    let fits = c.loop-end-test.true in
    let high = c.loop-end.invariant.high in
    let some = c.requires.some in
    let after : (end + (step - 1)) + 1 ≡ end + step = omega (arith, some) in
    subst (λ n. IsStretch es from n) after
    (stretch_more es c.requires.ascending from end (end + (step - 1))
    (record { option = 0; replica = 0; sequence = 0 }, false) c.loop-end.invariant (omega arith) (omega arith)
    c.if-pairs-end.true)
