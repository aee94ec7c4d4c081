use Rattle.std.proofs.Common.{◌≡◌, ◌+◌, ◌<◌, ap, arith, length, set, subst, sym}
use Rattle.ps_grid.specs.declared.size.TheConstants.{CELLS}
use Rattle.ps_wire.specs.Inside.{AreListed, Spends, floor_at}
use Rattle.ps_wire.proofs.SharingLemmas.{set_whole, spend_one, spend_over}
use Rattle.ps_wire.proofs.sharing.spend.Goals as goal

pub returns-in_err-left-clause-none : goal.returns-in_err-left-clause-none
returns-in_err-left-clause-none c = λ _.
    let floors = c.loop-entry.floors in
    let e = c.entry-item.result in
    let at : c.index-at.result ≡ e.0 = c.index-at.ensures.index in
    let inside : e.0 < length floors =
    omega (arith, c.index-at.ensures.in_grid, at, c.loop-entry.invariant.whole) in
    spend_over c.args.cells.now c.loop-entry.entry-index e c.args.floors.now floors c.args.room c.loop-entry.left
    c.loop-entry-test.true c.entry-item.is inside c.loop-entry.invariant.spends
    (omega (arith, c.in_err-left.ensures, ap (floor_at floors) at))

pub loop-entry-preserved : goal.loop-entry-preserved
loop-entry-preserved c =
    let floors = c.loop-entry.floors in
    let e = c.entry-item.result in
    let at : c.index-at.result ≡ e.0 = c.index-at.ensures.index in
    let inside : e.0 < length floors =
    omega (arith, c.index-at.ensures.in_grid, at, c.loop-entry.invariant.whole) in
    let rest = c.in_ok-left.left in
    let so : rest + floor_at floors e.0 ≡ c.loop-entry.left =
    omega (arith, c.in_ok-left.ensures.0, c.in_ok-left.ensures.1, ap (floor_at floors) at) in
    record {
      whole = set_whole floors c.index-at.result 0 CELLS c.loop-entry.invariant.whole;
      spends =
          subst (λ n. Spends (λ listed. AreListed listed c.args.cells.now) c.args.floors.now c.args.room
          (set floors n 0) rest) (sym at)
          (spend_one c.args.cells.now c.loop-entry.entry-index e c.args.floors.now floors c.args.room c.loop-entry.left
          c.loop-entry-test.true c.entry-item.is inside c.loop-entry.invariant.spends rest so);
    }
