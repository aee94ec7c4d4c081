use Rattle.std.proofs.Common.{◌≡◌, ◌+◌, ◌≤◌, ◌<◌, arith, ap, length, set, subst, sym, take}
use Rattle.std.proofs.lemmas.List.{take_all}
use Rattle.ps_grid.specs.declared.size.TheConstants.{CELLS}
use Rattle.ps_wire.specs.Inside.{AreAbove, floor_at}
use Rattle.ps_wire.proofs.SharingLemmas.{above_more, lower_set, set_whole}
use Rattle.ps_wire.proofs.sharing.lower.Goals as goal

pub loop-entry-preserved : goal.loop-entry-preserved
loop-entry-preserved c =
    let floors = c.loop-entry.floors in
    let e = c.entry-item.result in
    let new = c.min.result in
    let at : c.index-at.result ≡ e.0 = c.index-at.ensures.index in
    let inside : e.0 < length floors =
    omega (arith, c.index-at.ensures.in_grid, at, c.loop-entry.invariant.whole) in
    let lower : new ≤ floor_at floors e.0 = omega (arith, c.min.ensures, ap (floor_at floors) at) in
    let above = above_more floors c.args.cells.now c.loop-entry.entry-index new e c.loop-entry-test.true c.entry-item.is
    inside lower (omega (arith, c.min.ensures, c.cell_floor.ensures)) c.loop-entry.invariant.above in
    record {
      whole = set_whole floors c.index-at.result new CELLS c.loop-entry.invariant.whole;
      above =
          subst (λ n. AreAbove (set floors n new) (take (c.loop-entry.entry-index + 1) c.args.cells.now)) (sym at)
          above;
      lower = λ q.
          omega (
            arith,
            c.loop-entry.invariant.lower q,
            lower_set floors e.0 new inside lower q,
            ap (λ n. floor_at (set floors n new) q) at,
          );
    }

pub returns-clause-above : goal.returns-clause-above
returns-clause-above c =
    subst (AreAbove c.loop-entry.floors) (take_all c.loop-entry.entry-index c.args.cells.now c.loop-entry-test.false)
    c.loop-entry.invariant.above
