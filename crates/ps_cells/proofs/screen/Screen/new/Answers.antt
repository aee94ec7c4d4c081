use Rattle.std.proofs.Common.{ap, length, arith}
use Rattle.ps_cells.proofs.ScreenLemmas.{noted_none}
use Rattle.ps_cells.proofs.screen.Screen.new.Goals as goal

pub invariant_of-result : goal.invariant_of-result
invariant_of-result c =
    let room = c.in_ok-olds.ensures.capacity in (
      noted_none c.in_ok-olds.olds.items c.in_ok-is_put.is_put.items c.in_ok-olds.ensures.items
          c.in_ok-is_put.ensures.length c.in_ok-is_put.ensures.off,
      omega (arith, room),
      (let more = c.in_ok-cells.ensures.capacity in omega (arith, more)),
      (let more = c.in_ok-changes.ensures.capacity in omega (arith, more)),
      (let none = ap length c.in_ok-cells.ensures.items in omega (arith, none)),
    )
