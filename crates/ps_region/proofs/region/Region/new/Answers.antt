use Rattle.std.proofs.Common.{◌≡◌, false, true, arith, refl}
use Rattle.ps_region.proofs.QueueStart.{Marked-none, Levels-none}
use Rattle.ps_region.proofs.region.Region.new.Goals as goal

pub invariant_of-result : goal.invariant_of-result
invariant_of-result c =
    record {
      marks_length = rw c.in_ok-marks.ensures.items (omega arith);
      fresh_length = rw c.in_ok-fresh.ensures.items (omega arith);
      plain_length = rw (c.in_ok-plain.ensures.items, c.in_ok-marks.ensures.items) refl;
      left_length = rw (c.in_ok-left.ensures.items, c.in_ok-marks.ensures.items) refl;
      level_length = rw c.in_ok-level.ensures.items (omega arith);
      sole_length = rw c.in_ok-sole.ensures.items (omega arith);
      marks_room = omega (arith, c.in_ok-marks.ensures.exact);
      fresh_room = omega (arith, c.in_ok-fresh.ensures.exact);
      plain_room = omega (arith, c.in_ok-plain.ensures.exact);
      left_room = omega (arith, c.in_ok-left.ensures.exact);
      level_room = omega (arith, c.in_ok-level.ensures.exact);
      sole_room = omega (arith, c.in_ok-sole.ensures.exact);
      marked = rw (c.in_ok-marks.ensures.items, c.in_ok-members.ensures.items) Marked-none;
      fresh_members = λ q t. absurd (let n : false ≡ true = rw c.in_ok-fresh.ensures.items at t in cc);
      plain_members = λ q t. absurd (let n : false ≡ true = rw c.in_ok-plain.ensures.items at t in cc);
      members_room = omega (arith, c.in_ok-members.ensures.exact);
      order_room = omega (arith, c.in_ok-order.ensures.exact);
      starts_room = omega (arith, c.in_ok-starts.ensures.exact);
      cyclic_room = omega (arith, c.in_ok-cyclic.ensures.exact);
      levels = rw c.in_ok-starts.ensures.items (Levels-none c.in_ok-order.order.items c.in_ok-level.level.items);
    }
