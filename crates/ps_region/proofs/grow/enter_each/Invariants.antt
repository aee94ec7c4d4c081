use Rattle.std.proofs.Common.{◌≡◌, ◌≤◌, ◌+◌, ◌&&◌, ℕ, length, take}
use Rattle.std.proofs.Common.{vec_capacity}
use Rattle.std.specs.List.{list_any}
use Rattle.std.specs.Prelude.{nat_eq}
use Rattle.ps_grid.specs.declared.size.TheConstants.{CELLS}
use Rattle.ps_region.specs.Inside.Cells.{HasSole, Marked, with_all}
use Rattle.ps_region.specs.Inside.Counts.{as_one, counted_in}
use Rattle.ps_region.specs.Listed.{listed}
use Rattle.ps_region.proofs.grow.enter_each.Given as goal

abbrev pub invariant-loop-e : goal.invariant-loop-e
invariant-loop-e g l = record {
  can_next : (goal.iterator-loop-e g).can_next l.e-iterator;
  is_finite : (goal.iterator-loop-e g).is_finite l.e-iterator;
  members : l.members.items ≡ with_all l.initial.members.items
      (take (length l.yielded) (listed l.change.index.now l.d));
  marked : Marked l.marks l.members.items;
  room : CELLS ≤ vec_capacity l.members;
  counts : (q : ℕ) → counted_in l.members.items l.left q ≡ counted_in l.initial.members.items l.initial.left q
      + as_one (list_any (nat_eq q) (take (length l.yielded) (listed l.change.index.now l.d))
      && (g.A.After.formula l.change.after.now l.d && g.A.After.refers l.change.after.now q l.d));
  noted : HasSole (take (length l.yielded) (listed l.change.index.now l.d)) l.noted;
}
