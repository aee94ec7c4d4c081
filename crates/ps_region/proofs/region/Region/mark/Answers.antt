use Rattle.std.proofs.Common.{◌≡◌, ◌≤◌, ℕ, Bool, List, Vec, get_or, arith, length, sym, ap, ◌∙◌, ◌==◌, eqb, not}
use Rattle.std.specs.List.{list_any}
use Rattle.std.proofs.lemmas.List.{with_items_is}
use Rattle.std.specs.Vec.{with_items}
use Rattle.ps_grid.specs.Chains.{In}
use Rattle.ps_grid.specs.declared.size.TheConstants.{CELLS}
use Rattle.ps_grid.proofs.RegionLemmas.{InRegion-touched}
use Rattle.ps_region.specs.Inside.Cells.{Marked}
use Rattle.ps_region.specs.CellSets.{has_cell}
use Rattle.ps_region.proofs.CellListLemmas.{marked_le}
use Rattle.ps_region.proofs.CountLemmas.{and_true_left}
use Rattle.ps_region.proofs.FoundLemmas.{is_found}
use Rattle.ps_region.proofs.GrowthCounts.{counts_by_marks}
use Rattle.ps_region.proofs.QueueStart.{marks_closed, starting}
use Rattle.ps_region.proofs.TouchedLemmas.{formula_cells, not_plain_is}
use Rattle.ps_region.proofs.region.Region.mark.Goals as goal

-- there are no more members than cells
few_members : (marks : List Bool) (members : List ℕ) → Marked marks members → length marks ≡ CELLS
    → length members ≤ CELLS
few_members marks members marked long = omega (arith, marked_le marks members marked, long)

-- a table that was passed as a whole slice: afterwards it has the items of that slice, one for each cell
table : {X Z : Type 0} (v : Vec X Z) (lent new : List X) → length new ≡ length lent → length lent ≡ v.len
    → lent ≡ v.items → length v.items ≡ CELLS → ((with_items v new).items ≡ new) × (length new ≡ CELLS)
table v lent new same whole is size = (with_items_is v new (same ∙ whole), same ∙ (ap length is ∙ size))

pub count_outside-requires-clause-counted : goal.count_outside-requires-clause-counted
count_outside-requires-clause-counted g c =
    counts_by_marks (g.A.After.refers c.args.after.now) (g.A.After.formula c.args.after.now) c.grow.new.marks
    c.grow.new.members.items c.grow.new.left CELLS
    c.grow.ensures.marked c.grow.ensures.counts

pub count_outside-requires-clause-marked : goal.count_outside-requires-clause-marked
count_outside-requires-clause-marked g c = rw c.deref.ensures.value c.grow.ensures.marked

pub count_outside-requires-clause-formula : goal.count_outside-requires-clause-formula
count_outside-requires-clause-formula g c = rw c.deref.ensures.value
    (λ q i. not_plain_is (g.A.After.refers c.args.after.now) (g.A.After.formula c.args.after.now)
    c.note_touched.new.plain c.args.touched.now (g.met.A.After.refers_formula c.args.after.now)
    c.note_touched.ensures.plain q (c.grow.ensures.sound q i))

pub first_level-requires-clause-room : goal.first_level-requires-clause-room
first_level-requires-clause-room g c =
    let few = few_members c.grow.new.marks c.grow.new.members.items c.grow.ensures.marked
    (c.grow.auto.marks ∙ (c.clear.auto.marks ∙ (ap length c.deref_mut-marks.ensures.value
    ∙ c.fill.ensures.length))) in
    rw c.deref-2.ensures.value (omega (arith, few, c.clear-2.ensures.capacity, c.self.invariant.order_room))

pub assign_levels-requires-clause-closed : goal.assign_levels-requires-clause-closed
assign_levels-requires-clause-closed g c =
    marks_closed (g.A.After.refers c.args.after.now) c.args.touched.now c.grow.new.members.items c.grow.new.marks
    c.grow.ensures.marked
    c.grow.ensures.sound c.grow.ensures.complete

pub assign_levels-requires-clause-starting : goal.assign_levels-requires-clause-starting
assign_levels-requires-clause-starting g c =
    let formula = g.A.After.formula c.args.after.now in
    let refers = g.A.After.refers c.args.after.now in
    let members = c.grow.new.members.items in
    let left = c.count_outside.new.left in
    let long : length c.grow.new.marks ≡ CELLS =
    c.grow.auto.marks ∙ (c.clear.auto.marks ∙ (ap length c.deref_mut-marks.ensures.value
    ∙ c.fill.ensures.length)) in
    let size : length left ≡ CELLS =
    c.count_outside.auto.left ∙ (c.grow.auto.left ∙ (ap length c.deref_mut-left.ensures.value
    ∙ c.fill-4.ensures.length)) in
    let same = formula_cells refers formula c.note_touched.new.plain c.args.touched.now members
    (g.met.A.After.refers_formula c.args.after.now) c.note_touched.ensures.plain c.grow.ensures.sound
    (λ q. get_or left q 0 == 0) in
    starting refers formula (has_cell c.args.cyclic.now)
    c.grow.new.marks members left c.first_level.new.level c.first_level.new.order.items CELLS size
    (g.met.A.After.refers_below c.args.after.now)
    (g.met.A.After.refers_formula c.args.after.now)
    (assign_levels-requires-clause-closed g c)
    c.grow.ensures.marked long
    c.count_outside.ensures.counts
    ((rw c.deref-2.ensures.value at c.first_level.ensures.order) ∙ same)
    c.first_level.ensures.level

pub list_held-requires-clause-room : goal.list_held-requires-clause-room
list_held-requires-clause-room g c =
    let few = few_members c.grow.new.marks c.grow.new.members.items c.grow.ensures.marked
    (c.grow.auto.marks ∙ (c.clear.auto.marks ∙ (ap length c.deref_mut-marks.ensures.value
    ∙ c.fill.ensures.length))) in
    rw c.deref-3.ensures.value (omega (arith, few, c.clear-4.ensures.capacity, c.self.invariant.cyclic_room))

pub invariant_of-self : goal.invariant_of-self
invariant_of-self g c =
    let marks = table c.fill.new.table _ _ (c.grow.auto.marks ∙ c.clear.auto.marks)
    c.deref_mut-marks.ensures.len c.deref_mut-marks.ensures.value c.fill.ensures.length in
    let fresh = table c.fill-2.new.table _ _ (c.note_touched.auto.fresh ∙ c.clear.auto.fresh)
    c.deref_mut-fresh.ensures.len c.deref_mut-fresh.ensures.value c.fill-2.ensures.length in
    let plain = table c.fill-3.new.table _ _ (c.note_touched.auto.plain ∙ c.clear.auto.plain)
    c.deref_mut-plain.ensures.len c.deref_mut-plain.ensures.value c.fill-3.ensures.length in
    let left = table c.fill-4.new.table _ _ (c.assign_levels.auto.left ∙ (c.count_outside.auto.left ∙ c.grow.auto.left))
    c.deref_mut-left.ensures.len c.deref_mut-left.ensures.value c.fill-4.ensures.length in
    let level = table c.fill-5.new.table _ _ (c.assign_levels.auto.level ∙ c.first_level.auto.level)
    c.deref_mut-level.ensures.len c.deref_mut-level.ensures.value c.fill-5.ensures.length in
    let sole = table c.fill-6.new.table _ _ c.grow.auto.sole
    c.deref_mut-sole.ensures.len c.deref_mut-sole.ensures.value c.fill-6.ensures.length in
    let cyclic = c.list_held.ensures.room in
    let empty = c.clear-4.ensures.capacity in
    let room = c.self.invariant.cyclic_room in
    let sound : (x : ℕ) → In c.args.touched.now x → In c.grow.new.members.items x =
    λ x t. c.grow.ensures.complete x
    (InRegion-touched (g.A.After.refers c.args.after.now) c.args.touched.now x t) in
    record {
      marks_length = rw marks.0 (omega (arith, marks.1));
      fresh_length = rw fresh.0 (omega (arith, fresh.1));
      plain_length = rw (plain.0, marks.0) (plain.1 ∙ sym marks.1);
      left_length = rw (left.0, marks.0) (left.1 ∙ sym marks.1);
      level_length = rw level.0 (omega (arith, level.1));
      sole_length = rw sole.0 (omega (arith, sole.1));
      marks_room = c.fill.ensures.room;
      fresh_room = c.fill-2.ensures.room;
      plain_room = c.fill-3.ensures.room;
      left_room = c.fill-4.ensures.room;
      level_room = c.fill-5.ensures.room;
      sole_room = c.fill-6.ensures.room;
      marked = rw marks.0 c.grow.ensures.marked;
      fresh_members = rw fresh.0 (λ x t. sound x (sym (c.note_touched.ensures.fresh x) ∙ t));
      plain_members = rw plain.0 (λ x t. sound x (and_true_left (list_any (eqb x) c.args.touched.now)
          (not (g.A.After.formula c.args.after.now x)) (sym (c.note_touched.ensures.plain x) ∙ t)));
      members_room = c.grow.ensures.room;
      order_room = c.assign_levels.ensures.room;
      starts_room = c.assign_levels.ensures.room_starts;
      cyclic_room = omega (arith, cyclic, empty, room);
      levels = rw level.0 c.assign_levels.ensures.levels;
    }

pub returns : goal.returns
returns g c =
    let marks = table c.fill.new.table _ _ (c.grow.auto.marks ∙ c.clear.auto.marks)
    c.deref_mut-marks.ensures.len c.deref_mut-marks.ensures.value c.fill.ensures.length in
    let plain = table c.fill-3.new.table _ _ (c.note_touched.auto.plain ∙ c.clear.auto.plain)
    c.deref_mut-plain.ensures.len c.deref_mut-plain.ensures.value c.fill-3.ensures.length in
    let left = table c.fill-4.new.table _ _ (c.assign_levels.auto.left ∙ (c.count_outside.auto.left ∙ c.grow.auto.left))
    c.deref_mut-left.ensures.len c.deref_mut-left.ensures.value c.fill-4.ensures.length in
    record {
      found = rw (left.0, plain.0)
          (is_found (g.A.After.refers c.args.after.now) (g.A.After.formula c.args.after.now) (has_cell c.args.cyclic.now)
          c.args.touched.now
          c.grow.new.members.items c.grow.new.marks CELLS
          (g.met.A.After.refers_below c.args.after.now)
          (g.met.A.After.below c.args.after.now)
          (g.met.A.After.refers_formula c.args.after.now)
          c.requires.outside_yes c.requires.outside_no c.grow.ensures.marked marks.1
          c.grow.ensures.sound c.grow.ensures.complete
          c.assign_levels.new.left c.assign_levels.new.level c.assign_levels.new.order.items
          c.assign_levels.new.starts.items
          c.list_held.new.cyclic.items
          c.note_touched.new.plain c.note_touched.ensures.plain
          c.assign_levels.ensures.ended c.assign_levels.ensures.levels
          c.assign_levels.ensures.whole
          ((rw c.deref-3.ensures.value at c.list_held.ensures.cyclic)
          ∙ formula_cells (g.A.After.refers c.args.after.now) (g.A.After.formula c.args.after.now)
          c.note_touched.new.plain c.args.touched.now c.grow.new.members.items
          (g.met.A.After.refers_formula c.args.after.now) c.note_touched.ensures.plain c.grow.ensures.sound
          (λ q. not (get_or c.assign_levels.new.left q 0 == 0))));
    }
