use Rattle.std.proofs.Common.{ℕ, List, length, ap, subst, arith}
use Rattle.ps_shown.specs.declared.kept.Kept.{Kept}
use Rattle.ps_shown.specs.Shown.{shown_at}
use Rattle.ps_cells.specs.ChangedCells.{IsChanged}
use Rattle.ps_cells.specs.Inside.Screens.{Differ, ScreenView, before_of, put_back}
use Rattle.ps_cells.proofs.ChangeLists.{changed_of}
use Rattle.ps_cells.proofs.ScreenLemmas.{noted_few}
use Rattle.ps_cells.proofs.screen.Screen.list_changed.Goals as goal

pub list_differing-requires-clause-room : goal.list_differing-requires-clause-room
list_differing-requires-clause-room c =
    let few = noted_few c.self.inside.olds.items c.self.inside.is_put.items c.self.invariant.0 in
    let is = ap length c.deref.ensures.value in
    let room = c.self.invariant.2 in
    omega (arith, few, is, room)

pub returns-clause-changed : goal.returns-clause-changed
returns-clause-changed c =
    let w = shown_at c.self.inside.shown in
    subst (λ (s : ScreenView). IsChanged (before_of s) (shown_at s.kept) c.sort_unstable.new.self.items) c.self.view_is
    (changed_of (put_back c.self.inside.olds.items w) w c.list_differing.new.cells.items c.sort_unstable.new.self.items
    (subst (λ (xs : List (ℕ × Kept)). Differ w (put_back xs w) c.list_differing.new.cells.items) c.deref.ensures.value
    c.list_differing.ensures.differ)
    c.sort_unstable.ensures.permutation c.sort_unstable.ensures.sorted)

pub invariant_of-self : goal.invariant_of-self
invariant_of-self c =
    let few = noted_few c.self.inside.olds.items c.self.inside.is_put.items c.self.invariant.0 in
    let is = ap length c.deref.ensures.value in
    let listed = c.list_differing.ensures.few in
    let more = c.list_differing.ensures.room in
    let room = c.self.invariant.2 in
    let all = c.list_differing.new.cells.ok in
    let sorted = c.sort_unstable.ensures.len in (
      c.self.invariant.0,
      c.self.invariant.1,
      omega (arith, room, more),
      c.self.invariant.3,
      omega (arith, few, is, listed, all, sorted),
    )
