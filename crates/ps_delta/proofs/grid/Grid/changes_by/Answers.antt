use Rattle.std.proofs.Common.{sym, ap, ◌∙◌, refl, true≢false}
use Rattle.std.proofs.lemmas.List.{take_all}
use Rattle.ps_delta.specs.State.{State}
use Rattle.ps_delta.proofs.ChangeLemmas.{listed_none, listed-same, listed-more, changes_from_listed}
use Rattle.ps_delta.proofs.ChangeLemmas.{room_kept, room_more, room_none}
use Rattle.ps_delta.proofs.WalkLemmas.{walk-in_grid}
use Rattle.ps_delta.proofs.grid.Grid.changes_by.Goals.{then-not-below+in_ok-state+in_ok-push, else-not-below}
use Rattle.ps_delta.proofs.grid.Grid.changes_by.Goals as goal

pub loop-part-init : goal.loop-part-init
loop-part-init c = rw (c.reserve.ensures.items, c.clear.ensures.items) record {
  same = refl;
  listed = listed_none _;
  room = room_none _;
}

pub loop-part-preserved : goal.loop-part-preserved
loop-part-preserved c =
    let same = c.in_ok-make_place.ensures.same ∙ c.loop-part.invariant.same in
    let here = c.at-here.ensures.value ∙ ap (λ (s : State). s c.part-item.result.0) same in
    let room = room_kept _ _ _ c.in_ok-make_place.ensures.places c.loop-part.invariant.room in
    elim c.if-not-below.branch [
      | then-not-below+in_ok-state+in_ok-push w ↦
          rw (w.list-is, w.in_ok-push.ensures.items, w.in_ok-state.ensures.ok) record {
            same = same;
            listed = listed-more _ _ _ _ _ c.parts-parts.ensures.delta c.loop-part-test.true c.part-item.is
                here _ (λ h. true≢false (sym (c.below.ensures.1 h) ∙ w.if-not-below.true))
                (walk-in_grid _ _ _ c.loop-part-test.true c.part-item.is c.parts-parts.ensures.in_grid)
                c.loop-part.invariant.listed;
            room = room_more _ _ _ room c.in_ok-make_place.ensures.place;
          }
      | else-not-below w ↦ rw w.list-is record {
        same = same;
        listed = listed-same _ _ _ _ _ c.parts-parts.ensures.delta c.loop-part-test.true c.part-item.is
            here _ (c.below.ensures.0 w.if-not-below.false) c.loop-part.invariant.listed;
        room = room;
      }
    ]

pub returns-clause-changes : goal.returns-clause-changes
returns-clause-changes c =
    changes_from_listed _ _ _
    (rw (
      take_all c.loop-part.part-index c.parts-parts.result.now c.loop-part-test.false,
      c.parts-parts.ensures.value,
    ) at c.loop-part.invariant.listed)
