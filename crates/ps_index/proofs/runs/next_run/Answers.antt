use Rattle.std.proofs.Common.{◌≡◌, ℕ, ◌+◌, ◌<◌, ◌≤◌, ◌∙◌, ◌||◌, ap, arith, inl, inr, sym, take}
use Rattle.std.proofs.lemmas.Bool.{cases_lt}
use Rattle.std.proofs.lemmas.List.{take_all}
use Rattle.std.proofs.lemmas.List.Folds.{list_any_more}
use Rattle.ps_index.specs.Inside.Places.{covered, covers_place}
use Rattle.ps_index.proofs.RunsNearest.{nearest_moves, nearest_stays}
use Rattle.ps_index.proofs.runs.next_run.Goals as goal
use Rattle.ps_index.proofs.runs.next_run.Goals.{then-run-from, else-run-from}

pub loop-rect-preserved : goal.loop-rect-preserved
loop-rect-preserved c =
    let i = c.loop-rect.rect-index in
    let rect = c.rect-item.result in
    let both : (q : ℕ) → covered (take (i + 1) c.args.rects.now) q
    ≡ (covered (take i c.args.rects.now) q || covers_place rect q) =
    λ (q : ℕ). list_any_more (λ r. covers_place r q) c.args.rects.now i rect c.loop-rect-test.true
    ∙ ap (λ r. covered (take i c.args.rects.now) q || covers_place r q) (sym c.rect-item.is) in
    elim c.if-run-from.branch [
      | then-run-from w ↦ rw (w.from-is, w.end-is, w.other-is)
          (nearest_moves _ _ _ both c.args.place _ _ _ _ _ c.loop-rect.invariant c.first_run-run.ensures
          w.if-run-from.true)
      | else-run-from w ↦ rw (w.from-is, w.end-is, w.other-is, w.min-other.ensures)
          (nearest_stays _ _ _ both c.args.place _ _ _ _ _ c.loop-rect.invariant c.first_run-run.ensures
          w.if-run-from.false)
    ]

pub returns-then-from-eq-PLACES : goal.returns-then-from-eq-PLACES
returns-then-from-eq-PLACES c =
    let near = rw (take_all c.loop-rect.rect-index c.args.rects.now c.loop-rect-test.false) at c.loop-rect.invariant in
    record {
      from = near.from;
      to = near.to;
      none_before = near.none_before;
      some = near.some;
      top = near.top;
      all = near.all;
      after = λ lt. absurd (omega (arith, lt, c.if-from-eq-PLACES.true));
    }

pub returns-then-end-other : goal.returns-then-end-other
returns-then-end-other c =
    let near = rw (take_all c.loop-rect.rect-index c.args.rects.now c.loop-rect-test.false) at c.loop-rect.invariant in
    record {
      from = near.from;
      to = near.to;
      none_before = near.none_before;
      some = near.some;
      top = near.top;
      all = near.all;
      after = λ lt. near.apart lt c.if-end-other.true;
    }

pub returns : goal.returns
returns c =
    let near = rw (take_all c.loop-rect.rect-index c.args.rects.now c.loop-rect-test.false) at c.loop-rect.invariant in
    let run = c.run_end.ensures in
    record {
      from = near.from;
      to = near.to;
      none_before = near.none_before;
      some = λ lt. omega (arith, near.some lt, run.from);
      top = run.to;
      all = λ (q : ℕ) (from : c.loop-rect.from ≤ q) (to : q < c.run_end.result).
          elim (cases_lt q c.loop-rect.«end») [
            | inl lt ↦ near.all q from lt
            | inr ge ↦ run.all_before q ge to
          ];
      after = λ _. run.uncovered;
    }
