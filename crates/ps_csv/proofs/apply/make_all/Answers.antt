use Rattle.std.proofs.Common.{◌∷◌, ◌++◌, ◌∙◌, [], List, refl, ap, sym, subst, arith, inl, inr, ℕ}
use Rattle.std.proofs.lemmas.List.{append-nil}
use Rattle.std.specs.Vec.Iter.{into_iter_items}
use Rattle.ps_delta.specs.Deltas.{Entries}
use Rattle.ps_csv.specs.Imports.{Assigned}
use Rattle.ps_csv.specs.Inside.{cells_of_each}
use Rattle.ps_csv.proofs.ApplyLemmas.{IsApplying, applying_from, applying_goes_on, applying_next}
use Rattle.ps_csv.proofs.ApplyLemmas.{next_ascends, next_is_free, stopped_at}
use Rattle.ps_csv.proofs.apply.make_all.Goals as goal

pub loop-cells-init : goal.loop-cells-init
loop-cells-init c = (
  tt,
  tt,
  subst (λ (k : List Entries). IsApplying c.args.sheet.now.replica c.args.sheet.now.history
      (cells_of_each c.args.batches.items) 0 (cells_of_each (into_iter_items c.into_iter-cells-iterator.result)) k)
      (sym (ap (λ (ds : List Entries). c.args.sheet.now.history ++ ds) c.requires.none
      ∙ append-nil c.args.sheet.now.history))
      (applying_from c.args.sheet.now.replica c.args.sheet.now.history (cells_of_each c.args.batches.items)
      c.args.batches.items
      (into_iter_items c.into_iter-cells-iterator.result) c.requires.said.0
      c.into_iter-cells-iterator.ensures.into_iter_gives.0 refl
      c.requires.said.1),
  c.requires.follow,
  λ none. c.requires.none,
)

pub assign-requires-clause-ascending : goal.assign-requires-clause-ascending
assign-requires-clause-ascending c =
    next_ascends _ _ _ _ _ _ c.in-Some.cells.items
    (applying_next _ _ _ _ _ _ _ c.in-Some.cells c.in-Some.ensures.steps.0 c.loop-cells.invariant.2)

pub returns-in-Err-clause-memory : goal.returns-in-Err-clause-memory
returns-in-Err-clause-memory c =
    elim c.in-Err.ensures.refused [
      | inl memory ↦ (memory, refl)
      | inr full ↦ absurd (next_is_free _ _ _ _ _ _ _ c.in-Some.cells.items c.in-Err.refusal
          (applying_next _ _ _ _ _ _ _ c.in-Some.cells c.in-Some.ensures.steps.0 c.loop-cells.invariant.2)
          (full _ c.loop-cells.invariant.3))
    ]

pub returns-in-Err-clause-stopped : goal.returns-in-Err-clause-stopped
returns-in-Err-clause-stopped c =
    stopped_at _ _ _ _ _ _ _ _ c.loop-cells.invariant.2 c.in-Err.ensures.kept c.count_of-applied.ensures

pub loop-cells-preserved : goal.loop-cells-preserved
loop-cells-preserved c =
    let inv = c.loop-cells.invariant in (
      tt,
      tt,
      applying_goes_on _ _ _ _ _ _ _ c.in-Some.cells.items
          (applying_next _ _ _ _ _ _ _ c.in-Some.cells c.in-Some.ensures.steps.0 inv.2)
          (subst (λ (q : ℕ). Assigned q (c.args.sheet.now.history ++ c.loop-cells.arrivals.deltas)
          (c.in-Some.cells.items ∷ []) (c.args.sheet.now.history ++ c.assign.new.arrivals.deltas))
          c.replica.ensures.replica (c.in-Ok.ensures.assigned _ inv.3)),
      c.in-Ok.ensures.follow _ inv.3,
      λ e. absurd (omega (arith, e)),
    )
