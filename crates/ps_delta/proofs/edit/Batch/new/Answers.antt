use Rattle.std.proofs.Common.{◌≡◌, map as each, length, sym, ap, refl, ◌∙◌, true≢false, arith}
use Rattle.std.specs.FinMap as map
use Rattle.std.specs.Ordering.{nat_cmp}
use Rattle.std.proofs.lemmas.Grind.{common_steps}
use Rattle.ps_delta.proofs.CellLists.{rising_from_sorted, sorted_from_rising, rising_from_increasing}
use Rattle.ps_delta.proofs.CellLists.{increasing_from_rising}
use Rattle.ps_delta.proofs.edit.Batch.new.Goals as goal
use Rattle.ps_delta.proofs.edit.Batch.new.Goals.{then-is_empty-via-then-is_empty}
use Rattle.ps_delta.proofs.edit.Batch.new.Goals.{then-is_empty-via-else-is_empty+then-not-is_ascending}

pub returns-then-is_empty : goal.returns-then-is_empty
returns-then-is_empty c batch =
    elim c.then-is_empty.branch [
      | then-is_empty-via-then-is_empty w ↦ (
          let none : length c.args.cells.items ≡ 0 =
          let e = sym c.is_empty.ensures ∙ w.if-is_empty.true in grind (arith, common_steps) in
          omega (arith, none, batch.some))
      | then-is_empty-via-else-is_empty+then-not-is_ascending w ↦ absurd (true≢false
          (sym (sorted_from_rising 0 c.args.cells.items
          (rising_from_increasing 0 (each (λ e. e.0) c.args.cells.items) batch.ascending (λ _. omega arith)))
          ∙ (ap (map.is_sorted nat_cmp) (sym w.deref.ensures.value) ∙ (sym w.is_ascending.ensures
          ∙ w.if-not-is_ascending.true))))
    ]

pub invariant_of-result : goal.invariant_of-result
invariant_of-result c = record {
  some = let e = sym c.is_empty.ensures ∙ c.if-is_empty.false in grind (arith, common_steps);
  ascending = increasing_from_rising 0 (each (λ e. e.0) c.args.cells.items) (rising_from_sorted c.args.cells.items
      (ap (map.is_sorted nat_cmp) (sym c.deref.ensures.value) ∙ (sym c.is_ascending.ensures
      ∙ c.if-not-is_ascending.false)));
}

pub returns : goal.returns
returns c = (invariant_of-result c, refl)
