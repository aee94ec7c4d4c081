use Rattle.std.proofs.Common.{ℕ, Bor, ◌≤◌, sym, subst, arith}
use Rattle.std.proofs.lemmas.List.{length-map}
use Rattle.std.specs.List.{All}
use Rattle.ps_delta.specs.declared.cell_state.CellState.{CellState}
use Rattle.ps_delta.specs.Inside.Joining.{IsEntry}
use Rattle.ps_delta.proofs.JoiningLemmas.{added_none, added_more, item_mapped}
use Rattle.ps_delta.proofs.joining.joined_in_order.Goals as goal

pub loop-entry-init : goal.loop-entry-init
loop-entry-init c = rw c.in_ok-cells.ensures.items (added_none _)

pub add-requires-clause-entry : goal.add-requires-clause-entry
add-requires-clause-entry c =
    subst IsEntry (sym (item_mapped (λ (e : Bor (ℕ × CellState)). e.now) c.args.entries.now c.loop-entry.entry-index
    c.entry-item.result c.entry-item.is))
    (c.requires.entries c.loop-entry.entry-index c.entry-item.result.now (rw length-map c.loop-entry-test.true))

pub add-requires-clause-last : goal.add-requires-clause-last
add-requires-clause-last c =
    subst (λ (b : ℕ × CellState). All (λ (e : ℕ × CellState). e.0 ≤ b.0) c.loop-entry.cells.items)
    (sym (item_mapped (λ (e : Bor (ℕ × CellState)). e.now) c.args.entries.now c.loop-entry.entry-index
    c.entry-item.result c.entry-item.is))
    (c.loop-entry.invariant.before c.loop-entry.entry-index c.entry-item.result.now (omega arith)
    (rw length-map c.loop-entry-test.true))

pub loop-entry-preserved : goal.loop-entry-preserved
loop-entry-preserved c =
    added_more _ _ _ _ _ c.requires.order (rw length-map c.loop-entry-test.true)
    (item_mapped (λ (e : Bor (ℕ × CellState)). e.now) c.args.entries.now c.loop-entry.entry-index
    c.entry-item.result c.entry-item.is) c.in_ok-add.ensures.joined
    c.in_ok-add.ensures.cells c.in_ok-add.ensures.last c.in_ok-add.ensures.some c.loop-entry.invariant
