use Rattle.std.proofs.Common.{◌≡◌, ℕ, true, map, Option, inr, sym, ap, ◌∙◌}
use Rattle.std.proofs.Common.{subst}
use Rattle.std.proofs.lemmas.List.{map-id}
use Rattle.std.proofs.lemmas.Iterator.Consumers.{YieldsList-end}
use Rattle.std.proofs.lemmas.Iterator.Adapters.{YieldsList-from_vec}
use Rattle.std.specs.List.{list_any}
use Rattle.std.specs.Option.{SomeIff}
use Rattle.ps_content.specs.declared.content.Content.{Content}
use Rattle.ps_delta.specs.State.{State, state_at}
use Rattle.ps_delta.specs.Deltas.{Entries, IsDelta}
use Rattle.ps_sheet.specs.Edits.{assigned, is_clock_full}
use Rattle.ps_sheet.proofs.BatchDeltas.{any_full_refuses, batch_is_delta}
use Rattle.ps_sheet.proofs.edit_delta.all_assigned.Goals as goal

pub unreachable-requires : goal.unreachable-requires
unreachable-requires c =
    let i = c.into_iter-cell-iterator.ensures.into_iter_gives in
    let e = YieldsList-end
    (YieldsList-from_vec c.args.cells.items i.0
    (i.1 ∙ c.args.cells.ok.0)) c.loop-cell.yielded c.loop-cell.cell-iterator c.loop-cell.yielded_by
    c.next.result c.next.new.self c.in-None.is c.next.ensures.steps in
    let all : c.loop-cell.yielded ≡ c.args.cells.items = sym (map-id c.loop-cell.yielded) ∙ e.0 in
    let es : Entries = c.loop-cell.entries.items in
    subst (λ (o : Option Entries). SomeIff o (IsDelta es) es) c.in-None-2.is c.in_ok-delta.ensures.made
    (subst IsDelta (sym (c.loop-cell.invariant.entries
    ∙ ap (map (λ (q : ℕ × Content). (q.0, assigned c.args.replica (state_at c.args.grid.now q.0) q.1))) all))
    (batch_is_delta c.args.replica (state_at c.args.grid.now) c.args.cells.items c.requires.batch))

pub returns-then-is_any_full : goal.returns-then-is_any_full
returns-then-is_any_full c =
    let s : State = state_at c.args.grid.now in
    let full : list_any (λ (e : ℕ × Content). is_clock_full (s e.0)) c.args.cells.items ≡ true =
    ap (list_any (λ (e : ℕ × Content). is_clock_full (s e.0))) (sym c.deref.ensures.value)
    ∙ (sym c.is_any_full.ensures ∙ c.if-is_any_full.true) in
    record {
      made = tt;
      delta = tt;
      refused = inr (any_full_refuses c.args.replica s c.args.cells.items full);
      asked = λ is. absurd (cc);
    }
