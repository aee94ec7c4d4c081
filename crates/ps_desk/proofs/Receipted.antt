-- What a receipt says stays true if less of the list had been seen before.
use Rattle.std.proofs.Common.{◌≡◌, ℕ, Bool, true, false, List, [], ◌∷◌, ◌++◌, length, sym, ap, ◌∙◌}
use Rattle.std.proofs.Common.{◌+◌, ◌⊎◌, inl, subst, refl, Result, Ok, ⊎_elim, arith, length-append}
use Rattle.std.specs.Prelude.{IsOk, MatchBool, if◌then◌else◌}
use mathlib.Core.List.{IsPrefix}
use Rattle.ps_grid.specs.declared.refusal.Refusal.{Refusal}
use Rattle.ps_grid.specs.declared.refusal.Refusal.TheVariants.{Memory}
use Rattle.ps_delta.specs.State.{State, IsBelow}
use Rattle.ps_delta.specs.Deltas.{Entries, IsDelta, joined_history, state_of}
use Rattle.ps_delta.specs.declared.edit.Change.{Change}
use Rattle.ps_delta.specs.declared.edit.Change.TheVariants.{Delta as Given, Edit as Asked, Merge as Merged}
use Rattle.ps_delta.specs.declared.edit.Edit.{Edit}
use Rattle.ps_sheet.specs.Edits.{EditsAreFresh, delta_of_edit}
use Rattle.ps_sheet.specs.Prepared.{IsDeltaOf, IsRefusedBy, IsToAppend, PreparedView, history_after}
use Rattle.ps_sheet.specs.Staging.{IsWorkedOut}
use Rattle.ps_face.specs.declared.patch.Note.{Note}
use Rattle.ps_face.specs.Legal.{IsLegal, history_of}
use Rattle.ps_face.proofs.Beginnings.{begins_itself, begins_trans}
use Rattle.ps_desk.specs.Passes.{PassView}
use Rattle.ps_desk.specs.Patches.{IsNoted}
use Rattle.ps_desk.specs.Receipts.{IsAppended, IsIncluded, IsReceipt, Made, ReceiptView, Took, Unmade}

on_both : (b : Bool) (P Q R S : Type 0) → (P → R) → (Q → S) → MatchBool b P Q → MatchBool b R S
on_both true P Q R S f g m = f m
on_both false P Q R S f g m = g m

-- a receipt over `mid` is one over `seen`, a beginning of `mid`, and with a weaker claim about the delta
tells_more : (M N : State → Entries → Type 0) (h : List Entries) (seen mid now : List Note) (seat : ℕ) (r : ReceiptView)
    → ((s : State) (d : Entries) → M s d → N s d) → IsPrefix seen mid → IsReceipt M h mid now seat r
    → IsReceipt N h seen now seat r
tells_more M N h seen mid now seat r weaker later t =
    on_both r.fresh (IsAppended M h mid now seat r) (IsIncluded M h now r)
    (IsAppended N h seen now seat r) (IsIncluded N h now r)
    (λ a. record {
      before = a.before;
      patch = a.patch;
      last = a.last;
      later = begins_trans seen mid a.before later a.later;
      number = a.number;
      numbered = a.numbered;
      delta = a.delta;
      owner = a.owner;
      made = weaker (joined_history (history_of h a.before)) r.delta a.made;
    })
    (λ a. record {
      number = a.number;
      below = a.below;
      made = weaker (joined_history (history_of h now)) r.delta a.made;
    })
    t

-- the delta of a change that isn't fresh is below the state
below_state : (p : PreparedView) → IsWorkedOut p → p.fresh ≡ false
    → IsBelow (state_of p.delta) (joined_history p.history)
below_state p is idle =
    ⊎_elim (λ t. t.0) (λ t. absurd (let f : false ≡ true = sym idle ∙ is.fresh.1 t.0 in cc)) is.takes

pub history_kept : (p : PreparedView) → p.fresh ≡ false → history_after p ≡ p.history
history_kept p idle = ap (λ b. if b then (p.history ++ p.delta ∷ []) else p.history) idle

-- what a fresh receipt says
pub tells_appended : (h : List Entries) (p : PreparedView) (seen now : List Note) (seat : ℕ) (r : ReceiptView)
    → IsWorkedOut p → p.fresh ≡ true → p.history ≡ history_of h seen → IsNoted p seat seen now
    → r.number ≡ p.report.version → r.delta ≡ p.delta
    → IsAppended (λ s d. (s ≡ joined_history p.history) × (d ≡ p.delta)) h seen now seat r
tells_appended h p seen now seat r is fresh history noted number delta = record {
  before = seen;
  patch = noted.patch;
  last = noted.last;
  later = begins_itself seen;
  number = omega (
    arith,
    number,
    is.version,
    ap (λ b. length (if b then (p.history ++ p.delta ∷ []) else p.history)) fresh,
    length-append p.history (p.delta ∷ []),
    ap length history,
  );
  numbered = noted.number ∙ sym number;
  delta = noted.delta ∙ sym delta;
  owner = noted.owner;
  made = (ap joined_history (sym history), delta);
}

-- what a receipt that isn't fresh says
pub tells_included : (h : List Entries) (p : PreparedView) (seen : List Note) (seat : ℕ) (r : ReceiptView)
    → IsWorkedOut p → p.fresh ≡ false → p.history ≡ history_of h seen → r.number ≡ p.report.version
    → r.delta ≡ p.delta → r.fresh ≡ false
    → IsReceipt (λ s d. (s ≡ joined_history p.history) × (d ≡ p.delta)) h seen seen seat r
tells_included h p seen seat r is idle history number delta old =
    let Made : State → Entries → Type 0 = λ s d. (s ≡ joined_history p.history) × (d ≡ p.delta) in
    subst (λ b. MatchBool b (IsAppended Made h seen seen seat r) (IsIncluded Made h seen r)) (sym old) (record {
      number = number ∙ is.version ∙ ap length (history_kept p idle) ∙ ap length history;
      below = subst (λ (z : Entries × List Entries). IsBelow (state_of z.0) (joined_history z.1))
          (λ i. (sym delta i, history i)) (below_state p is idle);
      made = (ap joined_history (sym history), delta);
    })

-- a pass that catches up with a list has seen all that it had seen, and keeps its slot
module _ (list : List Note) (old new : PassView) where
  pub caught_later : IsPrefix old.list list → new ≡ record old { list = list } → IsPrefix old.list new.list
  caught_later later is = subst (IsPrefix old.list) (sym (ap (λ (q : PassView). q.list) is)) later

  pub caught_seat : new ≡ record old { list = list } → new.seat ≡ old.seat
  caught_seat is = ap (λ (q : PassView). q.seat) is

-- `Took` holds for a pass that catches up with a legal list
pub took_caught : (h : List Entries) (old new : PassView) (list : List Note) → IsPrefix old.list list
    → new ≡ record old { list = list } → IsLegal h list → Took h old new
took_caught h old new list later is legal = record {
  later = caught_later list old new later is;
  legal = subst (λ (l : List Note). IsLegal h l) (sym (ap (λ (q : PassView). q.list) is)) legal;
  same = (caught_seat list old new is, ap (λ (q : PassView). q.enters) is);
}

-- .. and then sees more of the list
pub took_more : (h : List Entries) (old mid new : PassView) → Took h old mid → IsPrefix mid.list new.list
    → IsLegal h new.list → (new.seat ≡ mid.seat) × (new.enters ≡ mid.enters) → Took h old new
took_more h old mid new took later legal same = record {
  later = begins_trans old.list mid.list new.list took.later later;
  legal = legal;
  same = (same.0 ∙ took.same.0, same.1 ∙ took.same.1);
}

-- what the receipt of a prepared change says holds for the change
pub made_change : {X : Type 0} (tells : X → Entries → Type 0) (r : ℕ) (h : List Entries) (change : Change)
    (p : PreparedView) (number : ℕ) (enclosed : X) (fresh : Bool) (old mid new : PassView)
    → IsPrefix old.list mid.list → mid.seat ≡ old.seat → mid.appended ≡ old.appended → IsDelta p.delta
    → tells enclosed p.delta → IsDeltaOf r (joined_history p.history) change p.delta
    → IsReceipt (λ s d. (s ≡ joined_history p.history) × (d ≡ p.delta)) h mid.list new.list mid.seat
    (record { number = number; delta = p.delta; fresh = fresh })
    → new.appended ≡ mid.appended + (if fresh then 1 else 0)
    → Made tells r h change old new number enclosed fresh
made_change tells r h change p number enclosed fresh old mid new later seat count is encloses made told counted =
    let M : State → Entries → Type 0 = λ s d. (s ≡ joined_history p.history) × (d ≡ p.delta) in
    let N : State → Entries → Type 0 = λ s d. IsDeltaOf r s change d in
    let receipt : ReceiptView = record { number = number; delta = p.delta; fresh = fresh } in
    record {
      delta = p.delta;
      is_delta = is;
      encloses = encloses;
      stands = tells_more M N h old.list mid.list new.list old.seat receipt
          (λ s d m. subst (λ (z : State × Entries). IsDeltaOf r z.0 change z.1) (λ i. (sym m.0 i, sym m.1 i)) made)
          later (subst (λ n. IsReceipt M h mid.list new.list n receipt) seat told);
      counted = counted ∙ ap (λ n. n + (if fresh then 1 else 0)) count;
    }

-- a change whose delta isn't below the state was to be appended
to_append : (r : ℕ) (s : State) (change : Change) (d : Entries) → IsDeltaOf r s change d → ¬ IsBelow (state_of d) s
    → IsToAppend r s change
to_append r s (Asked edit) d made new = subst (λ (x : Result Entries Refusal). IsOk x) (sym made) refl
to_append r s (Given a) d made new = subst (λ (x : Entries). ¬ IsBelow (state_of x) s) made new
to_append r s (Merged a) d made new =
    ⊎_elim (λ t. absurd (new (subst (λ (x : Entries). IsBelow (state_of x) s) (sym t.1) t.0))) (λ n. n.some) made

module _ (r : ℕ) (h : List Entries) (change : Change) (old new : PassView) (e : Refusal) (history : List Entries)
    (all : history ≡ history_of h new.list) (counted : new.appended ≡ old.appended) where
  -- a change that couldn't be worked out
  pub unstaged : (e ≡ Memory) ⊎ IsRefusedBy r (joined_history history) change e
      → (e ≡ Memory → IsToAppend r (joined_history history) change) → Unmade r h change old new e
  unstaged cause asked = record {
    cause = subst (λ (k : List Entries). (e ≡ Memory) ⊎ IsRefusedBy r (joined_history k) change e) all cause;
    asked = λ memory. subst (λ (k : List Entries). IsToAppend r (joined_history k) change) all (asked memory);
    counted = counted;
  }

  -- a change that was worked out and couldn't be published
  pub unpublished : (d : Entries) → IsDeltaOf r (joined_history history) change d → e ≡ Memory
      → ¬ IsBelow (state_of d) (joined_history history) → Unmade r h change old new e
  unpublished d made memory new_there =
      unstaged (inl memory) (λ _. to_append r (joined_history history) change d made new_there)

module _ (r : ℕ) (h : List Entries) (edit : Edit) (seen now : List Note) (seat number : ℕ) (fresh : Bool) where
  -- what an edit makes
  abbrev pub Makes : State → Entries → Type 0
  Makes t d = delta_of_edit r t edit ≡ Ok d

  abbrev receipt_of : Entries → ReceiptView
  receipt_of d = record { number = number; delta = d; fresh = fresh }

  by_fresh : EditsAreFresh → (d : Entries) → IsDelta d → (b : Bool) → fresh ≡ b
      → MatchBool b (IsAppended Makes h seen now seat (receipt_of d)) (IsIncluded Makes h now (receipt_of d))
      → (fresh ≡ true) × IsAppended Makes h seen now seat (receipt_of d)
  by_fresh law d is true so a = (so, a)
  by_fresh law d is false so a = absurd (law r (joined_history (history_of h now)) edit d is a.made a.below)

  -- an edit is always appended
  pub edit_appended : EditsAreFresh → (d : Entries) → IsDelta d → IsReceipt Makes h seen now seat (receipt_of d)
      → (fresh ≡ true) × IsAppended Makes h seen now seat (receipt_of d)
  edit_appended law d is tells = by_fresh law d is fresh refl tells
