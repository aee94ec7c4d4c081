-- Deltas that follow a history.
use Rattle.std.proofs.Common.{◌≡◌, ◌↔◌, ◌++◌, ◌∷◌, [], List, ℕ, ◌+◌, ◌<◌, ◌≤◌, Bool, false, Option, Some, None}
use Rattle.std.proofs.Common.{length, refl, sym, ap, ◌∙◌, subst, append_assoc, arith}
use Rattle.std.specs.Prelude.{IsTrue}
use Rattle.std.specs.Option.{SomeIff}
use Rattle.std.proofs.lemmas.Bool.{false≢true}
use Rattle.std.proofs.lemmas.List.{append-nil}
use Rattle.ps_grid.specs.declared.parties.TheConstants.{REPLICAS}
use Rattle.ps_eval.specs.Items.{Assignment}
use Rattle.ps_shown.specs.declared.kept.Kept.{Kept}
use Rattle.ps_shown.specs.Shown.{shown_at}
use Rattle.ps_delta.specs.State.{State, IsBelow, IsInGrid, empty_state, joined_state, state_at}
use Rattle.ps_delta.specs.Deltas.{AreEntries, Entries, IsDelta, state_of, joined_history}
use Rattle.ps_delta.proofs.EntryLemmas.{state_of-nil}
use Rattle.ps_delta.proofs.HistoryLemmas.{joined_history-append, joined_history-nil, joined_history-push}
use Rattle.ps_delta.proofs.HistoryLemmas.{joined_history-contains}
use Rattle.ps_delta.proofs.StateLemmas.{joined_state-assoc, joined_state-empty, joined_state-idem}
use Rattle.ps_cells.specs.Cells.{CellsView, state_now}
use Rattle.ps_cells.specs.Recalculated.{IsRecalculated}
use Rattle.ps_cells.specs.Settled.{IsSettled}
use Rattle.ps_cells.proofs.IdleChanges.{idle_recalculated, recalculated_as}
use Rattle.ps_sheet.specs.Arrivals.{ArrivalsView, Follow}
use Rattle.ps_sheet.specs.Sheet.{IsFresh, IsSheet}
use Rattle.ps_sheet.specs.Staging.{StagingView, sheet_of}
use Rattle.ps_sheet.specs.Inside.Kept.{IsKept, staged_of, view_of}
use Rattle.ps_sheet.specs.declared.staging.Staged.{Staged}
use Rattle.ps_sheet.specs.declared.staging.Staging.TheInside.{Inside}
use Rattle.ps_sheet.proofs.AppendedDeltas.{fresh_push}
use Rattle.ps_sheet.proofs.Staged.{idle_state}
use Rattle.ps_sheet.proofs.StagedChanges.{kept_idle}

-- an empty list of arrivals follows the history
pub follow_none : (h : List Entries) (a : ArrivalsView) → a.deltas ≡ [] → IsFresh h
    → state_at a.grid ≡ joined_state empty_state (joined_history h) → Follow h a
follow_none h a none fresh joined =
    let is : h ++ a.deltas ≡ h = ap (λ ds. h ++ ds) none ∙ append-nil h in
    record {
      fresh = subst IsFresh (sym is) fresh;
      joined = joined ∙ joined_state-empty (joined_history h) ∙ ap joined_history (sym is);
    }

-- one more delta follows the history and the arrivals
pub follow_more : (h : List Entries) (a b : ArrivalsView) (d : Entries) → Follow h a → b.deltas ≡ a.deltas ++ d ∷ []
    → ¬ IsBelow (state_of d) (state_at a.grid) → state_at b.grid ≡ joined_state (state_at a.grid) (state_of d)
    → Follow h b
follow_more h a b d follow more new joined =
    let is : h ++ b.deltas ≡ (h ++ a.deltas) ++ d ∷ [] =
    ap (λ ds. h ++ ds) more ∙ sym (append_assoc h a.deltas (d ∷ [])) in
    record {
      fresh = subst IsFresh (sym is) (fresh_push (h ++ a.deltas) d follow.fresh
          (subst (λ (s : State). ¬ IsBelow (state_of d) s) follow.joined new));
      joined = joined ∙ ap (λ (s : State). joined_state s (state_of d)) follow.joined
          ∙ sym (joined_history-push (h ++ a.deltas) d) ∙ ap joined_history (sym is);
    }

-- arrivals with the same deltas and the same join follow the history too
pub follow_same : (h : List Entries) (a b : ArrivalsView) → Follow h a → b.deltas ≡ a.deltas
    → state_at b.grid ≡ state_at a.grid → Follow h b
follow_same h a b follow same state =
    let is : h ++ b.deltas ≡ h ++ a.deltas = ap (λ ds. h ++ ds) same in
    record {
      fresh = subst IsFresh (sym is) follow.fresh;
      joined = state ∙ follow.joined ∙ ap joined_history (sym is);
    }

-- a history joined with a longer one is the longer one's
pub joined_longer : (h ds : List Entries) (s t : State) → s ≡ joined_history h → t ≡ joined_history (h ++ ds)
    → joined_state s t ≡ joined_history (h ++ ds)
joined_longer h ds s t short long =
    ap (λ (u : State). joined_state u t) short
    ∙ ap (joined_state (joined_history h)) (long ∙ joined_history-append h ds)
    ∙ sym (joined_state-assoc (joined_history h) (joined_history h) (joined_history ds))
    ∙ ap (λ (u : State). joined_state u (joined_history ds)) (joined_state-idem (joined_history h))
    ∙ sym (joined_history-append h ds)

-- a fresh history that has a delta joins to more than nothing
some_fresh : (d : Entries) (h : List Entries) → IsFresh (d ∷ h) → ¬ (joined_history (d ∷ h) ≡ empty_state)
some_fresh d h fresh empty =
    let below : joined_state (joined_history (d ∷ h)) (state_of d) ≡ joined_history (d ∷ h) =
    joined_history-contains (d ∷ h) d (0, omega arith, refl) in
    let none : state_of d ≡ empty_state =
    sym (joined_state-empty (state_of d)) ∙ ap (λ (u : State). joined_state u (state_of d)) (sym empty) ∙ below
    ∙ empty in
    fresh 0 (omega arith)
    (ap (λ (u : State). joined_state u (state_of d)) joined_history-nil ∙ joined_state-empty (state_of d) ∙ none
    ∙ sym joined_history-nil)

pub some_hold : (h : List Entries) (a : ArrivalsView) → Follow h a → 0 < length a.deltas
    → ¬ (state_at a.grid ≡ empty_state)
some_hold [] a follow some empty = hold a.deltas some follow.fresh (sym follow.joined ∙ empty)
  where
    hold : (ds : List Entries) → 0 < length ds → IsFresh ds → ¬ (joined_history ds ≡ empty_state)
    hold [] more fresh none = absurd (omega (arith, more))
    hold (d ∷ ds) more fresh none = some_fresh d ds fresh none
some_hold (d ∷ h) a follow some empty = some_fresh d (h ++ a.deltas) follow.fresh (sym follow.joined ∙ empty)

pub not_covered : (P : Type 0) (b : Bool) → IsTrue b ↔ P → b ≡ false → ¬ P
not_covered P b is off below = absurd (false≢true (sym off ∙ is.1 below))

-- the report of no change: nothing was recalculated
pub none_recalculated : (s : State) (v : Assignment) (e c l : ℕ) → e ≡ 0 → c ≡ 0 → l ≡ 0 → IsRecalculated s s v v e c l
none_recalculated s v e c l no_value no_circle no_level =
    subst (λ n. IsRecalculated s s v v n c l) (sym no_value)
    (subst (λ n. IsRecalculated s s v v 0 n l) (sym no_circle)
    (subst (λ n. IsRecalculated s s v v 0 0 n) (sym no_level) (idle_recalculated s v)))

-- ---- the cells of the arrivals as one delta

-- cells that stand for something are a delta
pub cells_are_delta : (es : Entries) (s : State) → AreEntries es → state_of es ≡ s → ¬ (s ≡ empty_state) → IsDelta es
cells_are_delta [] s is same some = absurd (some (sym same ∙ state_of-nil))
cells_are_delta (e ∷ es) s is same some = record {
  some = omega arith;
  ascending = is.ascending;
  none_empty = is.none_empty;
}

pub made_delta : (d es : Entries) → SomeIff (Some d) (IsDelta es) es → d ≡ es
made_delta d es made = made.1

-- ---- the sheet after the arrivals are accepted

pub none_staged : (cells : CellsView) (o : Option Staged) → staged_of cells o ≡ None → o ≡ None
none_staged cells None none = refl
none_staged cells (Some s) none = cc

module _ (x : Inside) (v : StagingView) (is : view_of x ≡ v) (none : v.staged ≡ None) (kept : IsKept x)
    (a : ArrivalsView) (follow : Follow v.history a) (es d : Entries) (made : d ≡ es)
    (same : state_of es ≡ state_at a.grid) (y : Inside) (staged : CellsView)
    (joined : state_now staged ≡ joined_state (state_now x.cells) (state_of d))
    (settled : IsSettled (state_now staged) (shown_at staged.shown)) (in_grid : IsInGrid (state_now staged))
    (pushed : y.history.items ≡ x.history.items ++ a.deltas) (grid : y.cells.grid ≡ staged.grid)
    (shown : y.cells.shown ≡ staged.shown) (replica : y.replica ≡ x.replica) where
  of_history : x.history.items ≡ v.history
  of_history = ap (λ (w : StagingView). w.history) is

  all_deltas : y.history.items ≡ v.history ++ a.deltas
  all_deltas = pushed ∙ ap (λ h. h ++ a.deltas) of_history

  pub all_joined : state_now staged ≡ joined_history y.history.items
  all_joined =
      joined
      ∙ joined_longer v.history a.deltas (state_now x.cells) (state_of d) (idle_state x v is none kept)
      (ap state_of made ∙ same ∙ follow.joined)
      ∙ ap joined_history (sym all_deltas)

  pub all_sheet : IsSheet (sheet_of (view_of y))
  all_sheet = record {
    settled = subst (λ (s : State). IsSettled s (shown_at y.cells.shown)) all_joined
        (subst (λ (ks : List Kept). IsSettled (state_now staged) (shown_at ks)) (sym shown) settled);
    fresh = subst IsFresh (sym all_deltas) follow.fresh;
    in_grid = subst IsInGrid all_joined in_grid;
    replica = subst (λ (r : ℕ). (1 ≤ r) × (r ≤ REPLICAS)) (sym replica) kept.replica;
  }

  pub all_kept : y.staged ≡ x.staged → (y.cells.staged ≡ None) × (y.cells.olds ≡ []) → IsKept y
  all_kept still left =
      kept_idle y
      (still ∙ none_staged x.cells x.staged (ap (λ (w : StagingView). w.staged) is ∙ none))
      all_sheet (ap state_at grid ∙ all_joined) left.0 left.1

  pub all_report : (e c l : ℕ) → IsRecalculated (state_now x.cells) (state_now staged) (shown_at x.cells.shown)
      (shown_at staged.shown) e c l
      → IsRecalculated (joined_history v.history) (joined_history y.history.items) (shown_at v.shown)
      (shown_at y.cells.shown) e c l
  all_report e c l work =
      subst (λ (ks : List Kept). IsRecalculated (joined_history v.history) (joined_history y.history.items)
      (shown_at v.shown) (shown_at ks) e c l)
      (sym shown)
      (recalculated_as (state_now x.cells) (joined_history v.history) (state_now staged)
      (joined_history y.history.items) (shown_at x.cells.shown) (shown_at v.shown) (shown_at staged.shown) e c l
      (idle_state x v is none kept) all_joined (ap (λ (w : StagingView). shown_at w.shown) is) work)
