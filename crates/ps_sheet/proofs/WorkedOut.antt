-- What holds of a change that is worked out.
use Rattle.std.proofs.Common.{◌≡◌, ◌++◌, ◌∷◌, [], ℕ, ◌+◌, List, true, false, inl, inr, length, refl, sym, ap}
use Rattle.std.proofs.Common.{Bool, arith, subst}
use Rattle.std.specs.Prelude.{if◌then◌else◌}
use Rattle.std.proofs.lemmas.List.{length-append}
use Rattle.ps_value.specs.declared.value.Value.{Value}
use Rattle.ps_eval.specs.Items.{Assignment}
use Rattle.ps_shown.specs.declared.kept.Kept.{Kept}
use Rattle.ps_shown.specs.Shown.{shown_at}
use Rattle.ps_delta.specs.State.{State, IsBelow}
use Rattle.ps_delta.specs.Deltas.{Entries, state_of, joined_history}
use Rattle.ps_cells.specs.Settled.{IsSettled}
use Rattle.ps_cells.specs.Recalculated.{IsRecalculated}
use Rattle.ps_cells.specs.ChangedCells.{put_back}
use Rattle.ps_sheet.specs.Sheet.{IsFresh}
use Rattle.ps_sheet.specs.Staging.{IsWorkedOut}
use Rattle.ps_sheet.proofs.AppendedDeltas.{fresh_push}
use Rattle.ps_cells.proofs.IdleChanges.{idle_recalculated, recalculated_as}
use Rattle.ps_cells.proofs.ScreenLemmas.{back_none}

-- a delta below the state
pub worked_idle : (r : ℕ) (h : List Entries) (d : Entries) (shown : List Kept) (olds : List (ℕ × Kept))
    (changes : List (ℕ × Value)) (n workers : ℕ) (b : Bool) → b ≡ false → olds ≡ []
    → IsSettled (joined_history h) (shown_at shown) → IsBelow (state_of d) (joined_history h) → n ≡ length h
    → IsWorkedOut (record {
      replica = r;
      history = h;
      delta = d;
      fresh = b;
      shown = shown;
      olds = olds;
      changes = changes;
      report = record { version = n; evaluated = 0; cyclic = 0; levels = 0 };
      workers = workers;
    })
worked_idle r h d shown olds changes n workers true off none settled below version =
    absurd (let f : true ≡ false = off in cc)
worked_idle r h d shown olds changes n workers false off none settled below version =
    let same : put_back olds (shown_at shown) ≡ shown_at shown = back_none olds (shown_at shown) (ap length none) in
    record {
      takes = inl (below, refl);
      fresh = ((λ e. absurd (let f : false ≡ true = e in cc)), (λ new. absurd (new below)));
      before = subst (IsSettled (joined_history h)) (sym same) settled;
      after = settled;
      version = version;
      report = subst (λ (v : Assignment). IsRecalculated (joined_history h) (joined_history h) v (shown_at shown) 0 0 0)
          (sym same) (idle_recalculated (joined_history h) (shown_at shown));
    }

-- a delta that is not below it, and was joined
pub worked_made : (r : ℕ) (h : List Entries) (d : Entries) (shown : List Kept) (olds : List (ℕ × Kept))
    (changes : List (ℕ × Value)) (v : Assignment) (s t : State) (n evaluated cyclic levels workers : ℕ) (b : Bool)
    → b ≡ true → ¬ IsBelow (state_of d) (joined_history h) → put_back olds (shown_at shown) ≡ v → s ≡ joined_history h
    → t ≡ joined_history (h ++ d ∷ []) → IsSettled s v → IsSettled t (shown_at shown) → n ≡ length h
    → IsRecalculated s t v (shown_at shown) evaluated cyclic levels
    → IsWorkedOut (record {
      replica = r;
      history = h;
      delta = d;
      fresh = b;
      shown = shown;
      olds = olds;
      changes = changes;
      report = record { version = n + 1; evaluated = evaluated; cyclic = cyclic; levels = levels };
      workers = workers;
    })
worked_made r h d shown olds changes v s t n evaluated cyclic levels workers false on new before was is settled after
    version work = absurd (let f : false ≡ true = on in cc)
worked_made r h d shown olds changes v s t n evaluated cyclic levels workers true on new before was is settled after
    version work = record {
      takes = inr (new, refl);
      fresh = ((λ e. new), (λ e. refl));
      before = subst (IsSettled (joined_history h)) (sym before)
          (subst (λ (q : State). IsSettled q v) was settled);
      after = subst (λ (q : State). IsSettled q (shown_at shown)) is after;
      version = let more = length-append h (d ∷ []) in omega (arith, version, more);
      report = recalculated_as s (joined_history h) t (joined_history (h ++ d ∷ [])) v (put_back olds (shown_at shown))
          (shown_at shown) evaluated cyclic levels was is (sym before) work;
    }

-- the history and the state after a change
pub after_fresh : (h : List Entries) (d : Entries) (b : Bool) → IsFresh h
    → (b ≡ true → ¬ IsBelow (state_of d) (joined_history h)) → IsFresh (if b then (h ++ d ∷ []) else h)
after_fresh h d true fresh new = fresh_push h d fresh (new refl)
after_fresh h d false fresh new = fresh

pub after_joined : (h : List Entries) (d : Entries) (b : Bool) (t : State)
    → (b ≡ true → t ≡ joined_history (h ++ d ∷ [])) → (b ≡ false → t ≡ joined_history h)
    → t ≡ joined_history (if b then (h ++ d ∷ []) else h)
after_joined h d true t some none = some refl
after_joined h d false t some none = none refl
