-- What an appended delta does to a sheet.
use Rattle.std.proofs.Common.{◌≡◌, ◌<◌, ◌≤◌, List, [], ◌∷◌}
use Rattle.std.proofs.Common.{◌++◌, length, take, get_or, length-append, sym, ap, ◌∙◌, arith, ⊎_elim}
use Rattle.std.proofs.Common.{subst}
use Rattle.std.proofs.Math.ListN.{get_or-append}
use Rattle.std.proofs.Math.Seq.{get_or-append_seam, take-append_seam}
use Rattle.std.proofs.lemmas.List.{take-append-le}
use Rattle.std.proofs.lemmas.Bool.{cases_lt}
use Rattle.ps_delta.specs.State.{State, IsBelow, joined_state}
use Rattle.ps_delta.specs.Deltas.{Entries, state_of, joined_history}
use Rattle.ps_sheet.specs.Sheet.{IsFresh}
use Rattle.ps_delta.proofs.HistoryLemmas.{joined_history-push}

-- a history stays fresh if a delta is appended that isn't below its join
pub fresh_push : (h : List Entries) (d : Entries) → IsFresh h → ¬ IsBelow (state_of d) (joined_history h)
    → IsFresh (h ++ d ∷ [])
fresh_push h d fresh new k lt =
    ⊎_elim
    (λ (before : k < length h).
    let same : get_or (h ++ d ∷ []) k [] ≡ get_or h k [] = get_or-append h (d ∷ []) [] k before in
    let start : take k (h ++ d ∷ []) ≡ take k h = take-append-le k h (d ∷ []) (omega arith) in
    rw (same, start) (fresh k before))
    (λ (not_before : length h ≤ k).
    let is : k ≡ length h = omega (arith, length-append h (d ∷ [])) in
    let here : get_or (h ++ d ∷ []) (length h) [] ≡ d = get_or-append_seam h d [] [] in
    let start : take (length h) (h ++ d ∷ []) ≡ h = take-append_seam h (d ∷ []) in
    subst (λ n. ¬ IsBelow (state_of (get_or (h ++ d ∷ []) n [])) (joined_history (take n (h ++ d ∷ []))))
    (sym is)
    (rw (here, start) new))
    (cases_lt k (length h))

-- a delta below the state changes nothing when it is joined in
pub below_joined : (s t : State) → IsBelow t s → s ≡ joined_state s t
below_joined s t below = sym below

pub joined_after : (h : List Entries) (d e : Entries) (s t : State) (history : List Entries) → history ≡ h ++ d ∷ []
    → s ≡ joined_history h → e ≡ d → t ≡ joined_state s (state_of e) → t ≡ joined_history history
joined_after h d e s t history pushed before same after =
    after ∙ (ap (λ (u : State). joined_state u (state_of e)) before
    ∙ (ap (λ (q : Entries). joined_state (joined_history h) (state_of q)) same
    ∙ (sym (joined_history-push h d) ∙ ap joined_history (sym pushed))))
