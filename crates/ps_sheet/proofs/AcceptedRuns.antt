-- Runs of accepted deltas, and sheets whose joined histories are equal.
use Rattle.std.proofs.Common.{◌≡◌, List, [], ◌∷◌, ⊎_elim, sym, ap, ◌∙◌}
use Rattle.std.proofs.lemmas.List.{append-nil}
use Rattle.ps_delta.specs.State.{State, joined_state}
use Rattle.ps_delta.specs.Deltas.{Entries, state_of, joined_history}
use Rattle.ps_delta.proofs.StateLemmas.{joined_state-assoc}
use Rattle.ps_delta.proofs.HistoryLemmas.{by_set, joined_history-append, joined_history-cons, joined_history-push}
use Rattle.ps_sheet.specs.Sheet.{Takes, AcceptedDeltasJoin, TookTheSame}
use Rattle.std.proofs.Common.{subst}
use Rattle.std.proofs.Math.Path.{fun_ext}
use Rattle.ps_shown.specs.Shown.{shown_at}
use Rattle.ps_cells.specs.Settled.{IsSettled}
use Rattle.ps_sheet.specs.Sheet.{SheetView, IsSheet}
use Rattle.ps_cells.proofs.SettledValues.{settled_at_most_once}

-- an accepted delta is joined in, whether it was appended or was below the state
pub taken_joins : (d : Entries) (h k : List Entries) → Takes d h k
    → joined_history k ≡ joined_state (joined_history h) (state_of d)
taken_joins d h k takes =
    ⊎_elim
    (λ below. ap joined_history below.1 ∙ sym below.0)
    (λ new. ap joined_history new.1 ∙ joined_history-push h d)
    takes

pub accepted_join : AcceptedDeltasJoin
accepted_join [] h k accepts = ap joined_history accepts ∙ ap joined_history (sym (append-nil h))
accepted_join (d ∷ ds) h k accepts =
    accepted_join ds accepts.0 k accepts.2
    ∙ (joined_history-append accepts.0 ds
    ∙ (ap (λ (s : State). joined_state s (joined_history ds)) (taken_joins d h accepts.0 accepts.1)
    ∙ (joined_state-assoc (joined_history h) (state_of d) (joined_history ds)
    ∙ (ap (joined_state (joined_history h)) (sym (joined_history-cons d ds))
    ∙ sym (joined_history-append h (d ∷ ds))))))

-- histories of the same deltas have the same join
pub same_taken : (h k : List Entries) → TookTheSame h k → joined_history h ≡ joined_history k
same_taken h k took =
    accepted_join took.0 [] h took.3 ∙ (by_set took.0 took.1 took.2 ∙ sym (accepted_join took.1 [] k took.4))

-- two sheets whose joined histories are equal show the same
pub same_shown : (a b : SheetView) → IsSheet a → IsSheet b → joined_history a.history ≡ joined_history b.history
    → shown_at a.shown ≡ shown_at b.shown
same_shown a b of_a of_b same =
    fun_ext
    (settled_at_most_once (joined_history a.history) (shown_at a.shown) (shown_at b.shown) of_a.in_grid of_a.settled
    (subst (λ (s : State). IsSettled s (shown_at b.shown)) (sym same) of_b.settled))
