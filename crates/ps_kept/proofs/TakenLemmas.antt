-- What a line of a kept file says, and what becomes of its delta.
use Rattle.std.proofs.Common.{◌≡◌, ◌≢◌, ◌≤◌, ℕ, List, [], ◌∷◌, ◌++◌}
use Rattle.std.proofs.Common.{subst, sym, Bool, true, false, Result, Ok, Err}
use Rattle.std.proofs.lemmas.Bool.{false≢true}
use Rattle.std.specs.Prelude.{IfOk}
use Rattle.ps_grid.specs.declared.refusal.Refusal.{Refusal}
use Rattle.ps_grid.specs.declared.parties.TheConstants.{REPLICAS}
use Rattle.ps_delta.specs.State.{IsBelow}
use Rattle.ps_delta.specs.Deltas.{Entries, joined_history, state_of}
use Rattle.ps_sheet.specs.Arrivals.{ArrivalsView, IsTakenIn}
use Rattle.ps_keep.specs.Lines.{whole_lines}
use Rattle.ps_lines.specs.PushLine.{Pushes}
use Rattle.ps_lines.specs.ReplicaLine.{Tells}
use Rattle.ps_lines.proofs.KeptLineLemmas.{one_replica, push_tells_none}
use Rattle.ps_kept.specs.Starts.{IsOther, PushesNew}
use Rattle.ps_kept.proofs.ToldLemmas.{pushes_one}

-- the first line tells another replica
pub is_other : (replica told : ℕ) (bytes line : List ℕ) (others : List (List ℕ)) → whole_lines bytes ≡ line ∷ others
    → Tells line told → 1 ≤ replica → replica ≤ REPLICAS → told ≢ replica → IsOther replica (whole_lines bytes) told
is_other replica told bytes line others is tells low high other =
    subst (λ ls. IsOther replica ls told) (sym is)
    (tells.2, λ same. other (one_replica line told replica tells (low, high, same)))

-- a line that tells a replica pushes nothing
pub replica_pushes_none : (history : List Entries) (line : List ℕ) (n : ℕ) → Tells line n → (d : Entries)
    → ¬ PushesNew history line d
replica_pushes_none history line n tells d pushes =
    push_tells_none line (pushes.0.0, pushes.0.1) n tells.0 tells.1 tells.2

module _ (line : List ℕ) (d : Entries) (pushes : Pushes line d) (x y : ArrivalsView) where
  -- the delta that was taken in is new
  pub taken_new : (is : Bool) → IsTakenIn [] x y d is → is ≡ true
      → (e : Entries) × PushesNew x.deltas line e × (y.deltas ≡ x.deltas ++ e ∷ [])
  taken_new true taken on = (d, (pushes, taken.0), taken.1)
  taken_new false taken on = absurd (false≢true on)

  -- .. and the other one isn't
  pub not_new : (is : Bool) → IsTakenIn [] x y d is → is ≡ false → (e : Entries) → ¬ PushesNew x.deltas line e
  not_new true taken off e other = absurd (false≢true (sym off))
  not_new false taken off e other =
      other.1 (subst (λ z. IsBelow (state_of z) (joined_history x.deltas)) (pushes_one line d e pushes other.0) taken.0)

-- what holds of an answer that is no error
pub of_answer : (r : Result Bool Refusal) (P Q : Bool → Type 0) → ((is : Bool) → P is → Q is) → IfOk r P → IfOk r Q
of_answer (Ok is) P Q f p = f is p
of_answer (Err e) P Q f p = tt
