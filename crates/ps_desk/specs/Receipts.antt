-- What a receipt says about the published list, and how a change alters a pass.
use Rattle.std.specs.Prelude.{◌≡◌, ◌⊎◌, ℕ, ◌+◌, Bool, true, false, List, [], ◌∷◌, ◌++◌, length, MatchBool}
use Rattle.std.specs.Prelude.{if◌then◌else◌}
use mathlib.Core.List.{IsPrefix}
use Rattle.ps_grid.specs.declared.refusal.Refusal.{Refusal}
use Rattle.ps_grid.specs.declared.refusal.Refusal.TheVariants.{Memory}
use Rattle.ps_delta.specs.State.{State, IsBelow}
use Rattle.ps_delta.specs.Deltas.{Entries, IsDelta, state_of, joined_history}
use Rattle.ps_delta.specs.declared.edit.Change.{Change}
use Rattle.ps_sheet.specs.Prepared.{IsDeltaOf, IsRefusedBy, IsToAppend}
use Rattle.ps_face.specs.declared.patch.Note.{Note}
use Rattle.ps_face.specs.Legal.{IsLegal, history_of}
use Rattle.ps_session.specs.declared.board.Merged.{Merged}
use Rattle.ps_session.specs.declared.board.Merged.TheVariants.{Known, New}
use Rattle.ps_desk.specs.Passes.{PassView}

-- a receipt with its whole delta: the number, the delta, and whether the change appended it
pub record ReceiptView : Type 0 where
  pub number : ℕ
  pub delta : Entries
  pub fresh : Bool

-- APPENDED: the list ends with a patch that has the receipt's delta and number, and this session slot. The patch comes
-- after all that was seen before. `Made` holds for the state before the delta and the delta
pub record IsAppended (Made : State → Entries → Type 0) (h : List Entries) (seen now : List Note) (seat : ℕ)
    (r : ReceiptView) : Type 0 where
  pub before : List Note
  pub patch : Note
  pub last : now ≡ before ++ patch ∷ []
  pub later : IsPrefix seen before
  pub number : r.number ≡ length (history_of h before) + 1
  pub numbered : patch.number ≡ r.number
  pub delta : patch.delta ≡ r.delta
  pub owner : patch.owner ≡ seat
  pub made : Made (joined_history (history_of h before)) r.delta

-- INCLUDED: the receipt's number is the length of the history that the list stands for, and its delta adds nothing new
-- to that history's state. `Made` holds for this state and the delta
pub record IsIncluded (Made : State → Entries → Type 0) (h : List Entries) (now : List Note) (r : ReceiptView) : Type 0
  where
    pub number : r.number ≡ length (history_of h now)
    pub below : IsBelow (state_of r.delta) (joined_history (history_of h now))
    pub made : Made (joined_history (history_of h now)) r.delta

-- RECEIPT: the delta was appended if the receipt is fresh, and otherwise it is included. The list grew from `seen` to
-- `now`
abbrev pub IsReceipt : (State → Entries → Type 0) → List Entries → List Note → List Note → ℕ → ReceiptView → Type 0
IsReceipt Made h seen now seat r = MatchBool r.fresh (IsAppended Made h seen now seat r) (IsIncluded Made h now r)

-- ENCLOSES: there is a delta for which `tells` relates what the receipt encloses, and `P` holds of the receipt with the
-- whole delta
abbrev pub Encloses : {X : Type 0} → (X → Entries → Type 0) → (ReceiptView → Type 0) → ℕ → X → Bool → Type 0
Encloses tells P number enclosed fresh =
    (delta : Entries) × tells enclosed delta × P (record { number = number; delta = delta; fresh = fresh })

-- the result of a merge: the number of what was appended, or the length of the history if nothing was
abbrev pub merged_of : ℕ → Bool → Merged
merged_of number true = New number
merged_of number false = Known number

-- TOOK: what a pass has seen begins with what it had seen, and is legal after the opening history h. The pass has the
-- same slot, and entered no published copy
pub record Took (h : List Entries) (old new : PassView) : Type 0 where
  pub later : IsPrefix old.list new.list
  pub legal : IsLegal h new.list
  pub same : (new.seat ≡ old.seat) × (new.enters ≡ old.enters)

-- MADE: the change was made at a desk of the replica r, and `tells` relates what the receipt encloses to the change's
-- delta
pub record Made {X : Type 0} (tells : X → Entries → Type 0) (r : ℕ) (h : List Entries) (change : Change)
    (old new : PassView) (number : ℕ) (enclosed : X) (fresh : Bool) : Type 0 where
  pub delta : Entries
  pub is_delta : IsDelta delta
  pub encloses : tells enclosed delta
  pub stands : IsReceipt (λ s d. IsDeltaOf r s change d) h old.list new.list old.seat
      (record { number = number; delta = delta; fresh = fresh })
  pub counted : new.appended ≡ old.appended + (if fresh then 1 else 0)

-- UNMADE: the change was refused over the whole published history, for a cause of its own, or out of memory. The latter
-- happens only if the change was to be appended. The pass counts nothing more
pub record Unmade (r : ℕ) (h : List Entries) (change : Change) (old new : PassView) (e : Refusal) : Type 0 where
  pub cause : (e ≡ Memory) ⊎ IsRefusedBy r (joined_history (history_of h new.list)) change e
  pub asked : e ≡ Memory → IsToAppend r (joined_history (history_of h new.list)) change
  pub counted : new.appended ≡ old.appended
