-- What holds of the data that a desk's lock guards.
use Rattle.std.specs.Prelude.{◌≡◌, ℕ, List, [], ◌++◌, All, Option, Some, None, length}
use Rattle.ps_delta.specs.Deltas.{Entries}
use Rattle.ps_face.specs.declared.patch.Note.{Note}
use Rattle.ps_face.specs.Legal.{history_of}
use Rattle.ps_face.specs.Published.{Published}

-- UNDER LOCK: the lock of a desk that was opened with the replica r and the history h guards a sheet of the replica
-- `own` with the history `deltas`. The replica is still r. The history is h, followed by the deltas of the published
-- list. Nothing is pending. The book's total is the length of that list
pub record IsUnderLock (r : ℕ) (h : List Entries) (own : ℕ) (deltas : List Entries) (copies : Published)
    (amount : ℕ) : Type 0 where
  pub replica : own ≡ r
  pub history : deltas ≡ history_of h copies.list
  pub none : copies.pending ≡ []
  pub total : amount ≡ length copies.list

-- calls of this session slot made all these patches. Without a slot, there are none
abbrev pub AreMadeBy : Option ℕ → List Note → Type 0
AreMadeBy (Some seat) patches = All (λ p. p.owner ≡ seat) patches
AreMadeBy None patches = patches ≡ []

-- WAITS: the list begins with what readers are shown. This session slot alone made the changes that wait to be shown
pub record Waits (slot : Option ℕ) (copies : Published) : Type 0 where
  pub waiting : List Note
  pub is : copies.list ≡ copies.shown ++ waiting
  pub made : AreMadeBy slot waiting
