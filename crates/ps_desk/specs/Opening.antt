-- The parts from which a desk is opened, and the passes that it returns.
use Rattle.std.specs.Prelude.{◌≡◌, ℕ, zero, suc, List, [], ◌∷◌, ◌++◌}
use Rattle.logbook.specs.Pages.{Book}
use Rattle.ps_delta.specs.Deltas.{Entries}
use Rattle.ps_sheet.specs.Sheet.{SheetView}
use Rattle.ps_desk.specs.Passes.{PassView}

-- the sheet to share, the book of the list to publish, the number of the ledger, and the number of session slots
pub record PartsView : Type 0 where
  pub sheet : SheetView
  pub book : Book
  pub ledger : ℕ
  pub seats : ℕ

-- NAMED: the members of a desk's name describe the parts p. They are the ledger's number n and its parts k, the book b,
-- the opening history h and the replica r
pub record IsNamed (n k : ℕ) (b : Book) (h : List Entries) (r : ℕ) (p : PartsView) : Type 0 where
  pub ledger : p.ledger ≡ n
  pub seats : p.seats ≡ k
  pub book : p.book ≡ b
  pub history : p.sheet.history ≡ h
  pub replica : p.sheet.replica ≡ r

-- a pass for a session slot, which has seen the empty list and appended nothing
abbrev pub new_pass : ℕ → PassView
new_pass seat = record { list = []; enters = 0; appended = 0; seat = seat }

-- the new passes for the session slots below n, in order
unfoldable pub new_passes : ℕ → List PassView
new_passes zero = []
new_passes (suc n) = new_passes n ++ new_pass n ∷ []
