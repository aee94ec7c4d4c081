-- What holds of a desk's history once the desk is closed.
use Rattle.std.specs.Prelude.{◌≡◌, ◌≢◌, ◌≤◌, ℕ, List, All, AllPairs, length, sum_by}
use mathlib.Core.List.{IsPrefix}
use Rattle.ps_delta.specs.Deltas.{Entries}
use Rattle.ps_face.specs.declared.patch.Note.{Note}
use Rattle.ps_face.specs.Legal.{IsLegal, history_of}
use Rattle.ps_desk.specs.Passes.{PassView, owned_by}

-- how many deltas the passes appended
abbrev pub appended_of : List PassView → ℕ
appended_of passes = sum_by (λ p. p.appended) passes

-- the list begins with what each pass has seen
abbrev pub ListBegins : List Note → List PassView → Type 0
ListBegins list passes = All (λ p. IsPrefix p.list list) passes

-- the list begins with what the pass has seen, and has at least as many patches of the pass's slot as the pass appended
abbrev pub EndsAt : List Note → PassView → Type 0
EndsAt list p = IsPrefix p.list list × (p.appended ≤ owned_by p.seat list)

-- the history begins with the opening history h and the deltas that any one pass has seen
abbrev pub HistoryBegins : List Entries → List Entries → List PassView → Type 0
HistoryBegins h history passes = All (λ p. IsPrefix (history_of h p.list) history) passes

-- no two passes have the same session slot
abbrev pub OfOtherSeats : List PassView → Type 0
OfOtherSeats passes = AllPairs (λ p q. p.seat ≢ q.seat) passes

-- the list has exactly as many patches of each pass's slot as the pass appended
abbrev pub AreOwned : List Note → List PassView → Type 0
AreOwned list passes = All (λ p. owned_by p.seat list ≡ p.appended) passes

-- CLOSED: the history is the opening history h, followed by the deltas of one legal list. The list begins with what
-- each pass has seen, and is as long as what the passes appended. If no two passes have the same slot, the list has as
-- many patches of each slot as that slot's pass appended, and so no patch of another slot
pub record IsClosed (h history : List Entries) (passes : List PassView) : Type 0 where
  pub list : List Note
  pub legal : IsLegal h list
  pub stands : history ≡ history_of h list
  pub begins : ListBegins list passes
  pub grown : length list ≡ appended_of passes
  pub owned : OfOtherSeats passes → AreOwned list passes
