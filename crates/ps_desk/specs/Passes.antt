-- What contracts see of a pass.
use Rattle.std.specs.Prelude.{◌≡◌, ◌==◌, ◌≤◌, ℕ, List, [], Option, Some, None, IsSome, count_by}
use Rattle.ps_value.specs.declared.value.Value.{Value}
use Rattle.ps_eval.specs.Items.{Assignment}
use Rattle.ps_delta.specs.Deltas.{Entries, joined_history}
use Rattle.ps_cells.specs.Settled.{IsSettled}
use Rattle.ps_face.specs.declared.patch.Note.{Note}
use Rattle.ps_face.specs.declared.rule.View.{View}

-- a pass: the beginning of the published list that its session has seen, how often it entered a published copy, how
-- many deltas it appended, and its session slot
pub record PassView : Type 0 where
  pub list : List Note
  pub enters : ℕ
  pub appended : ℕ
  pub seat : ℕ

-- the beginning of the published list that a reader has seen
abbrev pub seen_by : Option View → List Note
seen_by (Some v) = v.list
seen_by None = []

-- how often a reader has entered a published copy
abbrev pub entered : Option View → ℕ
entered (Some v) = v.enters
entered None = 0

-- how many patches of the list were made by calls of this session slot
abbrev pub owned_by : ℕ → List Note → ℕ
owned_by seat list = count_by (λ p. p.owner == seat) list

-- what holds of a pass between two calls: its reader is present, and its share of the ledger is one part, with the
-- amount that the pass counted. The list that it has seen has at least so many patches of its slot
pub record IsPass (reader : Option View) (parts amount count seat : ℕ) : Type 0 where
  pub here : IsSome reader
  pub part : parts ≡ 1
  pub same : amount ≡ count
  pub owned : count ≤ owned_by seat (seen_by reader)

-- SHOWN: x is the settled (fully recalculated) value of the cell c after the history h
abbrev pub IsShown : List Entries → ℕ → Value → Type 0
IsShown h c x = (v : Assignment) × IsSettled (joined_history h) v × (x ≡ v c)
