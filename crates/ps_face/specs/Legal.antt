-- Patches that follow a history, and legal lists of them.
use Rattle.std.specs.Prelude.{◌≡◌, ℕ, ◌+◌, ◌↔◌, List, [], ◌∷◌, ◌++◌, length, map}
use Rattle.std.specs.List.Sorted.{IsStrictlyIncreasing}
use Rattle.ps_grid.specs.Chains.{In}
use Rattle.ps_value.specs.declared.value.Value.{Value}
use Rattle.ps_eval.specs.Items.{Assignment}
use Rattle.ps_delta.specs.State.{IsBelow}
use Rattle.ps_delta.specs.Deltas.{Entries, state_of, joined_history}
use Rattle.ps_cells.specs.Settled.{IsSettled}
use Rattle.ps_face.specs.Values.{Changes, in_order, overlaid}
use Rattle.ps_face.specs.declared.patch.Note.{Note}

-- the changes are exactly the cells whose values differ, ascending, each with its value in `after`
pub record AreShownChanges (before after : Assignment) (changes : Changes) : Type 0 where
  pub ascending : IsStrictlyIncreasing (map (λ e. e.0) changes)
  pub exact : (c : ℕ) → In (map (λ e. e.0) changes) c ↔ ¬ (after c ≡ before c)
  pub gives : overlaid before changes ≡ after

-- FOLLOWS: the patch may come next after the history h. It has the next number and a delta that isn't below the joined
-- history, and it changes exactly the cells whose settled value differs
pub record Follows (h : List Entries) (p : Note) : Type 0 where
  pub number : p.number ≡ length h + 1
  pub fresh : ¬ IsBelow (state_of p.delta) (joined_history h)
  pub before : Assignment
  pub after : Assignment
  pub settled : IsSettled (joined_history h) before
  pub settles : IsSettled (joined_history (h ++ p.delta ∷ [])) after
  pub changes : AreShownChanges before after p.changes

abbrev pub delta_of : Note → Entries
delta_of p = p.delta

-- the history that a list of patches stands for: the opening history h with their deltas
abbrev pub history_of : List Entries → List Note → List Entries
history_of h ps = h ++ map delta_of ps

-- LEGAL: each patch of the list follows the history h and the patches before it
abbrev pub IsLegal : List Entries → List Note → Type 0
IsLegal h [] = Unit {0}
IsLegal h (p ∷ ps) = Follows h p × IsLegal (h ++ p.delta ∷ []) ps

-- SHOWS: these are the settled values of the joined history, of all cells in order
abbrev pub Shows : List Entries → List Value → Type 0
Shows h values = (v : Assignment) × IsSettled (joined_history h) v × (values ≡ in_order v)
