-- Laws of joins of states and of histories.
use Rattle.std.specs.Prelude.{◌≡◌, ◌↔◌, List, [], ◌∷◌, ◌++◌, Contains}
use Rattle.std.specs.List.{AllZip}
use Rattle.ps_lattice.specs.News.{HasNothingOf, IsNewsOf}
use Rattle.ps_delta.specs.State.{State, empty_state, joined_state, IsBelow}
use Rattle.ps_delta.specs.Deltas.{Entries, state_of, joined_history}

-- the join of states is commutative, associative and idempotent, and the empty state is neutral
pub record StatesJoin : Type 0 where
  pub commutes : (s t : State) → joined_state s t ≡ joined_state t s
  pub associates : (s t u : State) → joined_state (joined_state s t) u ≡ joined_state s (joined_state t u)
  pub repeats : (s : State) → joined_state s s ≡ s
  pub neutral : (s : State) → joined_state empty_state s ≡ s

-- two lists with the same deltas, in any order and any number of times, have the same joined history
abbrev pub HistoryIsASet : Type 0
HistoryIsASet = (g h : List Entries) → ((d : Entries) → Contains g d ↔ Contains h d)
    → joined_history g ≡ joined_history h

-- the lists of a list, one after another
abbrev pub all_of : List (List Entries) → List Entries
all_of [] = []
all_of (group ∷ groups) = group ++ all_of groups

-- the delta is the join of the group
abbrev pub IsJoinOf : List Entries → Entries → Type 0
IsJoinOf group delta = state_of delta ≡ joined_history group

-- deltas in groups have the same joined history as the joins of the groups
abbrev pub GroupsJoin : Type 0
GroupsJoin = (groups : List (List Entries)) (joins : List Entries) → AllZip IsJoinOf groups joins
    → joined_history (all_of groups) ≡ joined_history joins

-- a delta below the state changes nothing
abbrev pub CoveredChangesNothing : Type 0
CoveredChangesNothing = (h : List Entries) (d : Entries) → IsBelow (state_of d) (joined_history h)
    → joined_history (h ++ d ∷ []) ≡ joined_history h

-- what in d is new to s is below d, needs nothing that s has, and is unique
pub record IsLeastNews (s d n : State) : Type 0 where
  pub below : IsBelow n d
  pub nothing : HasNothingOf joined_state s n
  pub once : (m : State) → IsNewsOf joined_state s d m → n ≡ m

abbrev pub NewsIsLeast : Type 0
NewsIsLeast = (s d n : State) → IsNewsOf joined_state s d n → IsLeastNews s d n
