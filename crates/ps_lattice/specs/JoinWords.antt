-- The joins as their publications define them, by each entry and by each pair.
use Rattle.std.specs.Prelude.{◌≡◌, ℕ, max, ◌||◌}
use Rattle.std.specs.FinMap as map
use Rattle.ps_lattice.specs.Tally.{Counts, added, subtracted, joined_tallies}
use Rattle.ps_lattice.specs.Choice.{Pairs, is_added, is_removed, joined_choices}

-- the maximum of each entry of both vectors
pub record JoinsByMaximum (s t : Counts) (replica : ℕ) : Type 0 where
  pub added : added (joined_tallies s t) replica ≡ max (added s replica) (added t replica)
  pub subtracted : subtracted (joined_tallies s t) replica ≡ max (subtracted s replica) (subtracted t replica)

abbrev pub TalliesJoinByMaximum : Type 0
TalliesJoinByMaximum = (s t : Counts) (replica : ℕ) → JoinsByMaximum s t replica

-- the union of the added pairs, and the union of the removed ones
pub record JoinsByUnion (c d : Pairs) (option replica sequence : ℕ) : Type 0 where
  pub added :
      is_added (joined_choices c d) option replica sequence
      ≡ (is_added c option replica sequence || is_added d option replica sequence)
  pub removed :
      is_removed (joined_choices c d) option replica sequence
      ≡ (is_removed c option replica sequence || is_removed d option replica sequence)

-- the same added and the same removed pairs
pub record SamePairs (c d : Pairs) : Type 0 where
  pub added : (option replica sequence : ℕ) → is_added c option replica sequence ≡ is_added d option replica sequence
  pub removed : (option replica sequence : ℕ) → is_removed c option replica sequence
      ≡ is_removed d option replica sequence

abbrev pub ChoicesJoinByUnion : Type 0
ChoicesJoinByUnion =
    ((c d : Pairs) (option replica sequence : ℕ) → JoinsByUnion c d option replica sequence) ×
    ((c d : Pairs) → SamePairs c d → c ≡ d)

abbrev pub EmptyIsLeast : Type 0
EmptyIsLeast = ((t : Counts) → joined_tallies t map.empty ≡ t) × ((c : Pairs) → joined_choices c map.empty ≡ c)
