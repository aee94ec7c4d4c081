-- The new parts: a replica's P and its N, an added pair and a removed one, each where the state doesn't have it.
use Rattle.std.specs.Prelude.{◌≡◌, ℕ, Bool, not, ◌&&◌, ◌||◌, nat_lt, if◌then◌else◌}
use Rattle.ps_lattice.specs.Tally.{Counts, added, subtracted, joined_tallies}
use Rattle.ps_lattice.specs.Choice.{Pairs, is_added, is_removed, joined_choices}
use Rattle.ps_lattice.specs.News.{IsNewsOf}

-- P and N of the delta, each replaced by 0 if it isn't above the state's
pub record IsNewByEntry (s d n : Counts) (replica : ℕ) : Type 0 where
  pub added : added n replica ≡ (if nat_lt (added s replica) (added d replica) then added d replica else 0)
  pub subtracted :
      subtracted n replica
      ≡ (if nat_lt (subtracted s replica) (subtracted d replica) then subtracted d replica else 0)

abbrev pub TalliesNewByEntry : Type 0
TalliesNewByEntry = (s d n : Counts) → IsNewsOf joined_tallies s d n → (replica : ℕ) → IsNewByEntry s d n replica

-- whether only the delta has added the pair, and whether only the delta has removed it
abbrev pub adds : Pairs → Pairs → ℕ → ℕ → ℕ → Bool
adds s d option replica sequence = is_added d option replica sequence && not (is_added s option replica sequence)

abbrev pub removes : Pairs → Pairs → ℕ → ℕ → ℕ → Bool
removes s d option replica sequence = is_removed d option replica sequence && not (is_removed s option replica sequence)

-- added are the pairs that only the delta has added or removed; removed are those that only the delta has removed
pub record IsNewByPair (s d n : Pairs) (option replica sequence : ℕ) : Type 0 where
  pub added : is_added n option replica sequence
      ≡ (adds s d option replica sequence || removes s d option replica sequence)
  pub removed : is_removed n option replica sequence ≡ removes s d option replica sequence

abbrev pub ChoicesNewByPair : Type 0
ChoicesNewByPair = (s d n : Pairs) → IsNewsOf joined_choices s d n → (option replica sequence : ℕ)
    → IsNewByPair s d n option replica sequence
