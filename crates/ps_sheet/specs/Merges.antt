-- What a merge appends of a delta that was made elsewhere: its news, the part that is new.
use Rattle.std.specs.Prelude.{◌≡◌, ◌⊎◌, List, [], ◌∷◌, ◌++◌}
use Rattle.ps_lattice.specs.News.{IsNewsOf}
use Rattle.ps_delta.specs.State.{State, IsBelow, joined_state}
use Rattle.ps_delta.specs.Deltas.{Entries, IsDelta, state_of, joined_history}

-- the delta n is the news of the delta d over the state s; d isn't below s, so there is news
pub record IsNewsDelta (s : State) (d n : Entries) : Type 0 where
  pub some : ¬ IsBelow (state_of d) s
  pub news : IsNewsOf joined_state s (state_of d) (state_of n)
  pub delta : IsDelta n

-- MERGED: the history k is h with the news of the delta d over the join of h, or h itself if there is no news
abbrev pub Merges : Entries → List Entries → List Entries → Type 0
Merges d h k =
    (IsBelow (state_of d) (joined_history h) × (k ≡ h))
    ⊎ ((n : Entries) × IsNewsDelta (joined_history h) d n × (k ≡ h ++ n ∷ []))

-- n is the delta that a merge of d works out over the state s: the news of d, or d itself if there is no news
abbrev pub IsMergedAs : State → Entries → Entries → Type 0
IsMergedAs s d n = (IsBelow (state_of d) s × (n ≡ d)) ⊎ IsNewsDelta s d n
