-- The cells of a state before a number, on the way to all of them.
use Rattle.std.specs.Prelude.{◌≡◌, ◌≢◌, ◌<◌, ℕ}
use Rattle.std.specs.List.{All}
use Rattle.ps_delta.specs.State.{State, empty_cell}
use Rattle.ps_delta.specs.Deltas.{Entries, cells_of, state_of}
use Rattle.ps_delta.specs.Order.{Rising, Under}

-- what the cells before n hold
pub record AreFirst (s : State) (n : ℕ) (entries : Entries) : Type 0 where
  pub rising : Rising 0 (cells_of entries)
  pub under : Under n (cells_of entries)
  pub none_empty : All (λ e. e.1 ≢ empty_cell) entries
  pub gives : (c : ℕ) → c < n → state_of entries c ≡ s c
