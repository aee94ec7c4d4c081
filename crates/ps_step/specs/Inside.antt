-- Definitions of the private functions; no contract of a public one cites them.
use Rattle.std.specs.Prelude.{◌≡◌, ◌≢◌, ◌<◌, ℕ, List}
use Rattle.ps_grid.specs.Chains.{In}
use Rattle.ps_delta.specs.Order.{Rising, Under}
use Rattle.ps_delta.specs.State.{State}

-- the list has exactly the cells below n at which two states differ, in order
pub record AreApart (s t : State) (n : ℕ) (cells : List ℕ) : Type 0 where
  pub rising : Rising 0 cells
  pub under : Under n cells
  pub differ : (c : ℕ) → In cells c → s c ≢ t c
  pub same : (c : ℕ) → c < n → ¬ In cells c → s c ≡ t c
