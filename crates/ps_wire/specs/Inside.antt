-- What the contracts of private functions say. No contract of a public function cites these definitions.
use Rattle.std.specs.Prelude.{◌≡◌, ◌⊎◌, ℕ, ◌+◌, ◌<◌, ◌≤◌, List, length, get_or, sum_by, Contains}
use Rattle.std.specs.Prelude.{Option, Some, None, IsUtf8}
use Rattle.std.specs.List.{All}
use Rattle.serde_json.specs.Read.{read}
use Rattle.ps_grid.specs.declared.refusal.Refusal.{Refusal}
use Rattle.ps_grid.specs.declared.refusal.Refusal.TheVariants.{Delta, Memory}
use Rattle.ps_lattice.specs.declared.register.Assignment.{Assignment}
use Rattle.ps_content.specs.Content.{canonical_text}
use Rattle.ps_content.specs.declared.content.Content.{Content}
use Rattle.ps_delta.specs.declared.cell_state.CellState.{CellState}
use Rattle.ps_delta.specs.Deltas.{Entries, IsDelta}
use Rattle.ps_delta.specs.Order.{Rising}
use Rattle.ps_wire.specs.Length.{size}
use Rattle.ps_wire.specs.Value.{IsLawful, delta_value, whole}

-- the refusal is for memory, or for the reason that the value stands for nothing
abbrev pub RefusedAs : Refusal → Type 0 → Type 0
RefusedAs refusal StandsForNothing = (refusal ≡ Memory) ⊎ ((refusal ≡ Delta) × StandsForNothing)

-- the refusal is for the reason that the value stands for nothing
abbrev pub RefusedSince : Refusal → Type 0 → Type 0
RefusedSince refusal StandsForNothing = (refusal ≡ Delta) × StandsForNothing

-- the bytes are UTF-8, and JSON that serde_json reads as the value of the delta
pub record ReadsAs (bytes : List ℕ) (delta : Entries) : Type 0 where
  pub utf8 : IsUtf8 bytes
  pub read : read bytes ≡ Some (delta_value delta)
  pub lawful : IsLawful delta

-- how many bytes the value of a register takes where no byte of its content is escaped
abbrev pub unescaped_size : Option (Assignment Content) → ℕ
unescaped_size None = 4
unescaped_size (Some a) = 6 + size (whole a.time) + size (whole a.replica) + length (canonical_text a.content)

-- the fewest bytes that a line takes for a cell with this register, whatever counts and pairs it holds
abbrev pub cell_floor : CellState → ℕ
cell_floor state = 12 + unescaped_size state.register

-- the floor of a cell: a lower bound for the bytes that a line takes for it
abbrev pub floor_at : List ℕ → ℕ → ℕ
floor_at floors cell = get_or floors cell 0

-- none of the cells takes less than its floor
abbrev pub AreAbove : List ℕ → Entries → Type 0
AreAbove floors cells = All (λ e. floor_at floors e.0 ≤ cell_floor e.1) cells

-- these floors hold for the cells of each of the deltas
pub record AreFloors (floors : List ℕ) (deltas : List Entries) : Type 0 where
  pub lawful : All IsDelta deltas
  pub above : All (AreAbove floors) deltas

-- each cell of the entries is in the list
abbrev pub AreListed : List ℕ → Entries → Type 0
AreListed listed cells = All (λ e. Contains listed e.0) cells

-- `left` is `room` less what the floors of the listed cells lose from `before` to `after`, in each list with the cells
abbrev pub Spends : (List ℕ → Type 0) → List ℕ → ℕ → List ℕ → ℕ → Type 0
Spends HasCells before room after left =
    (listed : List ℕ) → Rising 0 listed → HasCells listed
    → left + sum_by (floor_at before) listed ≡ room + sum_by (floor_at after) listed

-- the floors of the cells take more than `room`, in each list with these cells
abbrev pub Overspends : (List ℕ → Type 0) → List ℕ → ℕ → Type 0
Overspends HasCells floors room =
    (listed : List ℕ) → Rising 0 listed → HasCells listed → room < sum_by (floor_at floors) listed
