-- The way to settled values: formula cells wait, showing #CYCLE!, until all cells that they refer to have a value.
use Rattle.std.specs.Prelude.{◌≡◌, ◌≢◌, ℕ, Bool, true, false, is_some}
use Rattle.ps_value.specs.declared.value.Value.{Value}
use Rattle.ps_value.specs.declared.value.Value.TheVariants.{Empty, Num, Err}
use Rattle.ps_value.specs.declared.value.Fault.{Fault}
use Rattle.ps_lattice.specs.Tally.{value_of as tally_value}
use Rattle.ps_delta.specs.State.{State}
use Rattle.ps_cells.specs.Settled.{content_of}
use Rattle.ps_delta.specs.declared.cell_state.CellState.{CellState}
use Rattle.ps_content.specs.declared.content.Content.{Content}
use Rattle.ps_content.specs.declared.content.Content.TheVariants.{Blank, Number, Text, Formula, Tally, Choice}
use Rattle.ps_content.specs.Order.{formula_in}
use Rattle.ps_eval.specs.Items.{Assignment}
use Rattle.ps_cells.specs.Settled.{options_of, refers_to, Cyclic, value_of}

abbrev pub is_cycle : Fault → Bool
is_cycle Fault.DivZero = false
is_cycle Fault.Num = false
is_cycle Fault.Value = false
is_cycle Fault.Cycle = true

-- the value #CYCLE!
abbrev pub is_waiting : Value → Bool
is_waiting Empty = false
is_waiting (Num n) = false
is_waiting (Value.Text t) = false
is_waiting (Value.Choice o) = false
is_waiting (Err f) = is_cycle f

abbrev pub is_formula : Content → Bool
is_formula content = is_some (formula_in content)

-- what a cell shows at first: a formula waits, and any other content has its value
abbrev pub first_by : Content → CellState → Value
first_by Blank x = Empty
first_by (Number n) x = Num n
first_by (Text text) x = Value.Text text
first_by (Formula tree) x = Err Fault.Cycle
first_by Tally x = Num (tally_value x.tally)
first_by Choice x = Value.Choice (options_of x.choice)

abbrev pub first_value : CellState → Value
first_value x = first_by (content_of x) x

-- on the way: formula cells alone wait; each other cell has its value, refers to none that waits, and is not cyclic
pub record Progress (s : State) (v : Assignment) : Type 0 where
  pub waiting : (c : ℕ) → is_waiting (v c) ≡ true → is_formula (content_of (s c)) ≡ true
  pub value : (c : ℕ) → is_waiting (v c) ≡ false → v c ≡ value_of (s c) v
  pub closed : (c d : ℕ) → is_waiting (v c) ≡ false → refers_to s c d ≡ true → is_waiting (v d) ≡ false
  pub acyclic : (c : ℕ) → is_waiting (v c) ≡ false → ¬ Cyclic s c

-- no cell that the cell c refers to waits
abbrev pub IsReady : State → Assignment → ℕ → Type 0
IsReady s v c = (d : ℕ) → refers_to s c d ≡ true → is_waiting (v d) ≡ false

-- the cell c refers to a cell that waits
abbrev pub RefersToWaiting : State → Assignment → ℕ → Type 0
RefersToWaiting s v c = (d : ℕ) × (refers_to s c d ≡ true) × (is_waiting (v d) ≡ true)

-- the cell c got its value, and no other cell changed
pub record Evaluates (s : State) (c : ℕ) (v w : Assignment) : Type 0 where
  pub here : w c ≡ value_of (s c) v
  pub others : (d : ℕ) → d ≢ c → w d ≡ v d
