-- What a sheet shows: references of a cell, the value of a cell, and settled values.
use Rattle.std.specs.Prelude.{◌≡◌, ℕ, zero, suc, ◌+◌, ◌*◌, ◌↔◌, Bool, false, cond}
use Rattle.ps_grid.specs.Chains.{References, IsCyclic}
use Rattle.ps_value.specs.declared.value.Value.{Value}
use Rattle.ps_value.specs.declared.value.Value.TheVariants.{Empty, Num, Err}
use Rattle.ps_value.specs.declared.value.Fault.{Fault}
use Rattle.ps_formula.specs.References.{mentions}
use Rattle.ps_eval.specs.Items.{Assignment}
use Rattle.ps_eval.specs.Value.{ev}
use Rattle.ps_lattice.specs.Tally.{value_of as tally_value}
use Rattle.ps_lattice.specs.Choice.{Pairs, is_chosen}
use Rattle.ps_lattice.specs.declared.limits.TheConstants.{OPTIONS}
use Rattle.std.specs.Option.{option_map_or}
use Rattle.ps_delta.specs.State.{State, IsInGrid}
use Rattle.ps_delta.specs.declared.cell_state.CellState.{CellState}
use Rattle.ps_content.specs.declared.content.Content.{Content}
use Rattle.ps_content.specs.declared.content.Content.TheVariants.{Blank, Number, Text, Formula, Tally, Choice}

-- the content that a cell holds: that of its register, or Blank if nothing was assigned
abbrev pub content_of : CellState → Content
content_of x = option_map_or (λ a. a.content) x.register Blank

-- the cell d is in a reference or a range of a content's formula, in whichever branch
abbrev pub content_mentions : Content → ℕ → Bool
content_mentions Blank d = false
content_mentions (Number n) d = false
content_mentions (Text text) d = false
content_mentions (Formula tree) d = mentions tree d
content_mentions Tally d = false
content_mentions Choice d = false

-- REFERENCES of a cell: the cells that its formula mentions
abbrev pub refers_to : State → References
refers_to s c d = content_mentions (content_of (s c)) d

-- some chain of references from the cell holds a cell twice
abbrev pub Cyclic : State → ℕ → Type 0
Cyclic s c = IsCyclic (refers_to s) c

-- the number below 2 ^ n whose bit k is 1 where k passes the test
unfoldable pub bits_of : (ℕ → Bool) → ℕ → ℕ
bits_of p zero = 0
bits_of p (suc n) = cond (p 0) 1 0 + 2 * bits_of (λ k. p (k + 1)) n

-- the chosen options, as a number: bit k for option k
abbrev pub options_of : Pairs → ℕ
options_of c = bits_of (is_chosen c) OPTIONS

-- VALUE of a cell that is not cyclic, by its content, where the cells show v
abbrev pub value_by : Content → CellState → Assignment → Value
value_by Blank x v = Empty
value_by (Number n) x v = Num n
value_by (Text text) x v = Value.Text text
value_by (Formula tree) x v = ev tree v
value_by Tally x v = Num (tally_value x.tally)
value_by Choice x v = Value.Choice (options_of x.choice)

abbrev pub value_of : CellState → Assignment → Value
value_of x v = value_by (content_of x) x v

-- SETTLED: a cell shows #CYCLE! exactly where a chain of references from it holds a cell twice,
-- and each other cell shows its value
pub record IsSettled (s : State) (v : Assignment) : Type 0 where
  pub cycle : (c : ℕ) → (v c ≡ Err Fault.Cycle) ↔ Cyclic s c
  pub value : (c : ℕ) → ¬ Cyclic s c → v c ≡ value_of (s c) v

-- LAW: a state has at most one settled assignment
abbrev pub SettledAtMostOnce : Type 0
SettledAtMostOnce = (s : State) (v w : Assignment) → IsInGrid s → IsSettled s v → IsSettled s w →
    (c : ℕ) → v c ≡ w c

-- LAW: a state has a settled assignment
abbrev pub SettledAtLeastOnce : Type 0
SettledAtLeastOnce = (s : State) → IsInGrid s → (v : Assignment) × IsSettled s v
