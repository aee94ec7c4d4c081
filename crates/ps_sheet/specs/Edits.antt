-- What an edit at a replica gives over a state: its delta, or the first refusal that holds.
use Rattle.std.specs.Prelude.{◌≡◌, ℕ, ◌+◌, Bool, true, false, not, ◌==◌, nat_lt, nat_le, List, [], ◌∷◌}
use Rattle.std.specs.Prelude.{map as each, Option, Some, None, Result, Ok, Err}
use Rattle.std.specs.List.{list_any}
use Rattle.std.specs.FinMap as map
use Rattle.ps_grid.specs.declared.refusal.Refusal.{Refusal}
use Rattle.ps_grid.specs.declared.refusal.Refusal.TheVariants.{NotTally, NotChoice, Amount, OptionRange, TallyFull}
use Rattle.ps_grid.specs.declared.refusal.Refusal.TheVariants.{ChoiceFull, NotChosen, ClockFull}
use Rattle.ps_lattice.specs.declared.limits.TheConstants.{LAST_TIME, COUNT_LIMIT, OPTIONS, SEQUENCES}
use Rattle.ps_lattice.specs.declared.register.Assignment.{Assignment}
use Rattle.ps_lattice.specs.Register.{time_of}
use Rattle.ps_lattice.specs.Tally.{Counts, added, subtracted, counts_of, is_amount}
use Rattle.ps_lattice.specs.Choice.{Pairs, is_chosen, last_sequence, with_pair, withdrawn}
use Rattle.ps_content.specs.declared.content.Content.{Content}
use Rattle.ps_content.specs.declared.content.Content.TheVariants.{Tally, Choice}
use Rattle.ps_delta.specs.declared.cell_state.CellState.{CellState}
use Rattle.ps_delta.specs.State.{State, IsBelow}
use Rattle.ps_delta.specs.Deltas.{Entries, IsDelta, state_of}
use Rattle.ps_cells.specs.Settled.{content_of}
use Rattle.ps_delta.specs.declared.edit.Edit.{Edit}
use Rattle.ps_delta.specs.declared.edit.Edit.TheVariants.{Set, SetAll, Add, Sub, Choose, Unchoose}

-- the refusal if the test holds, and else the answer
abbrev pub refused_if : Bool → Refusal → Result Entries Refusal → Result Entries Refusal
refused_if true refusal answer = Err refusal
refused_if false refusal answer = answer

abbrev pub holds_tally : Content → Bool
holds_tally Tally = true
holds_tally _ = false

abbrev pub holds_choice : Content → Bool
holds_choice Choice = true
holds_choice _ = false

-- whether the time of the register is LAST_TIME, so that nothing more can be assigned
abbrev pub is_clock_full : CellState → Bool
is_clock_full x = time_of x.register == LAST_TIME

-- the state of a cell that has only a register, only counts, or only pairs
abbrev pub registered : Option (Assignment Content) → CellState
registered register = record { register = register; tally = map.empty; choice = map.empty }

abbrev pub counted : Counts → CellState
counted counts = record { register = None; tally = counts; choice = map.empty }

abbrev pub paired : Pairs → CellState
paired pairs = record { register = None; tally = map.empty; choice = pairs }

-- the assignment of a content at replica r, at the time after that of the cell's register
abbrev pub assigned : ℕ → CellState → Content → CellState
assigned r x content = registered (Some (record { time = time_of x.register + 1; replica = r; content = content }))

-- the delta that assigns contents to cells; if any of their registers has the last time, the whole batch is refused
abbrev pub delta_of_batch : ℕ → State → List (ℕ × Content) → Result Entries Refusal
delta_of_batch r s cells =
    refused_if (list_any (λ e. is_clock_full (s e.0)) cells) ClockFull
    (Ok (each (λ e. (e.0, assigned r (s e.0) e.1)) cells))

-- THE DELTA OF AN EDIT at replica r over the state s, or the first refusal that holds
abbrev pub delta_of_edit : ℕ → State → Edit → Result Entries Refusal
delta_of_edit r s (Set c content) = delta_of_batch r s ((c, content) ∷ [])
delta_of_edit r s (SetAll cells) = delta_of_batch r s cells
delta_of_edit r s (Add c amount) =
    refused_if (not (is_amount amount)) Amount
    (refused_if (not (holds_tally (content_of (s c)))) NotTally
    (refused_if (nat_lt COUNT_LIMIT (added (s c).tally r + amount)) TallyFull
    (Ok ((c, counted (counts_of r (added (s c).tally r + amount) 0)) ∷ []))))
delta_of_edit r s (Sub c amount) =
    refused_if (not (is_amount amount)) Amount
    (refused_if (not (holds_tally (content_of (s c)))) NotTally
    (refused_if (nat_lt COUNT_LIMIT (subtracted (s c).tally r + amount)) TallyFull
    (Ok ((c, counted (counts_of r 0 (subtracted (s c).tally r + amount))) ∷ []))))
delta_of_edit r s (Choose c option) =
    refused_if (nat_le OPTIONS option) OptionRange
    (refused_if (not (holds_choice (content_of (s c)))) NotChoice
    (refused_if (last_sequence (s c).choice r == SEQUENCES) ChoiceFull
    (Ok ((c, paired (with_pair map.empty option r (last_sequence (s c).choice r + 1))) ∷ []))))
delta_of_edit r s (Unchoose c option) =
    refused_if (nat_le OPTIONS option) OptionRange
    (refused_if (not (holds_choice (content_of (s c)))) NotChoice
    (refused_if (not (is_chosen (s c).choice option)) NotChosen
    (Ok ((c, paired (withdrawn (s c).choice option)) ∷ []))))

-- LAW: a delta that an edit makes over a state is not below it
abbrev pub EditsAreFresh : Type 0
EditsAreFresh =
    (r : ℕ) (s : State) (e : Edit) (d : Entries) → IsDelta d → delta_of_edit r s e ≡ Ok d
    → ¬ IsBelow (state_of d) s
