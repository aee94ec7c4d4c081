-- The number and the name of each refusal.
use Rattle.std.specs.Prelude.{◌≡◌, ℕ, List, codes}
use Rattle.ps_grid.specs.declared.refusal.Refusal.{Refusal}
use Rattle.ps_grid.specs.declared.refusal.Refusal.TheVariants.{Cell, Text, Formula, TooLong, NotTally, NotChoice}
use Rattle.ps_grid.specs.declared.refusal.Refusal.TheVariants.{Amount, OptionRange, Replica, TallyFull, ChoiceFull}
use Rattle.ps_grid.specs.declared.refusal.Refusal.TheVariants.{NotChosen, ClockFull, Delta, Line, Command, Version}
use Rattle.ps_grid.specs.declared.refusal.Refusal.TheVariants.{Csv, Memory, Device, Seat}

-- the number, from 1 on
abbrev pub number_of : Refusal → ℕ
number_of Cell = 1
number_of Text = 2
number_of Formula = 3
number_of TooLong = 4
number_of NotTally = 5
number_of NotChoice = 6
number_of Amount = 7
number_of OptionRange = 8
number_of Replica = 9
number_of TallyFull = 10
number_of ChoiceFull = 11
number_of NotChosen = 12
number_of ClockFull = 13
number_of Delta = 14
number_of Line = 15
number_of Command = 16
number_of Version = 17
number_of Csv = 18
number_of Memory = 19
number_of Device = 20
number_of Seat = 21

-- the bytes of the name
abbrev pub name_of : Refusal → List ℕ
name_of Cell = codes "cell"
name_of Text = codes "text"
name_of Formula = codes "formula"
name_of TooLong = codes "too-long"
name_of NotTally = codes "not-tally"
name_of NotChoice = codes "not-choice"
name_of Amount = codes "amount"
name_of OptionRange = codes "option"
name_of Replica = codes "replica"
name_of TallyFull = codes "tally-full"
name_of ChoiceFull = codes "choice-full"
name_of NotChosen = codes "not-chosen"
name_of ClockFull = codes "clock-full"
name_of Delta = codes "delta"
name_of Line = codes "line"
name_of Command = codes "command"
name_of Version = codes "version"
name_of Csv = codes "csv"
name_of Memory = codes "memory"
name_of Device = codes "device"
name_of Seat = codes "seat"

-- no two refusals have one number
abbrev pub NumbersDiffer : Type 0
NumbersDiffer = (r s : Refusal) → number_of r ≡ number_of s → r ≡ s
