-- The refusal of each number, by which no two refusals have one number.
use Rattle.std.proofs.Common.{◌≡◌, ◌∙◌, ℕ, ◌==◌, ap, refl, sym, if◌then◌else◌}
use Rattle.ps_grid.specs.declared.refusal.Refusal.{Refusal}
use Rattle.ps_grid.specs.declared.refusal.Refusal.TheVariants.{Cell, Text, Formula, TooLong, NotTally, NotChoice}
use Rattle.ps_grid.specs.declared.refusal.Refusal.TheVariants.{Amount, OptionRange, Replica, TallyFull, ChoiceFull}
use Rattle.ps_grid.specs.declared.refusal.Refusal.TheVariants.{NotChosen, ClockFull, Delta, Line, Command, Version}
use Rattle.ps_grid.specs.declared.refusal.Refusal.TheVariants.{Csv, Memory, Device, Seat}
use Rattle.ps_grid.specs.Refusals.{number_of}
use Rattle.ps_grid.proofs.laws.refusal_numbers_differ.Goals as goal

abbrev refusal_of : ℕ → Refusal
refusal_of n =
    if n == 1 then Cell else (
    if n == 2 then Text else (
    if n == 3 then Formula else (
    if n == 4 then TooLong else (
    if n == 5 then NotTally else (
    if n == 6 then NotChoice else (
    if n == 7 then Amount else (
    if n == 8 then OptionRange else (
    if n == 9 then Replica else (
    if n == 10 then TallyFull else (
    if n == 11 then ChoiceFull else (
    if n == 12 then NotChosen else (
    if n == 13 then ClockFull else (
    if n == 14 then Delta else (
    if n == 15 then Line else (
    if n == 16 then Command else (
    if n == 17 then Version else (
    if n == 18 then Csv else (
    if n == 19 then Memory else (
    if n == 20 then Device else (
    Seat))))))))))))))))))))

refusal_of-number_of : (r : Refusal) → refusal_of (number_of r) ≡ r
refusal_of-number_of Cell = refl
refusal_of-number_of Text = refl
refusal_of-number_of Formula = refl
refusal_of-number_of TooLong = refl
refusal_of-number_of NotTally = refl
refusal_of-number_of NotChoice = refl
refusal_of-number_of Amount = refl
refusal_of-number_of OptionRange = refl
refusal_of-number_of Replica = refl
refusal_of-number_of TallyFull = refl
refusal_of-number_of ChoiceFull = refl
refusal_of-number_of NotChosen = refl
refusal_of-number_of ClockFull = refl
refusal_of-number_of Delta = refl
refusal_of-number_of Line = refl
refusal_of-number_of Command = refl
refusal_of-number_of Version = refl
refusal_of-number_of Csv = refl
refusal_of-number_of Memory = refl
refusal_of-number_of Device = refl
refusal_of-number_of Seat = refl

pub returns : goal.returns
returns c = λ r s same. sym (refusal_of-number_of r) ∙ ap refusal_of same ∙ refusal_of-number_of s
