-- The text of what a cell shows.
use Rattle.std.specs.Prelude.{ℕ, Bool, ◌==◌, List, [], ◌++◌, map, codes, decimal}
use Rattle.std.specs.Fmt.{signed_decimal}
use Rattle.std.specs.List.{filter, range_with_len, join_with_byte}
use Rattle.std.specs.Int.{bit_at}
use Rattle.std.specs.Str.{byte}
use Rattle.ps_value.specs.declared.value.Fault.{Fault}
use Rattle.ps_value.specs.declared.value.Fault.TheVariants as faults
use Rattle.ps_value.specs.declared.value.Value.{Value}
use Rattle.ps_value.specs.declared.value.Value.TheVariants as values

-- option k is one of those that the bits stand for
abbrev pub is_chosen : ℕ → ℕ → Bool
is_chosen bits k = bit_at bits k == 1

-- the options below a bound that the bits stand for, ascending
unfoldable pub options_below : ℕ → ℕ → List ℕ
options_below bound bits = filter (is_chosen bits) (range_with_len 0 bound)

-- numbers in decimal, with commas between
unfoldable pub listed : List ℕ → List ℕ
listed numbers = join_with_byte (byte ",") (map decimal numbers)

-- a set of options, ascending, in braces
unfoldable pub choice_text : ℕ → List ℕ
choice_text bits = codes "{" ++ listed (options_below 64 bits) ++ codes "}"

abbrev pub fault_text : Fault → List ℕ
fault_text faults.DivZero = codes "#DIV/0!"
fault_text faults.Num = codes "#NUM!"
fault_text faults.Value = codes "#VALUE!"
fault_text faults.Cycle = codes "#CYCLE!"

abbrev pub shown_text : Value → List ℕ
shown_text values.Empty = []
shown_text (values.Num number) = signed_decimal number
shown_text (values.Text label) = label
shown_text (values.Choice bits) = choice_text bits
shown_text (values.Err fault) = fault_text fault
