-- What a formula reads from the value of a cell.
use Rattle.std.specs.Prelude.{count_ones, pos}
use Rattle.ps_value.specs.declared.value.Value.{Value}
use Rattle.ps_value.specs.declared.value.Value.TheVariants as values
use Rattle.ps_value.specs.declared.operand.Operand.{Operand}
use Rattle.ps_value.specs.declared.operand.Operand.TheVariants as operands

-- of a text no bytes, and of a choice only the number of its options
abbrev pub operand_of : Value → Operand
operand_of values.Empty = operands.Empty
operand_of (values.Num number) = operands.Num number
operand_of (values.Text text) = operands.Text
operand_of (values.Choice options) = operands.Num (pos (count_ones options))
operand_of (values.Err fault) = operands.Err fault
