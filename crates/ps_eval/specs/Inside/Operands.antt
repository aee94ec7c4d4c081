-- The single value and the items of a cell, from its operand.
use Rattle.std.specs.Prelude.{◌≡◌, List, [], ◌∷◌, Ok, Err, pos}
use Rattle.std.proofs.Common.{refl}
use Rattle.ps_value.specs.declared.value.Value.{Value}
use Rattle.ps_value.specs.declared.value.Value.TheVariants as values
use Rattle.ps_value.specs.declared.value.Fault.TheVariants as faults
use Rattle.ps_value.specs.declared.operand.Operand.{Operand}
use Rattle.ps_value.specs.declared.operand.Operand.TheVariants.{Empty, Text, Num, Err as Shows}
use Rattle.ps_value.specs.Operand.{operand_of}
use Rattle.ps_eval.specs.Number.{Number}
use Rattle.ps_eval.specs.Items.{single, cell_items}

abbrev pub single_of : Operand → Number
single_of Empty = Ok (pos 0)
single_of Text = Err faults.Value
single_of (Num n) = Ok n
single_of (Shows fault) = Err fault

abbrev pub items_from : Operand → List Number
items_from Empty = []
items_from Text = []
items_from (Num n) = Ok n ∷ []
items_from (Shows fault) = Err fault ∷ []

pub single_of-operand : (x : Value) → single_of (operand_of x) ≡ single x
single_of-operand values.Empty = refl
single_of-operand (values.Num n) = refl
single_of-operand (values.Text text) = refl
single_of-operand (values.Choice options) = refl
single_of-operand (values.Err fault) = refl

pub items_from-operand : (x : Value) → items_from (operand_of x) ≡ cell_items x
items_from-operand values.Empty = refl
items_from-operand (values.Num n) = refl
items_from-operand (values.Text text) = refl
items_from-operand (values.Choice options) = refl
items_from-operand (values.Err fault) = refl
