-- The names of the functions and the signs of the operators.
use Rattle.std.specs.Prelude.{ℕ, List, codes}
use Rattle.ps_tokens.specs.declared.token.Function.{Function}
use Rattle.ps_tokens.specs.declared.token.Function.TheVariants.{Sum, Min, Max, Count, If, Mod, Quotient, Abs, And}
use Rattle.ps_tokens.specs.declared.token.Function.TheVariants.{Or, Not, True, False}
use Rattle.ps_tokens.specs.declared.token.Operator.{Operator}
use Rattle.ps_tokens.specs.declared.token.Operator.TheVariants.{Plus, Minus, Times, Equal, NotEqual, Less}
use Rattle.ps_tokens.specs.declared.token.Operator.TheVariants.{LessOrEqual, Greater, GreaterOrEqual}

-- the name of a function, in upper case
abbrev pub function_name : Function → List ℕ
function_name Sum = codes "SUM"
function_name Min = codes "MIN"
function_name Max = codes "MAX"
function_name Count = codes "COUNT"
function_name If = codes "IF"
function_name Mod = codes "MOD"
function_name Quotient = codes "QUOTIENT"
function_name Abs = codes "ABS"
function_name And = codes "AND"
function_name Or = codes "OR"
function_name Not = codes "NOT"
function_name True = codes "TRUE"
function_name False = codes "FALSE"

-- how an operator is written
abbrev pub operator_text : Operator → List ℕ
operator_text Plus = codes "+"
operator_text Minus = codes "-"
operator_text Times = codes "*"
operator_text Equal = codes "="
operator_text NotEqual = codes "<>"
operator_text Less = codes "<"
operator_text LessOrEqual = codes "<="
operator_text Greater = codes ">"
operator_text GreaterOrEqual = codes ">="
