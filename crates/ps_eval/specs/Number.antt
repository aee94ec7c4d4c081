-- What operators and functions make of whole numbers: exact results, with one test of the range.
use Rattle.std.specs.Prelude.{ℕ, suc, ◌/◌, ◌^◌, Bool, true, false, not, nat_lt, Result, Ok, Err, ℤ, pos, negsuc}
use Rattle.std.specs.Prelude.{◌+ℤ◌, ◌-ℤ◌, ◌*ℤ◌, neg_ℤ, int_lt, int_le, int_div, unsigned_abs, if◌then◌else◌}
use Rattle.std.specs.Ordering.{int_eq}
use Rattle.ps_value.specs.declared.value.Fault.{Fault}
use Rattle.ps_value.specs.declared.value.Fault.TheVariants.{DivZero, Num as OutOfRange}
use Rattle.ps_tokens.specs.declared.token.Operator.{Operator}
use Rattle.ps_tokens.specs.declared.token.Operator.TheVariants.{Plus, Minus, Times, Equal, NotEqual, Less}
use Rattle.ps_tokens.specs.declared.token.Operator.TheVariants.{LessOrEqual, Greater, GreaterOrEqual}
use Rattle.ps_formula.specs.declared.expr.Sign.{Sign}
use Rattle.ps_formula.specs.declared.expr.Sign.TheVariants.{Plus as PlusSign, Minus as MinusSign}

-- a whole number, or the fault that stands in its place
abbrev pub Number : Type 0
Number = Result ℤ Fault

-- -2^63 to 2^63 - 1
abbrev pub in_range : ℤ → Bool
in_range (pos n) = nat_lt n (2 ^ 63)
in_range (negsuc n) = nat_lt n (2 ^ 63)

-- an exact result, or the fault of a number out of range
abbrev pub exact : ℤ → Number
exact z = if in_range z then Ok z else Err OutOfRange

abbrev pub is_zero : ℤ → Bool
is_zero z = int_eq z (pos 0)

-- 1 where it holds, else 0
abbrev pub truth : Bool → ℤ
truth true = pos 1
truth false = pos 0

-- a number divided by a positive one, rounded down
abbrev pub floored_by : ℤ → ℕ → ℤ
floored_by (pos a) b = pos (a / b)
floored_by (negsuc a) b = negsuc (a / b)

-- a / b, rounded down
abbrev pub floored : ℤ → ℤ → ℤ
floored a (pos b) = floored_by a b
floored a (negsuc b) = floored_by (neg_ℤ a) (suc b)

-- the remainder of a by b, as MOD has it: with the sign of b
abbrev pub modulo : ℤ → ℤ → Number
modulo a b = if is_zero b then Err DivZero else Ok (a -ℤ b *ℤ floored a b)

-- a / b, rounded towards zero
abbrev pub quotient : ℤ → ℤ → Number
quotient a b = if is_zero b then Err DivZero else exact (int_div a b)

abbrev pub absolute : ℤ → Number
absolute a = exact (pos (unsigned_abs a))

abbrev pub prefixed : Sign → ℤ → Number
prefixed PlusSign a = Ok a
prefixed MinusSign a = exact (neg_ℤ a)

abbrev pub operation : Operator → ℤ → ℤ → Number
operation Plus a b = exact (a +ℤ b)
operation Minus a b = exact (a -ℤ b)
operation Times a b = exact (a *ℤ b)
operation Equal a b = Ok (truth (int_eq a b))
operation NotEqual a b = Ok (truth (not (int_eq a b)))
operation Less a b = Ok (truth (int_lt a b))
operation LessOrEqual a b = Ok (truth (int_le a b))
operation Greater a b = Ok (truth (int_lt b a))
operation GreaterOrEqual a b = Ok (truth (int_le b a))

-- a fault of the operand is the result
abbrev pub on_one : (ℤ → Number) → Number → Number
on_one op (Err fault) = Err fault
on_one op (Ok a) = op a

-- the fault of the first operand is the result, else that of the second
abbrev pub on_both : (ℤ → ℤ → Number) → Number → Number → Number
on_both op (Err fault) y = Err fault
on_both op (Ok a) (Err fault) = Err fault
on_both op (Ok a) (Ok b) = op a b

-- IF: only the chosen branch counts
abbrev pub chosen : Number → Number → Number → Number
chosen (Err fault) x y = Err fault
chosen (Ok a) x y = if is_zero a then y else x
