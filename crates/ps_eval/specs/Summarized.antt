-- What a summary says of the items that it has taken.
use Rattle.std.specs.Prelude.{◌≡◌, ◌-◌, ◌^◌, ◌<ℤ◌, ℕ, not, true, List, Option, length, fold, ℤ, pos, negsuc, ⊤}
use Rattle.std.specs.Int.{int_min, int_max}
use Rattle.std.specs.List.{list_all, list_any}
use Rattle.ps_value.specs.declared.value.Fault.{Fault}
use Rattle.ps_value.specs.declared.operand.Operand.{Operand}
use Rattle.ps_value.specs.declared.operand.Operand.TheVariants as operands
use Rattle.ps_eval.specs.declared.arguments_summary.ArgumentsSummary.{ArgumentsSummary}
use Rattle.ps_eval.specs.declared.summary.Summary.{Summary}
use Rattle.ps_eval.specs.declared.truths.Truths.{Truths}
use Rattle.ps_eval.specs.Number.{Number, is_zero, in_range}
use Rattle.ps_eval.specs.Items.{numbers_in, first_fault, total}

-- the least of the numbers, or 2^63 - 1 if there is none; below, the greatest, or -2^63
abbrev pub lowest_of : List ℤ → ℤ
lowest_of ns = fold int_min (pos (2 ^ 63 - 1)) ns

abbrev pub highest_of : List ℤ → ℤ
highest_of ns = fold int_max (negsuc (2 ^ 63 - 1)) ns

-- a summary of items: how many numbers there are, their sum, the lowest and the highest, and the first fault
pub record AreKnown (items : List Number) (count : ℕ) (sum least greatest : ℤ) (fault : Option Fault) : Type 0 where
  pub counted : count ≡ length (numbers_in items)
  pub summed : sum ≡ total (numbers_in items)
  pub lowest : least ≡ lowest_of (numbers_in items)
  pub highest : greatest ≡ highest_of (numbers_in items)
  pub first : fault ≡ first_fault items
  pub ranged : list_all in_range (numbers_in items) ≡ true

abbrev pub Summarizes : List Number → Summary → Type 0
Summarizes items s = AreKnown items s.count s.sum s.least s.greatest s.fault

abbrev pub SummarizesArguments : List Number → ArgumentsSummary → Type 0
SummarizesArguments items s = AreKnown items s.count s.sum s.least s.greatest s.fault

-- how many numbers the summary has taken
abbrev pub numbers_taken : Summary → ℕ
numbers_taken s = s.count

-- a summary of the items can drop this operand: it is no item, or a number that is neither the least nor the greatest
abbrev pub MayLeave : Operand → List Number → Type 0
MayLeave operands.Empty items = ⊤
MayLeave operands.Text items = ⊤
MayLeave (operands.Num n) items = (lowest_of (numbers_in items) <ℤ n) × (n <ℤ highest_of (numbers_in items))
MayLeave (operands.Err fault) items = ⊥

pub record Judges (values : List Number) (t : Truths) : Type 0 where
  pub every : t.all ≡ list_all (λ n. not (is_zero n)) (numbers_in values)
  pub some : t.any ≡ list_any (λ n. not (is_zero n)) (numbers_in values)
  pub first : t.fault ≡ first_fault values
