-- How the reader works, from the first token on and with a bound on the depth of its calls. This is no part of what a
-- formula is: the grammar says that, and `read` and its laws speak of the grammar alone.
use Rattle.std.specs.Prelude.{◌≡◌, ℕ, zero, suc, ◌++◌, nat_lt, if◌then◌else◌, List, [], ◌∷◌, length, option_and_then}
use Rattle.std.specs.Prelude.{Option, Some, None, Result, Ok, Err}
use Rattle.ps_grid.specs.Rectangle.{Area}
use Rattle.ps_grid.specs.declared.refusal.Refusal.{Refusal}
use Rattle.ps_grid.specs.declared.refusal.Refusal.TheVariants.{Formula, Memory}
use Rattle.ps_tokens.specs.declared.token.Function.{Function}
use Rattle.ps_tokens.specs.declared.token.Operator.{Operator}
use Rattle.ps_tokens.specs.declared.token.Operator.TheVariants.{Plus as plus_sign, Minus as minus_sign}
use Rattle.ps_tokens.specs.declared.token.Token.{Token}
use Rattle.ps_tokens.specs.declared.token.Token.TheVariants.{Numeral, Reference, Range, Name, Symbol, Open, Close}
use Rattle.ps_tokens.specs.declared.token.Token.TheVariants.{Separator}
use Rattle.ps_formula.specs.declared.expr.Sign.{Sign}
use Rattle.ps_formula.specs.declared.expr.Sign.TheVariants.{Plus, Minus}
use Rattle.ps_formula.specs.Grammar.{accepts, level_of, takes_ranges}
use Rattle.ps_formula.specs.Tree.{Tree, Item, number, reference, signed, joined, group, call, expression, range}
use Rattle.ps_formula.specs.Tree.{no_items, in_row}

-- what a refusal says about the tokens: `Formula` says that they can't be read, `Memory` says nothing
abbrev pub Refuses : {Y : Type 0} → Refusal → Option Y → Type 0
Refuses Formula read = read ≡ None
Refuses Memory read = Unit {0}
Refuses _ read = ⊥

-- a call returns what was read, or is refused
abbrev pub Gives : {X Y : Type 0} → (X → Y) → Result X Refusal → Option Y → Type 0
Gives view (Ok x) read = read ≡ Some (view x)
Gives view (Err e) read = Refuses e read

-- y where there is no x, else f of x
abbrev pub either_way : {X Y : Type 0} → Option X → Y → (X → Y) → Y
either_way None y f = y
either_way (Some x) y f = f x

abbrev pub closed_at : List Token → Option (List Token)
closed_at (Close ∷ ts) = Some ts
closed_at _ = None

abbrev pub range_at : List Token → Option (Area × List Token)
range_at (Range r ∷ ts) = Some (r, ts)
range_at _ = None

-- an operator that joins operands of a level below l
abbrev pub operator_at : ℕ → List Token → Option (Operator × List Token)
operator_at l (Symbol o ∷ ts) = if nat_lt (level_of o) l then Some (o, ts) else None
operator_at l _ = None

abbrev pub sign_of : Operator → Option Sign
sign_of plus_sign = Some Plus
sign_of minus_sign = Some Minus
sign_of _ = None

unfoldable mutual
  pub level_at : ℕ → ℕ → List Token → Option (Tree × List Token)
  level_at zero l ts = None
  level_at (suc n) l ts = option_and_then (λ a. more_at n l a.0 a.1) (prefixed_at n ts)

  -- the operand grows while an operator of a level below l follows, each with an operand of its own level
  pub more_at : ℕ → ℕ → Tree → List Token → Option (Tree × List Token)
  more_at zero l a ts = None
  more_at (suc n) l a ts =
      either_way (operator_at l ts) (Some (a, ts))
      (λ x. option_and_then (λ b. more_at n l (joined a x.0 b.0) b.1) (level_at n (level_of x.0) x.1))

  pub prefixed_at : ℕ → List Token → Option (Tree × List Token)
  prefixed_at zero ts = None
  prefixed_at (suc n) (Numeral z ∷ ts) = Some (number z, ts)
  prefixed_at (suc n) (Reference c ∷ ts) = Some (reference c, ts)
  prefixed_at (suc n) (Symbol o ∷ ts) =
      option_and_then (λ s. option_and_then (λ a. Some (signed s a.0, a.1)) (prefixed_at n ts)) (sign_of o)
  prefixed_at (suc n) (Open ∷ ts) =
      option_and_then (λ a. option_and_then (λ us. Some (group a.0, us)) (closed_at a.1)) (level_at n 3 ts)
  prefixed_at (suc n) (Name f ∷ Open ∷ ts) = call_at n f ts
  prefixed_at (suc n) _ = None

  pub call_at : ℕ → Function → List Token → Option (Tree × List Token)
  call_at zero f ts = None
  call_at (suc n) f ts =
      either_way (closed_at ts)
      (option_and_then (λ x. if accepts f (length x.0) then Some (call f (in_row x.0), x.1) else None)
      (arguments_at n f [] ts))
      (λ us. if accepts f 0 then Some (call f no_items, us) else None)

  -- the arguments before, and those that are read
  pub arguments_at : ℕ → Function → List Item → List Token → Option (List Item × List Token)
  arguments_at zero f is ts = None
  arguments_at (suc n) f is ts = option_and_then (λ i. after_argument_at n f (is ++ i.0 ∷ []) i.1) (argument_at n f ts)

  -- after an argument: the parenthesis, or a separator and further arguments
  pub after_argument_at : ℕ → Function → List Item → List Token → Option (List Item × List Token)
  after_argument_at zero f is ts = None
  after_argument_at (suc n) f is (Close ∷ ts) = Some (is, ts)
  after_argument_at (suc n) f is (Separator ∷ ts) = arguments_at n f is ts
  after_argument_at (suc n) f is _ = None

  pub argument_at : ℕ → Function → List Token → Option (Item × List Token)
  argument_at zero f ts = None
  argument_at (suc n) f ts =
      either_way (range_at ts) (option_and_then (λ a. Some (expression a.0, a.1)) (level_at n 3 ts))
      (λ x. if takes_ranges f then Some (range x.0, x.1) else None)
