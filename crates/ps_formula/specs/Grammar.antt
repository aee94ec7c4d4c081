-- The grammar of formulas over tokens, a constructor for each rule. It is OpenFormula's notation (ISO/IEC 26300-2,
-- also published by OASIS as ODF 1.2 part 2), cut down to whole numbers, one sheet and the functions that are
-- listed below. Each level binds tighter than the one above it: 0 prefixed, 1 product, 2 sum, 3 comparison.
use Rattle.std.specs.Prelude.{ℕ, ℤ, Bool, true, false, suc, ◌≡◌, ◌==◌, ◌&&◌, nat_le, List, [], ◌∷◌, ◌++◌}
use Rattle.ps_grid.specs.Rectangle.{Area}
use Rattle.ps_tokens.specs.declared.token.Function.{Function}
use Rattle.ps_tokens.specs.declared.token.Function.TheVariants.{Sum, Min, Max, Count, If, Mod, Quotient, Abs, Not}
use Rattle.ps_tokens.specs.declared.token.Function.TheVariants.{And, Or, True, False}
use Rattle.ps_tokens.specs.declared.token.Operator.{Operator}
use Rattle.ps_tokens.specs.declared.token.Operator.TheVariants.{Plus, Minus, Times}
use Rattle.ps_tokens.specs.declared.token.Token.{Token}
use Rattle.ps_tokens.specs.declared.token.Token.TheVariants.{Numeral, Reference, Range, Name, Symbol, Open, Close}
use Rattle.ps_tokens.specs.declared.token.Token.TheVariants.{Separator}
use Rattle.ps_formula.specs.declared.expr.Sign.{Sign}
use Rattle.ps_formula.specs.Canonical.{symbol_of}
use Rattle.ps_formula.specs.Tree.{Tree, Item, Items, number, reference, signed, joined, group, call, expression}
use Rattle.ps_formula.specs.Tree.{range, no_items, item_and, count_of}

-- the level whose operands an operator joins
abbrev pub level_of : Operator → ℕ
level_of Times = 0
level_of Plus = 1
level_of Minus = 1
level_of _ = 2

-- how many arguments a function takes
abbrev pub accepts : Function → ℕ → Bool
accepts Sum n = nat_le 1 n
accepts Min n = nat_le 1 n
accepts Max n = nat_le 1 n
accepts Count n = nat_le 1 n
accepts And n = nat_le 1 n
accepts Or n = nat_le 1 n
accepts If n = nat_le 2 n && nat_le n 3
accepts Mod n = n == 2
accepts Quotient n = n == 2
accepts Abs n = n == 1
accepts Not n = n == 1
accepts True n = n == 0
accepts False n = n == 0

-- whether an argument may be a range
abbrev pub takes_ranges : Function → Bool
takes_ranges Sum = true
takes_ranges Min = true
takes_ranges Max = true
takes_ranges Count = true
takes_ranges _ = false

mutual
  -- the tokens are an expression of this level, with this tree
  pub data Has : ℕ → List Token → Tree → Type 0 where
    a_numeral : {z : ℤ} → Has 0 (Numeral z ∷ []) (number z)
    a_reference : {c : ℕ} → Has 0 (Reference c ∷ []) (reference c)
    a_sign : {s : Sign} {ts : List Token} {a : Tree} → Has 0 ts a → Has 0 (Symbol (symbol_of s) ∷ ts) (signed s a)
    a_group : {ts : List Token} {a : Tree} → Has 3 ts a → Has 0 (Open ∷ ts ++ (Close ∷ [])) (group a)
    a_bare_call : {f : Function} → accepts f 0 ≡ true → Has 0 (Name f ∷ Open ∷ Close ∷ []) (call f no_items)
    a_call : {f : Function} {ts : List Token} {is : Items} → Arguments f ts is → accepts f (count_of is) ≡ true
        → Has 0 (Name f ∷ Open ∷ ts) (call f is)
    a_chain : {l : ℕ} {ts us : List Token} {a t : Tree} → Has l ts a → More l a us t → Has (suc l) (ts ++ us) t

  -- any number of further operands, each after an operator of the level: from the left, `a` becomes `t`
  pub data More : ℕ → Tree → List Token → Tree → Type 0 where
    no_more : {l : ℕ} {a : Tree} → More l a [] a
    one_more : {l : ℕ} {a b t : Tree} {o : Operator} {ts us : List Token} → level_of o ≡ l → Has l ts b
        → More l (joined a o b) us t → More l a (Symbol o ∷ ts ++ us) t

  -- one or more arguments, with a separator between two and the closing parenthesis after the last
  pub data Arguments : Function → List Token → Items → Type 0 where
    last_argument : {f : Function} {ts : List Token} {i : Item} → Argument f ts i
        → Arguments f (ts ++ (Close ∷ [])) (item_and i no_items)
    next_argument : {f : Function} {ts us : List Token} {i : Item} {is : Items} → Argument f ts i → Arguments f us is
        → Arguments f (ts ++ (Separator ∷ us)) (item_and i is)

  -- an argument is a comparison, and where the function takes them a range
  pub data Argument : Function → List Token → Item → Type 0 where
    a_comparison : {f : Function} {ts : List Token} {a : Tree} → Has 3 ts a → Argument f ts (expression a)
    a_range : {f : Function} {r : Area} → takes_ranges f ≡ true → Argument f (Range r ∷ []) (range r)
