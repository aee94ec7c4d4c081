-- What each test on the first tokens found.
use Rattle.std.proofs.Common.{◌≡◌, ℕ, ◌<◌, ◌≤◌, true, false, cond, refl, sym, ap, ◌∙◌, subst, List, [], ◌∷◌, ◌++◌}
use Rattle.std.specs.Prelude.{Option, Some, None, nat_lt}
use Rattle.std.proofs.lemmas.Option.{cond_some}
use Rattle.std.proofs.lemmas.List.{append_assoc}
use Rattle.std.proofs.lemmas.Bool.Decides.{nat_tests}
use Rattle.std.proofs.Common.{arith}
use Rattle.ps_grid.specs.Rectangle.{Area}
use Rattle.ps_tokens.specs.declared.token.Operator.{Operator}
use Rattle.ps_tokens.specs.declared.token.Operator.TheVariants.{Plus as plus_sign, Minus as minus_sign}
use Rattle.ps_tokens.specs.declared.token.Token.{Token}
use Rattle.ps_tokens.specs.declared.token.Token.TheVariants.{Range, Symbol, Close}
use Rattle.ps_formula.specs.declared.expr.Sign.{Sign}
use Rattle.ps_formula.specs.declared.expr.Sign.TheVariants.{Plus, Minus}
use Rattle.ps_formula.specs.Canonical.{symbol_of}
use Rattle.ps_formula.specs.Grammar.{level_of}
use Rattle.ps_formula.specs.Inside.Reading.{either_way, closed_at, range_at, operator_at}
use Rattle.ps_formula.specs.Inside.Reading.{sign_of}

pub either_way_cases : {X Y P : Type 0} (o : Option X) (y z : Y) (f : X → Y) → either_way o y f ≡ z
    → (o ≡ None → y ≡ z → P) → ((x : X) → o ≡ Some x → f x ≡ z → P) → P
either_way_cases None y z f e at_none at_some = at_none refl e
either_way_cases (Some x) y z f e at_none at_some = at_some x refl e

pub closed_at-some : (ts us : List Token) → closed_at ts ≡ Some us → ts ≡ Close ∷ us
closed_at-some (Close ∷ ts) us e = cc
closed_at-some (_ ∷ ts) us e = cc
closed_at-some [] us e = cc

pub range_at-some : (ts : List Token) (x : Area × List Token) → range_at ts ≡ Some x → ts ≡ Range x.0 ∷ x.1
range_at-some (Range r ∷ ts) x e = let same : (r, ts) ≡ x = cc in ap (λ y. Range y.0 ∷ y.1) same
range_at-some (_ ∷ ts) x e = cc
range_at-some [] x e = cc

pub operator_at-some : (l : ℕ) (ts : List Token) (x : Operator × List Token) → operator_at l ts ≡ Some x
    → (ts ≡ Symbol x.0 ∷ x.1) × (level_of x.0 < l)
operator_at-some l (Symbol o ∷ ts) x e =
    let found = cond_some (nat_lt (level_of o) l) (o, ts) x e in
    let below : level_of o < l = grind (arith, nat_tests, found.0) in
    (ap (λ y. Symbol y.0 ∷ y.1) found.1, subst (λ y. level_of y.0 < l) found.1 below)
operator_at-some l (_ ∷ ts) x e = cc
operator_at-some l [] x e = cc

-- no operator of a level below l stands at the front
abbrev pub Stops : ℕ → List Token → Type 0
Stops l (Symbol o ∷ ts) = l ≤ level_of o
Stops l _ = Unit {0}

pub operator_at-stops : (l : ℕ) (ts : List Token) → Stops l ts → operator_at l ts ≡ None
operator_at-stops l (Symbol o ∷ ts) h =
    let other : nat_lt (level_of o) l ≡ false = grind (arith, nat_tests, h) in
    ap (λ b. cond b (Some (o, ts)) None) other
operator_at-stops l [] h = refl
operator_at-stops l (_ ∷ ts) h = refl

pub operator_at-none : (l : ℕ) (ts : List Token) → operator_at l ts ≡ None → Stops l ts
operator_at-none l (Symbol o ∷ ts) e =
    elim (nat_lt (level_of o) l) as (λ b. nat_lt (level_of o) l ≡ b
    → cond {A = Option (Operator × List Token)} b (Some (o, ts)) None ≡ None → l ≤ level_of o) [
      | true ↦ λ is f. cc
      | false ↦ λ is f. grind (arith, nat_tests, is)
    ] refl e
operator_at-none l [] e = tt
operator_at-none l (_ ∷ ts) e = tt

pub sign_of-some : (o : Operator) (s : Sign) → sign_of o ≡ Some s → o ≡ symbol_of s
sign_of-some plus_sign s e = let same : Plus ≡ s = cc in ap symbol_of same
sign_of-some minus_sign s e = let same : Minus ≡ s = cc in ap symbol_of same
sign_of-some _ s e = cc

-- a list that is cut twice
pub cut_twice : (ts p us q rest : List Token) → ts ≡ p ++ us → us ≡ q ++ rest → ts ≡ (p ++ q) ++ rest
cut_twice ts p us q rest e f = e ∙ ap (λ v. p ++ v) f ∙ sym (append_assoc p q rest)
