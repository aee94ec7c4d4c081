-- In a formula no token goes on in the one after it, so its text is read token for token.
use Rattle.std.proofs.Common.{ℕ, sym, refl, ap, subst, List, [], ◌∷◌, ◌++◌, append_assoc, append-nil}
use Rattle.ps_tokens.specs.Apart.{AreApart, IsApart}
use Rattle.ps_tokens.specs.declared.token.Function.{Function}
use Rattle.ps_tokens.specs.declared.token.Operator.{Operator}
use Rattle.ps_tokens.specs.declared.token.Operator.TheVariants.{Plus as plus_sign, Minus as minus_sign, Less, Greater}
use Rattle.ps_tokens.specs.declared.token.Token.{Token}
use Rattle.ps_tokens.specs.declared.token.Token.TheVariants.{Numeral, Reference, Range, Symbol, Open, Close}
use Rattle.ps_tokens.specs.declared.token.Token.TheVariants.{Separator}
use Rattle.ps_formula.specs.declared.expr.Sign.{Sign}
use Rattle.ps_formula.specs.declared.expr.Sign.TheVariants.{Plus, Minus}
use Rattle.ps_formula.specs.Canonical.{symbol_of}
use Rattle.ps_formula.specs.Grammar.{Has, More, Arguments, Argument, a_numeral, a_reference, a_sign, a_group}
use Rattle.ps_formula.specs.Grammar.{a_bare_call, a_call, a_chain, no_more, one_more, last_argument, next_argument}
use Rattle.ps_formula.specs.Grammar.{a_comparison, a_range}
use Rattle.ps_formula.specs.Tree.{Tree, Item, Items}

-- what may stand after an operand: no numeral, since an operand may end with one
abbrev Ends : List Token → Type 0
Ends (Numeral _ ∷ ts) = ⊥
Ends _ = Unit {0}

-- what may stand after an operator: no operator but a sign
abbrev Begins : List Token → Type 0
Begins (Symbol plus_sign ∷ ts) = Unit {0}
Begins (Symbol minus_sign ∷ ts) = Unit {0}
Begins (Symbol _ ∷ ts) = ⊥
Begins _ = Unit {0}

numeral_apart : (z : _) (ts : List Token) → Ends ts → IsApart (Numeral z) ts
numeral_apart z (Numeral y ∷ ts) h = absurd h
numeral_apart z [] h = tt
numeral_apart z (_ ∷ ts) h = refl

symbol_apart : (o : Operator) (ts : List Token) → Begins ts → IsApart (Symbol o) ts
symbol_apart Less (Symbol plus_sign ∷ ts) h = refl
symbol_apart Less (Symbol minus_sign ∷ ts) h = refl
symbol_apart Less (Symbol _ ∷ ts) h = absurd h
symbol_apart Greater (Symbol plus_sign ∷ ts) h = refl
symbol_apart Greater (Symbol minus_sign ∷ ts) h = refl
symbol_apart Greater (Symbol _ ∷ ts) h = absurd h
symbol_apart _ (Symbol o ∷ ts) h = refl
symbol_apart o [] h = tt
symbol_apart o (_ ∷ ts) h = refl

other_apart : (ts : List Token) → IsApart Close ts
other_apart [] = tt
other_apart (_ ∷ ts) = refl

opened_apart : (ts : List Token) → IsApart Open ts
opened_apart [] = tt
opened_apart (_ ∷ ts) = refl

separated_apart : (ts : List Token) → IsApart Separator ts
separated_apart [] = tt
separated_apart (_ ∷ ts) = refl

reference_apart : (c : ℕ) (ts : List Token) → IsApart (Reference c) ts
reference_apart c [] = tt
reference_apart c (_ ∷ ts) = refl

range_apart : (r : _) (ts : List Token) → IsApart (Range r) ts
range_apart r [] = tt
range_apart r (_ ∷ ts) = refl

begins_sign : (s : Sign) (ts : List Token) → Begins (Symbol (symbol_of s) ∷ ts)
begins_sign Plus ts = tt
begins_sign Minus ts = tt

begins : {l : ℕ} {ts : List Token} {t : Tree} → Has l ts t → (rest : List Token) → Begins (ts ++ rest)
begins a_numeral rest = tt
begins a_reference rest = tt
begins (a_sign {s = s} {ts = ts} h) rest = begins_sign s (ts ++ rest)
begins (a_group h) rest = tt
begins (a_bare_call h) rest = tt
begins (a_call h accepted) rest = tt
begins (a_chain {ts = ts} {us = us} h more) rest =
    subst Begins (sym (append_assoc ts us rest)) (begins h (us ++ rest))

ends_more : {l : ℕ} {a t : Tree} {us : List Token} → More l a us t → (rest : List Token) → Ends rest
    → Ends (us ++ rest)
ends_more no_more rest h = h
ends_more (one_more here h others) rest k = tt

mutual
  apart : {l : ℕ} {ts : List Token} {t : Tree} → Has l ts t → (rest : List Token) → Ends rest → AreApart rest
      → AreApart (ts ++ rest)
  apart (a_numeral {z = z}) rest e h = (numeral_apart z rest e, h)
  apart (a_reference {c = c}) rest e h = (reference_apart c rest, h)
  apart (a_sign {s = s} {ts = ts} k) rest e h =
      (symbol_apart (symbol_of s) (ts ++ rest) (begins k rest), apart k rest e h)
  apart (a_group {ts = ts} k) rest e h =
      let inside : AreApart (ts ++ (Close ∷ rest)) = apart k (Close ∷ rest) tt (other_apart rest, h) in
      subst AreApart (sym (ap (λ v. Open ∷ v) (append_assoc ts (Close ∷ []) rest)))
      (opened_apart (ts ++ (Close ∷ rest)), inside)
  apart (a_bare_call k) rest e h = (refl, (refl, (other_apart rest, h)))
  apart (a_call {ts = ts} k accepted) rest e h = (refl, (opened_apart (ts ++ rest), apart_arguments k rest h))
  apart (a_chain {ts = ts} {us = us} k more) rest e h =
      subst AreApart (sym (append_assoc ts us rest))
      (apart k (us ++ rest) (ends_more more rest e) (apart_more more rest e h))

  apart_more : {l : ℕ} {a t : Tree} {us : List Token} → More l a us t → (rest : List Token) → Ends rest
      → AreApart rest → AreApart (us ++ rest)
  apart_more no_more rest e h = h
  apart_more (one_more {o = o} {ts = ts} {us = us} here k others) rest e h =
      subst AreApart (sym (ap (λ v. Symbol o ∷ v) (append_assoc ts us rest))) (
        symbol_apart o (ts ++ (us ++ rest)) (begins k (us ++ rest)),
        apart k (us ++ rest) (ends_more others rest e)
            (apart_more others rest e h),
      )

  apart_arguments : {f : Function} {ts : List Token} {is : Items} → Arguments f ts is → (rest : List Token)
      → AreApart rest → AreApart (ts ++ rest)
  apart_arguments (last_argument {ts = ts} k) rest h =
      subst AreApart (sym (append_assoc ts (Close ∷ []) rest))
      (apart_argument k (Close ∷ rest) tt (other_apart rest, h))
  apart_arguments (next_argument {ts = ts} {us = us} k others) rest h =
      subst AreApart (sym (append_assoc ts (Separator ∷ us) rest))
      (apart_argument k (Separator ∷ us ++ rest) tt (separated_apart (us ++ rest), apart_arguments others rest h))

  apart_argument : {f : Function} {ts : List Token} {i : Item} → Argument f ts i → (rest : List Token) → Ends rest
      → AreApart rest → AreApart (ts ++ rest)
  apart_argument (a_comparison k) rest e h = apart k rest e h
  apart_argument (a_range {r = r} k) rest e h = (range_apart r rest, h)

pub are_apart : {l : ℕ} {ts : List Token} {t : Tree} → Has l ts t → AreApart ts
are_apart {l} {ts} h = subst AreApart (append-nil ts) (apart h [] tt tt)
