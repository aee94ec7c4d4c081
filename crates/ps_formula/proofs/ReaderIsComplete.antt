-- The reader is complete: tokens that have a tree by the grammar are read as that tree, whatever stands after them,
-- unless it is an operator that would continue the expression.
use Rattle.std.proofs.Common.{◌≡◌, ℕ, zero, suc, ◌+◌, ◌*◌, ◌<◌, ◌≤◌, true, cond, refl, sym, ap, ◌∙◌}
use Rattle.std.proofs.Common.{subst, List, [], ◌∷◌, ◌++◌, length, length-append, append_assoc, arith}
use Rattle.std.specs.Prelude.{Option, Some, None, option_and_then, nat_lt}
use Rattle.std.proofs.lemmas.Bool.Decides.{nat_tests}
use Rattle.ps_tokens.specs.declared.token.Function.{Function}
use Rattle.ps_tokens.specs.declared.token.Operator.{Operator}
use Rattle.ps_tokens.specs.declared.token.Token.{Token}
use Rattle.ps_tokens.specs.declared.token.Token.TheVariants.{Numeral, Reference, Name, Symbol, Open, Close, Separator}
use Rattle.ps_formula.specs.declared.expr.Sign.{Sign}
use Rattle.ps_formula.specs.declared.expr.Sign.TheVariants.{Plus, Minus}
use Rattle.ps_formula.specs.Grammar.{Has, More, Arguments, Argument, accepts, takes_ranges, level_of, a_numeral}
use Rattle.ps_formula.specs.Grammar.{a_reference, a_sign, a_group, a_bare_call, a_call, a_chain, no_more, one_more}
use Rattle.ps_formula.specs.Grammar.{last_argument, next_argument, a_comparison, a_range}
use Rattle.ps_formula.specs.Canonical.{symbol_of}
use Rattle.ps_formula.specs.Inside.Reading.{level_at, more_at, prefixed_at, arguments_at, after_argument_at}
use Rattle.ps_formula.specs.Inside.Reading.{argument_at}
use Rattle.ps_formula.specs.Inside.Reading.{either_way}
use Rattle.ps_formula.specs.Inside.Reading.{closed_at, range_at, operator_at, sign_of}
use Rattle.ps_formula.specs.Tree.{Tree, Item, Items, number, reference, signed, joined, group, call, expression}
use Rattle.ps_formula.specs.Tree.{range, no_items, in_row}
use Rattle.ps_formula.proofs.FirstTokens.{Stops, operator_at-stops}
use Rattle.ps_formula.proofs.ArgumentLists.{listed, in_row-listed, length-listed}

Stops-below : (l : ℕ) (ts : List Token) → Stops (suc l) ts → Stops l ts
Stops-below l (Symbol o ∷ ts) h = omega (arith, h)
Stops-below l [] h = tt
Stops-below l (_ ∷ ts) h = tt

operator_at-here : (l : ℕ) (o : Operator) (ts : List Token) → level_of o < l
    → operator_at l (Symbol o ∷ ts) ≡ Some (o, ts)
operator_at-here l o ts h =
    let same : nat_lt (level_of o) l ≡ true = grind (arith, nat_tests, h) in
    ap (λ b. cond b (Some (o, ts)) None) same

Stops-after : {l : ℕ} {a t : Tree} {us : List Token} → More l a us t → (rest : List Token) → Stops (suc l) rest
    → Stops l (us ++ rest)
Stops-after {l} no_more rest h = Stops-below l rest h
Stops-after (one_more here operand others) rest h = omega (arith, here)

stops-zero : (ts : List Token) → Stops 0 ts
stops-zero (Symbol o ∷ ts) = omega arith
stops-zero [] = tt
stops-zero (_ ∷ ts) = tt

sign_of-symbol_of : (s : Sign) → sign_of (symbol_of s) ≡ Some s
sign_of-symbol_of Plus = refl
sign_of-symbol_of Minus = refl

-- neither a range nor a closing parenthesis stands at the front
record Starts (ts : List Token) : Type 0 where
  no_range : range_at ts ≡ None
  not_closed : closed_at ts ≡ None

starts : {l : ℕ} {ts : List Token} {a : Tree} → Has l ts a → (rest : List Token) → Starts (ts ++ rest)
starts a_numeral rest = record { no_range = refl; not_closed = refl }
starts a_reference rest = record { no_range = refl; not_closed = refl }
starts (a_sign h) rest = record { no_range = refl; not_closed = refl }
starts (a_group h) rest = record { no_range = refl; not_closed = refl }
starts (a_bare_call h) rest = record { no_range = refl; not_closed = refl }
starts (a_call h k) rest = record { no_range = refl; not_closed = refl }
starts (a_chain {ts = ts} {us = us} h more) rest =
    subst Starts (sym (append_assoc ts us rest)) (starts h (us ++ rest))

argument_not_closed : {f : Function} {ts : List Token} {i : Item} → Argument f ts i → (rest : List Token)
    → closed_at (ts ++ rest) ≡ None
argument_not_closed (a_comparison h) rest = (starts h rest).not_closed
argument_not_closed (a_range h) rest = refl

arguments_not_closed : {f : Function} {ts : List Token} {is : Items} → Arguments f ts is → (rest : List Token)
    → closed_at (ts ++ rest) ≡ None
arguments_not_closed (last_argument {ts = ts} h) rest =
    ap closed_at (append_assoc ts (Close ∷ []) rest) ∙ argument_not_closed h (Close ∷ rest)
arguments_not_closed (next_argument {ts = ts} {us = us} h others) rest =
    ap closed_at (append_assoc ts (Separator ∷ us) rest) ∙ argument_not_closed h (Separator ∷ us ++ rest)

-- the loop of operands came past the tokens, with fuel left, and found the tree
pub record Goes (n : ℕ) (found : ℕ → Option (Tree × List Token)) (l : ℕ) (ts rest : List Token) (t : Tree)
    : Type 0 where
  pub left : ℕ
  pub enough : n ≤ left + 8 * length ts
  pub goes : found n ≡ more_at left l t rest

goes_from : (n l : ℕ) (ts rest : List Token) (t : Tree) → 0 < length ts → prefixed_at n (ts ++ rest) ≡ Some (t, rest)
    → Goes (suc n) (λ m. level_at m l (ts ++ rest)) l ts rest t
unfolding level_at
goes_from n l ts rest t some e = record {
  left = n;
  enough = omega (arith, some);
  goes = ap (option_and_then (λ a. more_at n l a.0 a.1)) e;
}

more_at-stops : (n l : ℕ) (a : Tree) (rest : List Token) → 0 < n → Stops l rest → more_at n l a rest ≡ Some (a, rest)
unfolding level_at
more_at-stops zero l a rest some stops = absurd (omega (arith, some))
more_at-stops (suc n) l a rest some stops =
    ap (λ o. either_way o (Some (a, rest))
    (λ x. option_and_then (λ b. more_at n l (joined a x.0 b.0) b.1) (level_at n (level_of x.0) x.1)))
    (operator_at-stops l rest stops)

-- where the loop stops after the tokens, they were read whole
pub all_read : (n l : ℕ) (ts rest : List Token) (t : Tree) → Goes n (λ m. level_at m l (ts ++ rest)) l ts rest t
    → 8 * length ts < n → Stops l rest → level_at n l (ts ++ rest) ≡ Some (t, rest)
all_read n l ts rest t g fuel stops =
    g.goes ∙ more_at-stops g.left l t rest (omega (arith, fuel, g.enough)) stops

-- a prefixed operand is what is read at the tightest level
level_at-zero : (n : ℕ) (ts : List Token) → level_at (suc (suc n)) 0 ts ≡ prefixed_at (suc n) ts
unfolding level_at
level_at-zero n ts =
    elim (prefixed_at (suc n) ts) as (λ o. option_and_then (λ a. more_at (suc n) 0 a.0 a.1) o ≡ o) [
      | None ↦ refl
      | Some x ↦ more_at-stops (suc n) 0 x.0 x.1 (omega arith) (stops-zero x.1)
    ]

mutual
  unfolding level_at

  pub again_level : {k : ℕ} {ts : List Token} {t : Tree} → Has k ts t → (n l : ℕ) (rest : List Token)
      → k ≤ l → 8 * length ts < n → Stops k rest → Goes n (λ m. level_at m l (ts ++ rest)) l ts rest t
  again_level (a_numeral {z = z}) (suc (suc n)) l rest below fuel stops =
      goes_from (suc n) l (Numeral z ∷ []) rest (number z) (omega arith) refl
  again_level (a_reference {c = c}) (suc (suc n)) l rest below fuel stops =
      goes_from (suc n) l (Reference c ∷ []) rest (reference c) (omega arith) refl
  again_level (a_sign {s = s} {ts = ts} {a = a} h) (suc (suc (suc n))) l rest below fuel stops =
      goes_from (suc (suc n)) l (Symbol (symbol_of s) ∷ ts) rest (signed s a) (omega arith)
      (ap (λ o. option_and_then
      (λ r. option_and_then (λ b. Some (signed r b.0, b.1)) (prefixed_at (suc n) (ts ++ rest))) o)
      (sign_of-symbol_of s)
      ∙ ap (λ o. option_and_then (λ b. Some (signed s b.0, b.1)) o)
      (sym (level_at-zero n (ts ++ rest))
      ∙ all_read (suc (suc n)) 0 ts rest a
      (again_level h (suc (suc n)) 0 rest (omega arith) (omega (arith, fuel)) stops) (omega (arith, fuel)) stops))
  again_level (a_group {ts = ts} {a = a} h) (suc (suc n)) l rest below fuel stops =
      let enough : 8 * length ts < n = omega (arith, fuel, length-append ts (Close ∷ [])) in
      goes_from (suc n) l (Open ∷ ts ++ (Close ∷ [])) rest (group a) (omega arith)
      (ap (λ v. prefixed_at (suc n) (Open ∷ v)) (append_assoc ts (Close ∷ []) rest)
      ∙ ap (λ o. option_and_then (λ b. option_and_then (λ us. Some (group b.0, us)) (closed_at b.1)) o)
      (all_read n 3 ts (Close ∷ rest) a (again_level h n 3 (Close ∷ rest) (omega arith) enough tt) enough tt))
  again_level (a_bare_call {f = f} h) (suc (suc (suc n))) l rest below fuel stops =
      goes_from (suc (suc n)) l (Name f ∷ Open ∷ Close ∷ []) rest (call f no_items) (omega arith)
      (ap (λ b. cond b (Some (call f no_items, rest)) None) h)
  again_level (a_call {f = f} {ts = ts} {is = is} h accepted) (suc (suc (suc n))) l rest below fuel stops =
      goes_from (suc (suc n)) l (Name f ∷ Open ∷ ts) rest (call f is) (omega arith)
      (ap (λ o. either_way o
      (option_and_then (λ x. cond (accepts f (length x.0)) (Some (call f (in_row x.0), x.1)) None)
      (arguments_at n f [] (ts ++ rest))) (λ us. cond (accepts f 0) (Some (call f no_items, us)) None))
      (arguments_not_closed h rest)
      ∙ ap (λ o. option_and_then (λ x. cond (accepts f (length x.0)) (Some (call f (in_row x.0), x.1)) None) o)
      (again_arguments h n [] rest (omega (arith, fuel)))
      ∙ ap (λ b. cond b (Some (call f (in_row (listed is)), rest)) None)
      (ap (accepts f) (length-listed is) ∙ accepted)
      ∙ ap (λ v. Some (call f v, rest)) (in_row-listed is))
  again_level (a_chain {l = k} {ts = ts} {us = us} {a = a} {t = t} h more) n l rest below fuel stops =
      let first = again_level h n l (us ++ rest) (omega (arith, below))
      (omega (arith, fuel, length-append ts us)) (Stops-after more rest stops) in
      let others = again_more more first.left l rest below
      (omega (arith, fuel, first.enough, length-append ts us)) stops in
      record {
        left = others.left;
        enough = omega (arith, first.enough, others.enough, length-append ts us);
        goes = ap (level_at n l) (append_assoc ts us rest) ∙ first.goes ∙ others.goes;
      }
  again_level _ _ l rest below fuel stops = absurd (omega (arith, fuel))

  again_more : {k : ℕ} {a t : Tree} {us : List Token} → More k a us t → (n l : ℕ) (rest : List Token)
      → k < l → 8 * length us < n → Stops (suc k) rest → Goes n (λ m. more_at m l a (us ++ rest)) l us rest t
  again_more no_more n l rest below fuel stops = record { left = n; enough = omega arith; goes = refl }
  again_more {k} {a} {t} (one_more {b = b} {o = o} {ts = ts} {us = us} here operand others) (suc n) l rest below
      fuel stops =
      let sizes = length-append ts us in
      let enough : 8 * length ts < n = omega (arith, fuel, sizes) in
      let stop = Stops-after others rest stops in
      let read = all_read n k ts (us ++ rest) b
      (again_level operand n k (us ++ rest) (omega arith) enough stop) enough stop in
      let rest_of = again_more others n l rest below (omega (arith, fuel, sizes)) stops in
      record {
        left = rest_of.left;
        enough = omega (arith, rest_of.enough, sizes);
        goes =
            ap (λ v. more_at (suc n) l a (Symbol o ∷ v)) (append_assoc ts us rest)
            ∙ ap (λ p. either_way p (Some (a, Symbol o ∷ ts ++ (us ++ rest)))
            (λ x. option_and_then (λ c. more_at n l (joined a x.0 c.0) c.1) (level_at n (level_of x.0) x.1)))
            (operator_at-here l o (ts ++ (us ++ rest)) (omega (arith, here, below)))
            ∙ ap (option_and_then (λ c. more_at n l (joined a o c.0) c.1))
            (ap (λ v. level_at n v (ts ++ (us ++ rest))) here ∙ read)
            ∙ rest_of.goes;
      }
  again_more _ zero l rest below fuel stops = absurd (omega (arith, fuel))

  again_arguments : {f : Function} {ts : List Token} {is : Items} → Arguments f ts is
      → (n : ℕ) (before : List Item) (rest : List Token) → 8 * length ts < n
      → arguments_at n f before (ts ++ rest) ≡ Some (before ++ listed is, rest)
  again_arguments {f} (last_argument {ts = ts} {i = i} h) (suc (suc n)) before rest fuel =
      ap (arguments_at (suc (suc n)) f before) (append_assoc ts (Close ∷ []) rest)
      ∙ ap (option_and_then (λ j. after_argument_at (suc n) f (before ++ j.0 ∷ []) j.1))
      (again_argument h (suc n) (Close ∷ rest) (omega (arith, fuel, length-append ts (Close ∷ []))) tt)
  again_arguments {f} (next_argument {ts = ts} {us = us} {i = i} {is = is} h others) (suc (suc n)) before rest fuel =
      ap (arguments_at (suc (suc n)) f before) (append_assoc ts (Separator ∷ us) rest)
      ∙ ap (option_and_then (λ j. after_argument_at (suc n) f (before ++ j.0 ∷ []) j.1))
      (again_argument h (suc n) (Separator ∷ us ++ rest)
      (omega (arith, fuel, length-append ts (Separator ∷ us))) tt)
      ∙ again_arguments others n (before ++ i ∷ []) rest (omega (arith, fuel, length-append ts (Separator ∷ us)))
      ∙ ap (λ v. Some (v, rest)) (append_assoc before (i ∷ []) (listed is))
  again_arguments (last_argument {ts = ts} h) _ before rest fuel =
      absurd (omega (arith, fuel, length-append ts (Close ∷ [])))
  again_arguments (next_argument {ts = ts} {us = us} h others) _ before rest fuel =
      absurd (omega (arith, fuel, length-append ts (Separator ∷ us)))

  again_argument : {f : Function} {ts : List Token} {i : Item} → Argument f ts i → (n : ℕ) (rest : List Token)
      → 8 * length ts + 4 < n → Stops 3 rest → argument_at n f (ts ++ rest) ≡ Some (i, rest)
  again_argument {f} (a_comparison {ts = ts} {a = a} h) (suc n) rest fuel stops =
      ap (λ o. either_way o (option_and_then (λ b. Some (expression b.0, b.1)) (level_at n 3 (ts ++ rest)))
      (λ x. cond (takes_ranges f) (Some (range x.0, x.1)) None)) ((starts h rest).no_range)
      ∙ ap (option_and_then (λ b. Some (expression b.0, b.1)))
      (all_read n 3 ts rest a (again_level h n 3 rest (omega arith) (omega (arith, fuel)) stops)
      (omega (arith, fuel)) stops)
  again_argument {f} (a_range {r = r} h) (suc n) rest fuel stops = ap (λ b. cond b (Some (range r, rest)) None) h
  again_argument _ zero rest fuel stops = absurd (omega (arith, fuel))
