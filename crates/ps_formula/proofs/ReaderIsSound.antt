-- The reader is sound: where it reads a tree, some first tokens have that tree by the grammar.
use Rattle.std.proofs.Common.{◌≡◌, ℕ, zero, suc, ◌+◌, ◌-◌, ◌≤◌, cond, refl, sym, ap, ◌∙◌, subst, List, [], ◌∷◌, ◌++◌}
use Rattle.std.proofs.Common.{length, append-nil, arith}
use Rattle.std.specs.Prelude.{Some, None, option_and_then}
use Rattle.std.proofs.lemmas.Option.{option_and_then_some, cond_some}
use Rattle.std.proofs.lemmas.List.{append_assoc}
use Rattle.ps_tokens.specs.declared.token.Function.{Function}
use Rattle.ps_tokens.specs.declared.token.Operator.{Operator}
use Rattle.ps_tokens.specs.declared.token.Token.{Token}
use Rattle.ps_tokens.specs.declared.token.Token.TheVariants.{Numeral, Reference, Range, Name, Symbol, Open, Close}
use Rattle.ps_tokens.specs.declared.token.Token.TheVariants.{Separator}
use Rattle.ps_formula.specs.Grammar.{Has, More, Arguments, Argument, accepts, takes_ranges, level_of, a_numeral}
use Rattle.ps_formula.specs.Grammar.{a_reference, a_sign, a_group, a_bare_call, a_call, a_chain, no_more}
use Rattle.ps_formula.specs.Grammar.{one_more, last_argument, next_argument, a_comparison, a_range}
use Rattle.ps_formula.specs.Canonical.{symbol_of}
use Rattle.ps_formula.specs.Inside.Reading.{level_at, more_at, prefixed_at, call_at, arguments_at, after_argument_at}
use Rattle.ps_formula.specs.Inside.Reading.{argument_at}
use Rattle.ps_formula.specs.Inside.Reading.{closed_at, range_at, operator_at, sign_of}
use Rattle.ps_formula.specs.Tree.{Tree, Item, Items, number, reference, signed, joined, group, call, expression}
use Rattle.ps_formula.specs.Tree.{range, no_items, item_and, in_row}
use Rattle.ps_formula.proofs.FirstTokens.{either_way_cases, closed_at-some, Stops, operator_at-none}
use Rattle.ps_formula.proofs.FirstTokens.{range_at-some, operator_at-some, sign_of-some, cut_twice}
use Rattle.ps_formula.proofs.ArgumentLists.{listed, in_row-listed, length-listed}

pub record Takes (l : ℕ) (ts : List Token) (x : Tree × List Token) : Type 0 where
  pub front : List Token
  pub splits : ts ≡ front ++ x.1
  pub has : Has l front x.0

pub record TakesArgument (f : Function) (ts : List Token) (x : Item × List Token) : Type 0 where
  pub front : List Token
  pub splits : ts ≡ front ++ x.1
  pub has : Argument f front x.0

pub record TakesArguments (f : Function) (before : List Item) (ts : List Token)
    (x : List Item × List Token) : Type 0 where
  pub front : List Token
  pub items : Items
  pub splits : ts ≡ front ++ x.1
  pub has : Arguments f front items
  pub all : x.0 ≡ before ++ listed items

pub data TakesAfterArgument (f : Function) (before : List Item) (ts : List Token) (x : List Item × List Token)
    : Type 0 where
  is_closed : ts ≡ Close ∷ x.1 → x.0 ≡ before → TakesAfterArgument f before ts x
  goes_on : (us : List Token) → ts ≡ Separator ∷ us → TakesArguments f before us x → TakesAfterArgument f before ts x

group_splits : (ts front rest us : List Token) → ts ≡ front ++ rest → rest ≡ Close ∷ us
    → Open ∷ ts ≡ (Open ∷ front ++ (Close ∷ [])) ++ us
group_splits ts front rest us e f = ap (λ v. Open ∷ v) (cut_twice ts front rest (Close ∷ []) us e f)

arguments_taken : (f : Function) (before : List Item) (ts : List Token) (i : Item × List Token)
    (x : List Item × List Token)
    → TakesArgument f ts i → TakesAfterArgument f (before ++ i.0 ∷ []) i.1 x → TakesArguments f before ts x
arguments_taken f before ts i x a (is_closed closed all) = record {
  front = a.front ++ (Close ∷ []);
  items = item_and i.0 no_items;
  splits = cut_twice ts a.front i.1 (Close ∷ []) x.1 a.splits closed;
  has = last_argument a.has;
  all = all;
}
arguments_taken f before ts i x a (goes_on us separated others) = record {
  front = a.front ++ (Separator ∷ others.front);
  items = item_and i.0 others.items;
  splits =
      cut_twice ts a.front i.1 (Separator ∷ others.front) x.1 a.splits
      (separated ∙ ap (λ v. Separator ∷ v) others.splits);
  has = next_argument a.has others.has;
  all = others.all ∙ append_assoc before (i.0 ∷ []) (listed others.items);
}

-- the operator at the front, if one stands there, joins operands of the level below this one or of a looser one
abbrev MayGoOn : ℕ → List Token → Type 0
MayGoOn l (Symbol o ∷ ts) = l ≤ suc (level_of o)
MayGoOn l _ = Unit {0}

may_go_on-zero : (ts : List Token) → MayGoOn 0 ts
may_go_on-zero (Symbol o ∷ ts) = omega arith
may_go_on-zero [] = tt
may_go_on-zero (_ ∷ ts) = tt

may_go_on-stops : (l : ℕ) (ts : List Token) → Stops l ts → MayGoOn (suc l) ts
may_go_on-stops l (Symbol o ∷ ts) h = omega (arith, h)
may_go_on-stops l [] h = tt
may_go_on-stops l (_ ∷ ts) h = tt

has_above_by : {k : ℕ} {ts : List Token} {a : Tree} → Has k ts a → (d l : ℕ) → d + k ≡ l → Has l ts a
has_above_by {k} {ts} {a} h zero l e = let same : k ≡ l = omega (arith, e) in subst (λ v. Has v ts a) same h
has_above_by h (suc d) zero e = absurd (omega (arith, e))
has_above_by {k} {ts} {a} h (suc d) (suc l) e =
    subst (λ v. Has (suc l) v a) (append-nil ts) (a_chain (has_above_by h d l (omega (arith, e))) no_more)

-- an expression of a level is one of each looser level
has_above : {k l : ℕ} {ts : List Token} {a : Tree} → Has k ts a → k ≤ l → Has l ts a
has_above {k} {l} h below = has_above_by h (l - k) l (omega (arith, below))

more_joined : {l : ℕ} {a b t : Tree} {o : Operator} {us vs : List Token} → More l a us t → level_of o ≡ l → Has l vs b
    → More l a (us ++ (Symbol o ∷ vs)) (joined t o b)
more_joined {l} {a} {b} {o = o} {vs = vs} no_more e h =
    subst (λ v. More l a (Symbol o ∷ v) (joined a o b)) (append-nil vs) (one_more e h no_more)
more_joined {l} {a} {b} {t} {o} {vs = vs} (one_more {o = p} {ts = ts} {us = us} here operand others) e h =
    subst (λ v. More l a (Symbol p ∷ v) (joined t o b)) (sym (append_assoc ts us (Symbol o ∷ vs)))
    (one_more here operand (more_joined others e h))

-- one more operand after an expression
has_joined : {l : ℕ} {a b : Tree} {o : Operator} {ts vs : List Token} → Has (suc l) ts a → level_of o ≡ l → Has l vs b
    → Has (suc l) (ts ++ (Symbol o ∷ vs)) (joined a o b)
has_joined {l} {a} {b} {o} {vs = vs} (a_chain {ts = ts} {us = us} h more) e k =
    subst (λ v. Has (suc l) v (joined a o b)) (sym (append_assoc ts us (Symbol o ∷ vs)))
    (a_chain h (more_joined more e k))

-- the reader stops before an operator of its own level or of a looser one
stops_more : (n l : ℕ) (a : Tree) (ts : List Token) (x : Tree × List Token) → more_at n l a ts ≡ Some x → Stops l x.1
unfolding level_at
stops_more zero l a ts x e = cc
stops_more (suc n) l a ts x e =
    either_way_cases (operator_at l ts) (Some (a, ts)) (Some x)
    (λ o. option_and_then (λ b. more_at n l (joined a o.0 b.0) b.1) (level_at n (level_of o.0) o.1)) e
    (λ none ends. let same : (a, ts) ≡ x = cc in subst (λ y. Stops l y.1) same (operator_at-none l ts none))
    (λ o some rest.
    option_and_then_some (λ b. more_at n l (joined a o.0 b.0) b.1) (level_at n (level_of o.0) o.1) x rest
    (λ b found rest'. stops_more n l (joined a o.0 b.0) b.1 x rest'))

stops_level : (n l : ℕ) (ts : List Token) (x : Tree × List Token) → level_at n l ts ≡ Some x → Stops l x.1
unfolding level_at
stops_level zero l ts x e = cc
stops_level (suc n) l ts x e =
    option_and_then_some (λ a. more_at n l a.0 a.1) (prefixed_at n ts) x e
    (λ a found rest. stops_more n l a.0 a.1 x rest)

mutual
  unfolding level_at

  pub takes_level : (n l : ℕ) (ts : List Token) (x : Tree × List Token) → level_at n l ts ≡ Some x → Takes l ts x
  takes_level zero l ts x e = cc
  takes_level (suc n) l ts x e =
      option_and_then_some (λ a. more_at n l a.0 a.1) (prefixed_at n ts) x e
      (λ a found rest.
      let first = takes_prefixed n ts a found in
      subst (λ v. Takes l v x) (sym first.splits)
      (takes_more n l a.0 a.1 x rest 0 first.front first.has (omega arith) (may_go_on-zero a.1)))

  -- the tokens of the operand stand in front
  takes_more : (n l : ℕ) (a : Tree) (ts : List Token) (x : Tree × List Token) → more_at n l a ts ≡ Some x
      → (k : ℕ) (front : List Token) → Has k front a → k ≤ l → MayGoOn k ts → Takes l (front ++ ts) x
  takes_more zero l a ts x e k front has below turns = cc
  takes_more (suc n) l a ts x e k front has below turns =
      either_way_cases (operator_at l ts) (Some (a, ts)) (Some x)
      (λ o. option_and_then (λ b. more_at n l (joined a o.0 b.0) b.1) (level_at n (level_of o.0) o.1)) e
      (λ none ends. let same : (a, ts) ≡ x = cc in subst (λ y. Takes l (front ++ ts) y) same
      (record { front = front; splits = refl; has = has_above has below }))
      (λ o some rest.
      let sign = operator_at-some l ts o some in
      option_and_then_some (λ b. more_at n l (joined a o.0 b.0) b.1) (level_at n (level_of o.0) o.1) x rest
      (λ b found rest'.
      let operand = takes_level n (level_of o.0) o.1 b found in
      let left = has_above has (subst (MayGoOn k) sign.0 turns) in
      let all = cut_twice (front ++ ts) front ts (Symbol o.0 ∷ operand.front) b.1 refl
      (sign.0 ∙ ap (λ v. Symbol o.0 ∷ v) operand.splits) in
      subst (λ v. Takes l v x) (sym all)
      (takes_more n l (joined a o.0 b.0) b.1 x rest' (suc (level_of o.0)) (front ++ (Symbol o.0 ∷ operand.front))
      (has_joined left refl operand.has) sign.1
      (may_go_on-stops (level_of o.0) b.1 (stops_level n (level_of o.0) o.1 b found)))))

  takes_prefixed : (n : ℕ) (ts : List Token) (x : Tree × List Token) → prefixed_at n ts ≡ Some x → Takes 0 ts x
  takes_prefixed zero ts x e = cc
  takes_prefixed (suc n) [] x e = cc
  takes_prefixed (suc n) (Numeral z ∷ ts) x e =
      let same : (number z, ts) ≡ x = cc in
      subst (λ y. Takes 0 (Numeral z ∷ ts) y) same (record { front = Numeral z ∷ []; splits = refl; has = a_numeral })
  takes_prefixed (suc n) (Reference c ∷ ts) x e =
      let same : (reference c, ts) ≡ x = cc in
      subst (λ y. Takes 0 (Reference c ∷ ts) y) same
      (record { front = Reference c ∷ []; splits = refl; has = a_reference })
  takes_prefixed (suc n) (Symbol o ∷ ts) x e =
      option_and_then_some (λ s. option_and_then (λ a. Some (signed s a.0, a.1)) (prefixed_at n ts)) (sign_of o) x e
      (λ s sign rest.
      option_and_then_some (λ a. Some (signed s a.0, a.1)) (prefixed_at n ts) x rest
      (λ a found ends.
      let operand = takes_prefixed n ts a found in
      let same : (signed s a.0, a.1) ≡ x = cc in
      subst (λ y. Takes 0 (Symbol o ∷ ts) y) same
      (subst (λ y. Takes 0 (Symbol y ∷ ts) (signed s a.0, a.1)) (sym (sign_of-some o s sign))
      (record {
        front = Symbol (symbol_of s) ∷ operand.front;
        splits = ap
            (λ v. Symbol (symbol_of s) ∷ v) operand.splits;
        has = a_sign operand.has;
      }))))
  takes_prefixed (suc n) (Open ∷ ts) x e =
      option_and_then_some (λ a. option_and_then (λ us. Some (group a.0, us)) (closed_at a.1)) (level_at n 3 ts) x e
      (λ a found rest.
      option_and_then_some (λ us. Some (group a.0, us)) (closed_at a.1) x rest
      (λ us closed ends.
      let inner = takes_level n 3 ts a found in
      let same : (group a.0, us) ≡ x = cc in
      subst (λ y. Takes 0 (Open ∷ ts) y) same
      (record {
        front = Open ∷ inner.front ++ (Close ∷ []);
        splits = group_splits ts inner.front a.1 us inner.splits (closed_at-some a.1 us closed);
        has = a_group inner.has;
      })))
  takes_prefixed (suc n) (Name f ∷ Open ∷ ts) x e = takes_call n f ts x e
  takes_prefixed (suc n) (Name f ∷ ts) x e = cc
  takes_prefixed (suc n) (Range r ∷ ts) x e = cc
  takes_prefixed (suc n) (Close ∷ ts) x e = cc
  takes_prefixed (suc n) (Separator ∷ ts) x e = cc

  takes_call : (n : ℕ) (f : Function) (ts : List Token) (x : Tree × List Token) → call_at n f ts ≡ Some x
      → Takes 0 (Name f ∷ Open ∷ ts) x
  takes_call zero f ts x e = cc
  takes_call (suc n) f ts x e =
      either_way_cases (closed_at ts)
      (option_and_then (λ y. cond (accepts f (length y.0)) (Some (call f (in_row y.0), y.1)) None)
      (arguments_at n f [] ts)) (Some x)
      (λ us. cond (accepts f 0) (Some (call f no_items, us)) None) e
      (λ none rest.
      option_and_then_some (λ y. cond (accepts f (length y.0)) (Some (call f (in_row y.0), y.1)) None)
      (arguments_at n f [] ts) x rest
      (λ y found ends.
      let items = takes_arguments n f [] ts y found in
      let accepted = cond_some (accepts f (length y.0)) (call f (in_row y.0), y.1) x ends in
      subst (λ v. Takes 0 (Name f ∷ Open ∷ ts) v) accepted.1
      (subst (λ v. Takes 0 (Name f ∷ Open ∷ ts) (call f v, y.1))
      (sym (ap in_row items.all ∙ in_row-listed items.items))
      (record {
        front = Name f ∷ Open ∷ items.front;
        splits = ap (λ v. Name f ∷ Open ∷ v) items.splits;
        has =
            a_call items.has
            (ap (accepts f) (sym (length-listed items.items)) ∙ ap (λ v. accepts f (length v))
            (sym items.all) ∙ accepted.0);
      }))))
      (λ us closed ends.
      let accepted = cond_some (accepts f 0) (call f no_items, us) x ends in
      subst (λ v. Takes 0 (Name f ∷ Open ∷ ts) v) accepted.1
      (subst (λ v. Takes 0 (Name f ∷ Open ∷ v) (call f no_items, us)) (sym (closed_at-some ts us closed))
      (record { front = Name f ∷ Open ∷ Close ∷ []; splits = refl; has = a_bare_call accepted.0 })))

  takes_arguments : (n : ℕ) (f : Function) (before : List Item) (ts : List Token) (x : List Item × List Token)
      → arguments_at n f before ts ≡ Some x → TakesArguments f before ts x
  takes_arguments zero f before ts x e = cc
  takes_arguments (suc n) f before ts x e =
      option_and_then_some (λ i. after_argument_at n f (before ++ i.0 ∷ []) i.1) (argument_at n f ts) x e
      (λ i found rest. arguments_taken f before ts i x (takes_argument n f ts i found)
      (takes_after_argument n f (before ++ i.0 ∷ []) i.1 x rest))

  takes_after_argument : (n : ℕ) (f : Function) (before : List Item) (ts : List Token) (x : List Item × List Token)
      → after_argument_at n f before ts ≡ Some x → TakesAfterArgument f before ts x
  takes_after_argument zero f before ts x e = cc
  takes_after_argument (suc n) f before (Close ∷ ts) x e =
      let same : (before, ts) ≡ x = cc in
      is_closed (ap (λ y. Close ∷ y.1) same) (ap (λ y. y.0) (sym same))
  takes_after_argument (suc n) f before (Separator ∷ ts) x e = goes_on ts refl (takes_arguments n f before ts x e)
  takes_after_argument (suc n) f before (_ ∷ ts) x e = cc
  takes_after_argument (suc n) f before [] x e = cc

  takes_argument : (n : ℕ) (f : Function) (ts : List Token) (x : Item × List Token) → argument_at n f ts ≡ Some x
      → TakesArgument f ts x
  takes_argument zero f ts x e = cc
  takes_argument (suc n) f ts x e =
      either_way_cases (range_at ts) (option_and_then (λ a. Some (expression a.0, a.1)) (level_at n 3 ts)) (Some x)
      (λ r. cond (takes_ranges f) (Some (range r.0, r.1)) None) e
      (λ none rest.
      option_and_then_some (λ a. Some (expression a.0, a.1)) (level_at n 3 ts) x rest
      (λ a found ends.
      let inner = takes_level n 3 ts a found in
      let same : (expression a.0, a.1) ≡ x = cc in
      subst (λ y. TakesArgument f ts y) same
      (record { front = inner.front; splits = inner.splits; has = a_comparison inner.has })))
      (λ r some ends.
      let taken = cond_some (takes_ranges f) (range r.0, r.1) x ends in
      subst (λ y. TakesArgument f ts y) taken.1
      (record { front = Range r.0 ∷ []; splits = range_at-some ts r some; has = a_range taken.0 }))
