-- A tree has one list of tokens: that which it was read from.
use Rattle.std.proofs.Common.{◌≡◌, ℕ, sym, refl, ap, ◌∙◌, List, [], ◌∷◌, ◌++◌, append_assoc, append-nil}
use Rattle.std.specs.List.{flat_map}
use Rattle.std.proofs.lemmas.Grind.{flat_map-append}
use Rattle.ps_grid.specs.Rectangle.{Area}
use Rattle.ps_tokens.specs.declared.token.Function.{Function}
use Rattle.ps_tokens.specs.declared.token.Token.{Token}
use Rattle.ps_tokens.specs.declared.token.Token.TheVariants.{Name, Symbol, Open, Close, Separator}
use Rattle.ps_formula.specs.Canonical.{tokens_of, tokens_of_items, tokens_after_item, tokens_of_item, symbol_of}
use Rattle.ps_formula.specs.Grammar.{Has, More, Arguments, Argument, a_numeral, a_reference, a_sign, a_group}
use Rattle.ps_formula.specs.Grammar.{a_bare_call, a_call, a_chain, no_more, one_more, last_argument, next_argument}
use Rattle.ps_formula.specs.Grammar.{a_comparison, a_range}
use Rattle.ps_formula.specs.References.{rects_of, rects_among, rects_in, rects_at}
use Rattle.ps_formula.specs.Tree.{Tree, Item, Items, number, reference, signed, joined, group, call, expression}
use Rattle.ps_formula.specs.Tree.{range, no_items, item_and}

mutual
  pub tokens_of-has : {l : ℕ} {ts : List Token} {t : Tree} → Has l ts t → tokens_of t ≡ ts
  tokens_of-has a_numeral = refl
  tokens_of-has a_reference = refl
  tokens_of-has (a_sign {s = s} h) = ap (λ v. Symbol (symbol_of s) ∷ v) (tokens_of-has h)
  tokens_of-has (a_group h) = ap (λ v. Open ∷ v ++ (Close ∷ [])) (tokens_of-has h)
  tokens_of-has (a_bare_call h) = refl
  tokens_of-has (a_call {f = f} h accepted) = ap (λ v. Name f ∷ Open ∷ v) (tokens_of_items-arguments h)
  tokens_of-has (a_chain {us = us} h more) = tokens_of-more more ∙ ap (λ v. v ++ us) (tokens_of-has h)

  tokens_of-more : {l : ℕ} {a t : Tree} {us : List Token} → More l a us t → tokens_of t ≡ tokens_of a ++ us
  tokens_of-more {l} {a} no_more = sym (append-nil (tokens_of a))
  tokens_of-more {l} {a} (one_more {b = b} {o = o} {ts = ts} {us = us} here h others) =
      tokens_of-more others ∙ append_assoc (tokens_of a) (Symbol o ∷ tokens_of b) us
      ∙ ap (λ v. tokens_of a ++ (Symbol o ∷ v ++ us)) (tokens_of-has h)

  tokens_of_items-arguments : {f : Function} {ts : List Token} {is : Items} → Arguments f ts is
      → tokens_of_items is ≡ ts
  tokens_of_items-arguments (last_argument h) = ap (λ v. v ++ (Close ∷ [])) (tokens_of_item-argument h)
  tokens_of_items-arguments (next_argument {ts = ts} {is = is} h others) =
      ap (λ v. v ++ tokens_after_item is) (tokens_of_item-argument h)
      ∙ ap (λ v. ts ++ v) (tokens_after_item-arguments others)

  tokens_after_item-arguments : {f : Function} {ts : List Token} {is : Items} → Arguments f ts is
      → tokens_after_item is ≡ Separator ∷ ts
  tokens_after_item-arguments (last_argument h) = ap (λ v. Separator ∷ v ++ (Close ∷ [])) (tokens_of_item-argument h)
  tokens_after_item-arguments (next_argument {ts = ts} {is = is} h others) =
      ap (λ v. Separator ∷ v ++ tokens_after_item is) (tokens_of_item-argument h)
      ∙ ap (λ v. Separator ∷ ts ++ v) (tokens_after_item-arguments others)

  tokens_of_item-argument : {f : Function} {ts : List Token} {i : Item} → Argument f ts i → tokens_of_item i ≡ ts
  tokens_of_item-argument (a_comparison h) = tokens_of-has h
  tokens_of_item-argument (a_range h) = refl

-- the rectangles of tokens
abbrev rects_at_all : List Token → List Area
rects_at_all ts = flat_map rects_at ts

-- the rectangles of tokens and of what stands after them
both : (ts us : List Token) (v w : List Area) → rects_at_all ts ≡ v → rects_at_all us ≡ w
    → rects_at_all (ts ++ us) ≡ v ++ w
both ts us v w first rest =
    flat_map-append rects_at ts us ∙ ap (λ x. x ++ rects_at_all us) first ∙ ap (λ x. v ++ x) rest

mutual
  pub rects_of-tokens_of : (t : Tree) → flat_map rects_at (tokens_of t) ≡ rects_of t
  rects_of-tokens_of (number z) = refl
  rects_of-tokens_of (reference c) = refl
  rects_of-tokens_of (signed s a) = rects_of-tokens_of a
  rects_of-tokens_of (joined a o b) =
      both (tokens_of a) (Symbol o ∷ tokens_of b) _ _ (rects_of-tokens_of a) (rects_of-tokens_of b)
  rects_of-tokens_of (group a) =
      both (tokens_of a) (Close ∷ []) _ [] (rects_of-tokens_of a) refl ∙ append-nil (rects_of a)
  rects_of-tokens_of (call f is) = rects_among-tokens is

  rects_among-tokens : (is : Items) → rects_at_all (tokens_of_items is) ≡ rects_among is
  rects_among-tokens no_items = refl
  rects_among-tokens (item_and i is) =
      both (tokens_of_item i) (tokens_after_item is) _ _ (rects_in-tokens i) (rects_after_item-tokens is)

  rects_after_item-tokens : (is : Items) → rects_at_all (tokens_after_item is) ≡ rects_among is
  rects_after_item-tokens no_items = refl
  rects_after_item-tokens (item_and i is) =
      both (tokens_of_item i) (tokens_after_item is) _ _ (rects_in-tokens i) (rects_after_item-tokens is)

  rects_in-tokens : (i : Item) → rects_at_all (tokens_of_item i) ≡ rects_in i
  rects_in-tokens (expression a) = rects_of-tokens_of a
  rects_in-tokens (range r) = refl
