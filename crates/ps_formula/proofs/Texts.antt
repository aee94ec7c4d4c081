-- The top of the reader: texts and their trees.
use Rattle.std.proofs.Common.{◌≡◌, ℕ, ◌≤◌, ◌⊎◌, inl, inr, sym, refl, ap, ◌∙◌, subst, List, ◌∷◌, length}
use Rattle.ps_grid.specs.Rectangle.{Area}
use Rattle.std.specs.List.{flat_map}
use Rattle.ps_grid.specs.declared.refusal.Refusal.{Refusal}
use Rattle.ps_grid.specs.declared.refusal.Refusal.TheVariants.{Formula, Memory}
use Rattle.ps_tokens.specs.declared.token.Token.{Token}
use Rattle.ps_tokens.specs.Apart.{AreApart}
use Rattle.ps_tokens.specs.Text.{Spells, tokens_text}
use Rattle.ps_formula.specs.declared.formula.TheConstants.{LONGEST_TEXT}
use Rattle.ps_formula.specs.Canonical.{canon}
use Rattle.ps_formula.specs.Formula.{HasTree, Opens, OneTree, CanonicalTextHasTree}
use Rattle.ps_formula.specs.Grammar.{Has}
use Rattle.ps_formula.specs.Inside.Parts.{FitTogether}
use Rattle.ps_formula.specs.References.{rects_at}
use Rattle.ps_formula.specs.Tree.{Tree}
use Rattle.ps_formula.proofs.TokensApart.{are_apart}
use Rattle.ps_formula.proofs.TokensOfTrees.{tokens_of-has, rects_of-tokens_of}
use Rattle.ps_tokens.proofs.CanonicalSpelling.{text_spells}
use Rattle.ps_tokens.proofs.OneSpelling.{one_spelled}
use Rattle.ps_formula.proofs.WholeListsRead.{one_tree_of}

one_opening : (bytes r s : List ℕ) → Opens bytes r → Opens bytes s → r ≡ s
one_opening bytes r s (inl e) (inl f) = cc
one_opening bytes r s (inl e) (inr f) = cc
one_opening bytes r s (inr e) (inl f) = cc
one_opening bytes r s (inr e) (inr f) = cc

-- the tokens of a formula are spelled after whatever opening was found
pub spelled_after_opening : (bytes rest : List ℕ) (t : Tree) → Opens bytes rest → (h : HasTree bytes t)
    → Spells rest h.tokens
spelled_after_opening bytes rest t opening h =
    subst (λ r. Spells r h.tokens) (one_opening bytes h.rest rest h.opening opening) h.spelled

pub no_opening : (bytes : List ℕ) → ((rest : List ℕ) → Opens bytes rest → ⊥) → (t : Tree) → HasTree bytes t → ⊥
no_opening bytes none t h = none h.rest h.opening

pub no_tokens : (bytes rest : List ℕ) → Opens bytes rest → ((ts : List Token) → Spells rest ts → AreApart ts → ⊥)
    → (t : Tree) → HasTree bytes t → ⊥
no_tokens bytes rest opening none t h = none h.tokens (spelled_after_opening bytes rest t opening h) (are_apart h.has)

pub no_tree : (bytes rest : List ℕ) (ts : List Token) → Opens bytes rest
    → ((us : List Token) → Spells rest us → AreApart us → ts ≡ us) → ((t : Tree) → Has 3 ts t → ⊥) → (t : Tree)
    → HasTree bytes t → ⊥
no_tree bytes rest ts opening only none t h =
    none t
    (subst (λ v. Has 3 v t)
    (sym (only h.tokens (spelled_after_opening bytes rest t opening h) (are_apart h.has))) h.has)

pub one_tree : OneTree
one_tree bytes t u h k =
    let same : h.tokens ≡ k.tokens = one_spelled h.rest h.tokens k.tokens h.spelled (are_apart h.has)
    (spelled_after_opening bytes h.rest u h.opening k) (are_apart k.has) in
    one_tree_of k.tokens t u (subst (λ v. Has 3 v t) same h.has) k.has

-- what the tokens of a formula are written as is a formula with its tree
canonical_has_tree : (rest : List ℕ) (ts : List Token) (t : Tree) → Spells rest ts → Has 3 ts t
    → HasTree (61 ∷ tokens_text ts) t
canonical_has_tree rest ts t spelled has = record {
  rest = tokens_text ts;
  tokens = ts;
  opening = inl refl;
  spelled = text_spells rest ts spelled;
  has = has;
}

pub canonical_text_has_tree : CanonicalTextHasTree
canonical_text_has_tree bytes t h =
    subst (λ v. HasTree (61 ∷ tokens_text v) t) (sym (tokens_of-has h.has))
    (canonical_has_tree h.rest h.tokens t h.spelled h.has)

-- what is kept of a formula, from its tokens
pub kept : (rest : List ℕ) (ts : List Token) (t : Tree) (text : List ℕ) (rects : List Area)
    → Spells rest ts → Has 3 ts t → text ≡ 61 ∷ tokens_text ts → length text ≤ LONGEST_TEXT
    → rects ≡ flat_map rects_at ts → FitTogether t text rects
kept rest ts t text rects spelled has is fits are = record {
  canonical = is ∙ ap (λ v. 61 ∷ tokens_text v) (sym (tokens_of-has has));
  has_tree = subst (λ v. HasTree v t) (sym is) (canonical_has_tree rest ts t spelled has);
  fits = fits;
  covered = are ∙ ap (flat_map rects_at) (sym (tokens_of-has has)) ∙ rects_of-tokens_of t;
}

pub found_tree : (bytes rest : List ℕ) (ts : List Token) (t : Tree) → Opens bytes rest → Spells rest ts → Has 3 ts t
    → HasTree bytes t
found_tree bytes rest ts t opening spelled has =
    record { rest = rest; tokens = ts; opening = opening; spelled = spelled; has = has }

pub length-canon : (ts : List Token) (t : Tree) (text : List ℕ) → Has 3 ts t → text ≡ 61 ∷ tokens_text ts
    → length (canon t) ≡ length text
length-canon ts t text h is = ap (λ v. length (61 ∷ tokens_text v)) (tokens_of-has h) ∙ ap length (sym is)

-- a refusal that is none of the first kind is one when out of memory
pub memory_alone : (e : Refusal) → (e ≡ Formula) ⊎ (e ≡ Memory) → (e ≡ Formula → ⊥) → e ≡ Memory
memory_alone e (inl is) no_formula = absurd (no_formula is)
memory_alone e (inr is) no_formula = is
