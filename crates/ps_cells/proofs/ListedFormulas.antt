-- What an index lists that has the formulas of a change put in beside those before it, and how many cells there can be.
use Rattle.std.proofs.Common.{◌≡◌, ◌≢◌, ℕ, ◌<◌, get_or, true, false, ◌||◌, ◌⊎◌, inl, inr, List, [], ◌∷◌, refl, sym, ap}
use Rattle.std.proofs.Common.{◌∙◌}
use Rattle.std.proofs.Common.{arith, ⊎_elim, eqb, subst, eq-eqb, ne_eqb, eqb-true}
use Rattle.std.specs.Prelude.{Option, Some, None, nat_eq}
use Rattle.std.specs.List.{list_any, IsDistinct}
use Rattle.std.specs.List.Sorted.{IsStrictlyIncreasing}
use Rattle.std.proofs.lemmas.Map.Keys.{IsDistinct-from_apart, below_from_sorted, sorted_from_strictly_increasing}
use Rattle.std.proofs.lemmas.Bool.{or_left}
use Rattle.std.proofs.lemmas.Grind.{common_steps}
use Rattle.ps_grid.specs.Chains.{In}
use Rattle.ps_grid.specs.declared.size.TheConstants.{CELLS}
use Rattle.ps_grid.proofs.ChainLemmas.{bool_cases, In-decided, In-self, In-more}
use Rattle.ps_formula.specs.Tree.{Tree}
use Rattle.ps_formula.specs.References.{mentions}
use Rattle.ps_content.specs.declared.content.Content.{Content}
use Rattle.ps_content.specs.declared.content.Content.TheVariants.{Blank, Number, Text, Formula, Tally, Choice}
use Rattle.ps_content.specs.Order.{formula_in}
use Rattle.ps_delta.specs.State.{State, with_cell}
use Rattle.ps_delta.specs.Deltas.{Entries, cells_of, overlaid}
use Rattle.ps_delta.proofs.StateLemmas.{with_cell-same, with_cell-other}
use Rattle.ps_index.specs.Stands.{Puts, with_put, refers}
use Rattle.ps_cells.specs.Settled.{content_of, content_mentions, refers_to}
use Rattle.ps_cells.specs.Inside.Formulas.{as_list, forms_of, with_puts}
use Rattle.ps_cells.specs.Inside.Walk.{Lists}

-- a content mentions what its formula mentions
mentions_by : (k : Content) (d : ℕ) → list_any (λ t. mentions t d) (as_list (formula_in k)) ≡ content_mentions k d
mentions_by Blank d = refl
mentions_by (Number n) d = refl
mentions_by (Text t) d = refl
mentions_by (Formula t) d = grind (arith, common_steps)
mentions_by Tally d = refl
mentions_by Choice d = refl

-- with one formula more, a cell refers to what it did, or to what that formula mentions
with_put-here : (c : ℕ) (o : Option Tree) (forms : Puts) (d : ℕ)
    → refers (with_put c o forms) c d ≡ (list_any (λ t. mentions t d) (as_list o) || refers forms c d)
with_put-here c None forms d = refl
with_put-here c (Some t) forms d = rw (eq-eqb c c refl) grind (arith, common_steps)

with_put-other : (x : ℕ) (o : Option Tree) (forms : Puts) (c : ℕ) → x ≢ c → with_put x o forms c ≡ forms c
with_put-other x None forms c apart = refl
with_put-other x (Some t) forms c apart = rw (ne_eqb x c apart) refl

nat_cases : (x c : ℕ) → (x ≡ c) ⊎ (x ≢ c)
nat_cases x c = ⊎_elim (λ (h : eqb x c ≡ true). inl (eqb-true x c h))
    (λ (h : eqb x c ≡ false). inr (λ e. absurd (let f : true ≡ false = sym (eq-eqb x c e) ∙ h in cc)))
    (bool_cases (eqb x c))

-- what a cell's formula mentions after the change, it refers to with the new formulas put in
new_listed : (es : Entries) (s : State) (forms : Puts) (c d : ℕ)
    → (content_mentions (content_of (s c)) d ≡ true → refers forms c d ≡ true)
    → content_mentions (content_of (overlaid s es c)) d ≡ true → refers (with_puts es forms) c d ≡ true
new_listed [] s forms c d here h = here h
new_listed (e ∷ es) s forms c d here h =
    new_listed es (with_cell s e.0 e.1) (with_put e.0 (formula_in (content_of e.1)) forms) c d
    (λ now. ⊎_elim
    (λ (same : e.0 ≡ c).
    let at : content_mentions (content_of e.1) d ≡ true =
    ap (λ x. content_mentions (content_of x) d) (sym (with_cell-same s e.0 e.1) ∙ ap (with_cell s e.0 e.1) same) ∙ now
    in
    subst (λ q. refers (with_put e.0 (formula_in (content_of e.1)) forms) q d ≡ true) same
    (with_put-here e.0 (formula_in (content_of e.1)) forms d
    ∙ or_left (list_any (λ t. mentions t d) (as_list (formula_in (content_of e.1)))) (refers forms e.0 d)
    (mentions_by (content_of e.1) d ∙ at)))
    (λ (apart : e.0 ≢ c).
    let before : content_mentions (content_of (s c)) d ≡ true =
    ap (λ x. content_mentions (content_of x) d) (sym (with_cell-other s e.0 c e.1 apart)) ∙ now in
    ap (λ ts. list_any (λ t. mentions t d) ts) (with_put-other e.0 (formula_in (content_of e.1)) forms c apart) ∙ here
    before)
    (nat_cases e.0 c))
    h

-- a cell that isn't named keeps its formulas and what it holds
with_puts-others : (es : Entries) (forms : Puts) (c : ℕ) → ¬ In (cells_of es) c → with_puts es forms c ≡ forms c
with_puts-others [] forms c out = refl
with_puts-others (e ∷ es) forms c out =
    with_puts-others es (with_put e.0 (formula_in (content_of e.1)) forms) c (λ i. out (In-more c e.0 (cells_of es) i))
    ∙ with_put-other e.0 (formula_in (content_of e.1)) forms c
    (λ same. out (subst (λ q. In (e.0 ∷ cells_of es) q) same (In-self e.0 (cells_of es))))

overlaid-others : (es : Entries) (s : State) (c : ℕ) → ¬ In (cells_of es) c → overlaid s es c ≡ s c
overlaid-others [] s c out = refl
overlaid-others (e ∷ es) s c out =
    overlaid-others es (with_cell s e.0 e.1) c (λ i. out (In-more c e.0 (cells_of es) i))
    ∙ with_cell-other s e.0 c e.1
    (λ same. out (subst (λ q. In (e.0 ∷ cells_of es) q) same (In-self e.0 (cells_of es))))

-- a cell that isn't named refers to what its formula mentions, before the change and after it
others_refer : (s : State) (es : Entries) (c d : ℕ) → ¬ In (cells_of es) c
    → refers (with_puts es (forms_of s)) c d ≡ refers_to (overlaid s es) c d
others_refer s es c d out =
    ap (λ ts. list_any (λ t. mentions t d) ts) (with_puts-others es (forms_of s) c out)
    ∙ (mentions_by (content_of (s c)) d ∙ ap (λ x. content_mentions (content_of x) d)
    (sym (overlaid-others es s c out)))

-- what an index lists for a cell of the grid, with the new formulas beside the old ones: the cells that refer to it
-- after the change, and others at most where they are named
pub listed_both : (s : State) (es : Entries) (list : ℕ → List ℕ)
    → ((c d : ℕ) → refers_to (overlaid s es) c d ≡ true → c < CELLS)
    → ((c d : ℕ) → In (list d) c → c < CELLS)
    → ((c d : ℕ) → c < CELLS → d < CELLS → list_any (nat_eq c) (list d) ≡ refers (with_puts es (forms_of s)) c d)
    → (d : ℕ) → d < CELLS → Lists (refers_to (overlaid s es)) (cells_of es) d (list d)
listed_both s es list refer_below list_below tie d small = record {
  all = λ c h.
      tie c d (refer_below c d h) small
      ∙ new_listed es s (forms_of s) c d (λ m. mentions_by (content_of (s c)) d ∙ m) h;
  extra = λ c i.
      ⊎_elim
      (λ named. inr named)
      (λ out. inl (sym (others_refer s es c d out) ∙ (sym (tie c d (list_below c d i) small) ∙ i)))
      (In-decided (cells_of es) c);
}

-- numbers in order are each there once
pub increasing_once : (xs : List ℕ) → IsStrictlyIncreasing xs → IsDistinct nat_eq xs
increasing_once xs up =
    IsDistinct-from_apart eqb xs (λ i j d less inside.
    let below = below_from_sorted xs i j d (sorted_from_strictly_increasing xs up) less inside in
    ne_eqb (get_or xs i d) (get_or xs j d) (λ e. omega (arith, e, below)))
