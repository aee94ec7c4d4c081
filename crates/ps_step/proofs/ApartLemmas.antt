-- The cells at which two states differ, one after another.
use Rattle.std.proofs.Common.{◌≡◌, ◌≢◌, ◌⊎◌, ℕ, ◌+◌, ◌<◌, ◌≤◌, List, [], ◌∷◌, ◌++◌, false, true, inl, inr, sym, ◌∙◌}
use Rattle.std.proofs.Common.{arith, eqb, subst, ⊎_elim}
use Rattle.std.specs.List.{list_any}
use Rattle.std.proofs.lemmas.Bool.{cases_lt, or_cases, or_left, or_right}
use Rattle.std.proofs.lemmas.List.Folds.{list_any-append}
use Rattle.ps_grid.specs.Chains.{In}
use Rattle.ps_grid.proofs.ChainLemmas.{In-one, In-self}
use Rattle.ps_delta.specs.Order.{Under}
use Rattle.ps_delta.specs.State.{AreTouched, State}
use Rattle.ps_delta.proofs.CellLists.{Rising-push, increasing_from_rising}
use Rattle.ps_step.specs.Inside.{AreApart}

-- a cell of a list is also in the list with one more cell
pushed : (cells : List ℕ) (n c : ℕ) → In cells c → In (cells ++ n ∷ []) c
pushed cells n c h =
    list_any-append (eqb c) cells (n ∷ []) ∙ or_left (list_any (eqb c) cells) (list_any (eqb c) (n ∷ [])) h

-- .. and the added cell is in it
last_one : (cells : List ℕ) (n : ℕ) → In (cells ++ n ∷ []) n
last_one cells n =
    list_any-append (eqb n) cells (n ∷ [])
    ∙ or_right (list_any (eqb n) cells) (list_any (eqb n) (n ∷ [])) (In-self n [])

pushed_cases : (cells : List ℕ) (n c : ℕ) → In (cells ++ n ∷ []) c → In cells c ⊎ (c ≡ n)
pushed_cases cells n c h =
    ⊎_elim (λ i. inl i) (λ i. inr (In-one c n i))
    (or_cases (list_any (eqb c) cells) (list_any (eqb c) (n ∷ [])) (sym (list_any-append (eqb c) cells (n ∷ [])) ∙ h))

under_weaker : (m n : ℕ) (cells : List ℕ) → m ≤ n → Under m cells → Under n cells
under_weaker m n [] h u = tt
under_weaker m n (c ∷ cs) h u = (omega (arith, h, u.0), under_weaker m n cs h u.1)

under_push : (n : ℕ) (cells : List ℕ) → Under n cells → Under (n + 1) (cells ++ n ∷ [])
under_push n [] u = (omega arith, tt)
under_push n (c ∷ cs) u = (omega (arith, u.0), under_push n cs u.1)

pub apart_none : (s t : State) → AreApart s t 0 []
apart_none s t = record {
  rising = tt;
  under = tt;
  differ = λ c h. absurd (let f : false ≡ true = h in cc);
  same = λ c h out. absurd (omega (arith, h));
}

module _ (s t : State) (n : ℕ) (cells : List ℕ) (apart : AreApart s t n cells) where
  -- a cell at which they don't differ
  pub apart_same : s n ≡ t n → AreApart s t (n + 1) cells
  apart_same is = record {
    rising = apart.rising;
    under = under_weaker n (n + 1) cells (omega arith) apart.under;
    differ = apart.differ;
    same = λ c h out.
        ⊎_elim (λ (p : c < n). apart.same c p out)
        (λ (p : n ≤ c). let e : n ≡ c = omega (arith, h, p) in subst (λ x. s x ≡ t x) e is) (cases_lt c n);
  }

  -- .. and one at which they do
  pub apart_more : s n ≢ t n → AreApart s t (n + 1) (cells ++ n ∷ [])
  apart_more other = record {
    rising = Rising-push 0 cells n apart.rising apart.under (omega arith);
    under = under_push n cells apart.under;
    differ = λ c h.
        ⊎_elim (λ p. apart.differ c p) (λ (p : c ≡ n). subst (λ x. s x ≢ t x) (sym p) other) (pushed_cases cells n c h);
    same = λ c h out.
        ⊎_elim (λ (p : c < n). apart.same c p (λ i. out (pushed cells n c i)))
        (λ (p : n ≤ c). let e : n ≡ c = omega (arith, h, p) in
        absurd (out (subst (In (cells ++ n ∷ [])) e (last_one cells n)))) (cases_lt c n);
  }

  -- the cells from n on hold the same
  pub apart_all : ((c : ℕ) → n ≤ c → s c ≡ t c) → AreTouched s t cells
  apart_all outside = record {
    ascending = increasing_from_rising 0 cells apart.rising;
    differ = apart.differ;
    same = λ c out. ⊎_elim (λ (p : c < n). apart.same c p out) (λ (p : n ≤ c). outside c p) (cases_lt c n);
  }
