-- What a walk over a delta's entries finds: what is below a state, what is touched, what a join puts into the grid.
use Rattle.std.proofs.Common.{◌≡◌, ◌≢◌, ◌⊎◌, ℕ, zero, suc, ◌<◌, false, List, [], ◌∷◌, ◌++◌, length}
use Rattle.std.proofs.Common.{get_or, eqb, refl, sym, ap, ◌∙◌, eq-eqb, eqb-true, arith, subst, inl, inr, ⊎_elim}
use Rattle.std.proofs.lemmas.Bool.{cases_eq, cases_lt, or_cases, or_left, or_right}
use Rattle.std.proofs.Math.Path.{fun_ext}
use Rattle.std.specs.List.{list_any}
use Rattle.ps_delta.specs.declared.cell_state.CellState.{CellState}
use Rattle.ps_grid.specs.Chains.{In}
use Rattle.ps_delta.specs.State.{State, joined_cell, joined_state, with_cell, IsBelow, AreTouched}
use Rattle.ps_delta.specs.CellLaws.{joined_cell-empty, joined_cell-empty_right}
use Rattle.ps_delta.specs.Deltas.{Entries, cells_of, state_of, overlaid}
use Rattle.ps_delta.specs.Order.{Rising, Under}
use Rattle.ps_delta.proofs.CellLists.{Rising-push, increasing_from_rising, rising_from_increasing}
use Rattle.ps_delta.proofs.EntryLemmas.{
  state_of-here,
  state_of-there,
  state_of-under,
  state_of-push,
  state_of-nil,
  state_of-at,
}
use Rattle.ps_delta.proofs.StateLemmas.{joined_state-at, joined_state-assoc}
use Rattle.ps_delta.proofs.StateLemmas.{joined_state-swap, joined_state-empty_right}

-- nothing is below every state
pub below_none : (s : State) → IsBelow (state_of []) s
below_none s = ap (joined_state s) state_of-nil ∙ joined_state-empty_right s

-- one entry that changes nothing at its cell changes nothing
one_below : (s : State) (e : ℕ × CellState) → joined_cell (s e.0) e.1 ≡ s e.0 → (c : ℕ) → (e.0 ≡ c) ⊎ (e.0 ≢ c)
    → joined_cell (s c) (state_of (e ∷ []) c) ≡ s c
one_below s e h c (inl p) =
    ap (joined_cell (s c)) (state_of-here e [] c p) ∙ subst (λ x. joined_cell (s x) e.1 ≡ s x) p h
one_below s e h c (inr p) =
    ap (joined_cell (s c)) (state_of-there e [] c p ∙ state_of-under 0 [] c tt (omega arith))
    ∙ joined_cell-empty_right (s c)

pub below_one : (s : State) (e : ℕ × CellState) → joined_cell (s e.0) e.1 ≡ s e.0
    → joined_state s (state_of (e ∷ [])) ≡ s
unfolding joined_state
below_one s e h = fun_ext (λ c. one_below s e h c (cases_eq e.0 c))

-- one more entry of a delta that is below the state so far
pub below_more : (s : State) (es : Entries) (e : ℕ × CellState) → Under e.0 (cells_of es) → IsBelow (state_of es) s
    → joined_cell (s e.0) e.1 ≡ s e.0 → IsBelow (state_of (es ++ e ∷ [])) s
below_more s es e u b h =
    ap (joined_state s) (state_of-push es e u) ∙ sym (joined_state-assoc s (state_of es) (state_of (e ∷ [])))
    ∙ ap (λ t. joined_state t (state_of (e ∷ []))) b ∙ below_one s e h

-- an entry that changes its cell: the delta isn't below the state
pub not_below : (s : State) (n : ℕ) (es : Entries) (i : ℕ) (d : ℕ × CellState) → Rising n (cells_of es) → i < length es
    → joined_cell (s (get_or es i d).0) (get_or es i d).1 ≢ s (get_or es i d).0 → ¬ IsBelow (state_of es) s
not_below s n es i d r h ne b =
    ne (ap (joined_cell (s (get_or es i d).0)) (sym (state_of-at n es i d r h))
    ∙ sym (joined_state-at s (state_of es) (get_or es i d).0) ∙ ap (λ f. f (get_or es i d).0) b)

-- nothing is touched by no entry
pub touched_none : (s : State) → AreTouched s (joined_state s (state_of [])) []
touched_none s = record {
  ascending = increasing_from_rising 0 [] tt;
  differ = λ c h. cc;
  same = λ c h. sym (ap (λ f. f c) (ap (joined_state s) state_of-nil ∙ joined_state-empty_right s));
}

-- one more entry that changes nothing at its cell
pub joined-same : (s : State) (es : Entries) (e : ℕ × CellState) → Under e.0 (cells_of es)
    → joined_cell (s e.0) e.1 ≡ s e.0 → joined_state s (state_of (es ++ e ∷ [])) ≡ joined_state s (state_of es)
joined-same s es e u h =
    ap (joined_state s) (state_of-push es e u) ∙ sym (joined_state-assoc s (state_of es) (state_of (e ∷ [])))
    ∙ joined_state-swap s (state_of es) (state_of (e ∷ [])) ∙ ap (λ f. joined_state f (state_of es)) (below_one s e h)

pub touched_same : (s : State) (es : Entries) (e : ℕ × CellState) (cs : List ℕ) → Under e.0 (cells_of es)
    → joined_cell (s e.0) e.1 ≡ s e.0 → AreTouched s (joined_state s (state_of es)) cs
    → AreTouched s (joined_state s (state_of (es ++ e ∷ []))) cs
touched_same s es e cs u h t = subst (λ f. AreTouched s f cs) (sym (joined-same s es e u h)) t

-- the touched cells are among those of the entries
pub touched_under : (s : State) (es : Entries) (n : ℕ) (cs : List ℕ) → Under n (cells_of es)
    → AreTouched s (joined_state s (state_of es)) cs → (c : ℕ) → In cs c → c < n
touched_under s es n cs u t c h =
    ⊎_elim (λ p. p)
    (λ p. absurd (t.differ c h (sym (joined_state-at s (state_of es) c
    ∙ ap (joined_cell (s c)) (state_of-under n es c u p) ∙ joined_cell-empty_right (s c)))))
    (cases_lt c n)

pub Under-from_in : (n : ℕ) (cs : List ℕ) → ((c : ℕ) → In cs c → c < n) → Under n cs
Under-from_in n [] h = tt
Under-from_in n (c ∷ cs) h = (
  h c (or_left (eqb c c) (list_any (eqb c) cs) (eq-eqb c c refl)),
  Under-from_in n cs (λ d p. h d (or_right (eqb d c) (list_any (eqb d) cs) p)),
)

-- a place of a list is in it
pub In-at : (cs : List ℕ) (k d : ℕ) → k < length cs → In cs (get_or cs k d)
In-at [] k d h = absurd (omega (arith, h))
In-at (c ∷ cs) zero d h = or_left (eqb c c) (list_any (eqb c) cs) (eq-eqb c c refl)
In-at (c ∷ cs) (suc k) d h = or_right (eqb (get_or cs k d) c) (list_any (eqb (get_or cs k d)) cs)
    (In-at cs k d (omega (arith, h)))

In-push : (cs : List ℕ) (e c : ℕ) → In cs c → In (cs ++ e ∷ []) c
In-push [] e c h = cc
In-push (d ∷ cs) e c h =
    ⊎_elim (λ p. or_left (eqb c d) (list_any (eqb c) (cs ++ e ∷ [])) p)
    (λ p. or_right (eqb c d) (list_any (eqb c) (cs ++ e ∷ [])) (In-push cs e c p))
    (or_cases (eqb c d) (list_any (eqb c) cs) h)

In-last : (cs : List ℕ) (e : ℕ) → In (cs ++ e ∷ []) e
In-last [] e = or_left (eqb e e) false (eq-eqb e e refl)
In-last (d ∷ cs) e = or_right (eqb e d) (list_any (eqb e) (cs ++ e ∷ [])) (In-last cs e)

In-push_cases : (cs : List ℕ) (e c : ℕ) → In (cs ++ e ∷ []) c → In cs c ⊎ (c ≡ e)
In-push_cases [] e c h = ⊎_elim (λ p. inr (eqb-true c e p)) (λ p. cc) (or_cases (eqb c e) false h)
In-push_cases (d ∷ cs) e c h =
    ⊎_elim (λ p. inl (or_left (eqb c d) (list_any (eqb c) cs) p))
    (λ p. ⊎_elim (λ q. inl (or_right (eqb c d) (list_any (eqb c) cs) q)) (λ q. inr q) (In-push_cases cs e c p))
    (or_cases (eqb c d) (list_any (eqb c) (cs ++ e ∷ [])) h)

-- what the entries with one more give at a cell
pub at_last : (s : State) (es : Entries) (e : ℕ × CellState) → Under e.0 (cells_of es)
    → joined_state s (state_of (es ++ e ∷ [])) e.0 ≡ joined_cell (s e.0) e.1
at_last s es e u =
    joined_state-at s (state_of (es ++ e ∷ [])) e.0
    ∙ ap (joined_cell (s e.0)) (ap (λ f. f e.0) (state_of-push es e u)
    ∙ joined_state-at (state_of es) (state_of (e ∷ [])) e.0
    ∙ ap (λ x. joined_cell x (state_of (e ∷ []) e.0)) (state_of-under e.0 es e.0 u (omega arith))
    ∙ joined_cell-empty (state_of (e ∷ []) e.0) ∙ state_of-here e [] e.0 refl)

pub at_others : (s : State) (es : Entries) (e : ℕ × CellState) (c : ℕ) → Under e.0 (cells_of es) → e.0 ≢ c
    → joined_state s (state_of (es ++ e ∷ [])) c ≡ joined_state s (state_of es) c
at_others s es e c u p =
    joined_state-at s (state_of (es ++ e ∷ [])) c
    ∙ ap (joined_cell (s c)) (ap (λ f. f c) (state_of-push es e u) ∙ joined_state-at (state_of es) (state_of (e ∷ [])) c
    ∙ ap (joined_cell (state_of es c)) (state_of-there e [] c p ∙ state_of-under 0 [] c tt (omega arith))
    ∙ joined_cell-empty_right (state_of es c))
    ∙ sym (joined_state-at s (state_of es) c)

-- one more entry that changes its cell
pub touched_more : (s : State) (es : Entries) (e : ℕ × CellState) (cs : List ℕ) → Under e.0 (cells_of es)
    → joined_cell (s e.0) e.1 ≢ s e.0 → AreTouched s (joined_state s (state_of es)) cs
    → AreTouched s (joined_state s (state_of (es ++ e ∷ []))) (cs ++ e.0 ∷ [])
touched_more s es e cs u ne t = record {
  ascending = increasing_from_rising 0 (cs ++ e.0 ∷ [])
      (Rising-push 0 cs e.0 (rising_from_increasing 0 cs t.ascending (λ _. omega arith))
      (Under-from_in e.0 cs (touched_under s es e.0 cs u t)) (omega arith));
  differ = λ c h.
      ⊎_elim
      (λ q. λ same. t.differ c q (same ∙ at_others s es e c u
      (λ p. omega (arith, p, touched_under s es e.0 cs u t c q))))
      (λ q. λ same. ne (sym (at_last s es e u) ∙ sym
      (subst (λ x. s x ≡ joined_state s (state_of (es ++ e ∷ [])) x) q same)))
      (In-push_cases cs e.0 c h);
  same = λ c h.
      t.same c (λ q. h (In-push cs e.0 c q))
      ∙ sym (at_others s es e c u (λ p. h (subst (In (cs ++ e.0 ∷ [])) p (In-last cs e.0))));
}

-- one more entry put into its place
pub overlaid-push : (s : State) (es : Entries) (e : ℕ × CellState)
    → overlaid s (es ++ e ∷ []) ≡ with_cell (overlaid s es) e.0 e.1
overlaid-push s [] e = refl
overlaid-push s (d ∷ es) e = overlaid-push (with_cell s d.0 d.1) es e
