-- What a walk over a delta's entries finds that is new.
use Rattle.std.specs.Prelude.{Result, Ok, Err, OnErr}
use Rattle.std.proofs.Common.{◌≡◌, ◌≢◌, ◌⊎◌, ◌↔◌, ℕ, ◌+◌, ◌<◌, [], ◌∷◌, ◌++◌}
use Rattle.std.proofs.Common.{length, get_or, take, refl, sym, ap, ◌∙◌, subst, arith, true≢false, inl, inr}
use Rattle.std.proofs.Common.{Option, Some, None, IsTrue}
use Rattle.std.specs.Option.{IfSome, SomeIff, is_none}
use Rattle.std.proofs.lemmas.Bool.{cases_eq}
use Rattle.std.proofs.lemmas.List.Elements.{All-push}
use Rattle.std.proofs.lemmas.List.{map-append}
use Rattle.std.specs.List.Sorted.{IsStrictlyIncreasing}
use Rattle.ps_grid.specs.declared.size.TheConstants.{CELLS}
use Rattle.ps_lattice.specs.News.{IsNewsOf}
use Rattle.ps_lattice.specs.NewsLaws.{news_none, none_below, news_below, news_once, news_has_nothing}
use Rattle.ps_lattice.specs.MapLaws.{IsJoin}
use Rattle.ps_delta.specs.declared.cell_state.CellState.{CellState}
use Rattle.ps_delta.specs.State.{State, IsBelow, empty_cell, empty_state, joined_cell, joined_state}
use Rattle.ps_delta.specs.CellLaws.{joined_cell-empty, joined_cell-empty_right}
use Rattle.ps_delta.specs.CellNews.{news_from_cells}
use Rattle.ps_delta.specs.Deltas.{AreEntries, AreInGrid, Entries, IsDelta, cells_of, state_of}
use Rattle.ps_delta.specs.Order.{Under}
use Rattle.ps_delta.proofs.CellLists.{Rising-push, increasing_from_rising, rising_from_increasing}
use Rattle.ps_delta.proofs.EntryLemmas.{state_of-here, state_of-there, state_of-under, state_of-push, state_of-nil}
use Rattle.ps_delta.specs.Laws.{NewsIsLeast}
use Rattle.ps_delta.proofs.GridLemmas.{not_below}
use Rattle.ps_delta.proofs.StateLemmas.{joined_state-at, joined_state-empty_right, joined_state-comm}
use Rattle.ps_delta.proofs.StateLemmas.{joined_state-assoc, joined_state-idem}
use Rattle.ps_delta.proofs.WalkLemmas.{so_far, walk-under}

-- what the last entry gives at its cell, and at others
push_here : (es : Entries) (e : ℕ × CellState) → Under e.0 (cells_of es) → state_of (es ++ e ∷ []) e.0 ≡ e.1
push_here es e u =
    ap (λ (f : State). f e.0) (state_of-push es e u)
    ∙ joined_state-at (state_of es) (state_of (e ∷ [])) e.0
    ∙ ap (λ x. joined_cell x (state_of (e ∷ []) e.0)) (state_of-under e.0 es e.0 u (omega arith))
    ∙ joined_cell-empty (state_of (e ∷ []) e.0) ∙ state_of-here e [] e.0 refl

push_there : (es : Entries) (e : ℕ × CellState) (c : ℕ) → Under e.0 (cells_of es) → e.0 ≢ c
    → state_of (es ++ e ∷ []) c ≡ state_of es c
push_there es e c u p =
    ap (λ (f : State). f c) (state_of-push es e u) ∙ joined_state-at (state_of es) (state_of (e ∷ [])) c
    ∙ ap (joined_cell (state_of es c)) (state_of-there e [] c p ∙ state_of-under 0 [] c tt (omega arith))
    ∙ joined_cell-empty_right (state_of es c)

under_push : (n : ℕ) (es : Entries) (e : ℕ × CellState) → Under n (cells_of es) → e.0 < n
    → Under n (cells_of (es ++ e ∷ []))
under_push n [] e u h = (h, tt)
under_push n (d ∷ es) e u h = (u.0, under_push n es e u.1 h)

under_pop : (n : ℕ) (es : Entries) (e : ℕ × CellState) → Under n (cells_of (es ++ e ∷ []))
    → Under n (cells_of es) × (e.0 < n)
under_pop n [] e u = (tt, u.0)
under_pop n (d ∷ es) e u = let more = under_pop n es e u.1 in ((u.0, more.0), more.1)

-- what was found in the entries so far
pub record Found (s : State) (es cells : Entries) : Type 0 where
  pub news : (c : ℕ) → IsNewsOf joined_cell (s c) (state_of es c) (state_of cells c)
  pub entries : AreEntries cells
  pub in_grid : AreInGrid cells
  pub under : (n : ℕ) → Under n (cells_of es) → Under n (cells_of cells)

pub found_none : (s : State) → Found s [] []
found_none s = record {
  news = λ c. record {
    same = refl;
    least = λ m h. ap (joined_cell m) (state_of-under 0 [] c tt (omega arith)) ∙ joined_cell-empty_right m;
  };
  entries = record {
    ascending = increasing_from_rising 0 [] tt;
    none_empty = λ k d h. absurd (omega (arith, h));
  };
  in_grid = λ k d h. absurd (omega (arith, h));
  under = λ n u. tt;
}

module _ (s : State) (es cells : Entries) (e : ℕ × CellState) (u : Under e.0 (cells_of es)) (f : Found s es cells) where
  covered_at : joined_cell (s e.0) e.1 ≡ s e.0 → (c : ℕ) → (e.0 ≡ c) ⊎ (e.0 ≢ c)
      → IsNewsOf joined_cell (s c) (state_of (es ++ e ∷ []) c) (state_of cells c)
  covered_at h c (inl p) =
      subst (λ b. IsNewsOf joined_cell (s b) (state_of (es ++ e ∷ []) b) (state_of cells b)) p
      (subst (λ x. IsNewsOf joined_cell (s e.0) x (state_of cells e.0)) (sym (push_here es e u))
      (subst (λ x. IsNewsOf joined_cell (s e.0) e.1 x)
      (sym (state_of-under e.0 cells e.0 (f.under e.0 u) (omega arith)))
      (news_none (s e.0) e.1 empty_cell joined_cell-empty_right h)))
  covered_at h c (inr p) =
      subst (λ x. IsNewsOf joined_cell (s c) x (state_of cells c)) (sym (push_there es e c u p)) (f.news c)

  -- one more entry that has nothing new
  pub found_same : joined_cell (s e.0) e.1 ≡ s e.0 → Found s (es ++ e ∷ []) cells
  found_same h = record {
    news = λ c. covered_at h c (cases_eq e.0 c);
    entries = f.entries;
    in_grid = f.in_grid;
    under = λ n v. f.under n (under_pop n es e v).0;
  }

  new_at : (x : CellState) → IsNewsOf joined_cell (s e.0) e.1 x → (c : ℕ) → (e.0 ≡ c) ⊎ (e.0 ≢ c)
      → IsNewsOf joined_cell (s c) (state_of (es ++ e ∷ []) c) (state_of (cells ++ (e.0, x) ∷ []) c)
  new_at x w c (inl p) =
      subst (λ b. IsNewsOf joined_cell (s b) (state_of (es ++ e ∷ []) b) (state_of (cells ++ (e.0, x) ∷ []) b)) p
      (subst (λ y. IsNewsOf joined_cell (s e.0) y (state_of (cells ++ (e.0, x) ∷ []) e.0)) (sym (push_here es e u))
      (subst (λ y. IsNewsOf joined_cell (s e.0) e.1 y) (sym (push_here cells (e.0, x) (f.under e.0 u))) w))
  new_at x w c (inr p) =
      subst (λ y. IsNewsOf joined_cell (s c) y (state_of (cells ++ (e.0, x) ∷ []) c)) (sym (push_there es e c u p))
      (subst (λ y. IsNewsOf joined_cell (s c) (state_of es c) y)
      (sym (push_there cells (e.0, x) c (f.under e.0 u) p)) (f.news c))

  -- one more entry that has something new
  pub found_more : (x : CellState) → IsNewsOf joined_cell (s e.0) e.1 x → joined_cell (s e.0) e.1 ≢ s e.0
      → e.0 < CELLS → Found s (es ++ e ∷ []) (cells ++ (e.0, x) ∷ [])
  found_more x w differs in_grid = record {
    news = λ c. new_at x w c (cases_eq e.0 c);
    entries = record {
      ascending = subst IsStrictlyIncreasing (sym (map-append (λ (c : ℕ × CellState). c.0) cells ((e.0, x) ∷ [])))
          (increasing_from_rising 0 _ (Rising-push 0 (cells_of cells) e.0
          (rising_from_increasing 0 (cells_of cells) f.entries.ascending (λ _. omega arith)) (f.under e.0 u)
          (omega arith)));
      none_empty = All-push (λ (c : ℕ × CellState). c.1 ≢ empty_cell) cells (e.0, x) f.entries.none_empty
          (λ none. differs (none_below (s e.0) e.1 empty_cell joined_cell-empty_right
          (subst (λ y. IsNewsOf joined_cell (s e.0) e.1 y) none w)));
    };
    in_grid = All-push (λ (c : ℕ × CellState). c.0 < CELLS) cells (e.0, x) f.in_grid in_grid;
    under = λ n v. let parts = under_pop n es e v in under_push n cells (e.0, x) (f.under n parts.0) parts.1;
  }

module _ (s : State) (es : Entries) (i : ℕ) (e : ℕ × CellState) (x : CellState)
    (delta : IsDelta es) (within : i < length es) (is : e ≡ get_or es i e) (holds : x ≡ s e.0) where
  pub walk-found_same : (cells : Entries) → joined_cell x e.1 ≡ x → Found s (take i es) cells
      → Found s (take (i + 1) es) cells
  walk-found_same cells h f =
      subst (λ ds. Found s ds cells) (so_far s es i e x delta within is holds)
      (found_same s (take i es) cells e (walk-under s es i e x delta within is holds) f
      (subst (λ y. joined_cell y e.1 ≡ y) holds h))

  pub walk-found_more : (cells : Entries) (new : CellState) → IsNewsOf joined_cell x e.1 new → joined_cell x e.1 ≢ x
      → e.0 < CELLS → Found s (take i es) cells → Found s (take (i + 1) es) (cells ++ (e.0, new) ∷ [])
  walk-found_more cells new w differs in_grid f =
      subst (λ ds. Found s ds (cells ++ (e.0, new) ∷ [])) (so_far s es i e x delta within is holds)
      (found_more s (take i es) cells e (walk-under s es i e x delta within is holds) f new
      (subst (λ y. IsNewsOf joined_cell y e.1 new) holds w)
      (subst (λ y. joined_cell y e.1 ≢ y) holds differs) in_grid)

pub found_news : (s : State) (es cells : Entries) → Found s es cells
    → IsNewsOf joined_state s (state_of es) (state_of cells)
found_news s es cells f = news_from_cells s (state_of es) (state_of cells) f.news

state_least : (m : State) → joined_state m empty_state ≡ m
state_least m = joined_state-empty_right m

-- a list of entries that stands for the empty state has none
empty_list : (cells : Entries) → AreEntries cells → state_of cells ≡ empty_state → ¬ (0 < length cells)
unfolding empty_state
empty_list [] entries h some = omega (arith, some)
empty_list (e ∷ es) entries h some =
    entries.none_empty 0 e (omega arith) (sym (state_of-here e es e.0 refl) ∙ ap (λ (t : State). t e.0) h)

none_listed : (cells : Entries) → ¬ (0 < length cells) → state_of cells ≡ empty_state
none_listed [] h = state_of-nil
none_listed (e ∷ es) h = absurd (h (omega arith))

module _ (s d : State) (cells : Entries) (entries : AreEntries cells)
    (w : IsNewsOf joined_state s d (state_of cells)) where
  pub made_news : (o : Option Entries) → SomeIff o (0 < length cells) cells
      → IfSome o (λ n. IsNewsOf joined_state s d (state_of n))
  made_news None h = tt
  made_news (Some n) h = subst (λ n. IsNewsOf joined_state s d (state_of n)) (sym h.1) w

  pub made_none : (o : Option Entries) → SomeIff o (0 < length cells) cells → IsTrue (is_none o) ↔ IsBelow d s
  made_none None h = (
    λ t. none_below s d empty_state state_least (subst (λ n. IsNewsOf joined_state s d n) (none_listed cells h) w),
    λ below. refl,
  )
  made_none (Some n) h = (
    λ t. absurd (true≢false (sym t)),
    λ below. absurd (empty_list cells entries (sym (joined_state-empty_right (state_of cells))
        ∙ joined_state-comm (state_of cells) empty_state
        ∙ w.least empty_state (joined_state-empty_right s ∙ sym below)) h.0),
  )

-- what is listed as new is a delta
pub made_delta : (cells : Entries) → AreEntries cells → (o : Option Entries) → SomeIff o (0 < length cells) cells
    → IfSome o IsDelta
made_delta cells entries None h = tt
made_delta cells entries (Some n) h =
    subst IsDelta (sym h.1)
    (record { some = h.0; ascending = entries.ascending; none_empty = entries.none_empty })

-- what is new of one entry
pub one_news : (s : State) (e : ℕ × CellState) (x : CellState) → IsNewsOf joined_cell (s e.0) e.1 x
    → IsNewsOf joined_state s (state_of (e ∷ [])) (state_of ((e.0, x) ∷ []))
one_news s e x w = news_from_cells s _ _ (λ c. new_at s [] [] e tt (found_none s) x w c (cases_eq e.0 c))

pub one_filled : (s : State) (e : ℕ × CellState) (x : CellState) → IsNewsOf joined_cell (s e.0) e.1 x
    → joined_cell (s e.0) e.1 ≢ s e.0 → x ≢ empty_cell
one_filled s e x w differs none =
    differs (none_below (s e.0) e.1 empty_cell joined_cell-empty_right
    (subst (λ y. IsNewsOf joined_cell (s e.0) e.1 y) none w))

pub one_not_below : (s : State) (e : ℕ × CellState) → joined_cell (s e.0) e.1 ≢ s e.0 → ¬ IsBelow (state_of (e ∷ [])) s
one_not_below s e differs = not_below s 0 (e ∷ []) 0 e (omega arith, tt) (omega arith) differs

states_is_join : IsJoin joined_state
states_is_join = record {
  associative = joined_state-assoc;
  commutative = joined_state-comm;
  idempotent = joined_state-idem;
}

pub least_news : NewsIsLeast
least_news s d n w = record {
  below = news_below s d n w;
  nothing = news_has_nothing states_is_join s d n w;
  once = λ m v. news_once states_is_join s d n m w v;
}

-- where something is listed as new, the delta isn't below the state
pub listed_not_below : (s d : State) (cells : Entries) → AreEntries cells → IsNewsOf joined_state s d (state_of cells)
    → 0 < length cells → ¬ IsBelow d s
listed_not_below s d cells entries w some below =
    empty_list cells entries (sym (joined_state-empty_right (state_of cells))
    ∙ joined_state-comm (state_of cells) empty_state
    ∙ w.least empty_state (joined_state-empty_right s ∙ sym below)) some

-- what holds whatever the result is holds on an error
pub on_err : {T E P : Type 0} (r : Result T E) → P → OnErr r P
on_err (Ok x) p = tt
on_err (Err e) p = p
