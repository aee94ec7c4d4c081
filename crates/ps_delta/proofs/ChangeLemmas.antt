-- What a walk over a delta's entries lists, and an exchange of states one by one.
use Rattle.std.proofs.Common.{◌≡◌, ◌≢◌, ◌⊎◌, ℕ, zero, suc, ◌+◌, ◌<◌, ◌≤◌, Bool, true, false, [], ◌∷◌, ◌++◌}
use Rattle.std.proofs.Common.{All, length, get_or, take, set, add-one, refl, sym}
use Rattle.std.proofs.Common.{ap, ◌∙◌, subst, arith, true≢false, inl, inr}
use Rattle.std.proofs.lemmas.Bool.{cases_eq}
use Rattle.std.proofs.lemmas.List.Elements.{All-push}
use Rattle.std.proofs.lemmas.List.{map-append}
use Rattle.std.proofs.Math.Path.{fun_ext}
use Rattle.std.specs.List.Sorted.{IsStrictlyIncreasing}
use Rattle.ps_grid.specs.declared.size.TheConstants.{CELLS}
use Rattle.ps_delta.specs.declared.cell_state.CellState.{CellState}
use Rattle.ps_delta.specs.State.{AreTouched, Blocks, HasPlace, State, joined_cell, joined_state, with_cell}
use Rattle.ps_delta.specs.Deltas.{AreInGrid, Entries, IsDelta, cells_of, overlaid, state_of}
use Rattle.ps_delta.specs.Order.{Under}
use Rattle.ps_delta.specs.Changes.{AreChangesBy, HasRoomFor, entries_from}
use Rattle.ps_delta.proofs.CellLists.{rising_from_increasing}
use Rattle.ps_delta.proofs.EntryLemmas.{state_of-nil, under_entry}
use Rattle.ps_delta.proofs.GridLemmas.{at_last, at_others, joined-same, overlaid-push, touched_none}
use Rattle.ps_delta.proofs.StateLemmas.{joined_state-empty_right, with_cell-same, with_cell-other}
use Rattle.ps_delta.proofs.WalkLemmas.{more_entries, so_far, walk-more, walk-same, walk-under}

-- what is listed of the entries walked so far
pub record Listed (s d : State) (cells : Entries) : Type 0 where
  pub touched : AreTouched s (joined_state s d) (cells_of cells)
  pub in_grid : AreInGrid cells
  pub gives : overlaid s cells ≡ joined_state s d

is_true : (b : Bool) → ¬ (¬ (b ≡ true)) → b ≡ true
is_true true h = refl
is_true false h = absurd (h (λ p. true≢false (sym p)))

pub changes_from_listed : (s d : State) (cells : Entries) → Listed s d cells → AreChangesBy s d cells
changes_from_listed s d cells l = record {
  ascending = l.touched.ascending;
  in_grid = l.in_grid;
  exact = λ c. (
    λ h. λ same. l.touched.differ c h (sym same),
    λ differ. is_true _ (λ h. differ (sym (l.touched.same c h))),
  );
  gives = l.gives;
}

pub listed_none : (s : State) → Listed s (state_of []) []
listed_none s = record {
  touched = touched_none s;
  in_grid = λ k d h. absurd (omega (arith, h));
  gives = sym (ap (joined_state s) state_of-nil ∙ joined_state-empty_right s);
}

-- one more cell of the grid, after the others
in_grid-push : (cells : Entries) (e : ℕ × CellState) → AreInGrid cells → e.0 < CELLS → AreInGrid (cells ++ e ∷ [])
in_grid-push [] e g h zero d k = h
in_grid-push [] e g h (suc i) d k = absurd (omega (arith, k))
in_grid-push (c ∷ cells) e g h zero d k = g zero d (omega arith)
in_grid-push (c ∷ cells) e g h (suc i) d k =
    in_grid-push cells e (λ j b m. g (suc j) b (omega (arith, m))) h i d (omega (arith, k))

-- the last entry of a delta changes its cell alone
with_last : (s : State) (es : Entries) (e : ℕ × CellState) (c : ℕ) → Under e.0 (cells_of es)
    → (e.0 ≡ c) ⊎ (e.0 ≢ c)
    → with_cell (joined_state s (state_of es)) e.0 (joined_cell (s e.0) e.1) c
    ≡ joined_state s (state_of (es ++ e ∷ [])) c
with_last s es e c u (inl p) =
    subst (λ b. with_cell (joined_state s (state_of es)) e.0 (joined_cell (s e.0) e.1) b
    ≡ joined_state s (state_of (es ++ e ∷ [])) b) p
    (with_cell-same (joined_state s (state_of es)) e.0 (joined_cell (s e.0) e.1) ∙ sym (at_last s es e u))
with_last s es e c u (inr p) =
    with_cell-other (joined_state s (state_of es)) e.0 c (joined_cell (s e.0) e.1) p ∙ sym (at_others s es e c u p)

module _ (s : State) (es : Entries) (i : ℕ) (e : ℕ × CellState) (x : CellState)
    (delta : IsDelta es) (within : i < length es) (is : e ≡ get_or es i e) (holds : x ≡ s e.0) where
  -- one more entry that changes nothing
  pub listed-same : (cells : Entries) → joined_cell x e.1 ≡ x → Listed s (state_of (take i es)) cells
      → Listed s (state_of (take (i + 1) es)) cells
  listed-same cells h l = record {
    touched = walk-same s es i e x delta within is holds (cells_of cells) h l.touched;
    in_grid = l.in_grid;
    gives = l.gives ∙ sym (ap (λ ds. joined_state s (state_of ds)) (sym (so_far s es i e x delta within is holds))
        ∙ joined-same s (take i es) e (walk-under s es i e x delta within is holds)
        (subst (λ y. joined_cell y e.1 ≡ y) holds h));
  }

  -- one more entry that changes its cell
  pub listed-more : (cells : Entries) → joined_cell x e.1 ≢ x → e.0 < CELLS → Listed s (state_of (take i es)) cells
      → Listed s (state_of (take (i + 1) es)) (cells ++ (e.0, joined_cell x e.1) ∷ [])
  listed-more cells h in_grid l = record {
    touched = subst (AreTouched s (joined_state s (state_of (take (i + 1) es))))
        (sym (map-append (λ c. c.0) cells ((e.0, joined_cell x e.1) ∷ [])))
        (walk-more s es i e x delta within is holds (cells_of cells) h l.touched);
    in_grid = in_grid-push cells (e.0, joined_cell x e.1) l.in_grid in_grid;
    gives = overlaid-push s cells (e.0, joined_cell x e.1)
        ∙ (λ k. with_cell (l.gives k) e.0 (joined_cell (holds k) e.1))
        ∙ fun_ext (λ c. with_last s (take i es) e c (walk-under s es i e x delta within is holds) (cases_eq e.0 c))
        ∙ ap (λ ds. joined_state s (state_of ds)) (so_far s es i e x delta within is holds);
  }

-- the first i entries with what they hold in s, the others as they are
abbrev pub swapped : State → ℕ → Entries → Entries
swapped s zero es = es
swapped s (suc i) [] = []
swapped s (suc i) (e ∷ es) = (e.0, s e.0) ∷ swapped s i es

pub swapped-at : (s : State) (i : ℕ) (es : Entries) (d : ℕ × CellState) → get_or (swapped s i es) i d ≡ get_or es i d
swapped-at s zero es d = refl
swapped-at s (suc i) [] d = refl
swapped-at s (suc i) (e ∷ es) d = swapped-at s i es d

pub length-swapped : (s : State) (i : ℕ) (es : Entries) → length (swapped s i es) ≡ length es
length-swapped s zero es = refl
length-swapped s (suc i) [] = refl
length-swapped s (suc i) (e ∷ es) = ap suc (length-swapped s i es)

swapped-next : (s : State) (i : ℕ) (es : Entries) (e : ℕ × CellState) → i < length es → e ≡ get_or es i e
    → set (swapped s i es) i (e.0, s e.0) ≡ swapped s (suc i) es
swapped-next s i [] e h is = absurd (omega (arith, h))
swapped-next s zero (d ∷ es) e h is = λ k. ((is k).0, s (is k).0) ∷ es
swapped-next s (suc i) (d ∷ es) e h is = ap (λ ds. (d.0, s d.0) ∷ ds) (swapped-next s i es e (omega (arith, h)) is)

pub swapped-more : (s : State) (i : ℕ) (es : Entries) (e : ℕ × CellState) → i < length es → e ≡ get_or es i e
    → set (swapped s i es) i (e.0, s e.0) ≡ swapped s (i + 1) es
swapped-more s i es e h is = rw add-one (swapped-next s i es e h is)

pub swapped-all : (s : State) (i : ℕ) (es : Entries) → length es ≤ i → swapped s i es ≡ entries_from s es
swapped-all s zero [] h = refl
swapped-all s zero (e ∷ es) h = absurd (omega (arith, h))
swapped-all s (suc i) [] h = refl
swapped-all s (suc i) (e ∷ es) h = ap (λ ds. (e.0, s e.0) ∷ ds) (swapped-all s i es (omega (arith, h)))

-- cells that are all below c leave what it holds
overlaid-under : (s : State) (n : ℕ) (es : Entries) (c : ℕ) → Under n (cells_of es) → n ≤ c → overlaid s es c ≡ s c
overlaid-under s n [] c u h = refl
overlaid-under s n (e ∷ es) c u h =
    overlaid-under (with_cell s e.0 e.1) n es c u.1 h ∙ with_cell-other s e.0 c e.1 (λ p. omega (arith, p, u.0, h))

-- the entry with the index i holds what it held before the ones before it were put into their places
pub held_before : (s : State) (es : Entries) (i : ℕ) (e : ℕ × CellState) → IsStrictlyIncreasing (cells_of es)
    → i < length es → e ≡ get_or es i e → overlaid s (take i es) e.0 ≡ s e.0
held_before s es i e once within is =
    overlaid-under s e.0 (take i es) e.0
    (subst (λ d. Under d.0 (cells_of (take i es))) (sym is)
    (under_entry 0 es i e (rising_from_increasing 0 (cells_of es) once (λ _. omega arith)) within))
    (omega arith)

pub overlaid-more : (s : State) (es : Entries) (i : ℕ) (e : ℕ × CellState) → i < length es → e ≡ get_or es i e
    → with_cell (overlaid s (take i es)) e.0 e.1 ≡ overlaid s (take (i + 1) es)
overlaid-more s es i e within is = sym (overlaid-push s (take i es) e) ∙ ap (overlaid s) (more_entries es i e within is)

-- one entry exchanged: t is the state before, t2 after, x what the entry's cell held
pub exchange-step : (s t t2 : State) (es cells : Entries) (i : ℕ) (e : ℕ × CellState) (x : CellState)
    → IsStrictlyIncreasing (cells_of es) → i < length es → e ≡ get_or cells i e
    → t ≡ overlaid s (take i es) → cells ≡ swapped s i es
    → t2 ≡ with_cell t (get_or cells i e).0 (get_or cells i e).1 → x ≡ t (get_or cells i e).0
    → (t2 ≡ overlaid s (take (i + 1) es)) × (set cells i ((get_or cells i e).0, x) ≡ swapped s (i + 1) es)
exchange-step s t t2 es cells i e x once within is so_far listed given taken =
    let is_there : e ≡ get_or es i e = is ∙ ap (λ cs. get_or cs i e) listed ∙ swapped-at s i es e in
    let held : x ≡ s e.0 = taken ∙ (λ k. so_far k (sym is k).0) ∙ held_before s es i e once within is_there in (
      given ∙ (λ k. with_cell (so_far k) (sym is k).0 (sym is k).1) ∙ overlaid-more s es i e within is_there,
      (λ k. set (listed k) i ((sym is k).0, held k)) ∙ swapped-more s i es e within is_there,
    )

-- other states at the same cells
places_from : (blocks : Blocks) (s : State) (es : Entries) → All (λ e. HasPlace blocks e.0) es
    → All (λ e. HasPlace blocks e.0) (entries_from s es)
places_from blocks s [] g k d h = absurd (omega (arith, h))
places_from blocks s (e ∷ es) g zero d h = g zero e (omega arith)
places_from blocks s (e ∷ es) g (suc i) d h =
    places_from blocks s es (λ j b m. g (suc j) b (omega (arith, m))) i d (omega (arith, h))

pub room_after : (blocks : Blocks) (s : State) (es cells : Entries) → HasRoomFor blocks es → cells ≡ entries_from s es
    → HasRoomFor blocks cells
unfolding HasRoomFor
room_after blocks s es cells room is =
    subst (λ l. All (λ e. HasPlace blocks e.0) l) (sym is) (places_from blocks s es room)

pub room_kept : (xs ys : Blocks) (es : Entries) → ((c : ℕ) → HasPlace xs c → HasPlace ys c) → HasRoomFor xs es
    → HasRoomFor ys es
unfolding HasRoomFor
room_kept xs ys es keeps room k d h = keeps (get_or es k d).0 (room k d h)

pub room_none : (blocks : Blocks) → HasRoomFor blocks []
unfolding HasRoomFor
room_none blocks k d h = absurd (omega (arith, h))

pub room_more : (blocks : Blocks) (es : Entries) (e : ℕ × CellState) → HasRoomFor blocks es → HasPlace blocks e.0
    → HasRoomFor blocks (es ++ e ∷ [])
unfolding HasRoomFor
room_more blocks es e room place = All-push (λ d. HasPlace blocks d.0) es e room place

pub place_there : (blocks : Blocks) (s : State) (es cells : Entries) (i : ℕ) (d : ℕ × CellState)
    → HasRoomFor blocks es → i < length es → cells ≡ swapped s i es → HasPlace blocks (get_or cells i d).0
unfolding HasRoomFor
place_there blocks s es cells i d room within listed =
    subst (λ e. HasPlace blocks e.0) (sym (ap (λ cs. get_or cs i d) listed ∙ swapped-at s i es d)) (room i d within)
