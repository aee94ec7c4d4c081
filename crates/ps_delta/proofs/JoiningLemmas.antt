-- Entries of several deltas, gathered, brought into the order of their cells, and joined one after another.
use Rattle.std.proofs.Common.{◌≡◌, ◌≢◌, ℕ, zero, suc, map as each, ◌+◌, ◌<◌, ◌≤◌, List, [], ◌∷◌, ◌++◌, length, get_or}
use Rattle.std.proofs.Common.{take, set, refl, sym, ap, ◌∙◌, ⊎_elim, subst, arith, length-append}
use Rattle.std.proofs.lemmas.Bool.{cases_eq}
use Rattle.std.proofs.lemmas.List.{length-map, take_more, map-append, get_or_default}
use Rattle.std.proofs.Math.Seq.{map-set_same}
use Rattle.std.proofs.Math.Path.{fun_ext}
use Rattle.std.proofs.lemmas.List.Elements.{All-nil, All-tail, All-append, All-set, All-push}
use Rattle.std.proofs.lemmas.List.Sorted.{
  Contains-permutation,
  IsPermutation-map,
  IsPermutation-sym,
  IsNonDecreasingBy-from_default,
}
use Rattle.std.specs.List.{All}
use Rattle.std.specs.List.Sorted.{IsPermutation, IsNonDecreasingBy}
use Rattle.ps_grid.specs.declared.size.TheConstants.{CELLS}
use Rattle.ps_delta.specs.declared.cell_state.CellState.{CellState}
use Rattle.ps_delta.specs.State.{empty_cell, joined_cell, joined_state}
use Rattle.ps_delta.specs.CellLaws.{joined_cell-idem, joined_cell-assoc, joined_cell-empty, joined_cell-empty_right}
use Rattle.ps_delta.specs.Deltas.{Entries, cells_of, AreEntries, AreInGrid, IsDelta, state_of, joined_history}
use Rattle.ps_delta.specs.Inside.Joining.{IsEntry, joined_entries}
use Rattle.ps_delta.specs.Order.{Rising, Under}
use Rattle.ps_delta.proofs.CellLists.{rising_from_increasing, increasing_from_rising, Rising-push}
use Rattle.ps_delta.proofs.EntryLemmas.{state_of-nil, state_of-here, state_of-there, state_of-under, state_of-rising}
use Rattle.ps_delta.proofs.EntryLemmas.{entry_at, state_of-push}
use Rattle.ps_delta.proofs.HistoryLemmas.{
  by_set,
  joined_history-nil,
  joined_history-cons,
  joined_history-append,
  joined_history-push,
}

-- entries in order, of the grid
abbrev pub AreKept : Entries → Type 0
AreKept es = AreEntries es × AreInGrid es

rising : (es : Entries) → AreKept es → Rising 0 (cells_of es)
rising es k = rising_from_increasing 0 (cells_of es) k.0.ascending (λ _. omega arith)

pub kept_none : AreKept []
kept_none = (
  record { ascending = increasing_from_rising 0 [] tt; none_empty = All-nil (λ d. d.1 ≢ empty_cell) },
  All-nil (λ d. d.0 < CELLS),
)

-- a join is empty only where both parts are
none_joined : (x y : CellState) → x ≢ empty_cell → joined_cell x y ≢ empty_cell
none_joined x y h e =
    h (sym (joined_cell-empty_right x) ∙ ap (joined_cell x) (sym e) ∙ sym (joined_cell-assoc x x y)
    ∙ ap (λ z. joined_cell z y) (joined_cell-idem x) ∙ e)

-- what an entry alone says of its cell, and of others
alone-here : (e : ℕ × CellState) (c : ℕ) → e.0 ≡ c → state_of (e ∷ []) c ≡ e.1
alone-here e c p = state_of-here e [] c p

alone-there : (e : ℕ × CellState) (c : ℕ) → e.0 ≢ c → state_of (e ∷ []) c ≡ empty_cell
alone-there e c p = state_of-there e [] c p ∙ state_of-under 0 [] c tt (omega arith)

-- an entry before all others is joined to their state
cons_at : (e : ℕ × CellState) (es : Entries) (c : ℕ) → Rising (e.0 + 1) (cells_of es)
    → state_of (e ∷ es) c ≡ joined_cell (state_of (e ∷ []) c) (state_of es c)
cons_at e es c r =
    ⊎_elim
    (λ p. state_of-here e es c p ∙ sym (joined_cell-empty_right e.1)
    ∙ sym (λ i. joined_cell (alone-here e c p i) (state_of-rising (e.0 + 1) es c r (omega (arith, p)) i)))
    (λ p. state_of-there e es c p ∙ sym (joined_cell-empty (state_of es c))
    ∙ sym (ap (λ x. joined_cell x (state_of es c)) (alone-there e c p)))
    (cases_eq e.0 c)

state_of-cons : (e : ℕ × CellState) (es : Entries) → Rising (e.0 + 1) (cells_of es)
    → state_of (e ∷ es) ≡ joined_state (state_of (e ∷ [])) (state_of es)
unfolding joined_state
state_of-cons e es r = fun_ext (λ c. cons_at e es c r)

-- entries in order are joined to the state that they stand for
joined_entries-rising : (n : ℕ) (es : Entries) → Rising n (cells_of es) → joined_entries es ≡ state_of es
joined_entries-rising n [] r = joined_history-nil ∙ sym state_of-nil
joined_entries-rising n (e ∷ es) r =
    joined_history-cons (e ∷ []) (each (λ e. e ∷ []) es)
    ∙ ap (joined_state (state_of (e ∷ []))) (joined_entries-rising (e.0 + 1) es r.1) ∙ sym (state_of-cons e es r.1)

joined_entries-append : (xs ys : Entries) → joined_entries (xs ++ ys)
    ≡ joined_state (joined_entries xs) (joined_entries ys)
joined_entries-append xs ys =
    ap joined_history (map-append (λ e. e ∷ []) xs ys)
    ∙ joined_history-append (each (λ e. e ∷ []) xs) (each (λ e. e ∷ []) ys)

-- the order of entries doesn't matter
pub joined_entries-permutation : (xs ys : Entries) → IsPermutation xs ys → joined_entries ys ≡ joined_entries xs
joined_entries-permutation xs ys p =
    let there = IsPermutation-map (λ e. e ∷ []) xs ys p in
    by_set (each (λ e. e ∷ []) ys) (each (λ e. e ∷ []) xs)
    (λ d. (
      Contains-permutation _ _ d (IsPermutation-sym _ _ there),
      Contains-permutation _ _ d there,
    ))

mapped_at : {X Y : Type 0} (f : X → Y) (xs : List X) (i : ℕ) (d : X)
    → get_or (each f xs) i (f d) ≡ f (get_or xs i d)
mapped_at f [] i d = refl
mapped_at f (x ∷ xs) zero d = refl
mapped_at f (x ∷ xs) (suc i) d = mapped_at f xs i d

pub item_mapped : {X Y : Type 0} (f : X → Y) (xs : List X) (i : ℕ) (x : X) → x ≡ get_or xs i x
    → f x ≡ get_or (each f xs) i (f x)
item_mapped f xs i x is = ap f is ∙ sym (mapped_at f xs i x)

order_at : {X Y : Type 0} (f : X → Y) (n : Y → ℕ) (xs : List X) (x : X) → IsNonDecreasingBy (λ x. n (f x)) xs
    → IsNonDecreasingBy n (each f xs)
order_at f n xs x h = IsNonDecreasingBy-from_default n (each f xs) (f x)
    (λ i j le lt. omega (arith, h i j x le (rw length-map at lt), ap n (mapped_at f xs i x), ap n (mapped_at f xs j x)))

pub order_mapped : {X Y : Type 0} (f : X → Y) (n : Y → ℕ) (xs : List X) → IsNonDecreasingBy (λ x. n (f x)) xs
    → IsNonDecreasingBy n (each f xs)
order_mapped f n [] h = λ i j d le lt. absurd (omega (arith, lt))
order_mapped f n (x ∷ xs) h = order_at f n (x ∷ xs) x h

-- the entries of the first i deltas of a list
pub record Gathered (deltas : List Entries) (i : ℕ) (es : Entries) : Type 0 where
  pub joined : joined_entries es ≡ joined_history (take i deltas)
  pub entries : All IsEntry es
  pub some : 0 < i → 0 < length es

pub gathered_none : (deltas : List Entries) → Gathered deltas 0 []
gathered_none deltas = record {
  joined = refl;
  entries = All-nil IsEntry;
  some = λ h. absurd (omega (arith, h));
}

are_all : (es : Entries) → IsDelta es → AreInGrid es → All IsEntry es
are_all es d grid k x within = (d.none_empty k x within, grid k x within)

gathered_next : (deltas : List Entries) (i : ℕ) (es more delta : Entries) → i < length deltas
    → delta ≡ get_or deltas i delta → IsDelta delta → AreInGrid delta → more ≡ es ++ delta
    → Gathered deltas i es → Gathered deltas (i + 1) more
gathered_next deltas i es more delta within is d grid added g =
    let rises = rising_from_increasing 0 (cells_of delta) d.ascending (λ _. omega arith) in
    let some : 0 < length (es ++ delta) = omega (arith, length-append es delta, d.some) in record {
      joined = ap joined_entries added ∙ joined_entries-append es delta
          ∙ (λ k. joined_state (g.joined k) (joined_entries-rising 0 delta rises k))
          ∙ sym (joined_history-push (take i deltas) delta)
          ∙ ap (λ x. joined_history (take i deltas ++ x ∷ [])) is
          ∙ ap joined_history (sym (take_more deltas i delta within));
      entries = subst (All IsEntry) (sym added) (All-append IsEntry es delta g.entries (are_all delta d grid));
      some = λ _. rw added some;
    }

-- the same where the delta is an item of the list
pub gathered_more : (xs : List Entries) (i : ℕ) (x es more delta : Entries) → i < length xs → x ≡ get_or xs i x
    → delta ≡ x → IsDelta delta → AreInGrid delta → more ≡ es ++ delta → Gathered xs i es → Gathered xs (i + 1) more
gathered_more xs i x es more delta within is same =
    gathered_next xs i es more delta within (same ∙ is ∙ ap (get_or xs i) (sym same))

-- an entry joined to that of its cell, at the place k
joined_at : (n : ℕ) (es : Entries) (k : ℕ) (d e : ℕ × CellState) (x : CellState) (c : ℕ) → Rising n (cells_of es)
    → k < length es → (get_or es k d).0 ≡ e.0 → x ≡ joined_cell (get_or es k d).1 e.1
    → state_of (set es k ((get_or es k d).0, x)) c ≡ joined_cell (state_of es c) (state_of (e ∷ []) c)
joined_at n [] k d e x c r h same is = absurd (omega (arith, h))
joined_at n (b ∷ es) zero d e x c r h same is =
    ⊎_elim
    (λ p. state_of-here (b.0, x) es c p ∙ is
    ∙ sym (λ i. joined_cell (state_of-here b es c p i) (alone-here e c (sym same ∙ p) i)))
    (λ p. state_of-there (b.0, x) es c p ∙ sym (state_of-there b es c p) ∙ sym (joined_cell-empty_right _)
    ∙ sym (ap (joined_cell (state_of (b ∷ es) c)) (alone-there e c (λ q. p (same ∙ q)))))
    (cases_eq b.0 c)
joined_at n (b ∷ es) (suc k) d e x c r h same is =
    let later : b.0 + 1 ≤ (get_or es k d).0 = entry_at (b.0 + 1) es k d r.1 (omega (arith, h)) in
    ⊎_elim
    (λ p. state_of-here b (set es k ((get_or es k d).0, x)) c p ∙ sym (state_of-here b es c p)
    ∙ sym (joined_cell-empty_right _)
    ∙ sym (ap (joined_cell (state_of (b ∷ es) c)) (alone-there e c (λ q. omega (arith, later, same, q, p)))))
    (λ p. state_of-there b (set es k ((get_or es k d).0, x)) c p
    ∙ joined_at (b.0 + 1) es k d e x c r.1 (omega (arith, h)) same is
    ∙ ap (λ y. joined_cell y (state_of (e ∷ []) c)) (sym (state_of-there b es c p)))
    (cases_eq b.0 c)

module _ (es : Entries) (e : ℕ × CellState) (kept : AreKept es) (k : ℕ) (b : ℕ × CellState) (x : CellState)
    (within : k < length es) (here : b ≡ get_or es k b) (is : x ≡ joined_cell b.1 e.1) where
  set_here : set es k (b.0, x) ≡ set es k ((get_or es k b).0, x)
  set_here = ap (λ (d : ℕ × CellState). set es k (d.0, x)) here

  at_here : x ≡ joined_cell (get_or es k b).1 e.1
  at_here = is ∙ ap (λ (d : ℕ × CellState). joined_cell d.1 e.1) here

  pub joined_there : b.0 ≡ e.0 → state_of (set es k (b.0, x)) ≡ joined_state (state_of es) (state_of (e ∷ []))
  unfolding joined_state
  joined_there same =
      let tied = sym (ap (λ (d : ℕ × CellState). d.0) here) ∙ same in
      ap state_of set_here ∙ fun_ext (λ c. joined_at 0 es k b e x c (rising es kept) within tied at_here)

  pub kept_there : AreKept (set es k (b.0, x))
  kept_there =
      let cells = map-set_same (λ (d : ℕ × CellState). d.0) es k ((get_or es k b).0, x) b refl in
      subst AreKept (sym set_here) (
        record {
          ascending = rw cells kept.0.ascending;
          none_empty = All-set (λ d. d.1 ≢ empty_cell) es k ((get_or es k b).0, x)
              (subst (λ y. y ≢ empty_cell) (sym at_here)
              (none_joined (get_or es k b).1 e.1 (kept.0.none_empty k b within)))
              kept.0.none_empty;
        },
        All-set (λ d. d.0 < CELLS) es k ((get_or es k b).0, x) (kept.1 k b within) kept.1,
      )

-- the last entry isn't of this cell
abbrev pub EndsApart : Entries → ℕ → Type 0
EndsApart es c = (k : ℕ) (d : ℕ × CellState) → k + 1 ≡ length es → (get_or es k d).0 ≢ c

pub none_apart : (es : Entries) (c : ℕ) → length es ≡ 0 → EndsApart es c
none_apart es c none k d h = absurd (omega (arith, none, h))

pub last_apart : (es : Entries) (c k : ℕ) (b : ℕ × CellState) → k + 1 ≡ length es → b ≡ get_or es k b → b.0 ≢ c
    → EndsApart es c
last_apart es c k b last is apart j d h e =
    let same : j ≡ k = omega (arith, last, h) in
    apart (ap (λ (x : ℕ × CellState). x.0) (is ∙ get_or_default es k b d (omega (arith, last))
    ∙ ap (λ i. get_or es i d) (sym same)) ∙ e)

-- cells up to c are below c if the last one isn't c
under_last : (n : ℕ) (es : Entries) (c : ℕ) → Rising n (cells_of es) → All (λ b. b.0 ≤ c) es
    → EndsApart es c → Under c (cells_of es)
under_last n [] c r all last = tt
under_last n (b ∷ []) c r all last =
    let most : b.0 ≤ c = all 0 b (omega arith) in (omega (arith, most, last 0 b (omega arith)), tt)
under_last n (b ∷ e ∷ es) c r all last =
    let most : e.0 ≤ c = all 1 b (omega arith) in (
      omega (arith, most, r.1.0),
      under_last (b.0 + 1) (e ∷ es) c r.1 (All-tail (λ b. b.0 ≤ c) b (e ∷ es) all)
          (λ k d h. last (suc k) d (omega (arith, h))),
    )

module _ (es more : Entries) (e : ℕ × CellState) (kept : AreKept es) (entry : IsEntry e)
    (upto : All (λ b. b.0 ≤ e.0) es) (last : EndsApart es e.0) (is : more ≡ es ++ e ∷ []) where
  under : Under e.0 (cells_of es)
  under = under_last 0 es e.0 (rising es kept) upto last

  pub joined_after : state_of more ≡ joined_state (state_of es) (state_of (e ∷ []))
  joined_after = ap state_of is ∙ state_of-push es e under

  pub kept_after : AreKept more
  kept_after =
      let cells = map-append (λ (b : ℕ × CellState). b.0) es (e ∷ []) in
      let rises : Rising 0 (cells_of (es ++ e ∷ [])) = rw cells
      (Rising-push 0 (cells_of es) e.0 (rising es kept) under (omega arith)) in
      rw is (
        record {
          ascending = increasing_from_rising 0 (cells_of (es ++ e ∷ [])) rises;
          none_empty = All-push (λ b. b.1 ≢ empty_cell) es e kept.0.none_empty entry.0;
        },
        All-push (λ b. b.0 < CELLS) es e kept.1 entry.1,
      )

-- the first i entries of a list joined: their cells come before those of the others, or are the same
pub record Added (entries : Entries) (i : ℕ) (cells : Entries) : Type 0 where
  pub joined : state_of cells ≡ joined_entries (take i entries)
  pub kept : AreKept cells
  pub before : (j : ℕ) (d : ℕ × CellState) → i ≤ j → j < length entries → All (λ b. b.0 ≤ (get_or entries j d).0) cells
  pub some : 0 < i → 0 < length cells

pub added_none : (entries : Entries) → Added entries 0 []
added_none entries = record {
  joined = state_of-nil ∙ sym joined_history-nil;
  kept = kept_none;
  before = λ j d h within. All-nil (λ b. b.0 ≤ (get_or entries j d).0);
  some = λ h. absurd (omega (arith, h));
}

pub added_more : (entries : Entries) (i : ℕ) (e : ℕ × CellState) (cells more : Entries)
    → IsNonDecreasingBy (λ b. b.0) entries → i < length entries → e ≡ get_or entries i e
    → state_of more ≡ joined_state (state_of cells) (state_of (e ∷ [])) → AreKept more
    → All (λ b. b.0 ≤ e.0) more → 0 < length more → Added entries i cells → Added entries (i + 1) more
added_more entries i e cells more order within is joined kept upto some a = record {
  joined = joined ∙ ap (λ s. joined_state s (state_of (e ∷ []))) a.joined
      ∙ sym (joined_history-push (each (λ b. b ∷ []) (take i entries)) (e ∷ []))
      ∙ ap joined_history (sym (map-append (λ b. b ∷ []) (take i entries) (e ∷ [])))
      ∙ ap (λ b. joined_entries (take i entries ++ b ∷ [])) is
      ∙ ap joined_entries (sym (take_more entries i e within));
  kept = kept;
  before = λ j d h inside k b there.
      let first : (get_or more k b).0 ≤ e.0 = upto k b there in
      let next : (get_or entries i e).0 ≤ (get_or entries j e).0 = order i j e (omega (arith, h)) inside in
      omega (arith, first, next, ap (λ x. x.0) is, ap (λ x. x.0) (get_or_default entries j d e inside));
  some = λ _. some;
}
