-- A walk goes through the cells that refer to a row, in order.
use Rattle.std.proofs.Common.{◌≡◌, ℕ, ◌+◌, ◌-◌, ◌<◌, ◌≤◌, ◌⊎◌, inl, inr, sym, ◌∙◌, ap, refl, arith, true, false}
use Rattle.std.proofs.Common.{List, [], ◌∷◌, length, get_or, set, min, nat_eq, subst}
use Rattle.std.specs.Prelude.{Option, None, Some, ⊤}
use Rattle.std.specs.Option.{SomeIff}
use Rattle.std.specs.Iterator.{YieldsFirst, MakesProgress, item_count}
use Rattle.std.proofs.lemmas.Bool.{cases_lt, cases_eq}
use Rattle.std.proofs.lemmas.Bool.Decides.{nat_tests}
use Rattle.std.proofs.lemmas.List.{get_or-set_same, get_or-set_other}
use Rattle.ps_grid.specs.declared.size.TheConstants.{CELLS, ROWS}
use Rattle.ps_index.specs.declared.span.Span.{Span}
use Rattle.ps_index.proofs.CellsPassing.{cells_from-end, cells_from-first, none_within}
use Rattle.ps_index.proofs.ColumnsSorted.{by_cell_within, ends_rise, within_key}
use Rattle.ps_index.proofs.KeysOnTheWay.{OnTheWay, below_node, key_of_within, no_higher, no_lower, on_the_way}
use Rattle.ps_index.specs.Inside.Columns.{AreBelow, IsBelowLevel, IsColumn, IsFromLevel, IsSole, IsSpan, key_at}
use Rattle.ps_index.specs.Inside.Nodes.{key_of, node_of, rounded}
use Rattle.ps_index.specs.Inside.Walks.{AreHeads, IsAhead, IsAt, IsHead, IsLooked, IsMoved, IsOn, IsRuns, IsWalk}
use Rattle.ps_index.specs.Spans.{cell_of, cells_from, holds, refers_at}
use Rattle.ps_index.proofs.BoolTests.{never_true, true_or_false}
use Rattle.ps_index.proofs.SpansCounted.{holds_both, is_there, one_there, refers_at-some, refers_at-true}

-- ---- the runs

get_set : (xs : List ℕ) (n r v : ℕ) → n < length xs → r < n → get_or (set xs n v) r 0 ≡ get_or xs r 0
get_set xs n r v lt below = get_or-set_other xs n r v 0 (λ (e : r ≡ n). absurd (omega arith))

pub runs_none : (column : List ℕ) (Looked : ℕ → Type 0) (starts ends : List ℕ) → ((key : ℕ) → Looked key → ⊥)
    → IsRuns column Looked starts ends 0
runs_none column Looked starts ends never = record {
  few = omega arith;
  sound = λ (r : ℕ) (lt : r < 0). absurd (omega arith);
  complete = λ (key : ℕ) (looked : Looked key). absurd (never key looked);
}

pub runs_skip : (column : List ℕ) (Looked More : ℕ → Type 0) (starts ends : List ℕ) (runs : ℕ)
    → IsRuns column Looked starts ends runs
    → ((key : ℕ) → More key → key ≤ ROWS → get_or column (key - 1) 0 < get_or column key 0 → Looked key)
    → IsRuns column More starts ends runs
runs_skip column Looked More starts ends runs is less = record {
  few = is.few;
  sound = is.sound;
  complete = λ (key : ℕ) (more : More key) (small : key ≤ ROWS)
      (some : get_or column (key - 1) 0 < get_or column key 0).
      is.complete key (less key more small some) small some;
}

pub runs_push : (column : List ℕ) (Looked More : ℕ → Type 0) (starts ends : List ℕ) (runs key : ℕ)
    → IsRuns column Looked starts ends runs
    → runs ≤ 10 → length starts ≡ 11 → length ends ≡ 11 → 1 ≤ key → key ≤ ROWS
    → ((k : ℕ) → More k → (Looked k) ⊎ (k ≡ key))
    → IsRuns column More (set starts runs (get_or column (key - 1) 0)) (set ends runs (get_or column key 0)) (runs + 1)
runs_push column Looked More starts ends runs key is room len len' some small one_more =
    let a = get_or column (key - 1) 0 in
    let b = get_or column key 0 in
    record {
      few = omega arith;
      sound = λ (r : ℕ) (lt : r < runs + 1). elim (cases_lt r runs) [
        | inl below ↦ (let s = is.sound r below in (
          s.0,
          s.1,
          s.2,
          get_set starts runs r a (omega arith) below ∙ s.3,
          get_set ends runs r b (omega arith) below
              ∙ s.4,
        ))
        | inr above ↦ (let at : r ≡ runs = omega arith in (
          key,
          some,
          small,
          ap (λ q. get_or (set starts runs a) q 0) at ∙ get_or-set_same starts runs a 0 (omega arith),
          ap (λ q. get_or (set ends runs b) q 0) at ∙ get_or-set_same ends runs b 0 (omega arith),
        ))
      ];
      complete = λ (k : ℕ) (more : More k) (little : k ≤ ROWS) (full : get_or column (k - 1) 0 < get_or column k 0).
          elim (one_more k more) [
            | inl old ↦ (let s = is.complete k old little full in (
              s.0,
              omega (arith, s.1),
              get_set starts runs s.0 a (omega arith) s.1
                  ∙ s.2,
              get_set ends runs s.0 b (omega arith) s.1 ∙ s.3,
            ))
            | inr e ↦ (
              runs,
              omega arith,
              get_or-set_same starts runs a 0 (omega arith) ∙ ap (λ q. get_or column (q - 1) 0) (sym e),
              get_or-set_same ends runs b 0 (omega arith) ∙ ap (λ q. get_or column q 0) (sym e),
            )
          ];
    }

-- ---- the heads

abbrev any_span : List Span → ℕ → Span
any_span spans i = record { from = 0; to = 0; cell = 0 }

-- a run goes on past spans whose cells came already
pub walk_past : (spans : List Span) (y : ℕ) (starts ends : List ℕ) (runs least r start : ℕ)
    → IsWalk spans y starts ends runs least → r < runs → r < length starts → get_or starts r 0 ≤ start
    → start ≤ get_or ends r 0
    → ((i : ℕ) (d : Span) → get_or starts r 0 ≤ i → i < start → holds (get_or spans i d) y ≡ true
    → cell_of spans i d < least)
    → IsWalk spans y (set starts r start) ends runs least
walk_past spans y starts ends runs least r start walk lt len from to gone = record {
  few = walk.few;
  rising = λ (q : ℕ) (less : q < runs). elim (at_run q) [
    | inl h ↦ (let e : get_or ends q 0 ≡ get_or ends r 0 = ap (λ z. get_or ends z 0) h.0 in omega (arith, h.1))
    | inr h ↦ (let f : get_or starts q 0 ≤ get_or ends q 0 = walk.rising q less in omega (arith, h.1))
  ];
  within = walk.within;
  by_cell = λ (q i j : ℕ) (d : Span) (less : q < runs) (lo : get_or (set starts r start) q 0 ≤ i) (le : i ≤ j)
      (hi : j < get_or ends q 0). elim (at_run q) [
        | inl h ↦ (let e : get_or ends q 0 ≡ get_or ends r 0 = ap (λ z. get_or ends z 0) h.0 in
            walk.by_cell r i j d lt (omega (arith, h.1)) le (omega arith))
        | inr h ↦ walk.by_cell q i j d less (omega (arith, h.1)) le hi
      ];
  whole = λ (i : ℕ) (d : Span) (inside : i < length spans) (has : holds (get_or spans i d) y ≡ true)
      (le : least ≤ cell_of spans i d).
      let found = walk.whole i d inside has le in (
        found.0,
        found.1,
        elim (at_run found.0) [
          | inl h ↦ (let e : get_or starts found.0 0 ≡ get_or starts r 0 = ap (λ z. get_or starts z 0) h.0 in
              elim (cases_lt i start) [
                | inl less ↦ absurd (let low : cell_of spans i d < least =
                    gone i d (omega (arith, found.2)) less has in omega arith)
                | inr ge ↦ omega (arith, h.1)
              ])
          | inr h ↦ omega (arith, h.1, found.2)
        ],
        found.3,
      );
  in_grid = walk.in_grid;
}
  where
    at_run : (q : ℕ) → ((q ≡ r) × (get_or (set starts r start) q 0 ≡ start))
        ⊎ ((q ≡ r → ⊥) × (get_or (set starts r start) q 0 ≡ get_or starts q 0))
    at_run q = elim (cases_eq q r) [
      | inl e ↦ inl (e, ap (λ z. get_or (set starts r start) z 0) e ∙ get_or-set_same starts r start 0 len)
      | inr other ↦ inr (other, get_or-set_other starts r q start 0 other)
    ]

-- an empty run is taken out, and the last one comes into its place
pub walk_without : (spans : List Span) (y : ℕ) (starts ends : List ℕ) (last least r : ℕ)
    → IsWalk spans y starts ends (last + 1) least → r ≤ last → r < length starts → r < length ends
    → ((i : ℕ) (d : Span) → get_or starts r 0 ≤ i → i < get_or ends r 0 → holds (get_or spans i d) y ≡ true
    → cell_of spans i d < least)
    → IsWalk spans y (set starts r (get_or starts last 0)) (set ends r (get_or ends last 0)) last least
walk_without spans y starts ends last least r walk le_last len len' gone = record {
  few = omega (arith, walk.few);
  rising = λ (q : ℕ) (less : q < last). elim (at_run q) [
    | inl h ↦ omega (arith, h.1, h.2, walk.rising last (omega arith))
    | inr h ↦ omega (arith, h.1, h.2, walk.rising q (omega arith))
  ];
  within = λ (q : ℕ) (less : q < last). elim (at_run q) [
    | inl h ↦ omega (arith, h.2, walk.within last (omega arith))
    | inr h ↦ omega (arith, h.2, walk.within q (omega arith))
  ];
  by_cell = λ (q i j : ℕ) (d : Span) (less : q < last) (lo : get_or (set starts r (get_or starts last 0)) q 0 ≤ i)
      (le : i ≤ j) (hi : j < get_or (set ends r (get_or ends last 0)) q 0). elim (at_run q) [
        | inl h ↦ walk.by_cell last i j d (omega arith) (omega (arith, h.1)) le (omega (arith, h.2))
        | inr h ↦ walk.by_cell q i j d (omega arith) (omega (arith, h.1)) le (omega (arith, h.2))
      ];
  whole = λ (i : ℕ) (d : Span) (inside : i < length spans) (has : holds (get_or spans i d) y ≡ true)
      (le : least ≤ cell_of spans i d).
      let found = walk.whole i d inside has le in
      elim (cases_eq found.0 r) [
        | inl e ↦ absurd (
            let s : get_or starts found.0 0 ≡ get_or starts r 0 = ap (λ z. get_or starts z 0) e in
            let t : get_or ends found.0 0 ≡ get_or ends r 0 = ap (λ z. get_or ends z 0) e in
            let low : cell_of spans i d < least = gone i d (omega (arith, found.2)) (omega (arith, found.3)) has in
            omega arith)
        | inr other ↦ (elim (cases_lt found.0 last) [
          | inl less ↦ (elim (at_run found.0) [
            | inl h ↦ absurd (other h.0)
            | inr h ↦ (found.0, less, omega (arith, h.1, found.2), omega (arith, h.2, found.3))
          ])
          | inr ge ↦ (let e : found.0 ≡ last = omega (arith, found.1) in
              let s : get_or starts found.0 0 ≡ get_or starts last 0 = ap (λ z. get_or starts z 0) e in
              let t : get_or ends found.0 0 ≡ get_or ends last 0 = ap (λ z. get_or ends z 0) e in
              let apart : r ≡ last → ⊥ = λ (q : r ≡ last). other (e ∙ sym q) in (
                r,
                omega (arith, apart),
                omega (arith, get_or-set_same starts r (get_or starts last 0) 0 len, found.2),
                omega (arith, get_or-set_same ends r (get_or ends last 0) 0 len', found.3),
              ))
        ])
      ];
  in_grid = walk.in_grid;
}
  where
    at_run : (q : ℕ) → ((q ≡ r) × (get_or (set starts r (get_or starts last 0)) q 0 ≡ get_or starts last 0)
        × (get_or (set ends r (get_or ends last 0)) q 0 ≡ get_or ends last 0))
        ⊎ ((q ≡ r → ⊥) × (get_or (set starts r (get_or starts last 0)) q 0 ≡ get_or starts q 0)
        × (get_or (set ends r (get_or ends last 0)) q 0 ≡ get_or ends q 0))
    at_run q = elim (cases_eq q r) [
      | inl e ↦ inl (
        e,
        ap (λ z. get_or (set starts r (get_or starts last 0)) z 0) e
            ∙ get_or-set_same starts r (get_or starts last 0) 0 len,
        ap (λ z. get_or (set ends r (get_or ends last 0)) z 0) e ∙ get_or-set_same ends r (get_or ends last 0) 0 len',
      )
      | inr other ↦ inr (
        other,
        get_or-set_other starts r q (get_or starts last 0) 0 other,
        get_or-set_other ends r q (get_or ends last 0) 0 other,
      )
    ]

pub head_start : (spans : List Span) (y : ℕ) (starts ends : List ℕ) (runs least : ℕ)
    → IsWalk spans y starts ends runs least → IsHead spans y starts ends runs least 0 CELLS
head_start spans y starts ends runs least walk = record {
  walk = walk;
  lowest = λ (r : ℕ) (d : Span) (lt : r < 0). absurd (omega arith);
  there = inl refl;
}

-- the next run has a first span
pub head_found : (spans : List Span) (y : ℕ) (starts ends : List ℕ) (runs least run first start cell : ℕ)
    → IsHead spans y starts ends runs least run first → run < runs → run < length starts
    → get_or starts run 0 ≤ start → start < get_or ends run 0
    → ((i : ℕ) (d : Span) → get_or starts run 0 ≤ i → i < start → holds (get_or spans i d) y ≡ true
    → cell_of spans i d < least)
    → ((d : Span) → cell_of spans start d ≡ cell) → ((d : Span) → holds (get_or spans start d) y ≡ true)
    → least ≤ cell → IsHead spans y (set starts run start) ends runs least (run + 1) (min first cell)
head_found spans y starts ends runs least run first start cell is lt len from to gone at has from_least = record {
  walk = walk_past spans y starts ends runs least run start is.walk lt len from (omega arith) gone;
  lowest = λ (r : ℕ) (d : Span) (less : r < run + 1) (some : get_or (set starts run start) r 0 < get_or ends r 0).
      elim (cases_lt r run) [
        | inl below ↦ (let e : get_or (set starts run start) r 0 ≡ get_or starts r 0 =
            get_set starts run r start len below in
            let l : first ≤ cell_of spans (get_or starts r 0) d = is.lowest r d below (omega arith) in
            rw e (omega arith))
        | inr above ↦ (let e : r ≡ run = omega arith in
            let now : get_or (set starts run start) r 0 ≡ start =
            ap (λ q. get_or (set starts run start) q 0) e ∙ get_or-set_same starts run start 0 len in
            rw now (omega (arith, at d)))
      ];
  there = elim (cases_lt cell first) [
    | inl less ↦ (let e : min first cell ≡ cell = omega arith in
        rw e (inr (start, omega (arith, is.walk.within run lt), λ (d : Span). (has d, at d, from_least))))
    | inr ge ↦ (let e : min first cell ≡ first = omega arith in rw e (is.there))
  ];
}

-- nothing is left of it
pub head_dropped : (spans : List Span) (y : ℕ) (starts ends : List ℕ) (last least run first : ℕ)
    → IsHead spans y starts ends (last + 1) least run first → run ≤ last → run < length starts → run < length ends
    → ((i : ℕ) (d : Span) → get_or starts run 0 ≤ i → i < get_or ends run 0 → holds (get_or spans i d) y ≡ true
    → cell_of spans i d < least)
    → IsHead spans y (set starts run (get_or starts last 0)) (set ends run (get_or ends last 0)) last least run first
head_dropped spans y starts ends last least run first is le len len' gone = record {
  walk = walk_without spans y starts ends last least run is.walk le len len' gone;
  lowest = λ (r : ℕ) (d : Span) (lt : r < run)
      (some : get_or (set starts run (get_or starts last 0)) r 0 < get_or (set ends run (get_or ends last 0)) r 0).
      let s : get_or (set starts run (get_or starts last 0)) r 0 ≡ get_or starts r 0 =
      get_set starts run r (get_or starts last 0) len lt in
      let t : get_or (set ends run (get_or ends last 0)) r 0 ≡ get_or ends r 0 =
      get_set ends run r (get_or ends last 0) len' lt in
      rw s (is.lowest r d lt (omega arith));
  there = is.there;
}

-- ---- the walk

module _ (spans : List Span) (y : ℕ) (starts ends : List ℕ) (runs least run first : ℕ)
    (head : IsHead spans y starts ends runs least run first) (all : runs ≤ run) where
  not_before : (q : ℕ) → least ≤ q → q < first → refers_at spans y q ≡ false
  not_before q from to = elim (true_or_false (refers_at spans y q)) [
    | inr e ↦ e
    | inl e ↦ absurd (
        let found = refers_at-some spans y q e in
        let d = any_span spans found.0 in
        let left = head.walk.whole found.0 d found.1 (found.2 d).0
        (let c = (found.2 d).1 in omega (arith, c)) in
        let low : first ≤ cell_of spans (get_or starts left.0 0) d =
        head.lowest left.0 d (omega (arith, left.1)) (omega (arith, left.2, left.3)) in
        let order : cell_of spans (get_or starts left.0 0) d ≤ cell_of spans found.0 d =
        head.walk.by_cell left.0 (get_or starts left.0 0) found.0 d left.1 (omega arith) left.2 left.3 in
        omega (arith, (found.2 d).1))
  ]

  first_in_grid : first ≤ CELLS
  first_in_grid = elim head.there [
    | inl e ↦ omega arith
    | inr h ↦ (let d = any_span spans h.0 in let c : cell_of spans h.0 d < CELLS = head.walk.in_grid h.0 d h.1 in
        omega (arith, (h.2 d).1))
  ]

  IsWalk-next : IsWalk spans y starts ends runs (first + 1)
  IsWalk-next = record {
    few = head.walk.few;
    rising = head.walk.rising;
    within = head.walk.within;
    by_cell = head.walk.by_cell;
    whole = λ (i : ℕ) (d : Span) (within : i < length spans) (has : holds (get_or spans i d) y ≡ true)
        (le : first + 1 ≤ cell_of spans i d).
        head.walk.whole i d within has (elim head.there [
          | inl e ↦ absurd (let c : cell_of spans i d < CELLS = head.walk.in_grid i d within in omega arith)
          | inr h ↦ (let l : least ≤ first = (h.2 d).2 in omega arith)
        ]);
    in_grid = head.walk.in_grid;
  }

  -- the walk with the head as its next cell
  IsAhead-next : IsAhead spans y starts ends runs first
  IsAhead-next = record {
    later = IsWalk-next;
    found = elim head.there [
      | inl e ↦ inl e
      | inr h ↦ (let d = any_span spans h.0 in let c : cell_of spans h.0 d < CELLS = head.walk.in_grid h.0 d h.1 in
          inr (omega (arith, (h.2 d).1), refers_at-true spans y first h.0 h.1 (λ (d : Span). ((h.2 d).0, (h.2 d).1))))
    ];
  }

  -- no cell is passed over
  none_passed : cells_from (refers_at spans y) least CELLS ≡ cells_from (refers_at spans y) first CELLS
  none_passed = elim (cases_lt first least) [
    | inr le ↦ none_within (first - least) (refers_at spans y) least first CELLS (omega arith) first_in_grid not_before
    | inl lt ↦ elim head.there [
      | inl e ↦ cells_from-end (refers_at spans y) least CELLS (omega arith)
          ∙ sym (cells_from-end (refers_at spans y) first CELLS (omega arith))
      | inr h ↦ absurd (let l : least ≤ first = (h.2 (any_span spans h.0)).2 in omega arith)
    ]
  ]

  pub IsMoved-head : IsMoved spans y starts ends runs least first
  IsMoved-head = record { ahead = IsAhead-next; none_passed = none_passed }

-- the walk of one run
module _ (spans : List Span) (y : ℕ) (starts ends : List ℕ) (least start : ℕ)
    (walk : IsWalk spans y starts ends 1 least) (len : 0 < length starts) (from : get_or starts 0 0 ≤ start)
    (to : start ≤ get_or ends 0 0)
    (gone : (i : ℕ) (d : Span) → get_or starts 0 0 ≤ i → i < start → holds (get_or spans i d) y ≡ true
    → cell_of spans i d < least) where
  -- it is at its end
  pub only_end : start ≡ get_or ends 0 0 → IsMoved spans y (set starts 0 start) ends 1 least CELLS
  only_end done =
      let now : get_or (set starts 0 start) 0 0 ≡ start = get_or-set_same starts 0 start 0 len in
      IsMoved-head spans y (set starts 0 start) ends 1 least 1 CELLS
      (record {
        walk = walk_past spans y starts ends 1 least 0 start walk (omega arith) len from to gone;
        lowest = λ (r : ℕ) (d : Span) (lt : r < 1) (some : get_or (set starts 0 start) r 0 < get_or ends r 0).
            absurd (let e : r ≡ 0 = omega arith in
            let more : get_or (set starts 0 start) 0 0 < get_or ends 0 0 = rw e at some in omega arith);
        there = inl refl;
      })
      (omega arith)

  -- it has a first span
  only_at : (cell : ℕ) → start < length spans → start < get_or ends 0 0 → ((d : Span) → cell_of spans start d ≡ cell)
      → ((d : Span) → holds (get_or spans start d) y ≡ true) → least ≤ cell → cell < CELLS
      → IsMoved spans y (set starts 0 start) ends 1 least cell
  only_at cell within more at has from_least small =
      let e : min CELLS cell ≡ cell = omega arith in
      IsMoved-head spans y (set starts 0 start) ends 1 least 1 cell
      (subst (λ n. IsHead spans y (set starts 0 start) ends 1 least 1 n) e
      (head_found spans y starts ends 1 least 0 CELLS start cell (head_start spans y starts ends 1 least walk)
      (omega arith) len from more gone at has from_least))
      (omega arith)

  -- and goes on past that
  pub only_found : (cell : ℕ) → start < get_or ends 0 0 → ((d : Span) → cell_of spans start d ≡ cell)
      → ((d : Span) → holds (get_or spans start d) y ≡ true) → least ≤ cell
      → IsMoved spans y (set starts 0 (start + 1)) ends 1 least cell
  only_found cell more at has from_least =
      let d = any_span spans start in
      let within : start < length spans = omega (arith, walk.within 0 (omega arith)) in
      let small : cell < CELLS = omega (arith, walk.in_grid start d within, at d) in
      let there = only_at cell within more at has from_least small in
      let now : get_or (set starts 0 start) 0 0 ≡ start = get_or-set_same starts 0 start 0 len in
      let next : get_or (set starts 0 (start + 1)) 0 0 ≡ start + 1 = get_or-set_same starts 0 (start + 1) 0 len in
      let later : IsWalk spans y (set starts 0 start) ends 1 (cell + 1) = there.ahead.later in
      record {
        ahead = record {
          later = record {
            few = later.few;
            rising = λ (r : ℕ) (lt : r < 1). let e : r ≡ 0 = omega arith in rw (e, next) (omega arith);
            within = later.within;
            by_cell = λ (r i j : ℕ) (d : Span) (lt : r < 1) (from : get_or (set starts 0 (start + 1)) r 0 ≤ i)
                (le : i ≤ j) (to : j < get_or ends r 0). (let e : r ≡ 0 = omega arith in
                let from' : get_or (set starts 0 (start + 1)) 0 0 ≤ i = rw e at from in
                let to' : j < get_or ends 0 0 = rw e at to in
                later.by_cell 0 i j d (omega arith) (omega (arith, now, next, from')) le to');
            whole = λ (i : ℕ) (d : Span) (inside : i < length spans) (has : holds (get_or spans i d) y ≡ true)
                (le : cell + 1 ≤ cell_of spans i d).
                let found = later.whole i d inside has le in
                let e : found.0 ≡ 0 = omega (arith, found.1) in
                let from' : start ≤ i = (let f = found.2 in let f' = rw e at f in omega (arith, now, f')) in
                let to' : i < get_or ends 0 0 = (let t = found.3 in let t' = rw e at t in t') in (
                  0,
                  omega arith,
                  elim (cases_lt start i) [
                    | inl lt ↦ omega (arith, next)
                    | inr ge ↦ absurd (let same : start ≡ i = omega arith in
                        let c : cell_of spans i d ≡ cell = ap (λ j. cell_of spans j d) (sym same) ∙ at d in omega arith)
                  ],
                  to',
                );
            in_grid = later.in_grid;
          };
          found = there.ahead.found;
        };
        none_passed = there.none_passed;
      }

-- the next cell comes, and the walk goes on from it
pub next_yields : (spans : List Span) (y : ℕ) (starts ends : List ℕ) (runs next first : ℕ)
    → IsAhead spans y starts ends runs next
    → cells_from (refers_at spans y) (next + 1) CELLS ≡ cells_from (refers_at spans y) first CELLS
    → (v : List ℕ) (r : Option ℕ) → cells_from (refers_at spans y) next CELLS ≡ v
    → SomeIff r (next < CELLS) next
    → YieldsFirst {S = List ℕ} {A = ℕ} (λ rest. rest) v r (cells_from (refers_at spans y) first CELLS)
next_yields spans y starts ends runs next first ahead moves v None e not_there =
    let past : CELLS ≤ next = elim (cases_lt next CELLS) [ inl lt ↦ absurd (not_there lt) | inr ge ↦ ge ] in (
      sym e ∙ cells_from-end (refers_at spans y) next CELLS past,
      sym moves ∙ cells_from-end (refers_at spans y) (next + 1) CELLS (omega arith),
    )
next_yields spans y starts ends runs next first ahead moves v (Some x) e is =
    let passes : refers_at spans y next ≡ true = elim ahead.found [
      | inl end ↦ absurd (let lt : next < CELLS = is.0 in omega arith)
      | inr h ↦ h.1
    ] in
    sym e
    ∙ cells_from-first (refers_at spans y) next CELLS next (omega arith) is.0 passes
    (λ (q : ℕ) (from : next ≤ q) (to : q < next). absurd (omega arith))
    ∙ ap (λ n. n ∷ cells_from (refers_at spans y) (next + 1) CELLS) (sym is.1)
    ∙ ap (λ xs. x ∷ xs) moves

pub walk_goes : (v w : List ℕ) (r : Option ℕ) → YieldsFirst {S = List ℕ} {A = ℕ} (λ rest. rest) v r w
    → MakesProgress {S = List ℕ} {A = ℕ} (λ rest. ⊤) (item_count {S = List ℕ} {A = ℕ} (λ rest. rest)) v r w
walk_goes v w None e = record { on = λ fin. tt; keeps = tt; rests = λ fin. tt }
walk_goes v w (Some x) e = record { on = λ fin. (tt, fin, omega (arith, ap length e)); keeps = tt; rests = λ fin. tt }

-- ---- the walk's beginning

looked : (lowest above : ℕ) (s : Span) (y : ℕ) → IsSpan s → IsFromLevel lowest s → IsBelowLevel above s → s.from ≤ y
    → y ≤ s.to → IsLooked lowest above y (key_of s.from s.to)
looked lowest above s y is high low from to = elim (cases_eq (key_of s.from s.to) y) [
  | inl e ↦ inl e
  | inr other ↦ elim high [
    | inl one ↦ absurd (other (omega (arith, key_of_within s.from s.to (omega arith))))
    | inr divides ↦ elim low [
      | inl one ↦ absurd (other (omega (arith, key_of_within s.from s.to (omega arith))))
      | inr below ↦ (
          let way : OnTheWay y (key_of s.from s.to) = on_the_way s.from s.to y is.first from to is.in_rows in
          let node : rounded (node_of y way.level) lowest ≡ node_of y way.level =
          subst (λ (n : ℕ). rounded n lowest ≡ n) way.node divides in
          let under : rounded (node_of y way.level) above < node_of y way.level =
          subst (λ (n : ℕ). rounded n above < n) way.node below in
          let apart : node_of y way.level ≡ y → ⊥ = λ (e : node_of y way.level ≡ y). other (way.node ∙ e) in
          inr (
            way.level,
            no_higher y way.level lowest node,
            no_lower y way.level above under,
            way.node,
            below_node y way.level way.above apart,
          ))
    ]
  ]
]

pub IsWalk-start : (spans : List Span) (column : List ℕ) (lowest above y : ℕ) (starts ends : List ℕ) (runs : ℕ)
    → IsColumn spans column lowest → AreBelow spans above → IsRuns column (IsLooked lowest above y) starts ends runs
    → IsWalk spans y starts ends runs 0
IsWalk-start spans column lowest above y starts ends runs col are is = record {
  few = is.few;
  rising = λ (r : ℕ) (lt : r < runs). let s = is.sound r lt in
      omega (arith, s.3, s.4, ends_rise spans column lowest col (s.0 - 1) s.0 (any_span spans 0) (omega arith) s.2);
  within = λ (r : ℕ) (lt : r < runs). let s = is.sound r lt in omega (arith, s.4, col.within s.0 s.2);
  by_cell = λ (r i j : ℕ) (d : Span) (lt : r < runs) (from : get_or starts r 0 ≤ i) (le : i ≤ j)
      (to : j < get_or ends r 0).
      let s = is.sound r lt in by_cell_within spans column lowest col s.0 s.1 s.2 i j d (omega (arith, s.3)) le
      (omega (arith, s.4));
  whole = λ (i : ℕ) (d : Span) (within : i < length spans) (has : holds (get_or spans i d) y ≡ true)
      (le : 0 ≤ cell_of spans i d).
      let span : IsSpan (get_or spans i d) = col.each i d within in
      let at : ((get_or spans i d).from ≤ y) × (y ≤ (get_or spans i d).to) = holds_both (get_or spans i d) y has in
      let k : ℕ = key_at spans i d in
      let some : ((get_or spans i d).from ≤ k) × (k ≤ (get_or spans i d).to) =
      key_of_within (get_or spans i d).from (get_or spans i d).to span.ordered in
      let one : 1 ≤ k = omega (arith, some.0, span.first) in
      let small : k ≤ ROWS = omega (arith, some.1, span.in_rows) in
      let b : (get_or column (k - 1) 0 ≤ i) × (i < get_or column k 0) =
      within_key spans column lowest col k i d one small within refl in
      let found = is.complete k
      (looked lowest above (get_or spans i d) y span (col.ranges i d within) (are.ranges i d within) at.0 at.1)
      small (omega (arith, b.0, b.1)) in
      (found.0, found.1, omega (arith, found.2, b.0), omega (arith, found.3, b.1));
  in_grid = λ (i : ℕ) (d : Span) (within : i < length spans). (col.each i d within).in_grid;
}

-- ---- the walk of a cell that is known to be the only one

module _ (spans : List Span) (y n : ℕ) (sole : IsSole (refers_at spans y) n) (small : n ≤ CELLS) where
  alone : (c : ℕ) → refers_at spans y c ≡ true → c ≡ n
  alone c h = elim (cases_lt n CELLS) [
    | inl lt ↦ (let same : nat_eq c n ≡ true = sym (sole.one lt c) ∙ h in grind (arith, nat_tests, same))
    | inr ge ↦ absurd (let never : true ≡ false = sym h ∙ sole.none (omega arith) c in cc)
  ]

  pub known_start : cells_from (refers_at spans y) 0 CELLS ≡ cells_from (refers_at spans y) n CELLS
  known_start = none_within n (refers_at spans y) 0 n CELLS (omega arith) small
      (λ (q : ℕ) (from : 0 ≤ q) (to : q < n). never_true (refers_at spans y q)
      (λ (h : refers_at spans y q ≡ true). let same : q ≡ n = alone q h in omega arith))

  pub known_ahead : (starts ends : List ℕ) → ((i : ℕ) (d : Span) → i < length spans → cell_of spans i d < CELLS)
      → IsAhead spans y starts ends 0 n
  known_ahead starts ends in_grid = record {
    later = record {
      few = omega arith;
      rising = λ (r : ℕ) (lt : r < 0). absurd (omega arith);
      within = λ (r : ℕ) (lt : r < 0). absurd (omega arith);
      by_cell = λ (r i j : ℕ) (d : Span) (lt : r < 0). absurd (omega arith);
      whole = λ (i : ℕ) (d : Span) (within : i < length spans) (has : holds (get_or spans i d) y ≡ true)
          (le : n + 1 ≤ cell_of spans i d).
          absurd (let same : cell_of spans i d ≡ n = alone (cell_of spans i d) (refers_there i d within has) in
          omega arith);
      in_grid = in_grid;
    };
    found = elim (cases_lt n CELLS) [
      | inl lt ↦ inr (lt, sole.one lt n ∙ (let e : n ≡ n = refl in grind (arith, nat_tests, e)))
      | inr ge ↦ inl (omega arith)
    ];
  }
    where
      refers_there : (i : ℕ) (d : Span) → i < length spans → holds (get_or spans i d) y ≡ true
          → refers_at spans y (cell_of spans i d) ≡ true
      refers_there i d within has =
          let there = is_there (get_or spans i d) spans (one_there spans i d within) in
          refers_at-true spans y (cell_of spans i d) there.0 there.1
          (λ (e : Span). (ap (λ (s : Span). holds s y) (there.2 e) ∙ has, ap (λ (s : Span). s.cell) (there.2 e)))

-- ---- the walk of two runs

-- nothing is left of the next run, or it has a first span
pub head_at : (spans : List Span) (y : ℕ) (starts ends : List ℕ) (runs least run first start cell : ℕ)
    → IsHead spans y starts ends runs least run first → run < runs → run < length starts
    → get_or starts run 0 ≤ start → start ≤ get_or ends run 0
    → ((i : ℕ) (d : Span) → get_or starts run 0 ≤ i → i < start → holds (get_or spans i d) y ≡ true
    → cell_of spans i d < least)
    → (get_or ends run 0 ≤ start → cell ≡ CELLS)
    → (start < get_or ends run 0 → (d : Span) → cell_of spans start d ≡ cell)
    → (start < get_or ends run 0 → (d : Span) → holds (get_or spans start d) y ≡ true)
    → (start < get_or ends run 0 → (d : Span) → least ≤ cell_of spans start d)
    → IsHead spans y (set starts run start) ends runs least (run + 1) (min first cell)
head_at spans y starts ends runs least run first start cell is lt len from to gone none at has from_least =
    elim (cases_lt start (get_or ends run 0)) [
      | inl more ↦ head_found spans y starts ends runs least run first start cell is lt len from more gone (at more)
          (has more)
          (let d = any_span spans start in omega (arith, at more d, from_least more d))
      | inr done ↦ record {
        walk = walk_past spans y starts ends runs least run start is.walk lt len from to gone;
        lowest = λ (r : ℕ) (d : Span) (less : r < run + 1)
            (some : get_or (set starts run start) r 0 < get_or ends r 0). elim (cases_lt r run) [
              | inl below ↦ (let e : get_or (set starts run start) r 0 ≡ get_or starts r 0 =
                  get_set starts run r start len below in
                  let l : first ≤ cell_of spans (get_or starts r 0) d = is.lowest r d below (omega arith) in
                  let m : min first cell ≤ first = omega arith in
                  rw e (omega arith))
              | inr above ↦ absurd (let e : r ≡ run = omega arith in
                  let now : get_or (set starts run start) r 0 ≡ start =
                  ap (λ q. get_or (set starts run start) q 0) e ∙ get_or-set_same starts run start 0 len in
                  let last : get_or ends r 0 ≡ get_or ends run 0 = ap (λ q. get_or ends q 0) e in
                  omega arith)
            ];
        there = (let past : cell ≡ CELLS = none done in
            let small : first ≤ CELLS = head_in_grid is.walk.in_grid is.there in
            let e : min first cell ≡ first = omega arith in rw e (is.there));
      }
    ]
  where
    head_in_grid : ((i : ℕ) (d : Span) → i < length spans → cell_of spans i d < CELLS)
        → ((first ≡ CELLS) ⊎ ((i : ℕ) × (i < length spans)
        × ((d : Span) → (holds (get_or spans i d) y ≡ true) × (cell_of spans i d ≡ first) × (least ≤ first))))
        → first ≤ CELLS
    head_in_grid in_grid (inl e) = omega arith
    head_in_grid in_grid (inr h) = let d = any_span spans h.0 in
        let c : cell_of spans h.0 d < CELLS = in_grid h.0 d h.1 in omega (arith, (h.2 d).1)

-- a walk of the cells from a later one on
pub walk_later : (spans : List Span) (y : ℕ) (starts ends : List ℕ) (runs least more : ℕ)
    → IsWalk spans y starts ends runs least → least ≤ more → IsWalk spans y starts ends runs more
walk_later spans y starts ends runs least more is le = record {
  few = is.few;
  rising = is.rising;
  within = is.within;
  by_cell = is.by_cell;
  whole = λ (i : ℕ) (d : Span) (within : i < length spans) (has : holds (get_or spans i d) y ≡ true)
      (from : more ≤ cell_of spans i d). is.whole i d within has (omega arith);
  in_grid = is.in_grid;
}

module _ (spans : List Span) (y own_end upper_end : ℕ) where
  -- both runs go on
  pub two_on : (least own own' own_cell upper upper' upper_cell : ℕ)
      → IsWalk spans y (own ∷ upper ∷ []) (own_end ∷ upper_end ∷ []) 2 least
      → IsOn spans y least own own_end own' own_cell → IsOn spans y least upper upper_end upper' upper_cell
      → IsWalk spans y (own' ∷ upper' ∷ []) (own_end ∷ upper_end ∷ []) 2 least
  two_on least own own' own_cell upper upper' upper_cell walk on on' =
      let ends = own_end ∷ upper_end ∷ [] in
      let one : IsWalk spans y (own' ∷ upper ∷ []) ends 2 least =
      walk_past spans y (own ∷ upper ∷ []) ends 2 least 0 own' walk (omega arith) (omega arith) on.from on.to
      on.passed in
      walk_past spans y (own' ∷ upper ∷ []) ends 2 least 1 upper' one (omega arith) (omega arith) on'.from on'.to
      on'.passed

  -- the lesser of what they are at comes first
  pub two_heads : (least own own_cell upper upper_cell : ℕ)
      → IsWalk spans y (own ∷ upper ∷ []) (own_end ∷ upper_end ∷ []) 2 least
      → IsAt spans y own own_end own_cell → IsAt spans y upper upper_end upper_cell
      → least ≤ own_cell → least ≤ upper_cell
      → IsHead spans y (own ∷ upper ∷ []) (own_end ∷ upper_end ∷ []) 2 least 2 (min own_cell upper_cell)
  two_heads least own own_cell upper upper_cell walk at at' le le' =
      let starts = own ∷ upper ∷ [] in
      let ends = own_end ∷ upper_end ∷ [] in
      let one : IsHead spans y starts ends 2 least 1 (min CELLS own_cell) =
      head_at spans y starts ends 2 least 0 CELLS own own_cell (head_start spans y starts ends 2 least walk)
      (omega arith) (omega arith) (omega arith) (walk.rising 0 (omega arith))
      (λ (i : ℕ) (d : Span) (lo : own ≤ i) (hi : i < own). absurd (omega arith)) at.none at.is at.has_row
      (λ (lt : own < own_end) (d : Span). omega (arith, at.is lt d)) in
      let two : IsHead spans y starts ends 2 least 2 (min (min CELLS own_cell) upper_cell) =
      head_at spans y starts ends 2 least 1 (min CELLS own_cell) upper upper_cell one (omega arith) (omega arith)
      (omega arith) (walk.rising 1 (omega arith))
      (λ (i : ℕ) (d : Span) (lo : upper ≤ i) (hi : i < upper). absurd (omega arith)) at'.none at'.is at'.has_row
      (λ (lt : upper < upper_end) (d : Span). omega (arith, at'.is lt d)) in
      let e : min (min CELLS own_cell) upper_cell ≡ min own_cell upper_cell = omega (arith, at.small) in
      subst (λ n. IsHead spans y starts ends 2 least 2 n) e two

  -- and what comes next is the lesser of what they are at then
  pub heads_on : (least own own' own_cell upper upper' upper_cell : ℕ)
      → IsWalk spans y (own ∷ upper ∷ []) (own_end ∷ upper_end ∷ []) 2 least
      → IsOn spans y least own own_end own' own_cell → IsOn spans y least upper upper_end upper' upper_cell
      → AreHeads spans y own' own_end own_cell upper' upper_end upper_cell
  heads_on least own own' own_cell upper upper' upper_cell walk on on' = record {
    walk = walk_later spans y (own' ∷ upper' ∷ []) (own_end ∷ upper_end ∷ []) 2 least (min own_cell upper_cell)
        (two_on least own own' own_cell upper upper' upper_cell walk on on') (omega (arith, on.later, on'.later));
    own_at = on.at;
    upper_at = on'.at;
  }

  pub cells_on : (least own own' own_cell upper upper' upper_cell : ℕ)
      → IsWalk spans y (own ∷ upper ∷ []) (own_end ∷ upper_end ∷ []) 2 least
      → IsOn spans y least own own_end own' own_cell → IsOn spans y least upper upper_end upper' upper_cell
      → cells_from (refers_at spans y) least CELLS ≡ cells_from (refers_at spans y) (min own_cell upper_cell) CELLS
  cells_on least own own' own_cell upper upper' upper_cell walk on on' =
      let on_both = two_on least own own' own_cell upper upper' upper_cell walk on on' in
      (IsMoved-head spans y (own' ∷ upper' ∷ []) (own_end ∷ upper_end ∷ []) 2 least 2 (min own_cell upper_cell)
      (two_heads least own' own_cell upper' upper_cell on_both on.at on'.at on.later on'.later)
      (omega arith)).none_passed

  -- a step gives the lesser cell, and both runs go on past it
  pub heads_yield : (own own' own_cell own_cell' upper upper' upper_cell upper_cell' first : ℕ)
      → AreHeads spans y own own_end own_cell upper upper_end upper_cell → first ≡ min own_cell upper_cell
      → IsOn spans y (first + 1) own own_end own' own_cell'
      → IsOn spans y (first + 1) upper upper_end upper' upper_cell'
      → (v : List ℕ) (c : ℕ) → cells_from (refers_at spans y) (min own_cell upper_cell) CELLS ≡ v → first < CELLS
      → c ≡ first → v ≡ c ∷ cells_from (refers_at spans y) (min own_cell' upper_cell') CELLS
  heads_yield own own' own_cell own_cell' upper upper' upper_cell upper_cell' first are is on on' v c view lt at =
      let starts = own ∷ upper ∷ [] in
      let ends = own_end ∷ upper_end ∷ [] in
      let next = min own_cell upper_cell in
      let head : IsHead spans y starts ends 2 next 2 next =
      two_heads next own own_cell upper upper_cell are.walk are.own_at are.upper_at (omega arith) (omega arith) in
      let moved = IsMoved-head spans y starts ends 2 next 2 next head (omega arith) in
      let past = cells_on (first + 1) own own' own_cell' upper upper' upper_cell'
      (walk_later spans y starts ends 2 next (first + 1) are.walk (omega arith)) on on' in
      let moves : cells_from (refers_at spans y) (next + 1) CELLS
      ≡ cells_from (refers_at spans y) (min own_cell' upper_cell') CELLS =
      ap (λ n. cells_from (refers_at spans y) (n + 1) CELLS) (sym is) ∙ past in
      next_yields spans y starts ends 2 next (min own_cell' upper_cell') moved.ahead moves v (Some c) view
      (omega arith, at ∙ is)

-- the spans that may have a row are kept at it, or at the one row above it of the level of ranges
pub two_runs : (column : List ℕ) (level above y key : ℕ) → above ≡ level + 1 → 1 ≤ y → y ≤ ROWS
    → key ≡ node_of y level → 1 ≤ key → key ≤ ROWS
    → IsRuns column (IsLooked level above y) (get_or column (y - 1) 0 ∷ get_or column (key - 1) 0 ∷ [])
    (get_or column y 0 ∷ get_or column key 0 ∷ []) 2
two_runs column level above y key one_level some small is key_some key_small =
    let starts = get_or column (y - 1) 0 ∷ get_or column (key - 1) 0 ∷ [] in
    let ends = get_or column y 0 ∷ get_or column key 0 ∷ [] in
    record {
      few = omega arith;
      sound = λ (r : ℕ) (lt : r < 2). elim (cases_lt r 1) [
        | inl one ↦ (let e : r ≡ 0 = omega arith in
            (y, some, small, ap (λ q. get_or starts q 0) e, ap (λ q. get_or ends q 0) e))
        | inr two ↦ (let e : r ≡ 1 = omega arith in
            (key, key_some, key_small, ap (λ q. get_or starts q 0) e, ap (λ q. get_or ends q 0) e))
      ];
      complete = λ (k : ℕ) (looked : IsLooked level above y k) (little : k ≤ ROWS)
          (full : get_or column (k - 1) 0 < get_or column k 0). elim looked [
            | inl e ↦ (0, omega arith, ap (λ q. get_or column (q - 1) 0) (sym e), ap (λ q. get_or column q 0) (sym e))
            | inr l ↦ (let same : l.0 ≡ level = omega (arith, l.1, l.2) in
                let at : k ≡ key = l.3 ∙ ap (λ q. node_of y q) same ∙ sym is in
                (1, omega arith, ap (λ q. get_or column (q - 1) 0) (sym at), ap (λ q. get_or column q 0) (sym at)))
          ];
    }
