-- The spans of rectangles that are due before a place, one more with each run of places.
use Rattle.std.proofs.Common.{◌≡◌, ℕ, ◌+◌, ◌-◌, ◌*◌, ◌/◌, ◌%◌, ◌<◌, ◌≤◌, ◌⊎◌, inl, inr, sym, ◌∙◌, ap, refl, arith}
use Rattle.std.proofs.Common.{nat_lt, ◌==◌, true, false, ◌&&◌, List}
use Rattle.std.proofs.lemmas.Bool.{cases_lt}
use Rattle.std.proofs.lemmas.Bool.Decides.{nat_tests}
use Rattle.ps_grid.specs.Rectangle.{Area}
use Rattle.ps_index.specs.declared.runs.TheConstants.{PLACES, STRIDE}
use Rattle.ps_index.specs.declared.span.Span.{Span}
use Rattle.ps_index.proofs.PlacesCovered.{IsPlaceRun, covered-row, uncovered-row}
use Rattle.ps_index.proofs.RunsOfNumbers.{IsRun, run_same}
use Rattle.ps_index.proofs.RunsOfRows.{covered_row-at, covered_row-true, is_run-at, is_run-true, place_run}
use Rattle.ps_index.specs.Inside.Dues.{covered_row, due, one_if}
use Rattle.ps_index.specs.Inside.Places.{covered}
use Rattle.ps_index.specs.Spans.{same_span}
use Rattle.ps_index.specs.Stands.{is_run}
use Rattle.ps_index.proofs.BoolTests.{and_true, bool_same, both, never_true, true_or_false}
use Rattle.ps_index.proofs.SpansCounted.{same_span-true}

pub record IsDue (rects : List Area) (c stop k : ℕ) (s : Span) : Type 0 where
  pub cell : s.cell ≡ c
  pub run : IsRun (covered_row rects k) s.from s.to
  pub ends : k * STRIDE + s.to < stop

pub due-at : (rects : List Area) (c stop k : ℕ) (s : Span) → due rects c stop k s ≡ true → IsDue rects c stop k s
unfolding due
due-at rects c stop k s e =
    let b = both ((s.cell == c) && is_run (covered_row rects k) s.from s.to) (nat_lt (k * STRIDE + s.to) stop) e in
    let b' = both (s.cell == c) (is_run (covered_row rects k) s.from s.to) b.0 in
    record {
      cell = grind (arith, nat_tests, b'.0);
      run = is_run-at (covered_row rects k) s.from s.to b'.1;
      ends = grind (arith, nat_tests, b.1);
    }

pub due-true : (rects : List Area) (c stop k : ℕ) (s : Span) → IsDue rects c stop k s → due rects c stop k s ≡ true
unfolding due
due-true rects c stop k s i =
    let l : (s.cell == c) ≡ true = grind (arith, nat_tests, i.cell) in
    let r : nat_lt (k * STRIDE + s.to) stop ≡ true = grind (arith, nat_tests, i.ends) in
    and_true _ (nat_lt (k * STRIDE + s.to) stop)
    (and_true (s.cell == c) _ l (is_run-true (covered_row rects k) s.from s.to i.run)) r

pub due_same : (rects : List Area) (c p p' k : ℕ) (s : Span) → p ≤ p'
    → ((q : ℕ) → p ≤ q → q < p' → covered rects q ≡ false)
    → due rects c p k s ≡ due rects c p' k s
due_same rects c p p' k s le none_there = bool_same (due rects c p k s) (due rects c p' k s)
    (λ (e : due rects c p k s ≡ true). let d = due-at rects c p k s e in
    due-true rects c p' k s (record { cell = d.cell; run = d.run; ends = omega (arith, d.ends) }))
    (λ (e : due rects c p' k s ≡ true). let d = due-at rects c p' k s e in
    due-true rects c p k s (record {
      cell = d.cell;
      run = d.run;
      ends = elim (cases_lt (k * STRIDE + s.to) p) [
        | inl lt ↦ lt
        | inr ge ↦ absurd (
            let r = place_run rects k s.from s.to d.run in
            let h : true ≡ false = sym (r.2.within (k * STRIDE + s.to) r.2.ordered (omega arith))
            ∙ none_there (k * STRIDE + s.to) ge d.ends in cc)
      ];
    }))

pub due_none : (rects : List Area) (c k : ℕ) (s : Span) → due rects c 0 k s ≡ false
due_none rects c k s = never_true (due rects c 0 k s) (λ (e : due rects c 0 k s ≡ true). let d =
    due-at rects c 0 k s e in omega (arith, d.ends))

-- the next run of places, from `from` up to `end`
pub record IsNext (rects : List Area) (p from end : ℕ) : Type 0 where
  pub start : covered rects p ≡ false
  pub forward : p ≤ from
  pub none_before : (q : ℕ) → p ≤ q → q < from → covered rects q ≡ false
  pub first : covered rects from ≡ true
  pub some : from < end
  pub top : end ≤ PLACES
  pub all_before : (q : ℕ) → from ≤ q → q < end → covered rects q ≡ true
  pub after : covered rects end ≡ false

module _ (rects : List Area) (p from end : ℕ) (n : IsNext rects p from end) where
  pub next_later : p < from
  next_later = elim (cases_lt p from) [
    | inl lt ↦ lt
    | inr ge ↦ absurd (let e : p ≡ from = omega (arith, n.forward) in
        let h : true ≡ false = sym n.first ∙ ap (λ q. covered rects q) (sym e) ∙ n.start in cc)
  ]

  pub next_run : IsPlaceRun rects from (end - 1)
  next_run = record {
    ordered = omega (arith, n.some);
    within = λ (q : ℕ) (lo : from ≤ q) (hi : q ≤ end - 1). n.all_before q lo (omega (arith, n.some));
    before = n.none_before (from - 1) (omega (arith, next_later)) (omega (arith, next_later));
    after = let e : end - 1 + 1 ≡ end = omega (arith, n.some) in ap (λ q. covered rects q) e ∙ n.after;
  }

  -- it lies in one column
  pub one_column : (end - 1) / STRIDE ≡ from / STRIDE
  one_column = elim (cases_lt (end - 1) (from / STRIDE * STRIDE + STRIDE)) [
    | inl lt ↦ (let le : from ≤ end - 1 = omega (arith, n.some) in omega arith)
    | inr ge ↦ absurd (
        let q : ℕ = (from / STRIDE + 1) * STRIDE in
        let row : q % STRIDE ≡ 0 = omega arith in
        let h : true ≡ false = sym (n.all_before q (omega arith) (omega (arith, n.some))) ∙ uncovered-row rects q row in
        cc)
  ]

  pub from_row : 1 ≤ from % STRIDE
  from_row = covered-row rects from n.first

  -- its span is due once the run is past, and not before
  module _ (c k : ℕ) (s : Span) (at : k ≡ from / STRIDE) (cell : s.cell ≡ c) (f : s.from ≡ from % STRIDE)
      (t : s.to ≡ (end - 1) % STRIDE) where
    first_place : k * STRIDE + s.from ≡ from
    first_place = omega arith

    last_place : k * STRIDE + s.to ≡ end - 1
    last_place = omega (arith, one_column)

    pub now_due : due rects c end k s ≡ true
    now_due = due-true rects c end k s (record {
      cell = cell;
      run = record {
        ordered = omega (arith, first_place, last_place, n.some);
        within = λ (y : ℕ) (lo : s.from ≤ y) (hi : y ≤ s.to). covered_row-true rects k y (omega (arith, from_row))
            (omega arith)
            (n.all_before (k * STRIDE + y) (omega (arith, first_place)) (omega (arith, last_place, n.some)));
        before = never_true (covered_row rects k (s.from - 1)) (λ (e : covered_row rects k (s.from - 1) ≡ true).
            let h = covered_row-at rects k (s.from - 1) e in
            let same : k * STRIDE + (s.from - 1) ≡ from - 1 = omega (arith, first_place, h.0) in
            let no' : true ≡ false = sym h.2 ∙ ap (λ q. covered rects q) same ∙ next_run.before in cc);
        after = never_true (covered_row rects k (s.to + 1)) (λ (e : covered_row rects k (s.to + 1) ≡ true).
            let h = covered_row-at rects k (s.to + 1) e in
            let same : k * STRIDE + (s.to + 1) ≡ end = omega (arith, last_place, n.some) in
            let no' : true ≡ false = sym h.2 ∙ ap (λ q. covered rects q) same ∙ n.after in cc);
      };
      ends = omega (arith, last_place, n.some);
    })

    pub not_yet_due : due rects c p k s ≡ false
    not_yet_due = never_true (due rects c p k s) (λ (e : due rects c p k s ≡ true). let d = due-at rects c p k s e in
        omega (arith, d.ends, last_place, n.forward, n.some))

  -- what is due once the run is past is its span, or was due before
  pub due_or_new : (c k : ℕ) (s : Span) → IsDue rects c end k s
      → (IsDue rects c p k s)
      ⊎ ((k ≡ from / STRIDE) × (s.cell ≡ c) × (s.from ≡ from % STRIDE) × (s.to ≡ (end - 1) % STRIDE))
  due_or_new c k s d = elim (cases_lt (k * STRIDE + s.to) p) [
    | inl lt ↦ inl (record { cell = d.cell; run = d.run; ends = lt })
    | inr ge ↦ (
        let r = place_run rects k s.from s.to d.run in
        let past : from ≤ k * STRIDE + s.to = elim (cases_lt (k * STRIDE + s.to) from) [
          | inr e ↦ e
          | inl lt ↦ absurd (let h : true ≡ false = sym (r.2.within (k * STRIDE + s.to) r.2.ordered (omega arith))
              ∙ n.none_before (k * STRIDE + s.to) ge lt in cc)
        ] in
        let same = run_same (covered rects) (k * STRIDE + s.from) (k * STRIDE + s.to) from (end - 1)
        (k * STRIDE + s.to) r.2 next_run r.2.ordered (omega arith) past (omega (arith, d.ends)) in
        inr (
          omega (arith, same.0, r.0, r.1, d.run.ordered),
          d.cell,
          omega (arith, same.0, r.0, r.1, d.run.ordered),
          omega (arith, same.1, r.0, r.1, d.run.ordered),
        ))
  ]

sym_zero : (m : ℕ) → m ≡ m + 0
sym_zero m = omega arith

-- one more span is due once the next run is past
pub due_step : (rects : List Area) (c p from end : ℕ) → IsNext rects p from end → (x : Span) → x.cell ≡ c
    → x.from ≡ from % STRIDE → x.to ≡ (end - 1) % STRIDE
    → (k : ℕ) (s : Span)
    → one_if (due rects c end k s) ≡ one_if (due rects c p k s) + one_if ((k == from / STRIDE) && same_span s x)
due_step rects c p from end n x cell f t k s = elim (true_or_false ((k == from / STRIDE) && same_span s x)) [
  | inl e ↦ (
      let b = both (k == from / STRIDE) (same_span s x) e in
      let at : k ≡ from / STRIDE = grind (arith, nat_tests, b.0) in
      let same : x ≡ s = same_span-true s x b.1 in
      let yes' : due rects c end k s ≡ true = now_due rects p from end n c k s at (ap (λ (z : Span). z.cell) (sym same)
      ∙ cell) (ap (λ (z : Span). z.from) (sym same) ∙ f) (ap (λ (z : Span). z.to) (sym same) ∙ t) in
      let no' : due rects c p k s ≡ false =
      not_yet_due rects p from end n c k s at (ap (λ (z : Span). z.cell) (sym same) ∙ cell)
      (ap (λ (z : Span). z.from) (sym same) ∙ f) (ap (λ (z : Span). z.to) (sym same) ∙ t) in
      rw (e, yes', no') refl)
  | inr e ↦ (
      let same : due rects c end k s ≡ due rects c p k s = bool_same (due rects c end k s) (due rects c p k s)
      (λ (h : due rects c end k s ≡ true). elim (due_or_new rects p from end n c k s (due-at rects c end k s h)) [
        | inl d ↦ due-true rects c p k s d
        | inr new ↦ absurd (
            let k' : (k == from / STRIDE) ≡ true = (let z = new.0 in grind (arith, nat_tests, z)) in
            let f' : (s.from == x.from) ≡ true =
            (let z : s.from ≡ x.from = new.2 ∙ sym f in grind (arith, nat_tests, z)) in
            let t' : (s.to == x.to) ≡ true = (let z : s.to ≡ x.to = new.3 ∙ sym t in grind (arith, nat_tests, z)) in
            let c' : (s.cell == x.cell) ≡ true =
            (let z : s.cell ≡ x.cell = new.1 ∙ sym cell in grind (arith, nat_tests, z)) in
            let all : ((k == from / STRIDE) && same_span s x) ≡ true =
            and_true (k == from / STRIDE) (same_span s x) k'
            (and_true _ (s.cell == x.cell) (and_true (s.from == x.from) _ f' t') c') in
            let h' : true ≡ false = sym all ∙ e in cc)
      ])
      (λ (h : due rects c p k s ≡ true). let d = due-at rects c p k s h in
      due-true rects c end k s
      (record { cell = d.cell; run = d.run; ends = omega (arith, d.ends, n.forward, n.some) })) in
      rw (e, same) (sym_zero (one_if (due rects c p k s))))
]
