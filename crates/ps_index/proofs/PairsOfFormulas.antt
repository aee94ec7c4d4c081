-- The pairs of an index, by the formulas that it stands for.
use Rattle.std.proofs.Common.{◌≡◌, ℕ, zero, suc, ◌+◌, ◌-◌, ◌<◌, ◌≤◌, inl, inr, sym, ◌∙◌, ap, refl, arith, cond, nat_le}
use Rattle.std.proofs.Common.{Bool, true, false, ◌||◌, ◌&&◌, List, [], ◌∷◌, length, get_or}
use Rattle.std.specs.List.{list_any, count_by}
use Rattle.std.proofs.lemmas.Bool.{cases_lt}
use Rattle.std.proofs.lemmas.Bool.Decides.{nat_tests}
use Rattle.std.proofs.lemmas.List.Sums.{sum_by-cons, count_by-le-length}
use Rattle.ps_grid.specs.Place.{cell_at}
use Rattle.ps_grid.specs.declared.size.TheConstants.{COLUMNS, ROWS}
use Rattle.ps_formula.specs.References.{mentions}
use Rattle.ps_formula.specs.Tree.{Tree}
use Rattle.ps_index.specs.declared.span.Span.{Span}
use Rattle.ps_index.proofs.RunsOfNumbers.{IsRun, run_same}
use Rattle.ps_index.proofs.RunsOfRows.{is_run-at, is_run-true}
use Rattle.ps_index.specs.Inside.Dues.{one_if}
use Rattle.ps_index.specs.Spans.{cell_of, count_of, holds, refers_at}
use Rattle.ps_index.specs.Stands.{Puts, Stands, is_run, refers_row, spans_of}
use Rattle.ps_index.proofs.BoolTests.{and_true, bool_same, both, or_true, true_or_false}
use Rattle.ps_index.proofs.SpansCounted.{holds_at, holds_both, is_there, one_there, refers_at-some, refers_at-true}
use Rattle.ps_index.proofs.SpansCounted.{same_fields, two_there}

any_counts : {X : Type 0} (p : X → Bool) (xs : List X) → list_any p xs ≡ true
    → (x : X) × (p x ≡ true) × ((q : X → Bool) → q x ≡ true → 0 < count_by q xs)
any_counts p [] e = absurd (cc)
any_counts p (x ∷ xs) e = elim (true_or_false (p x)) [
  | inl here ↦ (
    x,
    here,
    λ q h. (let one : one_if (q x) ≡ 1 = rw h refl in
        omega (arith, one, sum_by-cons (λ y. cond (q y) 1 0) x xs)),
  )
  | inr skip ↦ (let h : (p x || list_any p xs) ≡ true = e in let h' = rw skip at h in
      let found = any_counts p xs h' in
      (found.0, found.1, λ q h. omega (arith, found.2 q h, sum_by-cons (λ y. cond (q y) 1 0) x xs)))
]

counts_any : {X : Type 0} (p : X → Bool) (xs : List X) → 0 < count_by p xs
    → (x : X) × (p x ≡ true) × ((q : X → Bool) → q x ≡ true → list_any q xs ≡ true)
counts_any p [] some = absurd (omega arith)
counts_any p (x ∷ xs) some = elim (true_or_false (p x)) [
  | inl here ↦ (x, here, λ q h. rw h refl)
  | inr skip ↦ (let zero_one : one_if (p x) ≡ 0 = rw skip refl in
      let found = counts_any p xs (omega (arith, some, zero_one, sum_by-cons (λ y. cond (p y) 1 0) x xs)) in
      (found.0, found.1, λ q h. rw (found.2 q h) (or_true (q x))))
]

-- ---- the run of rows round a row

record IsRound (test : ℕ → Bool) (y from to : ℕ) : Type 0 where
  pub run : IsRun test from to
  pub first : from ≤ y
  pub last : y ≤ to

down : (y : ℕ) (test : ℕ → Bool) → test 0 ≡ false → test y ≡ true
    → (f : ℕ) × (f ≤ y) × ((q : ℕ) → f ≤ q → q ≤ y → test q ≡ true) × (test (f - 1) ≡ false)
down zero test off e = absurd (let h : true ≡ false = sym e ∙ off in cc)
down (suc y) test off e = elim (true_or_false (test y)) [
  | inl more ↦ (let d = down y test off more in (
    d.0,
    omega (arith, d.1),
    λ (q : ℕ) (lo : d.0 ≤ q) (hi : q ≤ suc y). (elim (cases_lt y q) [
      | inl top ↦ (let same : q ≡ suc y = omega arith in ap test same ∙ e)
      | inr low ↦ d.2 q lo low
    ]),
    d.3,
  ))
  | inr stop ↦ (
    suc y,
    omega arith,
    λ (q : ℕ) (lo : suc y ≤ q) (hi : q ≤ suc y). (let same : q ≡ suc y = omega arith in ap test same ∙ e),
    (let same : suc y - 1 ≡ y = omega arith in ap test same ∙ stop),
  )
]

up : (n : ℕ) (test : ℕ → Bool) (y stop : ℕ) → y + n ≡ stop → test stop ≡ false → test y ≡ true
    → (t : ℕ) × (y ≤ t) × ((q : ℕ) → y ≤ q → q ≤ t → test q ≡ true) × (test (t + 1) ≡ false)
up zero test y stop e off on = absurd (let same : y ≡ stop = omega arith in let h : true ≡ false = sym on ∙ ap test same
    ∙ off in cc)
up (suc n) test y stop e off on = elim (true_or_false (test (y + 1))) [
  | inl more ↦ (let d = up n test (y + 1) stop (omega arith) off more in (
    d.0,
    omega (arith, d.1),
    λ (q : ℕ) (lo : y ≤ q) (hi : q ≤ d.0). (elim (cases_lt y q) [
      | inl later ↦ d.2 q (omega arith) hi
      | inr low ↦ (let same : q ≡ y = omega arith in ap test same ∙ on)
    ]),
    d.3,
  ))
  | inr end_here ↦ (
    y,
    omega arith,
    λ (q : ℕ) (lo : y ≤ q) (hi : q ≤ y). (let same : q ≡ y = omega arith in ap test same
        ∙ on),
    end_here,
  )
]

round : (test : ℕ → Bool) (y : ℕ) → y ≤ ROWS → test 0 ≡ false → test (ROWS + 1) ≡ false → test y ≡ true
    → (f : ℕ) × (t : ℕ) × IsRound test y f t
round test y small low high e =
    let d = down y test low e in
    let u = up (ROWS + 1 - y) test y (ROWS + 1) (omega arith) high e in (
      d.0,
      u.0,
      record {
        run = record {
          ordered = omega (arith, d.1, u.1);
          within = λ (q : ℕ) (lo : d.0 ≤ q) (hi : q ≤ u.0). (elim (cases_lt y q) [
            | inl later ↦ u.2 q (omega arith) hi
            | inr before ↦ d.2 q lo before
          ]);
          before = d.3;
          after = u.3;
        };
        first = d.1;
        last = u.1;
      },
    )

row_zero : (t : Tree) (k : ℕ) → refers_row t k 0 ≡ false
unfolding refers_row
row_zero t k = refl

row_end : (t : Tree) (k : ℕ) → refers_row t k (ROWS + 1) ≡ false
unfolding refers_row
row_end t k = refl

row_true : (t : Tree) (k y : ℕ) → 1 ≤ y → y ≤ ROWS → mentions t (cell_at k y) ≡ true → refers_row t k y ≡ true
unfolding refers_row
row_true t k y some small e = and_true _ (mentions t (cell_at k y))
    (and_true (nat_le 1 y) (nat_le y ROWS) (grind (arith, nat_tests, some)) (grind (arith, nat_tests, small))) e

row_mentions : (t : Tree) (k y : ℕ) → refers_row t k y ≡ true → mentions t (cell_at k y) ≡ true
unfolding refers_row
row_mentions t k y e = (both (nat_le 1 y && nat_le y ROWS) (mentions t (cell_at k y)) e).1

-- ---- the pairs

any_span : Span
any_span = record { from = 0; to = 0; cell = 0 }

pub pairs : (columns : List (List Span)) (forms : Puts) → Stands columns forms → (k y c : ℕ) → k < COLUMNS → 1 ≤ y
    → y ≤ ROWS
    → refers_at (spans_of columns k) y c ≡ list_any (λ t. mentions t (cell_at k y)) (forms c)
pairs columns forms is k y c lt some small =
    bool_same (refers_at (spans_of columns k) y c) (list_any (λ t. mentions t (cell_at k y)) (forms c))
    (λ (e : refers_at (spans_of columns k) y c ≡ true).
    let found = refers_at-some (spans_of columns k) y c e in
    let s : Span = get_or (spans_of columns k) found.0 any_span in
    let h : (s.from ≤ y) × (y ≤ s.to) = holds_both s y (found.2 any_span).0 in
    let counted : 0 < count_by (λ t. is_run (refers_row t k) s.from s.to) (forms s.cell) =
    omega (arith, one_there (spans_of columns k) found.0 any_span found.1, is k lt s) in
    let t = counts_any (λ t. is_run (refers_row t k) s.from s.to) (forms s.cell) counted in
    let run = is_run-at (refers_row t.0 k) s.from s.to t.1 in
    ap (λ q. list_any (λ t. mentions t (cell_at k y)) (forms q)) (sym (found.2 any_span).1)
    ∙ t.2 (λ t. mentions t (cell_at k y)) (row_mentions t.0 k y (run.within y h.0 h.1)))
    (λ (e : list_any (λ t. mentions t (cell_at k y)) (forms c) ≡ true).
    let t = any_counts (λ t. mentions t (cell_at k y)) (forms c) e in
    let r = round (refers_row t.0 k) y small (row_zero t.0 k) (row_end t.0 k) (row_true t.0 k y some small t.1) in
    let s : Span = record { from = r.0; to = r.1; cell = c } in
    let counted : 0 < count_by (λ t. is_run (refers_row t k) s.from s.to) (forms c) =
    t.2 (λ t. is_run (refers_row t k) s.from s.to) (is_run-true (refers_row t.0 k) r.0 r.1 r.2.run) in
    let at = is_there s (spans_of columns k) (omega (arith, counted, is k lt s)) in
    refers_at-true (spans_of columns k) y c at.0 at.1 (λ (d : Span).
    (ap (λ (z : Span). holds z y) (at.2 d) ∙ holds_at s y r.2.first r.2.last, ap (λ (z : Span). z.cell) (at.2 d))))

-- ---- the spans of a cell with one formula share no row

pub apart : (columns : List (List Span)) (forms : Puts) → Stands columns forms → (k c : ℕ) (t : Tree) → k < COLUMNS
    → forms c ≡ t ∷ []
    → (i j y : ℕ) (d : Span) → i < j → j < length (spans_of columns k)
    → cell_of (spans_of columns k) i d ≡ c → cell_of (spans_of columns k) j d ≡ c
    → holds (get_or (spans_of columns k) i d) y ≡ true → holds (get_or (spans_of columns k) j d) y ≡ true → ⊥
apart columns forms is k c t lt one i j y d before within ci cj hi hj =
    let spans = spans_of columns k in
    let si : Span = get_or spans i d in
    let sj : Span = get_or spans j d in
    let count : (s : Span) → s.cell ≡ c → count_of s spans ≡ count_by (λ t. is_run (refers_row t k) s.from s.to)
    (t ∷ []) =
    λ (s : Span) (e : s.cell ≡ c). is k lt s ∙ ap (λ l. count_by (λ t. is_run (refers_row t k) s.from s.to) l)
    (ap forms e ∙ one) in
    let run : (s : Span) → s.cell ≡ c → 0 < count_of s spans → IsRun (refers_row t k) s.from s.to =
    λ (s : Span) (e : s.cell ≡ c) (some : 0 < count_of s spans). is_run-at (refers_row t k) s.from s.to
    (elim (true_or_false (is_run (refers_row t k) s.from s.to)) [
      | inl h ↦ h
      | inr h ↦ absurd (let zero_one : one_if (is_run (refers_row t k) s.from s.to) ≡ 0 = rw h refl in
          omega (
            arith,
            some,
            count s e,
            zero_one,
            sum_by-cons (λ t. cond (is_run (refers_row t k) s.from s.to) 1 0) t
                [],
          ))
    ]) in
    let bi = holds_both si y hi in
    let bj = holds_both sj y hj in
    let same = run_same (refers_row t k) si.from si.to sj.from sj.to y (run si ci (one_there spans i d (omega arith)))
    (run sj cj (one_there spans j d within)) bi.0 bi.1 bj.0 bj.1 in
    let equal : sj ≡ si = same_fields sj si (sym same.0) (sym same.1) (cj ∙ sym ci) in
    omega (
      arith,
      two_there spans i j d before within equal,
      count si ci,
      count_by-le-length (λ t. is_run (refers_row t k) si.from si.to) (t ∷ []),
    )
