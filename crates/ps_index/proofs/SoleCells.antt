-- The one cell of a row, where no span has more than one row.
use Rattle.std.proofs.Common.{◌≡◌, ℕ, ◌+◌, ◌-◌, ◌*◌, ◌/◌, ◌<◌, ◌≤◌, inl, inr, sym, ◌∙◌, ap, arith, cond, Bool, true}
use Rattle.std.proofs.Common.{false, List, length, get_or, set, nat_eq, subst, refl, length-set, replicate, [], ◌∷◌}
use Rattle.std.specs.List.{insert, remove}
use Rattle.std.proofs.lemmas.Bool.Decides.{nat_tests}
use Rattle.std.proofs.lemmas.List.{get_or_read, get_or-set_same, get_or-set_other, get_or-replicate, length-replicate}
use Rattle.std.proofs.lemmas.List.Sums.{sum_by-insert, sum_by-remove}
use Rattle.ps_grid.specs.declared.size.TheConstants.{CELLS, ROWS}
use Rattle.ps_index.specs.declared.nodes.TheConstants.{LEVELS}
use Rattle.ps_index.specs.declared.span.Span.{Span}
use Rattle.ps_index.proofs.BoolTests.{bool_same, never_true, true_or_false}
use Rattle.ps_index.proofs.CellsPassing.{cells_from-first, cells_from-none}
use Rattle.ps_index.proofs.ColumnsSorted.{key_within, within_key}
use Rattle.ps_index.proofs.KeysOnTheWay.{key_of_within}
use Rattle.ps_index.proofs.SpansCounted.{holds_at, holds_both, is_there, one_there, refers_at-some, refers_at-true}
use Rattle.ps_index.proofs.SpansCounted.{same_span-true}
use Rattle.ps_index.specs.Inside.Columns.{HasSoles, IsColumn, IsFromLevel, IsSole, IsSpan, key_at}
use Rattle.ps_index.specs.Inside.Dues.{one_if}
use Rattle.ps_index.specs.Inside.Nodes.{key_of}
use Rattle.ps_index.specs.Spans.{cell_of, cells_from, count_of, holds, refers_at, same_span}

-- where no span of several rows was kept, each has one
pub one_row : (s : Span) → IsSpan s → IsFromLevel LEVELS s → s.from ≡ s.to
one_row s is (inl one) = one
one_row s is (inr divides) =
    let key = key_of s.from s.to in
    let whole : key / 2048 * 2048 ≡ key = divides in
    let within = key_of_within s.from s.to is.ordered in
    absurd (omega (arith, whole, within.0, within.1, is.first, is.in_rows))

-- ---- the spans of a row

module _ (spans : List Span) (ends : List ℕ) (col : IsColumn spans ends LEVELS) (y : ℕ) (some : 1 ≤ y)
    (small : y ≤ ROWS) where
  pub having_within : (i : ℕ) (d : Span) → i < length spans → holds (get_or spans i d) y ≡ true
      → (get_or ends (y - 1) 0 ≤ i) × (i < get_or ends y 0)
  having_within i d within has =
      let one = one_row (get_or spans i d) (col.each i d within) (col.ranges i d within) in
      let at = holds_both (get_or spans i d) y has in
      let key = key_of_within (get_or spans i d).from (get_or spans i d).to (omega arith) in
      within_key spans ends LEVELS col y i d some small within (omega (arith, one, at.0, at.1, key.0, key.1))

  pub within_having : (i : ℕ) (d : Span) → get_or ends (y - 1) 0 ≤ i → i < get_or ends y 0
      → holds (get_or spans i d) y ≡ true
  within_having i d from to =
      let within : i < length spans = omega (arith, col.within y small) in
      let one = one_row (get_or spans i d) (col.each i d within) (col.ranges i d within) in
      let key = key_of_within (get_or spans i d).from (get_or spans i d).to (omega arith) in
      let at : key_at spans i d ≡ y = key_within spans ends LEVELS col y i d some small from to in
      holds_at (get_or spans i d) y (omega (arith, at, key.0)) (omega (arith, at, key.1, one))

  -- no span is kept at the row
  pub sole_none : (n : ℕ) → n ≡ CELLS → get_or ends y 0 ≤ get_or ends (y - 1) 0 → IsSole (refers_at spans y) n
  sole_none n is none = record {
    none = λ (e : n ≡ CELLS) (c : ℕ). never_true (refers_at spans y c) (λ (h : refers_at spans y c ≡ true).
        let found = refers_at-some spans y c h in
        let d = get_or spans found.0 (record { from = 0; to = 0; cell = 0 }) in
        let in_run = having_within found.0 d found.1 (found.2 d).0 in
        omega (arith, in_run.0, in_run.1));
    one = λ (lt : n < CELLS) (c : ℕ). absurd (omega arith);
  }

  -- one span is kept there
  pub sole_one : (n : ℕ) → n < CELLS → get_or ends y 0 ≡ get_or ends (y - 1) 0 + 1
      → ((d : Span) → cell_of spans (get_or ends (y - 1) 0) d ≡ n) → IsSole (refers_at spans y) n
  sole_one n lt one at = record {
    none = λ (e : n ≡ CELLS) (c : ℕ). absurd (omega arith);
    one = λ (lt' : n < CELLS) (c : ℕ). bool_same (refers_at spans y c) (nat_eq c n)
        (λ (h : refers_at spans y c ≡ true).
        let found = refers_at-some spans y c h in
        let d = get_or spans found.0 (record { from = 0; to = 0; cell = 0 }) in
        let in_run = having_within found.0 d found.1 (found.2 d).0 in
        let place : found.0 ≡ get_or ends (y - 1) 0 = omega (arith, in_run.0, in_run.1) in
        let cell : c ≡ n = sym (found.2 d).1 ∙ ap (λ j. cell_of spans j d) place ∙ at d in
        grind (arith, nat_tests, cell))
        (λ (h : nat_eq c n ≡ true).
        let cell : c ≡ n = grind (arith, nat_tests, h) in
        refers_at-true spans y c (get_or ends (y - 1) 0) (omega (arith, col.within y small))
        (λ (d : Span). (within_having (get_or ends (y - 1) 0) d (omega arith) (omega arith), at d ∙ sym cell)));
  }

-- several are
pub sole_unknown : (test : ℕ → Bool) (n : ℕ) → CELLS < n → IsSole test n
sole_unknown test n gt = record {
  none = λ (e : n ≡ CELLS) (c : ℕ). absurd (omega arith);
  one = λ (lt : n < CELLS) (c : ℕ). absurd (omega arith);
}

-- ---- one span more, or one less

-- a row that the span doesn't have is referred to with it as without it
with_as_without : (without with : List Span) (x : Span) (y : ℕ) → holds x y ≡ false
    → ((s : Span) → count_of s with ≡ count_of s without + one_if (same_span s x))
    → (c : ℕ) → refers_at with y c ≡ refers_at without y c
with_as_without without with x y not_there counts c =
    bool_same (refers_at with y c) (refers_at without y c)
    (λ (h : refers_at with y c ≡ true).
    let found = refers_at-some with y c h in
    let d = get_or with found.0 x in
    let s = get_or with found.0 d in
    let apart : one_if (same_span s x) ≡ 0 = elim (true_or_false (same_span s x)) [
      | inl e ↦ absurd (let is : x ≡ s = same_span-true s x e in
          let yes : true ≡ false = sym (found.2 d).0 ∙ ap (λ z. holds z y) (sym is) ∙ not_there in cc)
      | inr e ↦ rw e refl
    ] in
    let there = is_there s without (omega (arith, one_there with found.0 d found.1, counts s, apart)) in
    refers_at-true without y c there.0 there.1
    (λ (e : Span). (
      ap (λ (z : Span). holds z y) (there.2 e) ∙ (found.2 d).0,
      ap (λ (z : Span). z.cell) (there.2 e) ∙ (found.2 d).1,
    )))
    (λ (h : refers_at without y c ≡ true).
    let found = refers_at-some without y c h in
    let d = get_or without found.0 x in
    let s = get_or without found.0 d in
    let there = is_there s with (omega (arith, one_there without found.0 d found.1, counts s)) in
    refers_at-true with y c there.0 there.1
    (λ (e : Span). (
      ap (λ (z : Span). holds z y) (there.2 e) ∙ (found.2 d).0,
      ap (λ (z : Span). z.cell) (there.2 e) ∙ (found.2 d).1,
    )))

sole_same : (p q : ℕ → Bool) (n : ℕ) → ((c : ℕ) → q c ≡ p c) → IsSole p n → IsSole q n
sole_same p q n same is = record {
  none = λ (e : n ≡ CELLS) (c : ℕ). same c ∙ is.none e c;
  one = λ (lt : n < CELLS) (c : ℕ). same c ∙ is.one lt c;
}

-- noted anew for the row of the span, the cells are right again
noted_again : (before after : List Span) (x : Span) (sole : List ℕ) (lowest lowest' : ℕ) (k n : ℕ)
    → HasSoles before sole lowest → IsSpan x → k ≡ key_of x.from x.to → k ≤ ROWS
    → (lowest' ≡ LEVELS → (lowest ≡ LEVELS) × (x.from ≡ x.to))
    → ((y : ℕ) → holds x y ≡ false → (c : ℕ) → refers_at after y c ≡ refers_at before y c)
    → (lowest' ≡ LEVELS → IsSole (refers_at after k) n)
    → HasSoles after (set sole k n) lowest'
noted_again before after x sole lowest lowest' k n has is key small narrow elsewhere here = record {
  size = length-set sole k n ∙ has.size;
  noted = λ (off : lowest' ≡ LEVELS) (y : ℕ) (some : 1 ≤ y) (in_rows : y ≤ ROWS).
      let old : IsSole (refers_at before y) (get_or sole y 0) = has.noted (narrow off).0 y some in_rows in
      elim (true_or_false (nat_eq y k)) [
        | inl e ↦ (let at : y ≡ k = grind (arith, nat_tests, e) in
            let value : get_or (set sole k n) y 0 ≡ n = ap (λ j. get_or (set sole k n) j 0) at
            ∙ get_or-set_same sole k n 0 (omega (arith, has.size)) in
            subst (λ v. IsSole (refers_at after y) v) (sym value)
            (subst (λ j. IsSole (refers_at after j) n) (sym at) (here off)))
        | inr e ↦ (let other : y ≡ k → ⊥ = λ (q : y ≡ k). (let yes : nat_eq y k ≡ true = grind (arith, nat_tests, q) in
            let no : true ≡ false = sym yes ∙ e in cc) in
            let value : get_or (set sole k n) y 0 ≡ get_or sole y 0 = get_or-set_other sole k y n 0 other in
            let ways = key_of_within x.from x.to is.ordered in
            let never : holds x y ≡ false = never_true (holds x y) (λ (h : holds x y ≡ true).
            let at = holds_both x y h in
            other (omega (arith, at.0, at.1, ways.0, ways.1, (narrow off).1, key))) in
            subst (λ v. IsSole (refers_at after y) v) (sym value)
            (sole_same (refers_at before y) (refers_at after y) (get_or sole y 0) (elsewhere y never) old))
      ];
}

-- what a column without ranges notes, where there are none
noted_where : (spans : List Span) (ends : List ℕ) (lowest : ℕ) (k n : ℕ) → IsColumn spans ends lowest
    → (IsColumn spans ends LEVELS → IsSole (refers_at spans k) n) → lowest ≡ LEVELS → IsSole (refers_at spans k) n
noted_where spans ends lowest k n col noted off = noted (subst (λ (n : ℕ). IsColumn spans ends n) off col)

pub soles_put_in : (spans : List Span) (x : Span) (p : ℕ) (ends' sole : List ℕ) (lowest lowest' : ℕ) (k n : ℕ)
    → HasSoles spans sole lowest → IsSpan x → k ≡ key_of x.from x.to → k ≤ ROWS
    → (lowest' ≡ LEVELS → (lowest ≡ LEVELS) × (x.from ≡ x.to))
    → IsColumn (insert spans p x) ends' lowest'
    → (IsColumn (insert spans p x) ends' LEVELS → IsSole (refers_at (insert spans p x) k) n)
    → HasSoles (insert spans p x) (set sole k n) lowest'
soles_put_in spans x p ends' sole lowest lowest' k n has is key small narrow col noted =
    noted_again spans (insert spans p x) x sole lowest lowest' k n has is key small narrow
    (λ (y : ℕ) (never : holds x y ≡ false). with_as_without spans (insert spans p x) x y never
    (λ (s : Span). sum_by-insert (λ z. cond (same_span s z) 1 0) spans p x))
    (noted_where (insert spans p x) ends' lowest' k n col noted)

pub soles_taken_out : (spans : List Span) (x : Span) (p : ℕ) (ends' sole : List ℕ) (lowest : ℕ) (k n : ℕ)
    → HasSoles spans sole lowest → IsSpan x → k ≡ key_of x.from x.to → k ≤ ROWS → p < length spans
    → ((d : Span) → get_or spans p d ≡ x) → (lowest ≡ LEVELS → x.from ≡ x.to)
    → IsColumn (remove spans p) ends' lowest
    → (IsColumn (remove spans p) ends' LEVELS → IsSole (refers_at (remove spans p) k) n)
    → HasSoles (remove spans p) (set sole k n) lowest
soles_taken_out spans x p ends' sole lowest k n has is key small within at narrow col noted =
    noted_again spans (remove spans p) x sole lowest lowest k n has is key small
    (λ (off : lowest ≡ LEVELS). (off, narrow off))
    (λ (y : ℕ) (never : holds x y ≡ false) (c : ℕ). sym (with_as_without (remove spans p) spans x y never
    (λ (s : Span). sym (ap (λ z. count_of s (remove spans p) + one_if (same_span s z)) (sym (at x))
    ∙ sum_by-remove (λ z. cond (same_span s z) 1 0) spans p x within)) c))
    (noted_where (remove spans p) ends' lowest k n col noted)

pub no_soles : (spans : List Span) (sole : List ℕ) → spans ≡ [] → sole ≡ replicate (ROWS + 1) CELLS
    → HasSoles spans sole LEVELS
no_soles spans sole none filled = record {
  size = rw filled (length-replicate {A = ℕ} (ROWS + 1) CELLS);
  noted = λ (off : LEVELS ≡ LEVELS) (y : ℕ) (some : 1 ≤ y) (in_rows : y ≤ ROWS).
      rw (none, filled, get_or-replicate (ROWS + 1) y CELLS 0 (omega arith)) (record {
        none = λ (e : CELLS ≡ CELLS) (c : ℕ). refl;
        one = λ (lt : CELLS < CELLS) (c : ℕ). absurd (omega arith);
      });
}

-- ---- the cells that pass, where it is known which do

pub nobody_passes : (test : ℕ → Bool) (n : ℕ) → IsSole test n → n ≡ CELLS → cells_from test 0 CELLS ≡ []
nobody_passes test n is e =
    cells_from-none test 0 CELLS (omega arith) (λ (q : ℕ) (from : 0 ≤ q) (to : q < CELLS). is.none e q)

pub one_passes : (test : ℕ → Bool) (n : ℕ) → IsSole test n → n < CELLS → cells_from test 0 CELLS ≡ n ∷ []
one_passes test n is lt =
    cells_from-first test 0 CELLS n (omega arith) lt (is.one lt n ∙ here)
    (λ (q : ℕ) (from : 0 ≤ q) (to : q < n). is.one lt q ∙ apart q (λ (e : q ≡ n). omega arith))
    ∙ ap (λ xs. n ∷ xs) (cells_from-none test (n + 1) CELLS (omega arith)
    (λ (q : ℕ) (from : n + 1 ≤ q) (to : q < CELLS). is.one lt q ∙ apart q (λ (e : q ≡ n). omega arith)))
  where
    here : nat_eq n n ≡ true
    here = let e : n ≡ n = refl in grind (arith, nat_tests, e)

    apart : (q : ℕ) → (q ≡ n → ⊥) → nat_eq q n ≡ false
    apart q ne = grind (arith, nat_tests, ne)

-- what is noted of a row
pub noted_at : (spans now : List Span) (sole : List ℕ) (lowest : ℕ) (y n : ℕ) → HasSoles spans sole lowest
    → lowest ≡ LEVELS → 1 ≤ y → y ≤ ROWS → n ≡ get_or sole y n → spans ≡ now → IsSole (refers_at now y) n
noted_at spans now sole lowest y n has off some small at is =
    let within : y < length sole = omega (arith, has.size) in
    let read : n ≡ get_or sole y 0 = get_or_read sole y n within at 0 in
    subst (λ (xs : List Span). IsSole (refers_at xs y) n) is
    (subst (λ (k : ℕ). IsSole (refers_at spans y) k) (sym read) (has.noted off y some small))
