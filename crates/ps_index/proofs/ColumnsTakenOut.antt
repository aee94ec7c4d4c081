-- A column stays sorted when a span is taken out.
use Rattle.std.proofs.Common.{◌≡◌, ℕ, ◌+◌, ◌-◌, ◌<◌, ◌≤◌, inl, inr, sym, ◌∙◌, ap, arith, cond, nat_le, nat_lt, Bool}
use Rattle.std.proofs.Common.{true, false, List, length, get_or}
use Rattle.std.specs.List.{remove}
use Rattle.std.proofs.lemmas.Bool.{cases_lt}
use Rattle.std.proofs.lemmas.List.Edits.{length-remove, get_or-remove_below, get_or-remove_above}
use Rattle.ps_grid.specs.declared.size.TheConstants.{ROWS}
use Rattle.ps_index.specs.declared.span.Span.{Span}
use Rattle.ps_index.proofs.ColumnsPutIn.{key_is}
use Rattle.ps_index.proofs.ColumnsSorted.{beside, ends_rise, placed_le, placed_lt, same_tests, within_key}
use Rattle.ps_index.specs.Inside.Columns.{AreBelow, IsColumn, IsFromLevel, IsSpan, key_at}
use Rattle.ps_index.specs.Inside.Nodes.{key_of}
use Rattle.ps_index.specs.Spans.{cell_of, count_of}
use Rattle.ps_index.proofs.SpansCounted.{is_there}

-- where an element of a shorter list was
pub data Stays (p i : ℕ) (new : Span) (before : ℕ → Span) : Type 0 where
  stays_before : i < p → new ≡ before i → Stays p i new before
  stays_later : p ≤ i → new ≡ before (i + 1) → Stays p i new before

pub stays : (spans : List Span) (p i : ℕ) (d : Span) → p < length spans
    → Stays p i (get_or (remove spans p) i d) (λ j. get_or spans j d)
stays spans p i d le = elim (cases_lt i p) [
  | inl lt ↦ stays_before lt (get_or-remove_below spans p d i lt le)
  | inr ge ↦ stays_later ge (get_or-remove_above spans p d i ge le)
]

module _ (spans : List Span) (ends ends' : List ℕ) (lowest : ℕ) (col : IsColumn spans ends lowest)
    (x₀ : Span) (k p : ℕ) (some : 1 ≤ k) (small : k ≤ ROWS)
    (from : get_or ends (k - 1) 0 ≤ p) (to : p < get_or ends k 0)
    (len : length ends' ≡ length ends)
    (lowered : (j : ℕ) → j < length ends → get_or ends' j 0 + cond (nat_le k j) 1 0 ≡ get_or ends j 0) where
  lt_p : p < length spans
  lt_p = omega (arith, col.within k small)

  lowered_at : (j : ℕ) → j ≤ ROWS → (b : Bool) → nat_le k j ≡ b → get_or ends' j 0 + cond b 1 0 ≡ get_or ends j 0
  lowered_at j in_rows b e = rw (← e) (lowered j (omega (arith, col.size)))

  taken_placed : (i j : ℕ) (d : Span) → i < length (remove spans p) → j ≤ ROWS
      → nat_le (key_at (remove spans p) i d) j ≡ nat_lt i (get_or ends' j 0)
  taken_placed i j d within in_rows =
      let n : length (remove spans p) + 1 ≡ length spans = length-remove spans p lt_p in
      let old : (m : ℕ) → m < length spans → nat_le (key_at spans m d) j ≡ nat_lt m (get_or ends j 0) =
      λ (m : ℕ) (l : m < length spans). col.placed m j d l in_rows in
      elim (beside spans ends lowest col k j d some small in_rows) [
        | inl r ↦ (let down : get_or ends' j 0 + 1 ≡ get_or ends j 0 = lowered_at j in_rows true r.1 in
            elim (stays spans p i d lt_p) [
              | stays_before lt e ↦ rw (ap key_is e) (same_tests (key_at spans i d) j i (get_or ends' j 0)
                  (λ (h : key_at spans i d ≤ j). omega (arith, r.2))
                  (λ (h : i < get_or ends' j 0). placed_le (key_at spans i d) j i (get_or ends j 0)
                  (old i (omega arith)) (omega arith)))
              | stays_later ge e ↦ rw (ap key_is e) (same_tests (key_at spans (i + 1) d) j i (get_or ends' j 0)
                  (λ (h : key_at spans (i + 1) d ≤ j). let l : i + 1 < get_or ends j 0 =
                  placed_lt (key_at spans (i + 1) d) j (i + 1) (get_or ends j 0) (old (i + 1) (omega arith)) h in
                  omega arith)
                  (λ (h : i < get_or ends' j 0). placed_le (key_at spans (i + 1) d) j (i + 1) (get_or ends j 0)
                  (old (i + 1) (omega arith)) (omega arith)))
            ])
        | inr r ↦ (let down : get_or ends' j 0 + 0 ≡ get_or ends j 0 = lowered_at j in_rows false r.1 in
            elim (stays spans p i d lt_p) [
              | stays_before lt e ↦ rw (ap key_is e) (same_tests (key_at spans i d) j i (get_or ends' j 0)
                  (λ (h : key_at spans i d ≤ j). let l : i < get_or ends j 0 =
                  placed_lt (key_at spans i d) j i (get_or ends j 0) (old i (omega arith)) h in omega arith)
                  (λ (h : i < get_or ends' j 0). placed_le (key_at spans i d) j i (get_or ends j 0)
                  (old i (omega arith)) (omega arith)))
              | stays_later ge e ↦ rw (ap key_is e) (same_tests (key_at spans (i + 1) d) j i (get_or ends' j 0)
                  (λ (h : key_at spans (i + 1) d ≤ j).
                  absurd (let l : i + 1 < get_or ends j 0 =
                  placed_lt (key_at spans (i + 1) d) j (i + 1) (get_or ends j 0) (old (i + 1) (omega arith)) h in
                  omega (arith, r.2)))
                  (λ (h : i < get_or ends' j 0). absurd (omega (arith, r.2))))
            ])
      ]

  taken_by_cell : (i j : ℕ) (d : Span) → i ≤ j → j < length (remove spans p)
      → key_at (remove spans p) i d ≡ key_at (remove spans p) j d
      → cell_of (remove spans p) i d ≤ cell_of (remove spans p) j d
  taken_by_cell i j d le within same =
      let n : length (remove spans p) + 1 ≡ length spans = length-remove spans p lt_p in
      elim (stays spans p i d lt_p) [
        | stays_before lt e ↦ (elim (stays spans p j d lt_p) [
          | stays_before lt' e' ↦ rw (ap (λ s. s.cell) e, ap (λ s. s.cell) e')
              (col.by_cell i j d le (omega arith) (sym (ap key_is e) ∙ same ∙ ap key_is e'))
          | stays_later ge' e' ↦ rw (ap (λ s. s.cell) e, ap (λ s. s.cell) e')
              (col.by_cell i (j + 1) d (omega arith) (omega arith) (sym (ap key_is e) ∙ same ∙ ap key_is e'))
        ])
        | stays_later ge e ↦ (elim (stays spans p j d lt_p) [
          | stays_before lt' e' ↦ absurd (omega arith)
          | stays_later ge' e' ↦ rw (ap (λ s. s.cell) e, ap (λ s. s.cell) e')
              (col.by_cell (i + 1) (j + 1) d (omega arith) (omega arith) (sym (ap key_is e) ∙ same ∙ ap key_is e'))
        ])
      ]

  taken_each : (i : ℕ) (d : Span) → i < length (remove spans p) → IsSpan (get_or (remove spans p) i d)
  taken_each i d within =
      let n : length (remove spans p) + 1 ≡ length spans = length-remove spans p lt_p in
      elim (stays spans p i d lt_p) [
        | stays_before lt e ↦ rw e (col.each i d (omega arith))
        | stays_later ge e ↦ rw e (col.each (i + 1) d (omega arith))
      ]

  taken_ranges : (i : ℕ) (d : Span) → i < length (remove spans p) → IsFromLevel lowest (get_or (remove spans p) i d)
  taken_ranges i d within =
      let n : length (remove spans p) + 1 ≡ length spans = length-remove spans p lt_p in
      elim (stays spans p i d lt_p) [
        | stays_before lt e ↦ rw e (col.ranges i d (omega arith))
        | stays_later ge e ↦ rw e (col.ranges (i + 1) d (omega arith))
      ]

  pub IsColumn-remove : IsColumn (remove spans p) ends' lowest
  IsColumn-remove =
      let n : length (remove spans p) + 1 ≡ length spans = length-remove spans p lt_p in
      record {
        size = len ∙ col.size;
        within = λ (j : ℕ) (in_rows : j ≤ ROWS). elim (beside spans ends lowest col k j (x₀) some small in_rows) [
          | inl r ↦ (let down : get_or ends' j 0 + 1 ≡ get_or ends j 0 = lowered_at j in_rows true r.1 in
              omega (arith, col.within j in_rows))
          | inr r ↦ (let down : get_or ends' j 0 + 0 ≡ get_or ends j 0 = lowered_at j in_rows false r.1 in
              omega (arith, r.2, col.within j in_rows))
        ];
        placed = taken_placed;
        by_cell = taken_by_cell;
        each = taken_each;
        ranges = taken_ranges;
      }

-- a span that is counted stands at the place that was found for it or after it
pub there_from : (spans : List Span) (ends : List ℕ) (lowest : ℕ) → IsColumn spans ends lowest
    → (x : Span) (k p : ℕ) → k ≡ key_of x.from x.to → 1 ≤ k → k ≤ ROWS
    → ((i : ℕ) (d : Span) → get_or ends (k - 1) 0 ≤ i → i < p → cell_of spans i d < x.cell) → 0 < count_of x spans
    → (i : ℕ) × (d : Span) × (p ≤ i) × (i < length spans) × (get_or spans i d ≡ x)
there_from spans ends lowest col x k p key some small below counted =
    let found : (i : ℕ) × (i < length spans) × ((d : Span) → get_or spans i d ≡ x) = is_there x spans counted in
    let at : (get_or ends (k - 1) 0 ≤ found.0) × (found.0 < get_or ends k 0) =
    within_key spans ends lowest col k found.0 x some small found.1 (ap key_is (found.2 x) ∙ sym key) in (
      found.0,
      x,
      elim (cases_lt found.0 p) [
        | inl lt ↦ absurd (let same : cell_of spans found.0 x ≡ x.cell = ap (λ (s : Span). s.cell) (found.2 x) in
            let l : cell_of spans found.0 x < x.cell = below found.0 x (omega arith) lt in omega arith)
        | inr ge ↦ ge
      ],
      found.1,
      found.2 x,
    )

-- the place of a span is in its bucket
pub found_within : (spans : List Span) (ends : List ℕ) (lowest : ℕ) → IsColumn spans ends lowest
    → (x : Span) (k p : ℕ) → k ≡ key_of x.from x.to → 1 ≤ k → k ≤ ROWS → p < length spans
    → ((d : Span) → get_or spans p d ≡ x)
    → (get_or ends (k - 1) 0 ≤ p) × (p < get_or ends k 0)
found_within spans ends lowest col x k p key some small within found =
    within_key spans ends lowest col k p x some small within (ap key_is (found x) ∙ sym key)

-- at the row of a span and after it there is one to count
pub some_counted : (spans : List Span) (ends : List ℕ) (lowest : ℕ) → IsColumn spans ends lowest
    → (x : Span) (k p : ℕ) → k ≡ key_of x.from x.to → 1 ≤ k → k ≤ ROWS → p < length spans
    → ((d : Span) → get_or spans p d ≡ x) → (j : ℕ) → k ≤ j → j < length ends → 0 < get_or ends j 0
some_counted spans ends lowest col x k p key some small within found j le lt =
    omega (
      arith,
      ends_rise spans ends lowest col k j x le (omega (arith, col.size)),
      (found_within spans ends lowest col x k p key some small within found).1,
    )

pub below_taken_out : (spans : List Span) (p above : ℕ) → p < length spans → AreBelow spans above
    → AreBelow (remove spans p) above
below_taken_out spans p above lt are = record {
  levels = are.levels;
  ranges = λ (i : ℕ) (d : Span) (within : i < length (remove spans p)).
      let n : length (remove spans p) + 1 ≡ length spans = length-remove spans p lt in
      elim (stays spans p i d lt) [
        | stays_before lt' e ↦ rw e (are.ranges i d (omega arith))
        | stays_later ge e ↦ rw e (are.ranges (i + 1) d (omega arith))
      ];
}
