-- A column stays sorted when a span is put in.
use Rattle.std.proofs.Common.{◌≡◌, ℕ, ◌+◌, ◌-◌, ◌<◌, ◌≤◌, inl, inr, sym, ◌∙◌, ap, arith, cond, nat_le, nat_lt, Bool}
use Rattle.std.proofs.Common.{true, false, List, length, get_or, []}
use Rattle.std.specs.List.{insert}
use Rattle.std.proofs.lemmas.Bool.{cases_lt}
use Rattle.std.proofs.lemmas.List.Edits.{length-insert, get_or-insert_below, get_or-insert_at, get_or-insert_above}
use Rattle.ps_grid.specs.declared.size.TheConstants.{ROWS}
use Rattle.ps_index.specs.declared.nodes.TheConstants.{LEVELS}
use Rattle.ps_index.specs.declared.span.Span.{Span}
use Rattle.ps_index.proofs.ColumnsSorted.{beside, placed_le, placed_lt, same_tests, within_key}
use Rattle.ps_index.proofs.KeysOnTheWay.{below_higher, divided_less}
use Rattle.ps_index.specs.Inside.Columns.{AreBelow, IsBelowLevel, IsColumn, IsFromLevel, IsSpan, key_at}
use Rattle.ps_index.specs.Inside.Nodes.{key_of}
use Rattle.ps_index.specs.Spans.{cell_of}

-- where an element of the list with one more span stood before
pub data Was (p i : ℕ) (new : Span) (before : ℕ → Span) (x : Span) : Type 0 where
  was_before : i < p → new ≡ before i → Was p i new before x
  was_put : i ≡ p → new ≡ x → Was p i new before x
  was_later : (j : ℕ) → i ≡ j + 1 → p ≤ j → new ≡ before j → Was p i new before x

pub was : (spans : List Span) (p : ℕ) (x : Span) (i : ℕ) (d : Span) → p ≤ length spans
    → Was p i (get_or (insert spans p x) i d) (λ j. get_or spans j d) x
was spans p x i d le = elim (cases_lt i p) [
  | inl lt ↦ was_before lt (get_or-insert_below spans p x d i lt le)
  | inr ge ↦ (elim (cases_lt p i) [
    | inl gt ↦ (let e : i ≡ (i - 1) + 1 = omega arith in was_later (i - 1) e (omega arith)
        (ap (λ j. get_or (insert spans p x) j d) e ∙ get_or-insert_above spans p x d (i - 1) (omega arith) le))
    | inr here ↦ (let e : i ≡ p = omega arith in was_put e
        (ap (λ j. get_or (insert spans p x) j d) e ∙ get_or-insert_at spans p x d le))
  ])
]

-- what isn't below a level isn't below a lower one
pub from_lower : (a b : ℕ) (s : Span) → b ≤ a → IsFromLevel a s → IsFromLevel b s
from_lower a b s le (inl one) = inl one
from_lower a b s le (inr divides) = inr (divided_less a b (key_of s.from s.to) le divides)

abbrev pub key_is : Span → ℕ
key_is s = key_of s.from s.to

module _ (spans : List Span) (ends ends' : List ℕ) (lowest lowest' : ℕ) (col : IsColumn spans ends lowest)
    (x : Span) (is : IsSpan x) (k p : ℕ) (key : key_is x ≡ k) (some : 1 ≤ k) (small : k ≤ ROWS)
    (from : get_or ends (k - 1) 0 ≤ p) (to : p ≤ get_or ends k 0)
    (below : (i : ℕ) (d : Span) → get_or ends (k - 1) 0 ≤ i → i < p → cell_of spans i d < x.cell)
    (above : (i : ℕ) (d : Span) → p ≤ i → i < get_or ends k 0 → x.cell ≤ cell_of spans i d)
    (len : length ends' ≡ length ends)
    (raised : (j : ℕ) → j < length ends → get_or ends' j 0 ≡ get_or ends j 0 + cond (nat_le k j) 1 0)
    (less : lowest' ≤ lowest) (high : IsFromLevel lowest' x) where
  le_p : p ≤ length spans
  le_p = omega (arith, col.within k small)

  raised_at : (j : ℕ) → j ≤ ROWS → (b : Bool) → nat_le k j ≡ b → get_or ends' j 0 ≡ get_or ends j 0 + cond b 1 0
  raised_at j in_rows b e = rw (← e) (raised j (omega (arith, col.size)))

  put_placed : (i j : ℕ) (d : Span) → i < length (insert spans p x) → j ≤ ROWS
      → nat_le (key_at (insert spans p x) i d) j ≡ nat_lt i (get_or ends' j 0)
  put_placed i j d within in_rows =
      let n : length (insert spans p x) ≡ length spans + 1 = length-insert spans p x le_p in
      let old : (m : ℕ) → m < length spans → nat_le (key_at spans m d) j ≡ nat_lt m (get_or ends j 0) =
      λ (m : ℕ) (l : m < length spans). col.placed m j d l in_rows in
      elim (beside spans ends lowest col k j d some small in_rows) [
        | inl r ↦ (let up : get_or ends' j 0 ≡ get_or ends j 0 + 1 = raised_at j in_rows true r.1 in
            elim (was spans p x i d le_p) [
              | was_before lt e ↦ rw (ap key_is e) (same_tests (key_at spans i d) j i (get_or ends' j 0)
                  (λ (h : key_at spans i d ≤ j). omega (arith, r.2))
                  (λ (h : i < get_or ends' j 0). placed_le (key_at spans i d) j i (get_or ends j 0)
                  (old i (omega arith)) (omega (arith, r.2))))
              | was_put at e ↦ rw (ap key_is e) (same_tests (key_is x) j i (get_or ends' j 0)
                  (λ (h : key_is x ≤ j). omega (arith, r.2))
                  (λ (h : i < get_or ends' j 0). omega (arith, r.0)))
              | was_later m at ge e ↦ rw (ap key_is e) (same_tests (key_at spans m d) j i (get_or ends' j 0)
                  (λ (h : key_at spans m d ≤ j). let l : m < get_or ends j 0 =
                  placed_lt (key_at spans m d) j m (get_or ends j 0) (old m (omega arith)) h in omega arith)
                  (λ (h : i < get_or ends' j 0). placed_le (key_at spans m d) j m (get_or ends j 0)
                  (old m (omega arith)) (omega arith)))
            ])
        | inr r ↦ (let up : get_or ends' j 0 ≡ get_or ends j 0 + 0 = raised_at j in_rows false r.1 in
            elim (was spans p x i d le_p) [
              | was_before lt e ↦ rw (ap key_is e) (same_tests (key_at spans i d) j i (get_or ends' j 0)
                  (λ (h : key_at spans i d ≤ j). let l : i < get_or ends j 0 =
                  placed_lt (key_at spans i d) j i (get_or ends j 0) (old i (omega arith)) h in omega arith)
                  (λ (h : i < get_or ends' j 0). placed_le (key_at spans i d) j i (get_or ends j 0)
                  (old i (omega arith)) (omega arith)))
              | was_put at e ↦ rw (ap key_is e) (same_tests (key_is x) j i (get_or ends' j 0)
                  (λ (h : key_is x ≤ j). absurd (omega (arith, r.0)))
                  (λ (h : i < get_or ends' j 0). absurd (omega (arith, r.2))))
              | was_later m at ge e ↦ rw (ap key_is e) (same_tests (key_at spans m d) j i (get_or ends' j 0)
                  (λ (h : key_at spans m d ≤ j).
                  absurd (let l : m < get_or ends j 0 =
                  placed_lt (key_at spans m d) j m (get_or ends j 0) (old m (omega arith)) h in omega (arith, r.2)))
                  (λ (h : i < get_or ends' j 0). absurd (omega (arith, r.2))))
            ])
      ]

  -- a span of the row k stands in its bucket
  bucket : (i : ℕ) (d : Span) → i < length spans → key_at spans i d ≡ key_is x
      → (get_or ends (k - 1) 0 ≤ i) × (i < get_or ends k 0)
  bucket i d within e = within_key spans ends lowest col k i d some small within (e ∙ key)

  put_by_cell : (i j : ℕ) (d : Span) → i ≤ j → j < length (insert spans p x)
      → key_at (insert spans p x) i d ≡ key_at (insert spans p x) j d
      → cell_of (insert spans p x) i d ≤ cell_of (insert spans p x) j d
  put_by_cell i j d le within same =
      let n : length (insert spans p x) ≡ length spans + 1 = length-insert spans p x le_p in
      elim (was spans p x i d le_p) [
        | was_before lt e ↦ (elim (was spans p x j d le_p) [
          | was_before lt' e' ↦ rw (ap (λ s. s.cell) e, ap (λ s. s.cell) e')
              (col.by_cell i j d le (omega arith) (sym (ap key_is e) ∙ same ∙ ap key_is e'))
          | was_put at' e' ↦ rw (ap (λ s. s.cell) e, ap (λ s. s.cell) e')
              (let b : (get_or ends (k - 1) 0 ≤ i) × (i < get_or ends k 0) =
              bucket i d (omega arith) (sym (ap key_is e) ∙ same ∙ ap key_is e') in
              let lt2 : cell_of spans i d < x.cell = below i d b.0 lt in omega arith)
          | was_later m at' ge' e' ↦ rw (ap (λ s. s.cell) e, ap (λ s. s.cell) e')
              (col.by_cell i m d (omega arith) (omega arith) (sym (ap key_is e) ∙ same ∙ ap key_is e'))
        ])
        | was_put at e ↦ (elim (was spans p x j d le_p) [
          | was_before lt' e' ↦ absurd (omega arith)
          | was_put at' e' ↦ rw (ap (λ s. s.cell) e, ap (λ s. s.cell) e') (omega arith)
          | was_later m at' ge' e' ↦ rw (ap (λ s. s.cell) e, ap (λ s. s.cell) e')
              (let b : (get_or ends (k - 1) 0 ≤ m) × (m < get_or ends k 0) =
              bucket m d (omega arith) (sym (ap key_is e') ∙ sym same ∙ ap key_is e) in
              above m d ge' b.1)
        ])
        | was_later m at ge e ↦ (elim (was spans p x j d le_p) [
          | was_before lt' e' ↦ absurd (omega arith)
          | was_put at' e' ↦ absurd (omega arith)
          | was_later m' at' ge' e' ↦ rw (ap (λ s. s.cell) e, ap (λ s. s.cell) e')
              (col.by_cell m m' d (omega arith) (omega arith) (sym (ap key_is e) ∙ same ∙ ap key_is e'))
        ])
      ]

  put_each : (i : ℕ) (d : Span) → i < length (insert spans p x) → IsSpan (get_or (insert spans p x) i d)
  put_each i d within =
      let n : length (insert spans p x) ≡ length spans + 1 = length-insert spans p x le_p in
      elim (was spans p x i d le_p) [
        | was_before lt e ↦ rw e (col.each i d (omega arith))
        | was_put at e ↦ rw e is
        | was_later m at ge e ↦ rw e (col.each m d (omega arith))
      ]

  put_ranges : (i : ℕ) (d : Span) → i < length (insert spans p x) → IsFromLevel lowest' (get_or (insert spans p x) i d)
  put_ranges i d within =
      let n : length (insert spans p x) ≡ length spans + 1 = length-insert spans p x le_p in
      elim (was spans p x i d le_p) [
        | was_before lt e ↦ rw e (from_lower lowest lowest' (get_or spans i d) less (col.ranges i d (omega arith)))
        | was_put at e ↦ rw e high
        | was_later m at ge e ↦ rw e (from_lower lowest lowest' (get_or spans m d) less (col.ranges m d (omega arith)))
      ]

  pub IsColumn-insert : IsColumn (insert spans p x) ends' lowest'
  IsColumn-insert =
      let n : length (insert spans p x) ≡ length spans + 1 = length-insert spans p x le_p in
      record {
        size = len ∙ col.size;
        within = λ (j : ℕ) (in_rows : j ≤ ROWS). elim (beside spans ends lowest col k j x some small in_rows) [
          | inl r ↦ (let up : get_or ends' j 0 ≡ get_or ends j 0 + 1 = raised_at j in_rows true r.1 in
              omega (arith, col.within j in_rows))
          | inr r ↦ (let up : get_or ends' j 0 ≡ get_or ends j 0 + 0 = raised_at j in_rows false r.1 in
              omega (arith, col.within j in_rows))
        ];
        placed = put_placed;
        by_cell = put_by_cell;
        each = put_each;
        ranges = put_ranges;
      }

-- ---- the levels that ranges are below

-- what is below a level is below a higher one
to_higher : (a b : ℕ) (s : Span) → a ≤ b → IsBelowLevel a s → IsBelowLevel b s
to_higher a b s le (inl one) = inl one
to_higher a b s le (inr below) = inr (below_higher a b (key_of s.from s.to) le below)

pub below_put_in : (spans : List Span) (p : ℕ) (x : Span) (above above' : ℕ) → p ≤ length spans → AreBelow spans above
    → above ≤ above' → above' ≤ LEVELS → IsBelowLevel above' x → AreBelow (insert spans p x) above'
below_put_in spans p x above above' le are more small here = record {
  levels = small;
  ranges = λ (i : ℕ) (d : Span) (within : i < length (insert spans p x)).
      let n : length (insert spans p x) ≡ length spans + 1 = length-insert spans p x le in
      elim (was spans p x i d le) [
        | was_before lt e ↦ rw e (to_higher above above' (get_or spans i d) more (are.ranges i d (omega arith)))
        | was_put at e ↦ rw e here
        | was_later m at ge e ↦ rw e (to_higher above above' (get_or spans m d) more (are.ranges m d (omega arith)))
      ];
}

pub below_none : (spans : List Span) → spans ≡ [] → AreBelow spans 0
below_none spans none = record {
  levels = omega arith;
  ranges = λ (i : ℕ) (d : Span) (within : i < length spans).
      absurd (let n : length spans ≡ 0 = ap length none in omega (arith, n, within));
}
