-- How a column keeps its spans: row by row of those at which they are kept.
use Rattle.std.proofs.Common.{◌≡◌, ℕ, ◌+◌, ◌-◌, ◌<◌, ◌≤◌, ◌⊎◌, inl, inr, sym, ◌∙◌, ap, arith, nat_le, nat_lt}
use Rattle.std.proofs.Common.{true, false, List, [], length, get_or, replicate}
use Rattle.std.proofs.lemmas.Bool.{cases_lt}
use Rattle.std.proofs.lemmas.List.{get_or-replicate, get_or_past, length-replicate}
use Rattle.std.proofs.lemmas.Bool.Decides.{nat_tests}
use Rattle.ps_grid.specs.declared.size.TheConstants.{ROWS}
use Rattle.ps_index.specs.declared.nodes.TheConstants.{LEVELS}
use Rattle.ps_index.specs.declared.span.Span.{Span}
use Rattle.ps_index.specs.Inside.Columns.{IsColumn, key_at}
use Rattle.ps_index.specs.Spans.{cell_of}

pub placed_le : (a b c d : ℕ) → nat_le a b ≡ nat_lt c d → c < d → a ≤ b
placed_le a b c d e lt =
    let yes : nat_lt c d ≡ true = grind (arith, nat_tests, lt) in
    let le : nat_le a b ≡ true = e ∙ yes in grind (arith, nat_tests, le)

pub placed_lt : (a b c d : ℕ) → nat_le a b ≡ nat_lt c d → a ≤ b → c < d
placed_lt a b c d e le =
    let yes : nat_le a b ≡ true = grind (arith, nat_tests, le) in
    let lt : nat_lt c d ≡ true = sym e ∙ yes in grind (arith, nat_tests, lt)

pub same_tests : (a b c d : ℕ) → (a ≤ b → c < d) → (c < d → a ≤ b) → nat_le a b ≡ nat_lt c d
same_tests a b c d to back = elim (cases_lt c d) [
  | inl lt ↦ (let le : a ≤ b = back lt in let l : nat_le a b ≡ true = grind (arith, nat_tests, le) in
      let r : nat_lt c d ≡ true = grind (arith, nat_tests, lt) in l ∙ sym r)
  | inr ge ↦ (let r : nat_lt c d ≡ false = grind (arith, nat_tests, ge) in
      let l : nat_le a b ≡ false = elim (cases_lt b a) [
        | inl gt ↦ (grind (arith, nat_tests, gt))
        | inr le ↦ absurd (let lt : c < d = to le in omega arith)
      ] in l ∙ sym r)
]

module _ (spans : List Span) (ends : List ℕ) (lowest : ℕ) (col : IsColumn spans ends lowest) where
  pub ends_rise : (i j : ℕ) (d : Span) → i ≤ j → j ≤ ROWS → get_or ends i 0 ≤ get_or ends j 0
  ends_rise i j d le small = elim (cases_lt (get_or ends j 0) (get_or ends i 0)) [
    | inr e ↦ e
    | inl lt ↦ absurd (
        let n = get_or ends j 0 in
        let within : n < length spans = omega (arith, col.within i (omega arith)) in
        let key : key_at spans n d ≤ i =
        placed_le (key_at spans n d) i n (get_or ends i 0) (col.placed n i d within (omega arith)) lt in
        let back : n < n = placed_lt (key_at spans n d) j n n (col.placed n j d within small) (omega arith) in
        omega arith)
  ]

  -- the spans that are kept at a row
  pub key_within : (k i : ℕ) (d : Span) → 1 ≤ k → k ≤ ROWS → get_or ends (k - 1) 0 ≤ i → i < get_or ends k 0
      → key_at spans i d ≡ k
  key_within k i d some small from to =
      let within : i < length spans = omega (arith, col.within k small) in
      let le : key_at spans i d ≤ k =
      placed_le (key_at spans i d) k i (get_or ends k 0) (col.placed i k d within small) to in
      elim (cases_lt (key_at spans i d) k) [
        | inl lt ↦ absurd (
            let early : i < get_or ends (k - 1) 0 =
            placed_lt (key_at spans i d) (k - 1) i (get_or ends (k - 1) 0) (col.placed i (k - 1) d within (omega arith))
            (omega arith) in
            omega arith)
        | inr ge ↦ omega arith
      ]

  pub within_key : (k i : ℕ) (d : Span) → 1 ≤ k → k ≤ ROWS → i < length spans → key_at spans i d ≡ k
      → (get_or ends (k - 1) 0 ≤ i) × (i < get_or ends k 0)
  within_key k i d some small within e = (
    elim (cases_lt i (get_or ends (k - 1) 0)) [
      | inl lt ↦ absurd (let le : key_at spans i d ≤ k - 1 =
          placed_le (key_at spans i d) (k - 1) i (get_or ends (k - 1) 0) (col.placed i (k - 1) d within (omega arith))
          lt in omega arith)
      | inr ge ↦ ge
    ],
    placed_lt (key_at spans i d) k i (get_or ends k 0) (col.placed i k d within small) (omega arith),
  )

  pub by_cell_within : (k : ℕ) → 1 ≤ k → k ≤ ROWS → (i j : ℕ) (d : Span) → get_or ends (k - 1) 0 ≤ i → i ≤ j
      → j < get_or ends k 0 → cell_of spans i d ≤ cell_of spans j d
  by_cell_within k some small i j d from le to =
      col.by_cell i j d le (omega (arith, col.within k small))
      (key_within k i d some small from (omega arith) ∙ sym (key_within k j d some small (omega arith) to))

  -- a row from k on, or one before k
  pub beside : (k j : ℕ) (d : Span) → 1 ≤ k → k ≤ ROWS → j ≤ ROWS
      → ((k ≤ j) × (nat_le k j ≡ true) × (get_or ends k 0 ≤ get_or ends j 0))
      ⊎ ((j < k) × (nat_le k j ≡ false) × (get_or ends j 0 ≤ get_or ends (k - 1) 0))
  beside k j d some small in_rows = elim (cases_lt j k) [
    | inr le ↦ inl (le, grind (arith, nat_tests, le), ends_rise k j d le in_rows)
    | inl lt ↦ inr (lt, grind (arith, nat_tests, lt), ends_rise j (k - 1) d (omega arith) (omega arith))
  ]

pub all_zeros : (xs : List ℕ) (n : ℕ) → xs ≡ replicate n 0 → (j : ℕ) → get_or xs j 0 ≡ 0
all_zeros xs n e j = rw e (elim (cases_lt j n) [
  | inl lt ↦ get_or-replicate n j 0 0 lt
  | inr ge ↦ get_or_past (replicate n 0) j 0 (omega (arith, length-replicate {A = ℕ} n 0))
])

pub zeros_length : (xs : List ℕ) (n : ℕ) → xs ≡ replicate n 0 → length xs ≡ n
zeros_length xs n e = rw e (length-replicate n 0)

pub empty_column : (spans : List Span) (ends : List ℕ) → spans ≡ [] → length ends ≡ ROWS + 1
    → ((j : ℕ) → j ≤ ROWS → get_or ends j 0 ≡ 0)
    → IsColumn spans ends LEVELS
empty_column spans ends none size zeros =
    let n : length spans ≡ 0 = ap length none in
    record {
      size = size;
      within = λ (j : ℕ) (in_rows : j ≤ ROWS). omega (arith, zeros j in_rows);
      placed = λ (i j : ℕ) (d : Span) (lt : i < length spans). absurd (omega arith);
      by_cell = λ (i j : ℕ) (d : Span) (le : i ≤ j) (lt : j < length spans). absurd (omega arith);
      each = λ (i : ℕ) (d : Span) (lt : i < length spans). absurd (omega arith);
      ranges = λ (i : ℕ) (d : Span) (lt : i < length spans). absurd (omega arith);
    }
