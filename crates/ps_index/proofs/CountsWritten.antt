-- Counts that are written down up to a row.
use Rattle.std.proofs.Common.{◌≡◌, ℕ, ◌+◌, ◌-◌, ◌<◌, ◌≤◌, inl, inr, sym, ◌∙◌, ap, arith, cond, nat_le, min, true, false}
use Rattle.std.proofs.Common.{List, length, get_or}
use Rattle.std.proofs.lemmas.Bool.{cases_lt}
use Rattle.std.proofs.lemmas.Bool.Decides.{nat_tests}
use Rattle.std.proofs.lemmas.List.FromFn.{get_or-map-range_with_len, length-map-range_with_len}
use Rattle.ps_grid.specs.declared.size.TheConstants.{ROWS}
use Rattle.ps_index.specs.Inside.Counts.{all_counts}
use Rattle.ps_index.specs.Inside.Dues.{one_if}

pub counts_length : (ends : List ℕ) (last : ℕ) → length (all_counts ends last) ≡ ROWS + 1
unfolding all_counts
counts_length ends last = length-map-range_with_len (λ j. get_or ends (min j last) 0) 0 (ROWS + 1)

pub count_at : (ends : List ℕ) (last j : ℕ) → j ≤ ROWS → get_or (all_counts ends last) j 0 ≡ get_or ends (min j last) 0
unfolding all_counts
count_at ends last j small =
    get_or-map-range_with_len (λ k. get_or ends (min k last) 0) 0 (ROWS + 1) j j 0 (omega arith) (omega arith)

-- a row that is written has its own count
pub count_written : (ends : List ℕ) (last j : ℕ) → j ≤ ROWS → j ≤ last
    → get_or (all_counts ends last) j 0 ≡ get_or ends j 0
count_written ends last j small le = count_at ends last j small ∙ ap (λ k. get_or ends k 0) (omega arith)

-- and one after them that of the last
pub count_after : (ends : List ℕ) (last j : ℕ) → j ≤ ROWS → last ≤ j
    → get_or (all_counts ends last) j 0 ≡ get_or ends last 0
count_after ends last j small le = count_at ends last j small ∙ ap (λ k. get_or ends k 0) (omega arith)

-- a row at which a span is kept is written
pub row_written : (ends : List ℕ) (last row : ℕ) → row ≤ ROWS
    → get_or (all_counts ends last) (row - 1) 0 < get_or (all_counts ends last) row 0 → row ≤ last
row_written ends last row small there = elim (cases_lt last row) [
  | inr le ↦ le
  | inl lt ↦ absurd (omega (
    arith,
    there,
    count_after ends last (row - 1) (omega arith) (omega arith),
    count_after ends last row small (omega arith),
  ))
]

-- if row isn't after last, comparing row with j or with min j last gives the same
same_side : (row last j : ℕ) → row ≤ last → nat_le row (min j last) ≡ nat_le row j
same_side row last j le = elim (cases_lt j row) [
  | inl lt ↦ (let no : nat_le row j ≡ false = grind (arith, nat_tests, lt) in
      let below : min j last < row = omega arith in
      let no' : nat_le row (min j last) ≡ false = grind (arith, nat_tests, below) in no' ∙ sym no)
  | inr ge ↦ (let yes : nat_le row j ≡ true = grind (arith, nat_tests, ge) in
      let from : row ≤ min j last = omega arith in
      let yes' : nat_le row (min j last) ≡ true = grind (arith, nat_tests, from) in yes' ∙ sym yes)
]

pub counts_raised : (ends extended ends' : List ℕ) (last last' row : ℕ) → row ≤ last' → last ≤ last' → last' ≤ ROWS
    → ((j : ℕ) → j ≤ last' → get_or extended j 0 ≡ get_or ends (min j last) 0)
    → ((j : ℕ) → j ≤ last' → get_or ends' j 0 ≡ get_or extended j 0 + cond (nat_le row j) 1 0)
    → (j : ℕ) → j ≤ ROWS
    → get_or (all_counts ends' last') j 0 ≡ get_or (all_counts ends last) j 0 + cond (nat_le row j) 1 0
counts_raised ends extended ends' last last' row within more small written raised j in_rows =
    let up = raised (min j last') (omega arith) in
    let was : get_or extended (min j last') 0 ≡ get_or (all_counts ends last) j 0 =
    written (min j last') (omega arith) ∙ ap (λ k. get_or ends k 0) (omega arith)
    ∙ sym (count_at ends last j in_rows) in
    let one = ap (λ b. one_if b) (same_side row last' j within) in
    omega (arith, count_at ends' last' j in_rows, up, was, one)

pub counts_lowered : (ends ends' : List ℕ) (last row : ℕ) → row ≤ last → last ≤ ROWS
    → ((j : ℕ) → j ≤ last → get_or ends' j 0 + cond (nat_le row j) 1 0 ≡ get_or ends j 0)
    → (j : ℕ) → j ≤ ROWS
    → get_or (all_counts ends' last) j 0 + cond (nat_le row j) 1 0 ≡ get_or (all_counts ends last) j 0
counts_lowered ends ends' last row within small lowered j in_rows =
    let down = lowered (min j last) (omega arith) in
    let one = ap (λ b. one_if b) (same_side row last j within) in
    omega (arith, count_at ends' last j in_rows, count_at ends last j in_rows, down, one)
