-- The counts of a set, when a cell is put in or taken out.
use Rattle.std.proofs.Common.{◌≡◌, ◌≢◌, ℕ, ◌+◌, ◌-◌, ◌*◌, ◌<◌, ◌≤◌, Bool, true, false, ◌&&◌, List, length, refl, sym}
use Rattle.std.proofs.Common.{◌==◌, ap, ◌∙◌, arith, ⊎_elim, eqb, eq-eqb, subst, get_or, set, length-set, replicate}
use Rattle.std.proofs.lemmas.Bool.{cases_eq, cases_lt, ne_eqb}
use Rattle.std.proofs.lemmas.List.{get_or-set_same, get_or-set_other, get_or-replicate, get_or_past, length-replicate}
use Rattle.ps_grid.specs.declared.size.TheConstants.{CELLS, COLUMNS}
use Rattle.ps_region.specs.declared.cell_set.TheConstants.{BLOCKS}
use Rattle.ps_region.specs.Inside.Counts.{as_one, count_below}
use Rattle.ps_region.specs.Inside.Tallies.{IsTallied, block_of}
use Rattle.ps_region.proofs.CellListLemmas.{bool_cases}
use Rattle.ps_region.proofs.CountLemmas.{and_false, count_below-clear, count_below-le, count_below-none}
use Rattle.ps_region.proofs.CountLemmas.{count_below-same, count_below-some}
use Rattle.ps_region.proofs.GrowthCounts.{count_below-zero}

-- two tests that differ at one cell alone, which the second doesn't pass
pub count_below-step : (a b : ℕ → Bool) (h n : ℕ) → h < n → b h ≡ false → ((k : ℕ) → k ≢ h → a k ≡ b k)
    → count_below a n ≡ count_below b n + as_one (a h)
count_below-step a b h n lt off same =
    ⊎_elim
    (λ (t : a h ≡ true). count_below-clear a b h n lt t off same ∙ ap (λ x. count_below b n + as_one x) (sym t))
    (λ (f : a h ≡ false).
    let e = count_below-same a b n (λ k l. ⊎_elim
    (λ (eq : k ≡ h). subst (λ x. a x ≡ b x) (sym eq) (f ∙ sym off))
    (λ (ne : k ≢ h). same k ne)
    (cases_eq k h)) in
    let z : as_one (a h) ≡ 0 = ap as_one f in
    omega (arith, e, z))
    (bool_cases (a h))

-- one place of a list of counts goes up, and each count is one higher where it counts the cell
counts_up : (blocks : List ℕ) (of new : ℕ → ℕ) (b n : ℕ) → length blocks ≡ n → b < n
    → ((k : ℕ) → k < n → get_or blocks k 0 ≡ of k)
    → ((k : ℕ) → new k ≡ of k + as_one (eqb b k))
    → (k : ℕ) → k < n → get_or (set blocks b (get_or blocks b 0 + 1)) k 0 ≡ new k
counts_up blocks of new b n long low each more k lt =
    ⊎_elim
    (λ (e : k ≡ b).
    let here = get_or-set_same blocks b (get_or blocks b 0 + 1) 0 (omega (arith, long)) in
    let m = more b in
    let one : as_one (eqb b b) ≡ 1 = ap as_one (eq-eqb b b refl) in
    let o = each b low in
    subst (λ x. get_or (set blocks b (get_or blocks b 0 + 1)) x 0 ≡ new x) (sym e) (omega (arith, here, m, one, o)))
    (λ (ne : k ≢ b).
    let there = get_or-set_other blocks b k (get_or blocks b 0 + 1) 0 ne in
    let m = more k in
    let none : as_one (eqb b k) ≡ 0 = ap as_one (ne_eqb b k (λ q. ne (sym q))) in
    let o = each k lt in
    omega (arith, there, m, none, o))
    (cases_eq k b)

counts_down : (blocks : List ℕ) (of new : ℕ → ℕ) (b n : ℕ) → length blocks ≡ n → b < n
    → ((k : ℕ) → k < n → get_or blocks k 0 ≡ of k)
    → ((k : ℕ) → of k ≡ new k + as_one (eqb b k))
    → (k : ℕ) → k < n → get_or (set blocks b (get_or blocks b 0 - 1)) k 0 ≡ new k
counts_down blocks of new b n long low each more k lt =
    ⊎_elim
    (λ (e : k ≡ b).
    let here = get_or-set_same blocks b (get_or blocks b 0 - 1) 0 (omega (arith, long)) in
    let m = more b in
    let one : as_one (eqb b b) ≡ 1 = ap as_one (eq-eqb b b refl) in
    let o = each b low in
    subst (λ x. get_or (set blocks b (get_or blocks b 0 - 1)) x 0 ≡ new x) (sym e) (omega (arith, here, m, one, o)))
    (λ (ne : k ≢ b).
    let there = get_or-set_other blocks b k (get_or blocks b 0 - 1) 0 ne in
    let m = more k in
    let none : as_one (eqb b k) ≡ 0 = ap as_one (ne_eqb b k (λ q. ne (sym q))) in
    let o = each k lt in
    omega (arith, there, m, none, o))
    (cases_eq k b)

module _ (cells : List Bool) (c : ℕ) (low : c < length cells) where
  -- the cells that pass a test, with the cell and without it
  pub with_more : (p : ℕ → Bool) (n : ℕ) → c < n → get_or cells c false ≡ false
      → count_below (λ d. get_or (set cells c true) d false && p d) n
      ≡ count_below (λ d. get_or cells d false && p d) n + as_one (p c)
  with_more p n lt off =
      count_below-step (λ d. get_or (set cells c true) d false && p d) (λ d. get_or cells d false && p d) c n lt
      (ap (λ b. b && p c) off)
      (λ k ne. ap (λ b. b && p k) (get_or-set_other cells c k true false ne))
      ∙ ap (λ b. count_below (λ d. get_or cells d false && p d) n + as_one (b && p c))
      (get_or-set_same cells c true false low)

  pub without_more : (p : ℕ → Bool) (n : ℕ) → c < n → get_or cells c false ≡ true
      → count_below (λ d. get_or cells d false && p d) n
      ≡ count_below (λ d. get_or (set cells c false) d false && p d) n + as_one (p c)
  without_more p n lt on =
      count_below-step (λ d. get_or cells d false && p d) (λ d. get_or (set cells c false) d false && p d) c n lt
      (ap (λ b. b && p c) (get_or-set_same cells c false false low))
      (λ k ne. ap (λ b. b && p k) (sym (get_or-set_other cells c k false false ne)))
      ∙ ap (λ b. count_below (λ d. get_or (set cells c false) d false && p d) n + as_one (b && p c)) on

  pub all_more : (n : ℕ) → c < n → get_or cells c false ≡ false
      → count_below (λ d. get_or (set cells c true) d false) n ≡ count_below (λ d. get_or cells d false) n + 1
  all_more n lt off =
      count_below-step (λ d. get_or (set cells c true) d false) (λ d. get_or cells d false) c n lt off
      (λ k ne. get_or-set_other cells c k true false ne)
      ∙ ap (λ b. count_below (λ d. get_or cells d false) n + as_one b) (get_or-set_same cells c true false low)

  pub all_fewer : (n : ℕ) → c < n → get_or cells c false ≡ true
      → count_below (λ d. get_or cells d false) n ≡ count_below (λ d. get_or (set cells c false) d false) n + 1
  all_fewer n lt on =
      count_below-step (λ d. get_or cells d false) (λ d. get_or (set cells c false) d false) c n lt
      (get_or-set_same cells c false false low)
      (λ k ne. sym (get_or-set_other cells c k false false ne))
      ∙ ap (λ b. count_below (λ d. get_or (set cells c false) d false) n + as_one b) on

-- the cell, read at a place of the table, with the number of its block
module _ (cells : List Bool) (blocks : List ℕ) (all c b : ℕ) (t : IsTallied cells blocks all) (lt : c < CELLS)
    (is : b ≡ block_of c) (inside : b < COLUMNS * BLOCKS) where
  low : c < length cells
  low = let w = t.whole in omega (arith, w)

  ups : (k : ℕ) → as_one (eqb (block_of c) k) ≡ as_one (eqb b k)
  ups k = ap (λ x. as_one (eqb x k)) (sym is)

  here : as_one (eqb (block_of c) b) ≡ 1
  here = ap as_one (eq-eqb (block_of c) b (sym is))

  pub put_in : get_or cells c false ≡ false
      → IsTallied (set cells c true) (set blocks b (get_or blocks b 0 + 1)) (all + 1)
  put_in off = record {
    whole = length-set cells c true ∙ t.whole;
    divided = length-set blocks b (get_or blocks b 0 + 1) ∙ t.divided;
    together = ap (λ n. n + 1) t.together ∙ sym (all_more cells c low CELLS lt off);
    each = counts_up blocks (λ k. count_below (λ d. get_or cells d false && eqb (block_of d) k) CELLS)
        (λ k. count_below (λ d. get_or (set cells c true) d false && eqb (block_of d) k) CELLS) b
        (COLUMNS * BLOCKS) t.divided inside t.each
        (λ k. with_more cells c low (λ d. eqb (block_of d) k) CELLS lt off
        ∙ ap (λ n. count_below (λ d. get_or cells d false && eqb (block_of d) k) CELLS + n) (ups k));
  }

  pub taken_out : get_or cells c false ≡ true
      → IsTallied (set cells c false) (set blocks b (get_or blocks b 0 - 1)) (all - 1)
  taken_out on = record {
    whole = length-set cells c false ∙ t.whole;
    divided = length-set blocks b (get_or blocks b 0 - 1) ∙ t.divided;
    together = let f = all_fewer cells c low CELLS lt on in let o = t.together in omega (arith, f, o);
    each = counts_down blocks (λ k. count_below (λ d. get_or cells d false && eqb (block_of d) k) CELLS)
        (λ k. count_below (λ d. get_or (set cells c false) d false && eqb (block_of d) k) CELLS) b
        (COLUMNS * BLOCKS) t.divided inside t.each
        (λ k. without_more cells c low (λ d. eqb (block_of d) k) CELLS lt on
        ∙ ap (λ n. count_below (λ d. get_or (set cells c false) d false && eqb (block_of d) k) CELLS + n) (ups k));
  }

  -- the counts are no more than the cells of the grid, and count the cell where it is in
  pub small_block : get_or blocks b 0 ≤ CELLS
  small_block =
      let e = t.each b inside in
      let le = count_below-le (λ d. get_or cells d false && eqb (block_of d) b) CELLS in
      omega (arith, e, le)

  pub small_all : all ≤ CELLS
  small_all =
      let e = t.together in let le = count_below-le (λ d. get_or cells d false) CELLS in omega (arith, e, le)

  pub some_block : get_or cells c false ≡ true → 0 < get_or blocks b 0
  some_block on =
      let e = t.each b inside in
      let w = without_more cells c low (λ d. eqb (block_of d) b) CELLS lt on in
      let one = here in
      omega (arith, e, w, one)

  pub some_all : get_or cells c false ≡ true → 0 < all
  some_all on = let e = t.together in let w = all_fewer cells c low CELLS lt on in omega (arith, e, w)

  -- no cell of a block whose count is 0
  pub none_there : get_or blocks b 0 ≡ 0 → (d : ℕ) → block_of d ≡ block_of c → get_or cells d false ≡ false
  none_there zero d same =
      let e : count_below (λ x. get_or cells x false && eqb (block_of x) b) CELLS ≡ 0 =
      sym (t.each b inside) ∙ zero in
      ⊎_elim
      (λ (l : d < CELLS).
      by_and (get_or cells d false) (eqb (block_of d) b) (eq-eqb (block_of d) b (same ∙ sym is))
      (count_below-none (λ x. get_or cells x false && eqb (block_of x) b) CELLS e d l))
      (λ (past : CELLS ≤ d). get_or_past cells d false (let w = t.whole in omega (arith, w)))
      (cases_lt d CELLS)
    where
      by_and : (a b : Bool) → b ≡ true → (a && b) ≡ false → a ≡ false
      by_and true b on none = sym on ∙ none
      by_and false b on none = refl

-- where nothing is counted, no cell is in
pub none_in : (cells : List Bool) (blocks : List ℕ) (all : ℕ) → IsTallied cells blocks all → all ≡ 0
    → (d : ℕ) → get_or cells d false ≡ false
none_in cells blocks all t zero d =
    ⊎_elim
    (λ (l : d < CELLS). count_below-none (λ x. get_or cells x false) CELLS (sym t.together ∙ zero) d l)
    (λ (past : CELLS ≤ d). get_or_past cells d false (let w = t.whole in omega (arith, w)))
    (cases_lt d CELLS)

pub some_in : (cells : List Bool) (blocks : List ℕ) (all : ℕ) → IsTallied cells blocks all → 0 < all
    → (d : ℕ) × (get_or cells d false ≡ true)
some_in cells blocks all t more =
    let e = t.together in
    let s = count_below-some (λ x. get_or cells x false) CELLS (omega (arith, e)) in
    (s.0, s.2)

-- a set without cells
pub all_off : (n d : ℕ) → get_or (replicate n false) d false ≡ false
all_off n d =
    ⊎_elim
    (λ (l : d < n). get_or-replicate n d false false l)
    (λ (past : n ≤ d). get_or_past (replicate n false) d false (let k = length-replicate n false in omega (arith, k)))
    (cases_lt d n)

pub tallied_none : IsTallied (replicate CELLS false) (replicate (COLUMNS * BLOCKS) 0) 0
tallied_none = record {
  whole = length-replicate CELLS false;
  divided = length-replicate {A = ℕ} (COLUMNS * BLOCKS) 0;
  together = sym (count_below-zero (λ d. get_or (replicate CELLS false) d false) CELLS (all_off CELLS));
  each = λ b lt. get_or-replicate (COLUMNS * BLOCKS) b 0 0 lt
      ∙ sym (count_below-zero (λ d. get_or (replicate CELLS false) d false && eqb (block_of d) b) CELLS
      (λ d. ap (λ x. x && eqb (block_of d) b) (all_off CELLS d)));
}

pub above : (n : ℕ) → (n == 0) ≡ false → 0 < n
above n more =
    ⊎_elim
    (λ (e : n ≡ 0). absurd (let f : true ≡ false = sym (eq-eqb n 0 e) ∙ more in cc))
    (λ (ne : n ≢ 0). omega arith)
    (cases_eq n 0)
