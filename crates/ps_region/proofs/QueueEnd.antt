-- What the queue says when all of it is walked: the cells in it are those that reach no cycle, each with its depth.
use Rattle.std.proofs.Common.{◌≡◌, ℕ, suc, zero, ◌-◌, ◌<◌, ◌≤◌, Bool, true, false, not, ◌&&◌, ◌⊎◌}
use Rattle.std.proofs.Common.{inl, inr, List, ◌∷◌, length, sym, ap, ◌∙◌, arith, ⊎_elim, eqb}
use Rattle.std.proofs.Common.{subst, get_or, take}
use Rattle.std.proofs.lemmas.Bool.{cases_eq, cases_lt}
use Rattle.std.proofs.lemmas.List.{take_all}
use Rattle.std.specs.List.{list_any}
use Rattle.std.proofs.lemmas.List.Elements.{All-weaker}
use Rattle.ps_grid.specs.Chains.{References, In, IsCyclic, IsDepth}
use Rattle.ps_region.specs.Inside.Counts.{waiting, cells_left}
use Rattle.ps_region.specs.Inside.LevelWalk.{Levelling, Levels, is_frame, is_pending}
use Rattle.ps_region.proofs.CellListLemmas.{bool_cases}
use Rattle.ps_region.proofs.CountLemmas.{count_below-some, and_true_left, and_true_right, not_true}
use Rattle.ps_region.proofs.LevellingLemmas.{not_both, frame_pending}
use Rattle.ps_grid.proofs.CycleLemmas.{IsCyclic-next, IsCyclic-stuck, not_cyclic_by_level}
use Rattle.ps_grid.proofs.DepthLemmas.{IsDepth-level}

-- the same depth within sets of the same cells
pub IsDepth-same : (refers : References) (V W : ℕ → Type 0) → ((c : ℕ) → V c → W c) → ((c : ℕ) → W c → V c)
    → (c k : ℕ) → IsDepth refers V c k → IsDepth refers W c k
IsDepth-same refers V W to from c k d = (
  (d.0.0, d.0.1, All-weaker V W to (c ∷ d.0.0) d.0.2, d.0.3),
  λ rest ch all. d.1 rest ch (All-weaker W V from (c ∷ rest) all),
)

module _ (refers : References) (formula was : ℕ → Bool) (marks : List Bool) (n : ℕ)
    (below : (c d : ℕ) → refers c d ≡ true → d < n)
    (heads : (c d : ℕ) → refers c d ≡ true → c < n)
    (has : (c d : ℕ) → refers c d ≡ true → formula c ≡ true)
    (in_table : (c : ℕ) → get_or marks c false ≡ true → c < n)
    (was_yes : (c : ℕ) → c < n → get_or marks c false ≡ false → was c ≡ true → IsCyclic refers c)
    (was_no : (c : ℕ) → c < n → get_or marks c false ≡ false → IsCyclic refers c → was c ≡ true)
    (k : ℕ) (left level order : List ℕ)
    (ended : Levelling refers (is_pending formula was marks) (is_frame formula marks) n (length order) (length order)
    (length order) k left level order) where
  -- a cell that was never pending is not cyclic
  pub calm : (d : ℕ) → d < n → is_pending formula was marks d ≡ false → IsCyclic refers d → ⊥
  calm d lt p cyc =
      ⊎_elim
      (λ (m : get_or marks d false ≡ true).
      let f : formula d ≡ false = rw m at p in
      let e = IsCyclic-next refers d cyc in not_both (formula d) (has d e.0 e.1) f)
      (λ (m : get_or marks d false ≡ false).
      let w : was d ≡ false = rw m at p in not_both (was d) (was_no d lt m cyc) w)
      (bool_cases (get_or marks d false))

  pub ended_not_cyclic : (c : ℕ) → In order c → IsCyclic refers c → ⊥
  ended_not_cyclic c i cyc =
      not_cyclic_by_level refers (In order) (λ x. get_or level x 0)
      (λ a d s r. ⊎_elim (λ f. inl f) (λ p. inr (calm d (below a d r) p)) (ended.falls a d s r))
      (get_or level c 0) c (omega arith) i cyc

  -- a formula cell of the region that is not in the queue
  Stuck : ℕ → Type 0
  Stuck c = (is_frame formula marks c ≡ true) × (list_any (eqb c) order ≡ false)

  whole : take (length order) order ≡ order
  whole = take_all (length order) order (omega arith)

  stuck_next : (c : ℕ) → is_frame formula marks c ≡ true → list_any (eqb c) order ≡ false
      → (d : ℕ) × (refers c d ≡ true)
      × (((is_frame formula marks d ≡ true) × (list_any (eqb d) order ≡ false)) ⊎ IsCyclic refers d)
  stuck_next c f o =
      let counted : get_or left c 0 ≡ cells_left refers (is_pending formula was marks) order n c =
      ended.counted c f ∙ ap (λ xs. cells_left refers (is_pending formula was marks) xs n c) whole in
      let some : 0 < cells_left refers (is_pending formula was marks) order n c =
      ⊎_elim
      (λ (z : get_or left c 0 ≡ 0). absurd (not_both (list_any (eqb c) order) (ended.levelled c f z) o))
      (λ nz. omega arith)
      (cases_eq (get_or left c 0) 0) in
      let d = count_below-some (λ x. refers c x && waiting (is_pending formula was marks) order x) n some in
      let r : refers c d.0 ≡ true =
      and_true_left (refers c d.0) (waiting (is_pending formula was marks) order d.0) d.2 in
      let w : waiting (is_pending formula was marks) order d.0 ≡ true =
      and_true_right (refers c d.0) (waiting (is_pending formula was marks) order d.0) d.2 in
      let p : is_pending formula was marks d.0 ≡ true =
      and_true_left (is_pending formula was marks d.0) (not (list_any (eqb d.0) order)) w in
      let absent : list_any (eqb d.0) order ≡ false =
      not_true (list_any (eqb d.0) order)
      (and_true_right (is_pending formula was marks d.0) (not (list_any (eqb d.0) order)) w) in (
        d.0,
        r,
        ⊎_elim
            (λ (m : get_or marks d.0 false ≡ true). inl (rw m (rw m at p), absent))
            (λ (m : get_or marks d.0 false ≡ false). inr (was_yes d.0 d.1 m (rw m at p)))
            (bool_cases (get_or marks d.0 false)),
      )

  pub ended_cyclic : (c : ℕ) → is_frame formula marks c ≡ true → list_any (eqb c) order ≡ false → IsCyclic refers c
  ended_cyclic c f o =
      IsCyclic-stuck refers n heads (λ x. (is_frame formula marks x ≡ true) × (list_any (eqb x) order ≡ false))
      (λ x s. stuck_next x s.0 s.1) c (f, o)

  pub ended_depth : (c : ℕ) → In order c → IsDepth refers (In order) c (get_or level c 0)
  ended_depth c i =
      let some = ended.some c i in
      let is : get_or level c 0 ≡ suc (get_or level c 0 - 1) = omega arith in
      subst (λ x. IsDepth refers (In order) c x) (sym is)
      (IsDepth-level refers (In order) (λ x. get_or level x 0) ended.some
      (λ a d s t r. ⊎_elim (λ f. f.1) (λ p. absurd (pending_in_order d t p)) (ended.falls a d s r))
      (λ a m s two. let t = ended.next a m s two in (t.0, t.1, t.2, t.3))
      (get_or level c 0 - 1) c i is)
    where
      pending_in_order : (d : ℕ) → In order d → is_pending formula was marks d ≡ false → ⊥
      pending_in_order d t p =
          not_both (is_pending formula was marks d) (frame_pending formula was marks d (ended.framed d t)) p

-- the level in whose part of the queue a place is
pub level_of_place : (starts order level : List ℕ) → Levels starts order level → (m q : ℕ) → m < length starts
    → q < get_or starts m 0
    → (j : ℕ) × (suc j ≤ m) × (get_or starts j 0 ≤ q) × (q < get_or starts (suc j) 0)
level_of_place starts order level v zero q lt hi = absurd (let f = v.first in omega arith)
level_of_place starts order level v (suc m) q lt hi =
    ⊎_elim
    (λ before.
    let r = level_of_place starts order level v m q (omega arith) before in
    (r.0, (let a = r.1 in omega arith), r.2, r.3))
    (λ here. (m, (omega arith), here, hi))
    (cases_lt q (get_or starts m 0))
