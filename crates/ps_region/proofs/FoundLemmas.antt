-- What the walked queue says in terms of chains.
use Rattle.std.proofs.Common.{◌≡◌, ℕ, suc, ◌+◌, ◌-◌, ◌<◌, ◌≤◌, Bool, true, false, not, ◌&&◌, List}
use Rattle.std.proofs.Common.{length, refl, sym, ap, ◌∙◌, arith, ⊎_elim, eqb, eqb-true, eq-eqb, subst, get_or}
use Rattle.std.proofs.Common.{drop}
use Rattle.std.proofs.lemmas.Bool.{cases_lt}
use Rattle.std.proofs.lemmas.List.{take_all, length-take, length-drop, get_or-take, get_or-drop, get_or_past}
use Rattle.std.proofs.lemmas.Map.Keys.{IsDistinct-from_apart, apart_from_distinct}
use Rattle.std.specs.List.{list_any, IsDistinct, filter, slice_range}
use Rattle.ps_grid.specs.Chains.{References, In, InRegion, IsCyclic, IsDepth}
use Rattle.ps_region.specs.Inside.Cells.{Marked}
use Rattle.ps_region.specs.Inside.Counts.{waiting, cells_left}
use Rattle.ps_region.specs.Inside.LevelWalk.{Levelling, Levels, is_frame, is_pending, is_held}
use Rattle.ps_region.specs.Found.{Found, IsFound, IsFrame, IsCount}
use Rattle.ps_region.specs.Inside.Touched.{IsPlain}
use Rattle.ps_region.proofs.TouchedLemmas.{plain_known, not_not}
use Rattle.ps_region.proofs.CellListLemmas.{bool_cases, in-get_or, place_of, in-filter, distinct-filter, marked_below}
use Rattle.ps_region.proofs.CountLemmas.{and_true_left, and_true_right, not_true}
use Rattle.ps_region.proofs.CountLemmas.{listing}
use Rattle.ps_region.proofs.LevellingLemmas.{not_both, frame_pending}
use Rattle.ps_grid.proofs.DepthLemmas.{IsDepth-unique}
use Rattle.ps_region.proofs.QueueEnd.{calm, ended_not_cyclic, ended_cyclic, ended_depth, IsDepth-same, level_of_place}

-- a part of a list
pub in-range_place : (xs : List ℕ) (a b c : ℕ) → list_any (eqb c) (slice_range xs a b) ≡ true
    → (q : ℕ) × (a ≤ q) × (q < b) × (q < length xs) × (get_or xs q 0 ≡ c)
in-range_place xs a b c h =
    let p = place_of (slice_range xs a b) c h in
    let lt = p.1 in
    let l = length-take (b - a) (drop a xs) in
    let m = length-drop a xs in
    let short : p.0 < b - a = omega (arith, lt, l) in (
      a + p.0,
      omega arith,
      omega arith,
      omega (arith, lt, l, m),
      sym (get_or-take (b - a) (drop a xs) p.0 0 short ∙ get_or-drop a xs p.0 0) ∙ p.2,
    )

pub in-range_at : (xs : List ℕ) (a b q : ℕ) → a ≤ q → q < b → q < length xs
    → list_any (eqb (get_or xs q 0)) (slice_range xs a b) ≡ true
in-range_at xs a b q lo hi lt =
    let l = length-take (b - a) (drop a xs) in
    let m = length-drop a xs in
    let back : a + (q - a) ≡ q = omega arith in
    let is : get_or (slice_range xs a b) (q - a) 0 ≡ get_or xs q 0 =
    get_or-take (b - a) (drop a xs) (q - a) 0 (omega arith)
    ∙ (get_or-drop a xs (q - a) 0 ∙ ap (λ i. get_or xs i 0) back) in
    subst (λ x. list_any (eqb x) (slice_range xs a b) ≡ true) is
    (in-get_or (slice_range xs a b) (q - a) 0 (omega (arith, l, m)))

pub distinct-range : (xs : List ℕ) (a b : ℕ) → IsDistinct eqb xs → IsDistinct eqb (slice_range xs a b)
distinct-range xs a b once =
    IsDistinct-from_apart eqb (slice_range xs a b)
    (λ i j d lt inside.
    let l = length-take (b - a) (drop a xs) in
    let m = length-drop a xs in
    let at : (p : ℕ) → p < b - a → get_or (slice_range xs a b) p d ≡ get_or xs (a + p) d =
    λ p s. get_or-take (b - a) (drop a xs) p d s ∙ get_or-drop a xs p d in
    rw (at i (omega (arith, lt, inside, l)), at j (omega (arith, inside, l)))
    (apart_from_distinct eqb xs (a + i) (a + j) d once (omega arith) (omega (arith, inside, l, m))))

module _ (refers : References) (formula was : ℕ → Bool) (touched members : List ℕ) (marks : List Bool) (n : ℕ)
    (below : (c d : ℕ) → refers c d ≡ true → d < n)
    (heads : (c d : ℕ) → refers c d ≡ true → c < n)
    (has : (c d : ℕ) → refers c d ≡ true → formula c ≡ true)
    (outside_yes : (c : ℕ) → (InRegion refers touched c → ⊥) → was c ≡ true → IsCyclic refers c)
    (outside_no : (c : ℕ) → (InRegion refers touched c → ⊥) → IsCyclic refers c → was c ≡ true)
    (m : Marked marks members) (long : length marks ≡ n)
    (sound : (c : ℕ) → In members c → InRegion refers touched c)
    (complete : (c : ℕ) → InRegion refers touched c → In members c)
    (left level order starts cyclic : List ℕ) (plain : List Bool) (noted : IsPlain formula plain touched)
    (ended : Levelling refers (is_pending formula was marks) (is_frame formula marks) n (length order) (length order)
    (length order) (length starts) left level order)
    (levels : Levels starts order level)
    (whole : get_or starts (length starts - 1) 0 ≡ length order)
    (held : cyclic ≡ filter (is_held formula left) members) where
  in_table : (c : ℕ) → get_or marks c false ≡ true → c < n
  in_table c t = subst (λ x. c < x) long (marked_below marks members m c (sym (m.same c) ∙ t))

  outside : (c : ℕ) → get_or marks c false ≡ false → InRegion refers touched c → ⊥
  outside c f r = not_both (get_or marks c false) (m.same c ∙ complete c r) f

  was_yes : (c : ℕ) → c < n → get_or marks c false ≡ false → was c ≡ true → IsCyclic refers c
  was_yes c lt f w = outside_yes c (outside c f) w

  was_no : (c : ℕ) → c < n → get_or marks c false ≡ false → IsCyclic refers c → was c ≡ true
  was_no c lt f cyc = outside_no c (outside c f) cyc

  marked : (c : ℕ) → InRegion refers touched c → get_or marks c false ≡ true
  marked c r = m.same c ∙ complete c r

  in_frame : (c : ℕ) → InRegion refers touched c → formula c ≡ true → is_frame formula marks c ≡ true
  in_frame c r f = rw (marked c r, f) refl

  not_cyclic : (c : ℕ) → In order c → IsCyclic refers c → ⊥
  not_cyclic = ended_not_cyclic refers formula was marks n below heads has in_table was_yes was_no (length starts)
      left level order ended

  is_cyclic : (c : ℕ) → is_frame formula marks c ≡ true → list_any (eqb c) order ≡ false → IsCyclic refers c
  is_cyclic = ended_cyclic refers formula was marks n below heads has in_table was_yes was_no (length starts) left
      level order ended

  work_in : (c : ℕ) → In order c → IsFrame refers formula touched c
  work_in c i =
      let f = ended.framed c i in (
        sound c (sym (m.same c) ∙ and_true_left (get_or marks c false) (formula c) f),
        and_true_right (get_or marks c false) (formula c) f,
        not_cyclic c i,
      )

  in_work : (c : ℕ) → IsFrame refers formula touched c → In order c
  in_work c w =
      ⊎_elim (λ i. i) (λ o. absurd (w.2 (is_cyclic c (in_frame c w.0 w.1) o))) (bool_cases (list_any (eqb c) order))

  depth : (c : ℕ) → In order c → IsDepth refers (IsFrame refers formula touched) c (get_or level c 0)
  depth c i =
      IsDepth-same refers (In order) (IsFrame refers formula touched) work_in in_work c (get_or level c 0)
      (ended_depth refers formula was marks n below heads has in_table was_yes was_no (length starts) left level
      order ended c i)

  in_level : (j c : ℕ) → suc j < length starts
      → list_any (eqb c) (slice_range order (get_or starts j 0) (get_or starts (suc j) 0)) ≡ true
      → In order c × (get_or level c 0 ≡ suc j)
  in_level j c lt h =
      let q = in-range_place order (get_or starts j 0) (get_or starts (suc j) 0) c h in (
        subst (λ x. In order x) q.4 (in-get_or order q.0 0 q.3),
        subst (λ x. get_or level x 0 ≡ suc j) q.4 (levels.each j q.0 lt q.1 q.2),
      )

  left_is : (c : ℕ) → is_frame formula marks c ≡ true
      → get_or left c 0 ≡ cells_left refers (is_pending formula was marks) order n c
  left_is c f = ended.counted c f
      ∙ ap (λ xs. cells_left refers (is_pending formula was marks) xs n c) (take_all (length order) order (omega arith))

  counts : (c : ℕ) → is_frame formula marks c ≡ true
      → IsCount (λ d. (refers c d ≡ true) × IsCyclic refers d) (get_or left c 0)
  counts c f =
      let pending : ℕ → Bool = is_pending formula was marks in
      let r = listing (λ d. refers c d && waiting pending order d) n in (
        r.0,
        r.1,
        (λ d i.
            let s = r.2 d i in
            let ref : refers c d ≡ true = and_true_left (refers c d) (waiting pending order d) s.1 in
            let w : waiting pending order d ≡ true = and_true_right (refers c d) (waiting pending order d) s.1 in
            let p : pending d ≡ true = and_true_left (pending d) (not (list_any (eqb d) order)) w in
            let absent : list_any (eqb d) order ≡ false =
            not_true (list_any (eqb d) order) (and_true_right (pending d) (not (list_any (eqb d) order)) w) in (
              ref,
              ⊎_elim
                  (λ (t : get_or marks d false ≡ true). is_cyclic d (rw t (rw t at p)) absent)
                  (λ (o : get_or marks d false ≡ false). was_yes d s.0 o (rw o at p))
                  (bool_cases (get_or marks d false)),
            )),
        (λ d s.
            let lt = below c d s.0 in
            let absent : list_any (eqb d) order ≡ false =
            ⊎_elim (λ i. absurd (not_cyclic d i s.1)) (λ o. o) (bool_cases (list_any (eqb d) order)) in
            let p : pending d ≡ true =
            ⊎_elim (λ t. t)
            (λ o. absurd (calm refers formula was marks n below heads has in_table was_yes was_no (length starts)
            left level order ended d lt o s.1))
            (bool_cases (pending d)) in
            r.3 d lt (rw (s.0, p, absent) refl)),
        r.4 ∙ sym (left_is c f),
      )

  held_parts : (c : ℕ) → In cyclic c → (list_any (eqb c) members && is_held formula left c) ≡ true
  held_parts c i = sym (in-filter (is_held formula left) members c) ∙ (ap (λ xs. list_any (eqb c) xs) (sym held) ∙ i)

  found : Found
  found = record { members = members; order = order; starts = starts; left = left; plain = plain; cyclic = cyclic }

  -- a cell of the queue is in the part of its level
  place_in_level : (c : ℕ) → In order c
      → (0 < get_or level c 0) × (get_or level c 0 ≤ length starts - 1)
      × In (slice_range order (get_or starts (get_or level c 0 - 1) 0) (get_or starts (get_or level c 0) 0)) c
  place_in_level c i =
      let q = place_of order c i in
      let q_lt = q.1 in
      let some : 0 < length starts =
      ⊎_elim (λ lt. lt) (λ none.
      absurd (let e = get_or_past starts (length starts - 1) 0 (omega arith) in omega arith))
      (cases_lt 0 (length starts)) in
      let l = level_of_place starts order level levels (length starts - 1) q.0 (omega arith) (omega arith) in
      let j : ℕ = l.0 in
      let j_le = l.1 in
      let at = levels.each j q.0 (omega arith) l.2 l.3 in
      let is : get_or level c 0 ≡ suc j = subst (λ x. get_or level x 0 ≡ suc j) q.2 at in
      let before : j ≡ get_or level c 0 - 1 = omega arith in
      let here : list_any (eqb c) (slice_range order (get_or starts j 0) (get_or starts (suc j) 0)) ≡ true =
      subst (λ x. list_any (eqb x) (slice_range order (get_or starts j 0) (get_or starts (suc j) 0)) ≡ true) q.2
      (in-range_at order (get_or starts j 0) (get_or starts (suc j) 0) q.0 l.2 l.3 q.1) in (
        omega arith,
        omega arith,
        subst (λ x. list_any (eqb c) (slice_range order (get_or starts x 0) (get_or starts (get_or level c 0) 0))
            ≡ true) before
            (subst (λ x. list_any (eqb c) (slice_range order (get_or starts j 0) (get_or starts x 0)) ≡ true)
            (sym is) here),
      )

  level_at : (k c : ℕ) → 0 < k → k ≤ length starts - 1
      → list_any (eqb c) (slice_range order (get_or starts (k - 1) 0) (get_or starts k 0)) ≡ true
      → In order c × (get_or level c 0 ≡ k)
  level_at k c some le h =
      let is : suc (k - 1) ≡ k = omega arith in
      let h2 = subst (λ x. list_any (eqb c) (slice_range order (get_or starts (k - 1) 0) (get_or starts x 0)) ≡ true)
      (sym is) h in
      let i = in_level (k - 1) c (omega arith) h2 in
      (i.0, i.1 ∙ is)

  pub is_found : IsFound refers formula touched
      (record { members = members; order = order; starts = starts; left = left; plain = plain; cyclic = cyclic })
  is_found = record {
    region_sound = sound;
    region_complete = complete;
    members_once = m.once;
    level_sound = λ k c some le h.
        let i = level_at k c some le h in
        (work_in c i.0, subst (λ x. IsDepth refers (IsFrame refers formula touched) c x) i.1 (depth c i.0));
    level_complete = λ k c w d.
        let i = in_work c w in
        let same : get_or level c 0 ≡ k =
        IsDepth-unique refers (IsFrame refers formula touched) c (get_or level c 0) k (depth c i) d in
        let p = place_in_level c i in
        let some = p.0 in
        let le = p.1 in (
          omega (arith, some, same),
          omega (arith, le, same),
          subst (λ x. In (slice_range order (get_or starts (x - 1) 0) (get_or starts x 0)) c) same p.2,
        );
    level_some = λ k some le.
        let is : suc (k - 1) ≡ k = omega arith in
        let up : get_or starts (k - 1) 0 < get_or starts k 0 =
        subst (λ x. get_or starts (k - 1) 0 < get_or starts x 0) is (levels.rises (k - 1) (omega arith)) in
        let top = levels.inside k (omega arith) in
        let i = in-range_at order (get_or starts (k - 1) 0) (get_or starts k 0) (get_or starts (k - 1) 0)
        (omega arith) up (omega arith) in
        let p = place_of (slice_range order (get_or starts (k - 1) 0) (get_or starts k 0))
        (get_or order (get_or starts (k - 1) 0) 0) i in
        let lt = p.1 in omega arith;
    level_once = λ k. distinct-range order (get_or starts (k - 1) 0) (get_or starts k 0) ended.queued.once;
    frame_complete = λ c w.
        let p = place_in_level c (in_work c w) in (get_or level c 0, p.0, p.1, p.2);
    falls = λ k c d some le h r w.
        let i = level_at k c some le h in
        let at = i.1 in
        ⊎_elim
        (λ f.
        let p = place_in_level d f.0 in
        let lt = f.1 in
        (get_or level d 0, p.0, omega (arith, lt, at), p.2))
        (λ off. absurd (not_both (is_pending formula was marks d)
        (frame_pending formula was marks d (in_frame d w.0 w.1)) off))
        (ended.falls c d i.0 r);
    cyclic_sound = λ c i.
        let parts = held_parts c i in
        let member = and_true_left (list_any (eqb c) members) (is_held formula left c) parts in
        let h = and_true_right (list_any (eqb c) members) (is_held formula left c) parts in
        let f = and_true_left (formula c) (not (eqb (get_or left c 0) 0)) h in
        let nz = not_true (eqb (get_or left c 0) 0) (and_true_right (formula c) (not (eqb (get_or left c 0) 0)) h) in
        let r = sound c member in
        let absent : list_any (eqb c) order ≡ false =
        ⊎_elim (λ o. absurd (not_both (eqb (get_or left c 0) 0)
        (eq-eqb (get_or left c 0) 0 (ended.queued.none_left c o)) nz)) (λ o. o)
        (bool_cases (list_any (eqb c) order)) in
        (r, f, is_cyclic c (in_frame c r f) absent);
    cyclic_complete = λ c r f cyc.
        let nz : eqb (get_or left c 0) 0 ≡ false =
        ⊎_elim (λ z. absurd (not_cyclic c (ended.levelled c (in_frame c r f) (eqb-true (get_or left c 0) 0 z)) cyc))
        (λ o. o) (bool_cases (eqb (get_or left c 0) 0)) in
        let member : list_any (eqb c) members ≡ true = complete c r in
        subst (λ xs. In xs c) (sym held) (in-filter (is_held formula left) members c ∙ rw (member, f, nz) refl);
    cyclic_once = subst (λ xs. IsDistinct eqb xs) (sym held) (distinct-filter (is_held formula left) members m.once);
    left_counts = λ c r f. counts c (in_frame c r f);
    left_formula = λ c r.
        ap (λ b. b && not (get_or plain c false)) (complete c r)
        ∙ (ap not (plain_known refers formula plain touched has noted c r) ∙ not_not (formula c));
  }
