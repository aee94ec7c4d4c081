-- The cells get their levels one after another: the invariant of the walk along the queue, over plain lists.
use Rattle.std.proofs.Common.{◌≡◌, ℕ, suc, zero, ◌+◌, ◌-◌, ◌<◌, ◌≤◌, Bool, true, false, ◌&&◌, ◌⊎◌}
use Rattle.std.proofs.Common.{inl, inr, List, [], ◌∷◌, ◌++◌, length, sym, ap, ◌∙◌, arith, ⊎_elim, eqb}
use Rattle.std.proofs.Common.{eq-eqb, subst, get_or, take}
use Rattle.std.proofs.lemmas.Bool.{cases_eq, cases_lt}
use Rattle.std.proofs.lemmas.List.{get_or_append_left, take_more, take-append-le, length-append, length-take-le}
use Rattle.std.proofs.lemmas.List.{get_or-take, get_or_push, length_push}
use Rattle.std.proofs.lemmas.Map.Steps.{length-le_from_distinct_below}
use Rattle.std.proofs.lemmas.Map.Keys.{apart_from_distinct}
use Rattle.std.specs.List.{list_any}
use Rattle.ps_grid.specs.Chains.{References, In}
use Rattle.ps_region.specs.Inside.Counts.{waiting, cells_left, Queued, Released}
use Rattle.ps_region.specs.Inside.LevelWalk.{Levelling, Levels, is_frame, is_pending}
use Rattle.ps_region.proofs.CellListLemmas.{bool_cases, in-get_or, place_of, in-take_apart}
use Rattle.ps_region.proofs.CountLemmas.{cells_left-more, count_below-none}
use Rattle.ps_region.proofs.ReleaseLemmas.{in-grows, and_false}

pub not_both : (a : Bool) → a ≡ true → a ≡ false → ⊥
not_both a t f = (let e : true ≡ false = sym t ∙ f in cc)

-- of a cell with no reference left, each reference is done or was never pending
none_waiting : (refers : References) (pending : ℕ → Bool) (done : List ℕ) (n c d : ℕ)
    → cells_left refers pending done n c ≡ 0 → d < n → refers c d ≡ true
    → In done d ⊎ (pending d ≡ false)
none_waiting refers pending done n c d none lt r =
    let off : (refers c d && waiting pending done d) ≡ false =
    count_below-none (λ e. refers c e && waiting pending done e) n none d lt in
    ⊎_elim
    (λ (p : pending d ≡ true). ⊎_elim
    (λ i. inl i)
    (λ (o : list_any (eqb d) done ≡ false).
    absurd (let on : (refers c d && waiting pending done d) ≡ true = rw (r, p, o) in
    not_both (refers c d && waiting pending done d) on off))
    (bool_cases (list_any (eqb d) done)))
    (λ p. inr p)
    (bool_cases (pending d))

pub frame_pending : (formula was : ℕ → Bool) (marks : List Bool) (c : ℕ) → is_frame formula marks c ≡ true
    → is_pending formula was marks c ≡ true
frame_pending formula was marks c h =
    ⊎_elim
    (λ (m : get_or marks c false ≡ true). rw m (rw m at h))
    (λ (m : get_or marks c false ≡ false). absurd (let f : false ≡ true = rw m at h in cc))
    (bool_cases (get_or marks c false))

pub frame_back : (refers : References) (formula : ℕ → Bool) (marks : List Bool)
    → ((c d : ℕ) → refers c d ≡ true → get_or marks d false ≡ true → get_or marks c false ≡ true)
    → ((c d : ℕ) → refers c d ≡ true → formula c ≡ true)
    → (c d : ℕ) → refers c d ≡ true → is_frame formula marks d ≡ true → is_frame formula marks c ≡ true
frame_back refers formula marks closed has c d r h =
    let marked : get_or marks d false ≡ true =
    ⊎_elim (λ m. m) (λ (m : get_or marks d false ≡ false). absurd (let f : false ≡ true = rw m at h in cc))
    (bool_cases (get_or marks d false)) in
    rw (closed c d r marked) (has c d r)

module _ (refers : References) (pending frame : ℕ → Bool) (n : ℕ)
    (below : (c d : ℕ) → refers c d ≡ true → d < n)
    (frame_pending : (c : ℕ) → frame c ≡ true → pending c ≡ true)
    (back : (c d : ℕ) → refers c d ≡ true → frame d ≡ true → frame c ≡ true) where
  pub Levelling-start : (left level order : List ℕ) → Queued left order
      → ((c : ℕ) → frame c ≡ true → get_or left c 0 ≡ cells_left refers pending [] n c)
      → ((c : ℕ) → frame c ≡ true → get_or left c 0 ≡ 0 → In order c)
      → ((c : ℕ) → In order c → frame c ≡ true)
      → ((c : ℕ) → In order c → get_or level c 0 ≡ 1)
      → Levelling refers pending frame n 0 0 (length order) 1 left level order
  Levelling-start left level order queued counted levelled framed first = record {
    started = omega arith;
    reached = omega arith;
    within = omega arith;
    queued = queued;
    counted = counted;
    levelled = levelled;
    framed = framed;
    current = λ q le lt. first (get_or order q 0) (in-get_or order q 0 lt);
    before = λ q lt. let f = first (get_or order q 0) (in-get_or order q 0 lt) in omega arith;
    after = λ q le lt. absurd (omega arith);
    some = λ c i. let f = first c i in omega arith;
    falls = λ c d i r.
        ⊎_elim (λ e. absurd (let f : false ≡ true = e in cc)) (λ p. inr p)
        (none_waiting refers pending [] n c d (sym (counted c (framed c i)) ∙ queued.none_left c i) (below c d r) r);
    next = λ c m i two. absurd (let f = first c i in omega arith);
  }

  -- a level is walked: the cells after it are the next level
  pub Levelling-level : (start end k : ℕ) (left level order : List ℕ)
      → Levelling refers pending frame n start end end k left level order
      → Levelling refers pending frame n end end (length order) (k + 1) left level order
  Levelling-level start end k left level order s = record {
    started = omega arith;
    reached = s.within;
    within = omega arith;
    queued = s.queued;
    counted = s.counted;
    levelled = s.levelled;
    framed = s.framed;
    current = λ q le lt. let a = s.after q le lt in omega arith;
    before = λ q lt. ⊎_elim
        (λ b. let f = s.before q b in omega arith)
        (λ a. let f = s.after q a lt in omega arith)
        (cases_lt q end);
    after = λ q le lt. absurd (omega arith);
    some = s.some;
    falls = s.falls;
    next = s.next;
  }

  -- a cell that refers to the next one of the queue has a count above 0
  pub Levelling-lowers : (start head end k : ℕ) (left level order : List ℕ)
      → Levelling refers pending frame n start head end k left level order
      → head < end → (c : ℕ) → refers c (get_or order head 0) ≡ true → 0 < get_or left c 0
  Levelling-lowers start head end k left level order s lt c r =
      let d : ℕ = get_or order head 0 in
      let inside : head < length order = (let w = s.within in omega arith) in
      let d_frame : frame d ≡ true = s.framed d (in-get_or order head 0 inside) in
      let d_new : list_any (eqb d) (take head order) ≡ false = in-take_apart order head s.queued.once inside in
      ⊎_elim
      (λ (z : get_or left c 0 ≡ 0). ⊎_elim
      (λ i. absurd (not_both (list_any (eqb d) (take head order)) i d_new))
      (λ p. absurd (not_both (pending d) (frame_pending d d_frame) p))
      (none_waiting refers pending (take head order) n c d (sym (s.counted c (back c d r d_frame)) ∙ z) (below c d r)
      r))
      (λ nz. omega arith)
      (cases_eq (get_or left c 0) 0)

  -- one cell of the queue is walked
  pub Levelling-step : (listed : List ℕ) (start head end k : ℕ) (left level order left2 level2 order2 : List ℕ)
      → Levelling refers pending frame n start head end k left level order
      → head < end → length left ≡ n
      → ((c : ℕ) → refers c (get_or order head 0) ≡ true → In listed c)
      → Released refers (get_or order head 0) (k + 1) listed left level order left2 level2 order2
      → Levelling refers pending frame n start (head + 1) end k left2 level2 order2
  Levelling-step listed start head end k left level order left2 level2 order2 s lt long lists rel =
      let d : ℕ = get_or order head 0 in
      let inside : head < length order = (let w = s.within in omega arith) in
      let d_in : In order d = in-get_or order head 0 inside in
      let d_frame : frame d ≡ true = s.framed d d_in in
      let d_new : list_any (eqb d) (take head order) ≡ false = in-take_apart order head s.queued.once inside in
      let d_lt : d < n = (let b = s.queued.below d d_in in omega arith) in
      let up : (c : ℕ) → In order c → In order2 c = in-grows order order2 rel.grows.0 rel.grows.1 in
      let at : (q : ℕ) → q < length order → get_or order2 q 0 ≡ get_or order q 0 =
      λ q l. ap (λ xs. get_or xs q 0) rel.grows.1 ∙ get_or_append_left order rel.grows.0 0 q l in
      let longer : length order ≤ length order2 =
      (let e = ap length rel.grows.1 in let f = length-append order rel.grows.0 in omega arith) in
      let level_at : (q : ℕ) → q < length order
      → get_or level2 (get_or order2 q 0) 0 ≡ get_or level (get_or order q 0) 0 =
      λ q l. ap (λ c. get_or level2 c 0) (at q l) ∙ rel.kept (get_or order q 0) (in-get_or order q 0 l) in
      let done : take (head + 1) order2 ≡ take head order ++ d ∷ [] =
      ap (take (head + 1)) rel.grows.1
      ∙ (take-append-le (head + 1) order rel.grows.0 (omega arith) ∙ take_more order head 0 inside) in
      let counted2 : (c : ℕ) → frame c ≡ true
      → get_or left2 c 0 ≡ cells_left refers pending (take (head + 1) order2) n c =
      λ c f.
      (let was = s.counted c f in
      let less = cells_left-more refers pending (take head order) n c d d_lt (frame_pending d d_frame) d_new in
      let o = rel.counted c in
      rw done (⊎_elim
      (λ (r : refers c d ≡ true). let o2 = rw (r, lists c r) at o in let l2 = rw r at less in omega arith)
      (λ (r : refers c d ≡ false). let o2 = rw (r, and_false (list_any (eqb c) listed)) at o in let l2 =
      rw r at less in omega arith)
      (bool_cases (refers c d)))) in
      let framed2 : (c : ℕ) → In order2 c → frame c ≡ true =
      λ c i. ⊎_elim (λ old. s.framed c old) (λ new. back c d new.0 d_frame) (rel.fresh c i) in
      let before2 : (q : ℕ) → q < end → get_or level2 (get_or order2 q 0) 0 ≤ k =
      λ q l. (let b = s.before q l in let w = s.within in let e = level_at q (omega arith) in omega arith) in
      record {
        started = let w = s.started in omega arith;
        reached = omega arith;
        within = let w = s.within in omega arith;
        queued = rel.queued;
        counted = counted2;
        levelled = λ c f z. ⊎_elim
            (λ r. rel.found c (lists c r) r z)
            (λ (r : refers c d ≡ false).
            let o = rw (r, and_false (list_any (eqb c) listed)) at (rel.counted c) in
            up c (s.levelled c f (omega arith)))
            (bool_cases (refers c d));
        framed = framed2;
        current = λ q le l. let w = s.within in level_at q (omega arith) ∙ s.current q le l;
        before = before2;
        after = λ q le l. ⊎_elim
            (λ old. level_at q old ∙ s.after q le old)
            (λ new.
            let c : ℕ = get_or order2 q 0 in
            ⊎_elim
            (λ i.
            let p = place_of order c i in
            let p_lt = p.1 in
            let same : get_or order2 p.0 0 ≡ c = at p.0 p.1 ∙ p.2 in
            absurd (not_both (eqb (get_or order2 p.0 0) c) (eq-eqb (get_or order2 p.0 0) c same)
            (apart_from_distinct eqb order2 p.0 q 0 rel.queued.once (omega arith) l)))
            (λ fresh. let e = fresh.1 in omega arith)
            (rel.fresh c (in-get_or order2 q 0 l)))
            (cases_lt q (length order));
        some = λ c i. ⊎_elim
            (λ old. let e = rel.kept c old in let f = s.some c old in omega arith)
            (λ new. let e = new.1 in omega arith)
            (rel.fresh c i);
        falls = λ c e i r. ⊎_elim
            (λ old. ⊎_elim
            (λ f. inl (up e f.0, (let a = rel.kept c old in let b = rel.kept e f.0 in let g = f.1 in omega arith)))
            (λ p. inr p)
            (s.falls c e old r))
            (λ new. ⊎_elim
            (λ walked.
            let p = place_of (take (head + 1) order2) e walked in
            let p_lt = p.1 in
            let short = length-take-le (head + 1) order2 (omega arith) in
            let q_lt : p.0 < head + 1 = omega arith in
            let is : get_or order2 p.0 0 ≡ e = sym (get_or-take (head + 1) order2 p.0 0 q_lt) ∙ p.2 in
            let b = before2 p.0 (omega arith) in
            let b2 : get_or level2 e 0 ≤ k = subst (λ x. get_or level2 x 0 ≤ k) is b in
            let here = new.1 in
            inl (subst (λ x. In order2 x) is (in-get_or order2 p.0 0 (omega arith)), omega arith))
            (λ p. inr p)
            (none_waiting refers pending (take (head + 1) order2) n c e
            (sym (counted2 c (framed2 c i)) ∙ rel.queued.none_left c i) (below c e r) r))
            (rel.fresh c i);
        next = λ c m i two. ⊎_elim
            (λ old.
            let t = s.next c m old (sym (rel.kept c old) ∙ two) in
            (t.0, t.1, up t.0 t.2, rel.kept t.0 t.2 ∙ t.3))
            (λ new.
            let e = new.1 in
            let kept = rel.kept d d_in in
            let cur = s.current head s.started lt in
            (d, new.0, up d d_in, omega arith))
            (rel.fresh c i);
      }

-- the levels' places are rising numbers
pub Levels-le : (starts order level : List ℕ) → Levels starts order level → (j : ℕ) → j < length starts
    → j ≤ get_or starts j 0
Levels-le starts order level v zero lt = omega arith
Levels-le starts order level v (suc j) lt =
    let ih = Levels-le starts order level v j (omega arith) in
    let r = v.rises j lt in omega arith

-- they stay while the queue grows
pub Levels-keep : (refers : References) (d k : ℕ) (listed starts left level order left2 level2 order2 : List ℕ)
    → Levels starts order level
    → Released refers d k listed left level order left2 level2 order2 → Levels starts order2 level2
Levels-keep refers d k listed starts left level order left2 level2 order2 v rel =
    let at : (q : ℕ) → q < length order → get_or order2 q 0 ≡ get_or order q 0 =
    λ q l. ap (λ xs. get_or xs q 0) rel.grows.1 ∙ get_or_append_left order rel.grows.0 0 q l in
    let longer : length order ≤ length order2 =
    (let e = ap length rel.grows.1 in let f = length-append order rel.grows.0 in omega arith) in
    record {
      first = v.first;
      rises = v.rises;
      inside = λ j l. let i = v.inside j l in omega arith;
      each = λ j q l lo hi.
          let i = v.inside (suc j) l in
          let q_lt : q < length order = omega arith in
          ap (λ c. get_or level2 c 0) (at q q_lt)
          ∙ (rel.kept (get_or order q 0) (in-get_or order q 0 q_lt) ∙ v.each j q l lo hi);
    }

-- one more level
pub Levels-push : (starts order level : List ℕ) (m start end : ℕ) → Levels starts order level → length starts ≡ suc m
    → get_or starts m 0 ≡ start
    → start < end → end ≤ length order → ((q : ℕ) → start ≤ q → q < end → get_or level (get_or order q 0) 0 ≡ suc m)
    → Levels (starts ++ end ∷ []) order level
Levels-push starts order level m start end v count begin lt le here =
    let long : length (starts ++ end ∷ []) ≡ length starts + 1 = length_push starts end in
    let old : (j : ℕ) → j < length starts → get_or (starts ++ end ∷ []) j 0 ≡ get_or starts j 0 =
    λ j l. get_or_append_left starts (end ∷ []) 0 j l in
    let new : get_or (starts ++ end ∷ []) (suc m) 0 ≡ end = get_or_push starts end 0 (suc m) count in
    record {
      first = old 0 (omega arith) ∙ v.first;
      rises = λ j l. ⊎_elim
          (λ before. let a = old j (omega arith) in let b = old (suc j) before in let r = v.rises j before in
          omega arith)
          (λ last.
          let e : j ≡ m = omega arith in
          let a = old m (omega arith) in
          subst (λ x. get_or (starts ++ end ∷ []) x 0 < get_or (starts ++ end ∷ []) (suc x) 0) (sym e) (omega arith))
          (cases_lt (suc j) (length starts));
      inside = λ j l. ⊎_elim
          (λ before. let a = old j before in let i = v.inside j before in omega arith)
          (λ last. let e : j ≡ suc m = omega arith in
          subst (λ x. get_or (starts ++ end ∷ []) x 0 ≤ length order) (sym e) (omega arith))
          (cases_lt j (length starts));
      each = λ j q l lo hi. ⊎_elim
          (λ before.
          let a = old j (omega arith) in
          let b = old (suc j) before in
          v.each j q before (omega arith) (omega arith))
          (λ last.
          let e : j ≡ m = omega arith in
          let a = old m (omega arith) in
          let lo2 : get_or (starts ++ end ∷ []) m 0 ≤ q = subst (λ x. get_or (starts ++ end ∷ []) x 0 ≤ q) e lo in
          let hi2 : q < get_or (starts ++ end ∷ []) (suc m) 0 =
          subst (λ x. q < get_or (starts ++ end ∷ []) (suc x) 0) e hi in
          here q (omega arith) (omega arith) ∙ ap suc (sym e))
          (cases_lt (suc j) (length starts));
    }

pub Levels-more : (starts order level : List ℕ) (k start end : ℕ) → Levels starts order level → length starts ≡ k
    → 0 < k → get_or starts (k - 1) 0 ≡ start
    → start < end → end ≤ length order → ((q : ℕ) → start ≤ q → q < end → get_or level (get_or order q 0) 0 ≡ k)
    → Levels (starts ++ end ∷ []) order level
Levels-more starts order level k start end v count some begin lt le here =
    let is : k ≡ suc (k - 1) = omega arith in
    Levels-push starts order level (k - 1) start end v (count ∙ is) begin lt le (λ q lo hi. here q lo hi ∙ is)

-- a queue has at most as many cells as there are
pub Queued-le : (left order : List ℕ) → Queued left order → length order ≤ length left
Queued-le left order q = length-le_from_distinct_below order (length left) q.once q.below

-- there are at most as many levels as places in the table of counts, while the queue goes on
pub few_levels : (starts order left level : List ℕ) (head stop k : ℕ) → Levels starts order level → Queued left order
    → length starts ≡ k → 0 < k → get_or starts (k - 1) 0 ≡ head → head < stop → stop ≤ length order
    → k ≤ length left
few_levels starts order left level head stop k levels queued count some begin more within =
    let lt : k - 1 < length starts = omega (arith, some, count) in
    let le = Levels-le starts order level levels (k - 1) lt in
    let few = Queued-le left order queued in
    omega (arith, some, begin, le, more, within, few)
