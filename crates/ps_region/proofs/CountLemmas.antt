-- Lemmas on `count_below`.
use Rattle.std.proofs.Common.{◌≡◌, ◌≢◌, ℕ, suc, zero, ◌+◌, ◌<◌, ◌≤◌, Bool, true, false, not, ◌&&◌}
use Rattle.std.proofs.Common.{List, [], ◌∷◌, ◌++◌, length, refl, sym, ap, ◌∙◌, arith, ⊎_elim, eqb, eqb-true}
use Rattle.std.proofs.Common.{eq-eqb, subst, get_or, set, add-one}
use Rattle.std.proofs.lemmas.Bool.{cases_eq}
use Rattle.std.proofs.lemmas.List.{get_or-set_same, get_or-set_other}
use Rattle.std.proofs.lemmas.Map.Keys.{IsDistinct-cons}
use Rattle.std.specs.List.{list_any, IsDistinct}
use Rattle.ps_grid.specs.Chains.{References, In}
use Rattle.ps_region.specs.Inside.Counts.{as_one, count_below, waiting, cells_left}
use Rattle.ps_region.proofs.CellListLemmas.{bool_cases, or_cases, or_true, all_absent, in-push_same, in-push_other}

pub count_below-same : (p q : ℕ → Bool) (n : ℕ) → ((k : ℕ) → k < n → p k ≡ q k) → count_below p n ≡ count_below q n
unfolding count_below
count_below-same p q zero same = refl
count_below-same p q (suc n) same =
    let ih = count_below-same p q n (λ k lt. same k (omega arith)) in
    let here : p n ≡ q n = same n (omega arith) in cc

pub count_below-le : (p : ℕ → Bool) (n : ℕ) → count_below p n ≤ n
unfolding count_below
count_below-le p zero = omega arith
count_below-le p (suc n) =
    let ih = count_below-le p n in
    ⊎_elim (λ t. rw t (omega arith)) (λ f. rw f (omega arith)) (bool_cases (p n))

-- one cell that passed and does not any more
pub count_below-clear : (p q : ℕ → Bool) (h n : ℕ) → h < n → p h ≡ true → q h ≡ false → ((k : ℕ) → k ≢ h → p k ≡ q k)
    → count_below p n ≡ count_below q n + 1
unfolding count_below
count_below-clear p q h zero lt passed gone same = absurd (omega arith)
count_below-clear p q h (suc n) lt passed gone same =
    ⊎_elim
    (λ e.
    let pn : p n ≡ true = subst (λ x. p x ≡ true) (sym e) passed in
    let qn : q n ≡ false = subst (λ x. q x ≡ false) (sym e) gone in
    let below = count_below-same p q n (λ k l. same k (omega arith)) in rw (pn, qn) (omega arith))
    (λ ne.
    let ih = count_below-clear p q h n (omega arith) passed gone same in
    let here = same n ne in rw here (omega arith))
    (cases_eq n h)

-- a count above 0 has a cell that passes
pub count_below-some : (p : ℕ → Bool) (n : ℕ) → 0 < count_below p n → (k : ℕ) × (k < n) × (p k ≡ true)
unfolding count_below
count_below-some p zero some = absurd (omega arith)
count_below-some p (suc n) some =
    ⊎_elim
    (λ t. (n, (omega arith), t))
    (λ f.
    let before : 0 < count_below p n = (let s = rw f at some in omega arith) in
    let r = count_below-some p n before in (r.0, (let lt = r.1 in omega arith), r.2))
    (bool_cases (p n))

-- and at 0 none passes
pub count_below-none : (p : ℕ → Bool) (n : ℕ) → count_below p n ≡ 0 → (k : ℕ) → k < n → p k ≡ false
unfolding count_below
count_below-none p zero none k lt = absurd (omega arith)
count_below-none p (suc n) none k lt =
    ⊎_elim
    (λ t. absurd (let s = rw t at none in omega arith))
    (λ f. ⊎_elim
    (λ e. subst (λ x. p x ≡ false) (sym e) f)
    (λ ne. count_below-none p n (let s = rw f at none in omega arith) k (omega arith))
    (cases_eq k n))
    (bool_cases (p n))

pub and_true_left : (a b : Bool) → (a && b) ≡ true → a ≡ true
and_true_left true b h = refl
and_true_left false b h = h

pub and_true_right : (a b : Bool) → (a && b) ≡ true → b ≡ true
and_true_right true b h = h
and_true_right false b h = absurd (let f : false ≡ true = h in cc)

-- one more cell is released
pub cells_left-more : (refers : References) (p : ℕ → Bool) (done : List ℕ) (n c h : ℕ) → h < n → p h ≡ true
    → list_any (eqb h) done ≡ false
    → cells_left refers p done n c ≡ cells_left refers p (done ++ h ∷ []) n c + as_one (refers c h)
cells_left-more refers p done n c h lt ph new =
    let same : (k : ℕ) → k ≢ h → (refers c k && waiting p done k) ≡ (refers c k && waiting p (done ++ h ∷ []) k) =
    λ k ne. rw (in-push_other done k h ne) in
    ⊎_elim
    (λ r. rw r (count_below-clear (λ d. refers c d && waiting p done d)
    (λ d. refers c d && waiting p (done ++ h ∷ []) d) h n lt
    (rw (r, ph, new))
    (rw (r, ph, in-push_same done h))
    same))
    (λ r.
    let e = count_below-same (λ d. refers c d && waiting p done d) (λ d. refers c d && waiting p (done ++ h ∷ []) d) n
    (λ k l. ⊎_elim (λ eq.
    subst (λ x. (refers c x && waiting p done x) ≡ (refers c x && waiting p (done ++ h ∷ []) x)) (sym eq) (rw r))
    (λ ne. same k ne) (cases_eq k h)) in
    rw r (omega arith))
    (bool_cases (refers c h))

pub not_true : (a : Bool) → not a ≡ true → a ≡ false
not_true true h = sym h
not_true false h = refl

pub and_false : (a : Bool) → (a && false) ≡ false
and_false true = refl
and_false false = refl

pub count_below-more : (p : ℕ → Bool) (n : ℕ) → count_below p (n + 1) ≡ count_below p n + as_one (p n)
unfolding count_below
count_below-more p n = rw add-one

-- a count that goes up by one at a cell
pub left_yes : (f : ℕ → Bool) (walked left left2 : List ℕ) (e : ℕ)
    → ((q : ℕ) → get_or left2 q 0 ≡ get_or left q 0 + as_one (list_any (eqb q) walked && f q))
    → f e ≡ true → list_any (eqb e) walked ≡ false → e < length left2
    → (q : ℕ) → get_or (set left2 e (get_or left2 e 0 + 1)) q 0 ≡ get_or left q 0
    + as_one (list_any (eqb q) (walked ++ e ∷ []) && f q)
left_yes f walked left left2 e so_far yes_f new lt q =
    ⊎_elim
    (λ (eq : q ≡ e). subst
    (λ x. get_or (set left2 e (get_or left2 e 0 + 1)) x 0 ≡ get_or left x 0
    + as_one (list_any (eqb x) (walked ++ e ∷ []) && f x)) (sym eq)
    (let o = rw new at (so_far e) in
    rw (get_or-set_same left2 e (get_or left2 e 0 + 1) 0 lt, in-push_same walked e, yes_f) (omega arith)))
    (λ (ne : q ≢ e). rw (get_or-set_other left2 e q (get_or left2 e 0 + 1) 0 ne, in-push_other walked q e ne)
    (so_far q))
    (cases_eq q e)

pub left_no : (f : ℕ → Bool) (walked left left2 : List ℕ) (e : ℕ)
    → ((q : ℕ) → get_or left2 q 0 ≡ get_or left q 0 + as_one (list_any (eqb q) walked && f q))
    → f e ≡ false
    → (q : ℕ) → get_or left2 q 0 ≡ get_or left q 0 + as_one (list_any (eqb q) (walked ++ e ∷ []) && f q)
left_no f walked left left2 e so_far no_f q =
    ⊎_elim
    (λ (eq : q ≡ e). subst
    (λ x. get_or left2 x 0 ≡ get_or left x 0 + as_one (list_any (eqb x) (walked ++ e ∷ []) && f x)) (sym eq)
    (let o = rw no_f at (so_far e) in
    rw no_f (rw (and_false (list_any (eqb e) walked)) at o
    ∙ ap (λ b. get_or left e 0 + as_one b) (sym (and_false (list_any (eqb e) (walked ++ e ∷ [])))))))
    (λ (ne : q ≢ e). rw (in-push_other walked q e ne) (so_far q))
    (cases_eq q e)

-- what is counted of one more cell
pub left_more : (f : ℕ → Bool) (walked left left2 left3 : List ℕ) (e : ℕ)
    → ((q : ℕ) → get_or left2 q 0 ≡ get_or left q 0 + as_one (list_any (eqb q) walked && f q))
    → ((q : ℕ) → get_or left3 q 0 ≡ get_or left2 q 0 + as_one (list_any (eqb q) (e ∷ []) && f q))
    → list_any (eqb e) walked ≡ false
    → (q : ℕ) → get_or left3 q 0 ≡ get_or left q 0 + as_one (list_any (eqb q) (walked ++ e ∷ []) && f q)
left_more f walked left left2 left3 e so_far one new q =
    ⊎_elim
    (λ (eq : q ≡ e). subst
    (λ x. get_or left3 x 0 ≡ get_or left x 0 + as_one (list_any (eqb x) (walked ++ e ∷ []) && f x)) (sym eq)
    (let o = rw new at (so_far e) in
    let h = rw (in-push_same [] e) at (one e) in
    rw (in-push_same walked e) (omega (arith, o, h))))
    (λ (ne : q ≢ e).
    let h = rw (in-push_other [] q e ne) at (one q) in
    let o = so_far q in
    rw (in-push_other walked q e ne) (omega (arith, o, h)))
    (cases_eq q e)

-- one more cell is looked at, a pending one: it counts if q refers to it
pub cells_left-look : (refers : References) (p : ℕ → Bool) (n q : ℕ) → p n ≡ true
    → cells_left refers p [] (n + 1) q ≡ cells_left refers p [] n q + as_one (refers q n)
cells_left-look refers p n q pn =
    let m = count_below-more (λ x. refers q x && waiting p [] x) n in
    ⊎_elim
    (λ (r : refers q n ≡ true). let m2 = rw (r, pn) at m in rw r m2)
    (λ (r : refers q n ≡ false). let m2 = rw r at m in rw r m2)
    (bool_cases (refers q n))

pub cells_left-pass : (refers : References) (p : ℕ → Bool) (n q : ℕ) → p n ≡ false
    → cells_left refers p [] (n + 1) q ≡ cells_left refers p [] n q
cells_left-pass refers p n q pn =
    let m = count_below-more (λ x. refers q x && waiting p [] x) n in
    ⊎_elim
    (λ (r : refers q n ≡ true). let m2 = rw (r, pn) at m in omega arith)
    (λ (r : refers q n ≡ false). let m2 = rw r at m in omega arith)
    (bool_cases (refers q n))

-- the cells that a count counts
pub listing : (p : ℕ → Bool) (n : ℕ)
    → (ds : List ℕ) × IsDistinct eqb ds × ((d : ℕ) → In ds d → (d < n) × (p d ≡ true))
    × ((d : ℕ) → d < n → p d ≡ true → In ds d) × (length ds ≡ count_below p n)
unfolding count_below IsDistinct
listing p zero = ([], tt, (λ d i. absurd (let f : false ≡ true = i in cc)), (λ d lt t. absurd (omega arith)), refl)
listing p (suc n) =
    let r = listing p n in
    ⊎_elim
    (λ (t : p n ≡ true).
    let absent : list_any (eqb n) r.0 ≡ false =
    ⊎_elim (λ i. absurd (let lt = (r.2 n i).0 in omega arith)) (λ f. f) (bool_cases (list_any (eqb n) r.0)) in (
      n ∷ r.0,
      IsDistinct-cons eqb n r.0 (all_absent n r.0 absent) r.1,
      (λ d i. ⊎_elim
          (λ e. let s = eqb-true d n e in ((omega arith), subst (λ x. p x ≡ true) (sym s) t))
          (λ old. let s = r.2 d old in ((let lt = s.0 in omega arith), s.1))
          (or_cases (eqb d n) (list_any (eqb d) r.0) i)),
      (λ d lt pd. ⊎_elim
          (λ (e : d ≡ n). rw (eq-eqb d n e) refl)
          (λ (ne : d ≢ n). rw (r.3 d (omega arith) pd) (or_true (eqb d n)))
          (cases_eq d n)),
      (let l = r.4 in rw t (omega arith)),
    ))
    (λ (f : p n ≡ false). (
      r.0,
      r.1,
      (λ d i. let s = r.2 d i in ((let lt = s.0 in omega arith), s.1)),
      (λ d lt pd. r.3 d (⊎_elim
          (λ (e : d ≡ n). absurd (let g : true ≡ false = sym pd ∙ subst (λ x. p x ≡ false) (sym e) f in cc))
          (λ (ne : d ≢ n). omega arith)
          (cases_eq d n)) pd),
      (let l = r.4 in rw f (omega arith)),
    ))
    (bool_cases (p n))

-- a reference that is counted only if it is listed is counted in any case, as each reference is listed
pub listed_alone : (a m r : Bool) → (r ≡ true → a ≡ true) → (a && (m && r)) ≡ (m && r)
listed_alone a m true lists = ap (λ b. b && (m && true)) (lists refl)
listed_alone a m false lists = ap (λ b. a && b) (and_false m) ∙ (and_false a ∙ sym (and_false m))
