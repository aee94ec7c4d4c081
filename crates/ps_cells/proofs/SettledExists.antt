-- A state has a settled assignment: a search for a cell that is ready goes on until none is.
use Rattle.std.proofs.Common.{◌≡◌, ◌≢◌, ℕ, zero, suc, ◌+◌, ◌<◌, Bool, true, false, cond, ◌⊎◌, inl, inr, refl}
use Rattle.std.proofs.Common.{sym, ap, arith, ⊎_elim, subst, nat_eq}
use Rattle.std.proofs.lemmas.Grind.{common_steps}
use Rattle.std.proofs.lemmas.Bool.{cases_eq}
use Rattle.ps_grid.specs.declared.size.TheConstants.{CELLS}
use Rattle.ps_delta.specs.State.{State}
use Rattle.ps_cells.specs.Settled.{content_of}
use Rattle.ps_eval.specs.Items.{Assignment}
use Rattle.ps_cells.specs.Settled.{refers_to, value_of, SettledAtLeastOnce}
use Rattle.ps_cells.specs.Inside.Waiting.{is_waiting, is_formula, first_value, Progress, IsReady, RefersToWaiting}
use Rattle.ps_cells.specs.Inside.Waiting.{Evaluates}
use Rattle.ps_grid.proofs.ChainLemmas.{bool_cases}
use Rattle.ps_cells.proofs.SettledValues.{true_not_false, formula_below, progress_start, progress_step}
use Rattle.ps_cells.proofs.SettledValues.{step_done, settled_at_end}

-- how many of the first m cells wait
waiting_below : Assignment → ℕ → ℕ
waiting_below v zero = 0
waiting_below v (suc m) = cond (is_waiting (v m)) (waiting_below v m + 1) (waiting_below v m)

same_waiting : (v w : Assignment) (m : ℕ) → ((d : ℕ) → d < m → is_waiting (w d) ≡ is_waiting (v d))
    → waiting_below w m ≡ waiting_below v m
unfolding waiting_below
same_waiting v w zero h = refl
same_waiting v w (suc m) h =
    let e = same_waiting v w m (λ d lt. h d (omega arith)) in
    let here = h m (omega arith) in
    rw (e, here) refl

fewer_waiting : (v w : Assignment) (c m : ℕ) → c < m → is_waiting (v c) ≡ true → is_waiting (w c) ≡ false
    → ((d : ℕ) → d ≢ c → is_waiting (w d) ≡ is_waiting (v d))
    → waiting_below w m < waiting_below v m
unfolding waiting_below
fewer_waiting v w c zero lt t f same = absurd (omega arith)
fewer_waiting v w c (suc m) lt t f same =
    ⊎_elim
    (λ (is : m ≡ c).
    let e = same_waiting v w m (λ d less. same d (omega arith)) in
    let tm : is_waiting (v m) ≡ true = subst (λ q. is_waiting (v q) ≡ true) (sym is) t in
    let fm : is_waiting (w m) ≡ false = subst (λ q. is_waiting (w q) ≡ false) (sym is) f in
    rw (tm, fm, e) (omega arith))
    (λ (ne : m ≢ c).
    let less = fewer_waiting v w c m (omega arith) t f same in
    let here = same m ne in
    rw here (by_case (is_waiting (v m)) (waiting_below w m) (waiting_below v m) less))
    (cases_eq m c)
  where
    by_case : (b : Bool) (x y : ℕ) → x < y → cond b (x + 1) x < cond b (y + 1) y
    by_case true x y lt = omega arith
    by_case false x y lt = lt

-- among the first m cells one that c refers to waits, or none does
find_held : (s : State) (v : Assignment) (c m : ℕ)
    → RefersToWaiting s v c ⊎ ((d : ℕ) → d < m → refers_to s c d ≡ true → is_waiting (v d) ≡ false)
find_held s v c zero = inr (λ d lt r. absurd (omega arith))
find_held s v c (suc m) =
    ⊎_elim (λ h. inl h)
    (λ none. ⊎_elim
    (λ r. ⊎_elim (λ t. inl (m, r, t)) (λ f. inr (more none (λ q. f))) (bool_cases (is_waiting (v m))))
    (λ f. inr (more none (λ r. absurd (true_not_false (refers_to s c m) r f))))
    (bool_cases (refers_to s c m)))
    (find_held s v c m)
  where
    more : ((d : ℕ) → d < m → refers_to s c d ≡ true → is_waiting (v d) ≡ false)
        → (refers_to s c m ≡ true → is_waiting (v m) ≡ false)
        → (d : ℕ) → d < suc m → refers_to s c d ≡ true → is_waiting (v d) ≡ false
    more none here d lt r =
        ⊎_elim (λ is. subst (λ q. is_waiting (v q) ≡ false) (sym is)
        (here (subst (λ q. refers_to s c q ≡ true) is r)))
        (λ (ne : d ≢ m). none d (omega arith) r)
        (cases_eq d m)

module _ (s : State) (n : ℕ) (below : (c : ℕ) → is_formula (content_of (s c)) ≡ true → c < n) where
  waits_or_ready : (v : Assignment) → Progress s v → (c : ℕ) → RefersToWaiting s v c ⊎ IsReady s v c
  waits_or_ready v p c =
      ⊎_elim (λ h. inl h)
      (λ none. inr (λ d r. ⊎_elim
      (λ t. absurd (true_not_false (is_waiting (v d)) t (none d (below d (p.waiting d t)) r)))
      (λ f. f)
      (bool_cases (is_waiting (v d)))))
      (find_held s v c n)

  -- among the first m cells one that waits is ready, or each that waits is held
  find_ready : (v : Assignment) → Progress s v → (m : ℕ)
      → ((c : ℕ) × (is_waiting (v c) ≡ true) × IsReady s v c)
      ⊎ ((c : ℕ) → c < m → is_waiting (v c) ≡ true → RefersToWaiting s v c)
  find_ready v p zero = inr (λ c lt t. absurd (omega arith))
  find_ready v p (suc m) =
      ⊎_elim (λ f. inl f)
      (λ all. ⊎_elim
      (λ t. ⊎_elim (λ h. inr (more all (λ q. h))) (λ r. inl (m, t, r)) (waits_or_ready v p m))
      (λ f. inr (more all (λ t. absurd (true_not_false (is_waiting (v m)) t f))))
      (bool_cases (is_waiting (v m))))
      (find_ready v p m)
    where
      more : ((c : ℕ) → c < m → is_waiting (v c) ≡ true → RefersToWaiting s v c)
          → (is_waiting (v m) ≡ true → RefersToWaiting s v m)
          → (c : ℕ) → c < suc m → is_waiting (v c) ≡ true → RefersToWaiting s v c
      more all here c lt t =
          ⊎_elim (λ is. subst (λ q. RefersToWaiting s v q) (sym is) (here (subst (λ q. is_waiting (v q) ≡ true) is t)))
          (λ (ne : c ≢ m). all c (omega arith) t)
          (cases_eq c m)

  -- the assignment with the value of c
  evaluated : Assignment → ℕ → Assignment
  evaluated v c d = cond (nat_eq d c) (value_of (s c) v) (v d)

  evaluates : (v : Assignment) (c : ℕ) → Evaluates s c v (evaluated v c)
  unfolding evaluated
  evaluates v c = record {
    here = let same : nat_eq c c ≡ true = grind (arith, common_steps) in rw same refl;
    others = λ d ne. let other : nat_eq d c ≡ false = grind (arith, common_steps) in rw other refl;
  }

  search_on : (k : ℕ) (v : Assignment) → Progress s v → waiting_below v n < k
      → (w : Assignment) × Progress s w × ((c : ℕ) → is_waiting (w c) ≡ true → RefersToWaiting s w c)
  search_on zero v p less = absurd (omega arith)
  search_on (suc k) v p less =
      ⊎_elim
      (λ (f : (c : ℕ) × (is_waiting (v c) ≡ true) × IsReady s v c).
      let w = evaluated v f.0 in
      let e : Evaluates s f.0 v w = evaluates v f.0 in
      let fewer = fewer_waiting v w f.0 n (below f.0 (p.waiting f.0 f.1)) f.1
      (step_done s f.0 v w p f.1 f.2 e) (λ d ne. ap is_waiting (e.others d ne)) in
      search_on k w (progress_step s f.0 v w p f.1 f.2 e) (omega arith))
      (λ all. (v, p, (λ c t. all c (below c (p.waiting c t)) t)))
      (find_ready v p n)

pub settled_at_least_once : SettledAtLeastOnce
settled_at_least_once s inside =
    let v : Assignment = λ c. first_value (s c) in
    let found = search_on s CELLS (formula_below s inside) (waiting_below v CELLS + 1) v
    (progress_start s v (λ c. refl)) (omega arith) in
    (found.0, settled_at_end s found.0 inside found.1 found.2)
