-- The walk of the frame: one cell more has its value, and at the end the values are settled.
use Rattle.std.proofs.Common.{◌≡◌, ◌≢◌, ℕ, Bool, ◌+◌, true, false, ◌⊎◌, inl, inr, List, [], ◌∷◌, refl, sym, ap, ◌∙◌}
use Rattle.std.proofs.Common.{⊎_elim, subst}
use Rattle.ps_grid.specs.Chains.{InRegion}
use Rattle.ps_grid.proofs.ChainLemmas.{bool_cases, In-self}
use Rattle.ps_grid.proofs.CycleLemmas.{IsCyclic-step, IsCyclic-next}
use Rattle.ps_value.specs.declared.value.Value.TheVariants.{Err}
use Rattle.ps_value.specs.declared.value.Fault.{Fault}
use Rattle.ps_eval.specs.Items.{Assignment}
use Rattle.ps_delta.specs.State.{State}
use Rattle.ps_cells.specs.Settled.{content_of, content_mentions, refers_to, Cyclic, value_of}
use Rattle.ps_cells.specs.Inside.Walk.{formula_at, InFrame, IsDue, IsStateChange, IsQuiet, Lists, Shows, Walked}
use Rattle.ps_cells.proofs.SettledValues.{true_not_false, value_by-agrees}
use Rattle.ps_cells.proofs.ChangedStates.{value_cycle, plain_agrees, plain_real, region_touched, outside_cyclic}
use Rattle.ps_cells.proofs.ListedCells.{count_same, count_more}
use Rattle.ps_cells.proofs.Puts.{flag_due, stays_due, unflagged_kept, flag_was_off, flag_inside}

-- the facts of a walk stay under another name for the cells that are done
pub weaker : (t : State) (v : Assignment) (touched : List ℕ) (Done Done2 : ℕ → Type 0) (u : Assignment)
    (flags : ℕ → Bool) (n : ℕ) → Walked t v touched Done u flags n
    → ((c : ℕ) → Done c → Done2 c) → ((c : ℕ) → Done2 c → Done c) → Walked t v touched Done2 u flags n
weaker t v touched Done Done2 u flags n w to from = record {
  outside = w.outside;
  cyclic = w.cyclic;
  plain = w.plain;
  done = λ c d. w.done c (from c d);
  real = λ c d. w.real c (from c d);
  waiting = λ c f out. w.waiting c f (λ d. out (to c d));
  flagged = λ c f out on. w.flagged c f (λ d. out (to c d)) on;
  quiet = λ c f out off. w.quiet c f (λ d. out (to c d)) off;
  inside = w.inside;
  framed = λ c d. w.framed c (from c d);
  closed = λ c d here r f. to d (w.closed c d (from c here) r f);
  counted = count_same (λ c. Done c × IsDue t touched v u c) (λ c. Done2 c × IsDue t touched v u c) n w.counted
      (λ c p. (to c p.0, p.1)) (λ c p. (from c p.0, p.1));
}

module _ (s t : State) (v : Assignment) (touched : List ℕ) (change : IsStateChange s t v touched)
    (Done : ℕ → Type 0) (u : Assignment) (flags : ℕ → Bool) (n x : ℕ) (w : Walked t v touched Done u flags n)
    (frame : InFrame t touched x) (fresh : ¬ Done x)
    (below : (d : ℕ) → refers_to t x d ≡ true → InFrame t touched d → Done d) where
  -- no cell that x refers to shows #CYCLE!
  reference_real : (d : ℕ) → refers_to t x d ≡ true → ¬ (u d ≡ Err Fault.Cycle)
  reference_real d r is =
      let acyclic : ¬ Cyclic t d = λ cyc. frame.2 (IsCyclic-step (refers_to t) x d r cyc) in
      let outside : ¬ InRegion (refers_to t) touched d → ⊥ =
      λ out. acyclic (outside_cyclic s t v touched change d out (sym (w.outside d out) ∙ is)) in
      outside (λ i. ⊎_elim
      (λ f. w.real d (below d r (i, f, acyclic)) is)
      (λ p. plain_real (content_of (t d)) (t d) u p (sym (w.plain d (region_touched t touched d i p) p) ∙ is))
      (bool_cases (formula_at t d)))

  value_real : ¬ (value_of (t x) u ≡ Err Fault.Cycle)
  value_real is = let m = value_cycle (content_of (t x)) (t x) u is in reference_real m.0 m.1 m.2

  -- x does not refer to itself
  apart : (d : ℕ) → refers_to t x d ≡ true → d ≢ x
  apart d r e = frame.2 (x ∷ [], (subst (λ q. refers_to t x q ≡ true) e r, tt), inl (In-self x []))

  waited : u x ≡ v x
  waited = w.waiting x frame fresh

  other : (c : ℕ) → Done c → c ≢ x
  other c done e = fresh (subst Done e done)

  -- no cell that is done refers to x
  before : (c d : ℕ) → Done c → refers_to t c d ≡ true → d ≢ x
  before c d done r e = fresh (w.closed c x done (subst (λ q. refers_to t c q ≡ true) e r) frame)

  closed_on : (c d : ℕ) → Done c ⊎ (c ≡ x) → refers_to t c d ≡ true → InFrame t touched d → Done d ⊎ (d ≡ x)
  closed_on c d here r f =
      ⊎_elim
      (λ done. inl (w.closed c d done r f))
      (λ e. inl (below d (subst (λ q. refers_to t q d ≡ true) e r) f))
      here

  framed_on : (c : ℕ) → Done c ⊎ (c ≡ x) → InFrame t touched c
  framed_on c here = ⊎_elim (λ done. w.framed c done) (λ e. subst (InFrame t touched) (sym e) frame) here

  -- a flagged cell of the frame, whose references in the frame are done, is evaluated
  module _ (u2 : Assignment) (on : flags x ≡ true) (is : u2 x ≡ value_of (t x) u)
      (others : (c : ℕ) → c ≢ x → u2 c ≡ u c) where
    here : u2 x ≡ value_of (t x) u2
    here = is ∙ value_by-agrees (content_of (t x)) (t x) u u2 (λ d r. sym (others d (apart d r)))

    earlier : (c : ℕ) → Done c → u2 c ≡ value_of (t c) u2
    earlier c done =
        others c (other c done)
        ∙ (w.done c done
        ∙ value_by-agrees (content_of (t c)) (t c) u u2 (λ d r. sym (others d (before c d done r))))

    due_on : (c : ℕ) → IsDue t touched v u c → IsDue t touched v u2 c
    due_on c due = stays_due t touched v x u u2 (λ changed. absurd (changed waited)) others c due

    -- a cell that is done was due before, if it is now
    due_back : (c : ℕ) → Done c → IsDue t touched v u2 c → IsDue t touched v u c
    due_back c done due =
        ⊎_elim
        (λ i. inl i)
        (λ r. inr (r.0, r.1, (λ e. r.2 (others r.0 (before c r.0 done r.1) ∙ e))))
        due

    -- a cell of the frame that is not done after it
    abbrev Left : ℕ → Type 0
    Left c = InFrame t touched c × (¬ (Done c ⊎ (c ≡ x)))

    -- the flags after it say which of the cells that are left are due
    evaluated : (flags2 : ℕ → Bool) → ((c : ℕ) → Left c → flags2 c ≡ true → IsDue t touched v u2 c)
        → ((c : ℕ) → Left c → flags2 c ≡ false → IsQuiet t touched v u2 c)
        → ((c : ℕ) → flags2 c ≡ true → InRegion (refers_to t) touched c)
        → Walked t v touched (λ c. Done c ⊎ (c ≡ x)) u2 flags2 (n + 1)
    evaluated flags2 due quiet inside = record {
      outside = λ c out. others c (λ e. out (subst (InRegion (refers_to t) touched) (sym e) frame.0))
          ∙ w.outside c out;
      cyclic = λ c i cyc. others c (λ e. frame.2 (subst (Cyclic t) e cyc)) ∙ w.cyclic c i cyc;
      plain = λ c i p. others c
          (λ e. true_not_false (formula_at t x) frame.1 (subst (λ q. formula_at t q ≡ false) e p))
          ∙ (w.plain c i p ∙ plain_agrees (content_of (t c)) (t c) u u2 p);
      done = λ c d. ⊎_elim
          (λ done. earlier c done)
          (λ e. subst (λ q. u2 q ≡ value_of (t q) u2) (sym e) here)
          d;
      real = λ c d cycle. ⊎_elim
          (λ done. w.real c done (sym (others c (other c done)) ∙ cycle))
          (λ e. value_real (sym is ∙ subst (λ q. u2 q ≡ Err Fault.Cycle) e cycle))
          d;
      waiting = λ c f out. others c (λ e. out (inr e)) ∙ w.waiting c f (λ done. out (inl done));
      flagged = λ c f out on2. due c (f, out) on2;
      quiet = λ c f out off. quiet c (f, out) off;
      inside = inside;
      framed = framed_on;
      closed = closed_on;
      counted = count_more (λ c. Done c × IsDue t touched v u c) (λ c. (Done c ⊎ (c ≡ x)) × IsDue t touched v u2 c) n x
          w.counted (λ p. fresh p.0)
          (λ c p. (inl p.0, due_on c p.1))
          (inr refl, due_on x (w.flagged x frame fresh on))
          (λ c p. ⊎_elim (λ done. inl (done, due_back c done p.1)) (λ e. inr e) p.0);
    }

    -- STEP: where no cell of the frame refers to it, the flags stay
    pub evaluate_unread : ((c : ℕ) → InFrame t touched c → ¬ (refers_to t c x ≡ true))
        → Walked t v touched (λ c. Done c ⊎ (c ≡ x)) u2 flags (n + 1)
    evaluate_unread unread =
        evaluated flags
        (λ c left was. due_on c (w.flagged c left.0 (λ done. left.1 (inl done)) was))
        (λ c left off.
        let quiet = w.quiet c left.0 (λ done. left.1 (inl done)) off in (
          quiet.0,
          (λ d r. others d (λ e. unread c left.0 (subst (λ q. refers_to t c q ≡ true) e r)) ∙ quiet.1 d r),
        ))
        w.inside

  -- STEP: else the cells that refer to it are flagged
  pub evaluate : (listed : List ℕ) (u2 : Assignment) (flags2 : ℕ → Bool) → flags x ≡ true
      → Lists (refers_to t) touched x listed → Shows x (value_of (t x) u) listed u u2 flags flags2
      → Walked t v touched (λ c. Done c ⊎ (c ≡ x)) u2 flags2 (n + 1)
  evaluate listed u2 flags2 on lists shows =
      evaluated u2 on shows.here shows.others flags2
      (λ c left is. flag_due t touched x (value_of (t x) u) listed u u2 flags flags2 lists shows v waited c
      (λ was. w.flagged c left.0 (λ done. left.1 (inl done)) was) is)
      (λ c left off.
      let was = w.quiet c left.0 (λ done. left.1 (inl done))
      (flag_was_off t touched x (value_of (t x) u) listed u u2 flags flags2 lists shows c off) in (
        was.0,
        (λ d r. unflagged_kept t touched x (value_of (t x) u) listed u u2 flags flags2 lists shows v waited
            c d r off (λ was_off. was.1 d r)),
      ))
      (λ c is. flag_inside t touched x (value_of (t x) u) listed u u2 flags flags2 lists shows frame.0
      c (w.inside c) is)

  -- STEP: a cell of the frame that is not flagged keeps its value
  module _ (off : flags x ≡ false) where
    untouched : s x ≡ t x
    untouched = change.same x (w.quiet x frame fresh off).0

    -- it was not cyclic: a cyclic cell that it referred to would show #CYCLE! still
    was_acyclic : ¬ Cyclic s x
    was_acyclic cyc =
        let m = IsCyclic-next (refers_to s) x cyc in
        let r : refers_to t x m.0 ≡ true = subst (λ k. content_mentions (content_of k) m.0 ≡ true) untouched m.1 in
        reference_real m.0 r ((w.quiet x frame fresh off).1 m.0 r ∙ (change.settled.cycle m.0).1 m.2)

    kept_value : u x ≡ value_of (t x) u
    kept_value =
        waited
        ∙ (change.settled.value x was_acyclic
        ∙ (ap (λ k. value_of k v) untouched
        ∙ value_by-agrees (content_of (t x)) (t x) v u (λ d r. sym ((w.quiet x frame fresh off).1 d r))))

    not_due : ¬ IsDue t touched v u x
    not_due due =
        ⊎_elim (λ i. (w.quiet x frame fresh off).0 i) (λ r. r.2 ((w.quiet x frame fresh off).1 r.0 r.1)) due

    pub quiet : Walked t v touched (λ c. Done c ⊎ (c ≡ x)) u flags n
    quiet = record {
      outside = w.outside;
      cyclic = w.cyclic;
      plain = w.plain;
      done = λ c d. ⊎_elim (λ done. w.done c done) (λ e. subst (λ q. u q ≡ value_of (t q) u) (sym e) kept_value) d;
      real = λ c d is. ⊎_elim
          (λ done. w.real c done is)
          (λ e. value_real (sym kept_value ∙ subst (λ q. u q ≡ Err Fault.Cycle) e is))
          d;
      waiting = λ c f out. w.waiting c f (λ done. out (inl done));
      flagged = λ c f out is. w.flagged c f (λ done. out (inl done)) is;
      quiet = λ c f out is. w.quiet c f (λ done. out (inl done)) is;
      inside = w.inside;
      framed = framed_on;
      closed = closed_on;
      counted = count_same (λ c. Done c × IsDue t touched v u c) (λ c. (Done c ⊎ (c ≡ x)) × IsDue t touched v u c) n
          w.counted
          (λ c p. (inl p.0, p.1))
          (λ c p. ⊎_elim (λ done. (done, p.1)) (λ e. absurd (not_due (subst (IsDue t touched v u) e p.1))) p.0);
    }
