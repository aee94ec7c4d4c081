-- The joins of the first delta, of the first two, and so on.
use Rattle.std.proofs.Common.{◌≡◌, ℕ, zero, suc, ◌+◌, ◌-◌, ◌<◌, ◌≤◌, inl, inr, sym, ap, subst, ◌∙◌, arith}
use Rattle.std.proofs.Common.{List, [], ◌∷◌, ◌++◌, length, take, get_or, Option, Some, None, Result, Ok, Err}
use Rattle.std.specs.Prelude.{IfOk, IfSome}
use Rattle.std.proofs.lemmas.Bool.{cases_lt}
use Rattle.std.proofs.lemmas.List.{get_or_append_left, get_or_push, length_push, take_more}
use Rattle.ps_delta.specs.State.{joined_state}
use Rattle.ps_delta.specs.Deltas.{Entries, IsDelta, joined_history, state_of}
use Rattle.ps_delta.proofs.HistoryLemmas.{
  joined_history-cons,
  joined_history-nil,
  joined_history-one,
  joined_history-push,
}
use Rattle.ps_delta.proofs.StateLemmas.{joined_state-assoc, joined_state-empty_right, joined_state-idem}
use Rattle.ps_delta.proofs.StateLemmas.{joined_state-swap}
use Rattle.ps_wire.specs.Length.{OutgrowsLine}
use Rattle.ps_wire.specs.Line.{delta_text}
use Rattle.ps_wire.specs.declared.TheConstants.{DELTA_LINE_LIMIT}
use Rattle.ps_lines.specs.PullReplies.{IsGroupLine, IsJoint}
use Rattle.ps_lines.specs.Inside.Joints.{AreFirstJoints, AreJoints}

-- the first delta is its own join
pub joint_first : (ds : List Entries) (d : Entries) → 0 < length ds → d ≡ get_or ds 0 d → IsDelta d
    → IsJoint (take 1 ds) d
joint_first ds d some is lawful = record {
  lawful = lawful;
  joined =
      sym (joined_history-one d) ∙ ap (λ x. joined_history (x ∷ [])) is
      ∙ ap joined_history (sym (take_more ds 0 d some));
}

-- the join of a join and the next delta
pub joint_next : (ds : List Entries) (n : ℕ) (d j new : Entries) → n < length ds → d ≡ get_or ds n d
    → IsJoint (take n ds) j → state_of new ≡ joined_history (j ∷ d ∷ []) → IsDelta new → IsJoint (take (n + 1) ds) new
joint_next ds n d j new within is joint so lawful = record {
  lawful = lawful;
  joined =
      so ∙ joined_history-push (j ∷ []) d
      ∙ ap (λ s. joined_state s (state_of d)) (joined_history-one j ∙ joint.joined)
      ∙ sym (joined_history-push (take n ds) d)
      ∙ ap joined_history (ap (λ x. take n ds ++ x ∷ []) is ∙ sym (take_more ds n d within));
}

pub first_more : (ds js : List Entries) (j : Entries) → AreFirstJoints ds js → IsJoint (take (length js + 1) ds) j
    → AreFirstJoints ds (js ++ j ∷ [])
first_more ds js j first joint k d within = elim (cases_lt k (length js)) [
  | inl lt ↦ subst (IsJoint (take (k + 1) ds)) (sym (get_or_append_left js (j ∷ []) d k lt)) (first k d lt)
  | inr le ↦
      let is : k ≡ length js = omega (arith, le, within, length_push js j) in
      subst (IsJoint (take (k + 1) ds)) (sym (get_or_push js j d k (sym is)))
      (subst (λ m. IsJoint (take (m + 1) ds) j) (sym is) joint)
]

-- the joint at `count - 1` is the join of the first `count` deltas
pub joint_at : (ds js : List Entries) (count : ℕ) (x : Entries) → 0 < count → count ≤ length js → AreFirstJoints ds js
    → x ≡ get_or js (count - 1) x → IsJoint (take count ds) x
joint_at ds js count x some within first is =
    let last : count - 1 < length js = omega (arith, some, within) in
    let next : count - 1 + 1 ≡ count = omega (arith, some) in
    subst (λ m. IsJoint (take m ds) x) next
    (subst (IsJoint (take (count - 1 + 1) ds)) (sym is) (first (count - 1) x last))

-- the join of fewer first deltas is below the join of more
history_below : (ds : List Entries) (m k : ℕ) → m ≤ k
    → joined_state (joined_history (take k ds)) (joined_history (take m ds)) ≡ joined_history (take k ds)
history_below ds zero k le =
    ap (joined_state (joined_history (take k ds))) joined_history-nil
    ∙ joined_state-empty_right (joined_history (take k ds))
history_below ds (suc m) zero le = absurd (omega (arith, le))
history_below [] (suc m) (suc k) le = joined_state-idem (joined_history [])
history_below (d ∷ ds) (suc m) (suc k) le =
    let p = joined_history (take k ds) in
    let q = joined_history (take m ds) in
    let first = state_of d in
    ap (λ s. joined_state s (joined_history (d ∷ take m ds))) (joined_history-cons d (take k ds))
    ∙ ap (joined_state (joined_state first p)) (joined_history-cons d (take m ds))
    ∙ sym (joined_state-assoc (joined_state first p) first q)
    ∙ ap (λ s. joined_state s q)
    (joined_state-swap first p first ∙ ap (λ s. joined_state s p) (joined_state-idem first))
    ∙ joined_state-assoc first p q
    ∙ ap (joined_state first) (history_below ds m k (omega (arith, le)))
    ∙ sym (joined_history-cons d (take k ds))

-- once the join of the first deltas has outgrown a line, no join of more deltas has one
pub none_later : (ds : List Entries) (n : ℕ) (j : Entries) → IsJoint (take (n + 1) ds) j → OutgrowsLine j
    → (k : ℕ) (line : List ℕ) → n < k → ¬ IsGroupLine ds k line
none_later ds n j joint outgrows k line above grouped =
    let below : joined_state (state_of grouped.delta) (state_of j) ≡ state_of grouped.delta =
    ap (λ s. joined_state s (state_of j)) grouped.joint.joined
    ∙ ap (joined_state (joined_history (take k ds))) joint.joined
    ∙ history_below ds (n + 1) k (omega (arith, above))
    ∙ sym grouped.joint.joined in
    let long = outgrows grouped.delta grouped.joint.lawful below in
    omega (arith, long, grouped.fits, ap length grouped.is)

-- y, which equals the first delta, is the first joint
pub first_joint : (ds : List Entries) (n : ℕ) (x y : Entries) → n < length ds → n ≡ 0 → x ≡ get_or ds n x → y ≡ x
    → IsDelta x → IsJoint (take (n + 1) ds) y
first_joint ds zero x y within none is same lawful =
    subst (IsJoint (take 1 ds)) (sym same) (joint_first ds x within is lawful)
first_joint ds (suc n) x y within none is same lawful = absurd (omega (arith, none))

-- the join of the last join and the next delta
pub later_joint : (ds js : List Entries) (x j new : Entries) → length js < length ds → 0 < length js
    → x ≡ get_or ds (length js) x → j ≡ get_or js (length js - 1) j → AreFirstJoints ds js
    → state_of new ≡ joined_history (j ∷ x ∷ []) → IsDelta new → IsJoint (take (length js + 1) ds) new
later_joint ds js x j new within some is last first so lawful =
    joint_next ds (length js) x j new within is (joint_at ds js (length js) j some (omega arith) first last) so lawful

module _ (ds js : List Entries) (j : Entries) (n : ℕ) (long : n ≡ length js) (first : AreFirstJoints ds js)
    (joint : IsJoint (take (n + 1) ds) j) where
  -- one more join
  pub more_joints : (new : List Entries) → new ≡ js ++ j ∷ [] → AreFirstJoints ds new
  more_joints new is =
      subst (AreFirstJoints ds) (sym is)
      (first_more ds js j first (subst (λ m. IsJoint (take (m + 1) ds) j) long joint))

  -- the joins end before one that can have no line
  pub joints_end : (most : ℕ) → length js ≤ most → length js ≤ length ds → OutgrowsLine j → AreJoints ds most js
  joints_end most few within outgrows = record {
    few = few;
    within = within;
    first = first;
    last = λ k line above _. none_later ds n j joint outgrows k line (omega (arith, above, long));
  }

-- the line of the join of the first n deltas, if it isn't too long
pub group_line_of : {V E : Type 0} (items : V → List ℕ) (deltas : List Entries) (n : ℕ) (joint : Entries)
    (r : Result (Option V) E) → n ≤ length deltas → IsJoint (take n deltas) joint
    → IfOk r (λ o. IfSome o (λ line. items line ≡ delta_text joint))
    → IfOk r (λ o. IfSome o (λ line. length (items line) ≤ DELTA_LINE_LIMIT))
    → IfOk r (λ o. IfSome o (λ line. IsGroupLine deltas n (items line)))
group_line_of items deltas n joint (Ok (Some line)) within is_joint is fits =
    record { within = within; delta = joint; joint = is_joint; is = is; fits = fits }
group_line_of items deltas n joint (Ok None) within is_joint is fits = tt
group_line_of items deltas n joint (Err e) within is_joint is fits = tt

-- two facts about a result give a third
pub both_ok : {T E : Type 0} {P Q S : T → Type 0} (r : Result T E) → ((t : T) → P t → Q t → S t) → IfOk r P → IfOk r Q
    → IfOk r S
both_ok (Ok t) both p q = both t p q
both_ok (Err e) both p q = tt
