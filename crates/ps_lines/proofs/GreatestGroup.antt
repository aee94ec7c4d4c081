-- Deltas joined, and the line of the greatest number of them that isn't too long.
use Rattle.std.proofs.Common.{◌≡◌, ◌≢◌, ◌∙◌, ◌+◌, ◌-◌, ◌<◌, ◌≤◌, inl, inr, refl, sym, ap, ap₂, subst}
use Rattle.std.proofs.Common.{arith, ℕ, List}
use Rattle.std.proofs.Common.{[], ◌∷◌, length, take, drop, Result, Ok, Err}
use Rattle.std.specs.Prelude.{IfOk, get_or}
use Rattle.std.specs.List.{All}
use Rattle.std.proofs.lemmas.Bool.{cases_lt, cases_order}
use Rattle.std.proofs.lemmas.List.Elements.{All-head, All-tail}
use Rattle.ps_delta.specs.declared.cell_state.CellState.{CellState}
use Rattle.ps_delta.specs.State.{State, empty_cell}
use Rattle.ps_delta.specs.Deltas.{Entries, IsDelta, cells_of, state_of}
use Rattle.ps_delta.proofs.HistoryLemmas.{joined_history-one}
use Rattle.ps_delta.specs.Order.{Rising}
use Rattle.ps_delta.proofs.EntryLemmas.{state_of-here, state_of-rising, state_of-there}
use Rattle.ps_delta.proofs.WalkLemmas.{rising_of}
use Rattle.ps_wire.specs.Length.{HasNoLine}
use Rattle.ps_wire.specs.Line.{delta_text}
use Rattle.ps_wire.specs.declared.TheConstants.{DELTA_LINE_LIMIT}
use Rattle.ps_lines.specs.PullReplies.{HasNone, IsGreatest, IsGroupLine, IsJoint, IsPullReply, ReturnsGroup}
use Rattle.ps_lines.specs.Replies.{group_text}

abbrev IsFilled : ℕ × CellState → Type 0
IsFilled e = e.1 ≢ empty_cell

-- a first cell isn't in entries that begin after it
lower_first : (a : ℕ × CellState) (rest others : Entries) → IsFilled a → Rising (a.0 + 1) (cells_of others)
    → state_of (a ∷ rest) a.0 ≡ state_of others a.0 → ⊥
lower_first a rest others filled rising same =
    filled (sym (state_of-here a rest a.0 refl) ∙ same ∙ state_of-rising (a.0 + 1) others a.0 rising (omega arith))

-- two lists of entries in order with the same state are the same
same_rising : (n : ℕ) (d e : Entries) → Rising n (cells_of d) → Rising n (cells_of e) → All IsFilled d → All IsFilled e
    → ((c : ℕ) → state_of d c ≡ state_of e c) → d ≡ e
same_rising n [] [] r s p q same = refl
same_rising n [] (b ∷ others) r s p q same =
    absurd (lower_first b others [] (All-head IsFilled b others q) tt (sym (same b.0)))
same_rising n (a ∷ more) [] r s p q same =
    absurd (lower_first a more [] (All-head IsFilled a more p) tt (same a.0))
same_rising n (a ∷ more) (b ∷ others) r s p q same = elim (cases_order a.0 b.0) [
  | inl is ↦ at is (same_rising (a.0 + 1) more others r.1 (subst (λ m. Rising (m + 1) (cells_of others)) (sym is) s.1)
      (All-tail IsFilled a more p) (All-tail IsFilled b others q) (λ c. rest_same c is))
  | inr (inl lt) ↦ absurd (lower_first a more (b ∷ others) (All-head IsFilled a more p) (omega (arith, lt), s.1)
      (same a.0))
  | inr (inr lt) ↦ absurd (lower_first b others (a ∷ more) (All-head IsFilled b others q) (omega (arith, lt), r.1)
      (sym (same b.0)))
]
  where
    rest_same : (c : ℕ) → a.0 ≡ b.0 → state_of more c ≡ state_of others c
    rest_same c is = elim (cases_lt c (a.0 + 1)) [
      | inl lt ↦ state_of-rising (a.0 + 1) more c r.1 lt
          ∙ sym (state_of-rising (b.0 + 1) others c s.1 (omega (arith, lt, is)))
      | inr le ↦ sym (state_of-there a more c (λ eq. omega (arith, le, eq))) ∙ same c
          ∙ state_of-there b others c (λ eq. omega (arith, le, eq, is))
    ]

    at : a.0 ≡ b.0 → more ≡ others → a ∷ more ≡ b ∷ others
    at is tails =
        let states : a.1 ≡ b.1 =
        sym (state_of-here a more a.0 refl) ∙ same a.0 ∙ state_of-here b others a.0 (sym is) in
        let first : a ≡ b = ap₂ (λ c x. (c, x)) is states in
        ap₂ (λ x xs. x ∷ xs) first tails

-- two deltas with the same state are the same
pub same_entries : (d e : Entries) → IsDelta d → IsDelta e → state_of d ≡ state_of e → d ≡ e
same_entries d e x y same =
    same_rising 0 d e (rising_of d x) (rising_of e y) x.none_empty y.none_empty (λ c. ap (λ (s : State). s c) same)

-- deltas have only one join
pub joint_once : (deltas : List Entries) (d e : Entries) → IsJoint deltas d → IsJoint deltas e → d ≡ e
joint_once deltas d e x y = same_entries d e x.lawful y.lawful (x.joined ∙ sym y.joined)

module _ (ds : List Entries) (most : ℕ) where
  -- no number above this one has a line
  abbrev pub NoneAbove : ℕ → Type 0
  NoneAbove count = (k : ℕ) (line : List ℕ) → count < k → k ≤ most → ¬ IsGroupLine ds k line

  -- no number has a line above the number of deltas that may share a line
  pub none_above_all : (count reach : ℕ)
      → ((k : ℕ) → reach < k → k ≤ most → k ≤ length ds → HasNoLine (take k ds))
      → ((k : ℕ) (line : List ℕ) → count < k → k ≤ reach → ¬ IsGroupLine ds k line) → NoneAbove count
  none_above_all count reach none few k line above within grouped = elim (cases_lt reach k) [
    | inl lt ↦
        let long = none k lt within grouped.within grouped.delta
        grouped.joint.lawful grouped.joint.joined in
        omega (arith, long, grouped.fits, ap length grouped.is)
    | inr le ↦ few k line above le grouped
  ]

  pub none_above_next : (count : ℕ) (joint : Entries) → IsJoint (take count ds) joint
      → DELTA_LINE_LIMIT < length (delta_text joint) → NoneAbove count → NoneAbove (count - 1)
  none_above_next count joint joined long none k line above within grouped = elim (cases_order k count) [
    | inr (inl lt) ↦ omega (arith, lt, above)
    | inr (inr lt) ↦ none k line lt within grouped
    | inl is ↦ at is
  ]
    where
      at : k ≡ count → ⊥
      at is =
          let mine : IsJoint (take count ds) grouped.delta =
          subst (λ m. IsJoint (take m ds) grouped.delta) is grouped.joint in
          let same : joint ≡ grouped.delta = joint_once (take count ds) joint grouped.delta joined mine in
          let longer : length line ≡ length (delta_text joint) =
          ap length grouped.is ∙ ap (λ (d : Entries). length (delta_text d)) (sym same) in
          omega (arith, long, grouped.fits, longer)

  pub greatest_found : (count : ℕ) (joint : Entries) (line : List ℕ) → 0 < count → count ≤ most
      → count ≤ length ds → IsJoint (take count ds) joint → line ≡ delta_text joint
      → length line ≤ DELTA_LINE_LIMIT → NoneAbove count → IsGreatest ds most count line
  greatest_found count joint line some within inside joined is fits none = record {
    some = omega (arith, some);
    within = within;
    grouped = record { within = inside; delta = joint; joint = joined; is = is; fits = fits };
    greatest = none;
  }

  -- if all deltas that may share a line have one, it is the line of the greatest number
  pub greatest_whole : (reach : ℕ) (line : List ℕ) → 0 < reach → reach ≤ most → IsGroupLine ds reach line
      → ((k : ℕ) → reach < k → k ≤ most → k ≤ length ds → HasNoLine (take k ds))
      → IsGreatest ds most reach line
  greatest_whole reach line some within grouped none = record {
    some = omega (arith, some);
    within = within;
    grouped = grouped;
    greatest = none_above_all reach reach none (λ k longer above few. absurd (omega (arith, above, few)));
  }

  pub none_found : (count : ℕ) → count ≤ 0 → NoneAbove count → HasNone ds most
  none_found count none_left none k line some within = none k line (omega (arith, some, none_left)) within

-- a delta by itself, with a line or without one
module _ (d : Entries) (lawful : IsDelta d) where
  alone : IsJoint (d ∷ []) d
  alone = record { lawful = lawful; joined = sym (joined_history-one d) }

  pub alone_greatest : (line : List ℕ) → line ≡ delta_text d → length line ≤ DELTA_LINE_LIMIT
      → IsGreatest (d ∷ []) 1 1 line
  alone_greatest line is fits = record {
    some = omega arith;
    within = omega arith;
    grouped = record { within = omega arith; delta = d; joint = alone; is = is; fits = fits };
    greatest = λ k longer above within. absurd (omega (arith, above, within));
  }

  pub alone_none : DELTA_LINE_LIMIT < length (delta_text d) → HasNone (d ∷ []) 1
  alone_none long k line some within group =
      let one : k ≡ 1 = omega (arith, some, within) in
      let joint : IsJoint (d ∷ []) group.delta =
      subst (λ m. IsJoint (take m (d ∷ [])) group.delta) one group.joint in
      let same : d ≡ group.delta = joint_once (d ∷ []) d group.delta alone joint in
      let longer : length line ≡ length (delta_text d) =
      ap length group.is ∙ ap (λ (e : Entries). length (delta_text e)) (sym same) in
      omega (arith, long, group.fits, longer)

-- .. given the result of writing its line
pub alone_line : {V E : Type 0} (items : V → List ℕ) (d : Entries) (r : Result V E) → IsDelta d
    → IfOk r (λ v. items v ≡ delta_text d) → IfOk r (λ v. length (items v) ≤ DELTA_LINE_LIMIT)
    → IfOk r (λ v. IsGreatest (d ∷ []) 1 1 (items v))
alone_line items d (Ok v) lawful is fits = alone_greatest d lawful (items v) is fits
alone_line items d (Err e) lawful is fits = tt

pub one_item : (ds : List Entries) (d : Entries) → length ds ≡ 1 → d ≡ get_or ds 0 d → ds ≡ d ∷ []
one_item [] d one is = absurd (omega (arith, one))
one_item (y ∷ []) d one is = ap (λ z. z ∷ []) (sym is)
one_item (y ∷ z ∷ zs) d one is = absurd (omega (arith, one))

-- .. if it is the only delta, however many a pull may join
pub none_of_one : (deltas : List Entries) (d : Entries) (most : ℕ) → deltas ≡ d ∷ [] → HasNone (d ∷ []) 1
    → HasNone deltas most
none_of_one deltas d most is none k line some within group =
    let mine : IsGroupLine (d ∷ []) k line = subst (λ ds. IsGroupLine ds k line) is group in
    none k line some mine.within mine

-- the join of the first n deltas has only one line
group_line_once : (deltas : List Entries) (n m : ℕ) (line other : List ℕ) → n ≡ m → IsGroupLine deltas n line
    → IsGroupLine deltas m other → line ≡ other
group_line_once deltas n m line other is a b =
    let joint : IsJoint (take n deltas) b.delta =
    subst (λ k. IsJoint (take k deltas) b.delta) (sym is) b.joint in
    let same : a.delta ≡ b.delta = joint_once (take n deltas) a.delta b.delta a.joint joint in
    a.is ∙ ap delta_text same ∙ sym b.is

group_once : (from most : ℕ) (deltas : List Entries) (text second : List ℕ) → ReturnsGroup from most deltas text
    → ReturnsGroup from most deltas second → text ≡ second
group_once from most deltas text second (inr a) (inr b) = a.1 ∙ sym b.1
group_once from most deltas text second (inl a) (inr b) =
    absurd (b.0 a.0 a.1 a.2.some a.2.within a.2.grouped)
group_once from most deltas text second (inr a) (inl b) =
    absurd (a.0 b.0 b.1 b.2.some b.2.within b.2.grouped)
group_once from most deltas text second (inl a) (inl b) = elim (cases_order a.0 b.0) [
  | inl is ↦ a.3 ∙ ap₂ (λ n line. group_text (from + n) line) is
      (group_line_once deltas a.0 b.0 a.1 b.1 is a.2.grouped b.2.grouped) ∙ sym b.3
  | inr (inl lt) ↦ absurd (a.2.greatest b.0 b.1 lt b.2.within b.2.grouped)
  | inr (inr lt) ↦ absurd (b.2.greatest a.0 a.1 lt a.2.within a.2.grouped)
]

-- the history determines the reply to a pull
pub pull_reply_once : (history : List Entries) (from most : ℕ) (text second : List ℕ)
    → IsPullReply history from most text → IsPullReply history from most second → text ≡ second
pull_reply_once history from most text second a b = elim (cases_order from (length history)) [
  | inl is ↦ a.at_end is ∙ sym (b.at_end is)
  | inr (inl lt) ↦ group_once from most (drop from history) text second (a.before_end lt) (b.before_end lt)
  | inr (inr lt) ↦ a.beyond lt ∙ sym (b.beyond lt)
]
