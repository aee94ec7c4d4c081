-- The fewest bytes that the contents of cells take in a line of joined deltas, whichever contents the join keeps.
use Rattle.std.proofs.Common.{◌≡◌, ◌≢◌, ◌⊎◌, inl, inr, ℕ, zero, suc, ◌+◌, ◌-◌, ◌<◌, ◌≤◌, ◌/◌, ◌%◌, refl, sym, ap, subst}
use Rattle.std.proofs.Common.{◌∙◌, arith, Bool, true, false, cond, if◌then◌else◌, Option, Some, None, List, [], ◌∷◌}
use Rattle.std.proofs.Common.{map, length, take, get_or, set, ◌++◌, length-append}
use Rattle.std.proofs.lemmas.Bool.{cases_eq}
use Rattle.std.proofs.lemmas.List.{get_or-set_other, get_or-set_same, get_or-take, get_or_default, length-take-le}
use Rattle.std.proofs.lemmas.List.{length-set, take-append-le, take-take, take_all}
use Rattle.std.proofs.lemmas.List.Elements.{All-head, All-more, All-nil, All-tail, All-take}
use Rattle.std.proofs.lemmas.List.Sums.{sum_by-cons}
use Rattle.std.specs.Prelude.{nat_lt, sum_by, Contains}
use Rattle.std.specs.List.{All}
use Rattle.std.specs.Char.{digit_char}
use Rattle.std.specs.FinMap as maps
use Rattle.std.specs.Ordering.{is_lt}
use Rattle.json.specs.Print.{escape, escape_byte, escape_letter}
use Rattle.serde_json.specs.Data.{Data, string}
use Rattle.ps_grid.specs.Place.{cell_name}
use Rattle.ps_lattice.specs.Register.{assignment_cmp, joined_registers}
use Rattle.ps_lattice.specs.declared.register.Assignment.{Assignment}
use Rattle.ps_content.specs.Content.{canonical_text}
use Rattle.ps_content.specs.Order.{content_cmp}
use Rattle.ps_content.specs.declared.content.Content.{Content}
use Rattle.ps_delta.specs.declared.cell_state.CellState.{CellState}
use Rattle.ps_delta.specs.State.{State, empty_cell, empty_state, joined_cell}
use Rattle.ps_delta.specs.CellLaws.{joined_cell-empty, joined_cell-empty_right}
use Rattle.ps_delta.specs.Deltas.{Entries, IsDelta, cells_of, joined_history, state_of}
use Rattle.ps_delta.specs.Order.{Rising}
use Rattle.ps_delta.proofs.EntryLemmas.{state_of-at, state_of-here, state_of-rising, state_of-there}
use Rattle.ps_delta.proofs.HistoryLemmas.{joined_history-cons, joined_history-contains, joined_history-nil}
use Rattle.ps_delta.proofs.StateLemmas.{joined_state-at}
use Rattle.ps_delta.proofs.WalkLemmas.{rising_of}
use Rattle.ps_wire.specs.Inside.{AreAbove, AreFloors, AreListed, Overspends, Spends, cell_floor, floor_at}
use Rattle.ps_wire.specs.Inside.{unescaped_size}
use Rattle.ps_wire.specs.Length.{HasNoLine, size}
use Rattle.ps_wire.specs.Line.{delta_text}
use Rattle.ps_wire.specs.declared.TheConstants.{DELTA_LINE_LIMIT}
use Rattle.ps_wire.specs.Value.{array_of, cell_value, count_value, delta_value, pair_value, register_value, whole}
use Rattle.ps_wire.proofs.SizeLemmas.{ended, size_of_array, size_of_four, size_of_none, size_of_string, size_of_three}

-- ---- bytes

escaped_some : (x l h k : ℕ) (a b : Bool)
    → 1 ≤ length (cond a (92 ∷ l ∷ []) (cond b (92 ∷ 117 ∷ 48 ∷ 48 ∷ h ∷ k ∷ []) (x ∷ [])))
escaped_some x l h k true b = omega arith
escaped_some x l h k false true = omega arith
escaped_some x l h k false false = omega arith

escape_byte_some : (x : ℕ) → 1 ≤ length (escape_byte x)
unfolding escape_byte
escape_byte_some x =
    escaped_some x (escape_letter x) (digit_char (x / 16)) (digit_char (x % 16)) (nat_lt 0 (escape_letter x))
    (nat_lt x 32)

escape_least : (s : List ℕ) → length s ≤ length (escape s)
escape_least [] = omega arith
escape_least (x ∷ s) =
    omega (arith, escape_least s, escape_byte_some x, length-append (escape_byte x) (escape s))

register_least : (r : Option (Assignment Content)) → unescaped_size r ≤ size (register_value r)
register_least None = omega arith
register_least (Some a) =
    omega (
      arith,
      size_of_three (whole a.time) (whole a.replica) (string (canonical_text a.content)),
      size_of_string (canonical_text a.content),
      escape_least (canonical_text a.content),
    )

array_least : {X : Type 0} (f : X → Data) (xs : List X) → 2 ≤ size (array_of (map f xs))
array_least f [] = omega (arith, size_of_none f [] refl)
array_least f (x ∷ xs) =
    omega (arith, size_of_array f (x ∷ xs) (omega arith), sum_by-cons (ended f) x xs)

cell_least : (e : ℕ × CellState) → cell_floor e.1 ≤ ended cell_value e
unfolding cell_value
cell_least e =
    let counts = maps.entries e.1.tally in
    let pairs = maps.entries e.1.choice in
    omega (
      arith,
      size_of_four (string (cell_name e.0)) (register_value e.1.register) (array_of (map count_value counts))
          (array_of (map pair_value pairs)),
      size_of_string (cell_name e.0),
      register_least e.1.register,
      array_least count_value counts,
      array_least pair_value pairs,
    )

cells_least : (w : ℕ → ℕ) (es : Entries) → All (λ e. w e.0 ≤ cell_floor e.1) es
    → sum_by w (cells_of es) ≤ sum_by (ended cell_value) es
cells_least w [] above = omega arith
cells_least w (e ∷ es) above =
    let here = All-head (λ x. w x.0 ≤ cell_floor x.1) e es above in
    let rest = cells_least w es (All-tail (λ x. w x.0 ≤ cell_floor x.1) e es above) in
    omega (
      arith,
      here,
      rest,
      cell_least e,
      sum_by-cons w e.0 (cells_of es),
      sum_by-cons (ended cell_value) e es,
    )

text_least : (w : ℕ → ℕ) (delta : Entries) → 0 < length delta → All (λ e. w e.0 ≤ cell_floor e.1) delta
    → 1 + sum_by w (cells_of delta) ≤ length (delta_text delta)
unfolding delta_text delta_value
text_least w delta some above =
    omega (arith, cells_least w delta above, size_of_array cell_value delta some)

-- ---- a floor holds for what is joined

-- the cell state is empty, or takes at least so many bytes
abbrev IsOver : ℕ → CellState → Type 0
IsOver floor state = (state ≡ empty_cell) ⊎ (floor ≤ cell_floor state)

one_of : (t : Bool) (x y : Assignment Content)
    → (Some (if t then y else x) ≡ Some x) ⊎ (Some (if t then y else x) ≡ Some y)
one_of true x y = inr refl
one_of false x y = inl refl

-- the join of two registers is one of them
one_stays : (a b : Option (Assignment Content))
    → (joined_registers content_cmp a b ≡ a) ⊎ (joined_registers content_cmp a b ≡ b)
one_stays None b = inr refl
one_stays (Some x) None = inl refl
one_stays (Some x) (Some y) = one_of (is_lt (assignment_cmp content_cmp x y)) x y

register_of : (s t : CellState) → (joined_cell s t).register ≡ joined_registers content_cmp s.register t.register
unfolding joined_cell
register_of s t = refl

over_joined : (floor : ℕ) (s t : CellState) → IsOver floor s → IsOver floor t → IsOver floor (joined_cell s t)
over_joined floor s t (inl none) over =
    subst (IsOver floor) (sym (ap (λ x. joined_cell x t) none ∙ joined_cell-empty t)) over
over_joined floor s t (inr le) (inl none) =
    subst (IsOver floor) (sym (ap (joined_cell s) none ∙ joined_cell-empty_right s)) (inr le)
over_joined floor s t (inr le) (inr other) = elim (one_stays s.register t.register) [
  | inl is ↦ inr (omega (arith, le, ap unescaped_size (register_of s t ∙ is)))
  | inr is ↦ inr (omega (arith, other, ap unescaped_size (register_of s t ∙ is)))
]

module _ (floors : List ℕ) where
  over_delta : (d : Entries) → AreAbove floors d → (c : ℕ) → IsOver (floor_at floors c) (state_of d c)
  over_delta [] above c = inl (state_of-rising (c + 1) [] c tt (omega arith))
  over_delta (e ∷ d) above c = elim (cases_eq e.0 c) [
    | inl is ↦
        let here = All-head (λ x. floor_at floors x.0 ≤ cell_floor x.1) e d above in
        inr (omega (arith, here, ap (floor_at floors) is, ap cell_floor (state_of-here e d c is)))
    | inr other ↦
        subst (IsOver (floor_at floors c)) (sym (state_of-there e d c other))
        (over_delta d (All-tail (λ x. floor_at floors x.0 ≤ cell_floor x.1) e d above) c)
  ]

  over_history : (ds : List Entries) → All (AreAbove floors) ds → (c : ℕ)
      → IsOver (floor_at floors c) (joined_history ds c)
  unfolding empty_state
  over_history [] above c = inl (ap (λ (s : State). s c) joined_history-nil)
  over_history (d ∷ ds) above c =
      subst (IsOver (floor_at floors c))
      (sym (ap (λ (s : State). s c) (joined_history-cons d ds) ∙ joined_state-at (state_of d) (joined_history ds) c))
      (over_joined (floor_at floors c) (state_of d c) (joined_history ds c)
      (over_delta d (All-head (AreAbove floors) d ds above) c)
      (over_history ds (All-tail (AreAbove floors) d ds above) c))

  above_joint : (ds : List Entries) → All (AreAbove floors) ds → (joint : Entries) → IsDelta joint
      → state_of joint ≡ joined_history ds → AreAbove floors joint
  above_joint ds above joint lawful joined k x within =
      let e = get_or joint k x in
      let there : joined_history ds e.0 ≡ e.1 =
      ap (λ (s : State). s e.0) (sym joined) ∙ state_of-at 0 joint k x (rising_of joint lawful) within in
      elim (over_history ds above e.0) [
        | inl none ↦ absurd (lawful.none_empty k x within (sym there ∙ none))
        | inr le ↦ omega (arith, le, ap cell_floor there)
      ]

-- ---- the cells of what is joined

has_cell : (es : Entries) (c : ℕ) → state_of es c ≢ empty_cell → Contains (cells_of es) c
has_cell [] c some = absurd (some (state_of-rising (c + 1) [] c tt (omega arith)))
has_cell (e ∷ es) c some = elim (cases_eq e.0 c) [
  | inl is ↦ (0, omega arith, is)
  | inr other ↦
      let rest = has_cell es c (λ none. some (state_of-there e es c other ∙ none)) in
      (suc rest.0, omega (arith, rest.1), rest.2)
]

-- a state below one whose cell is empty has this cell empty, too
empty_below : (s t : CellState) → joined_cell t s ≡ t → t ≡ empty_cell → s ≡ empty_cell
empty_below s t below none = sym (joined_cell-empty s) ∙ ap (λ x. joined_cell x s) (sym none) ∙ below ∙ none

listed_joint : (ds : List Entries) (joint : Entries) → state_of joint ≡ joined_history ds → All IsDelta ds
    → All (AreListed (cells_of joint)) ds
listed_joint ds joint joined lawful i x within j y inside =
    let d = get_or ds i x in
    let e = get_or d j y in
    let below = joined_history-contains ds d (i, within, get_or_default ds i d x within) in
    let at = state_of-at 0 d j y (rising_of d (lawful i x within)) inside in
    let under : joined_cell (joined_history ds e.0) (state_of d e.0) ≡ joined_history ds e.0 =
    sym (joined_state-at (joined_history ds) (state_of d) e.0) ∙ ap (λ (s : State). s e.0) below in
    has_cell joint e.0 (λ none. (lawful i x within).none_empty j y inside
    (sym at ∙ empty_below (state_of d e.0) (joined_history ds e.0) under
    (ap (λ (s : State). s e.0) (sym joined) ∙ none)))

-- what holds of the first n items holds of the first m, if m isn't greater
first_fewer : {X : Type 0} (P : X → Type 0) (xs : List X) (m n : ℕ) → m ≤ n → All P (take n xs) → All P (take m xs)
first_fewer P xs m n le all = subst (All P) (take-take m n xs le) (All-take P m (take n xs) all)

-- if the floors of the first n + 1 deltas take too much, the first k deltas have no line together, for each k above n
pub no_line : (floors : List ℕ) (ds : List Entries) (n k : ℕ) → AreFloors floors ds → n < k
    → Overspends (λ listed. All (AreListed listed) (take (n + 1) ds)) floors (DELTA_LINE_LIMIT - 1)
    → HasNoLine (take k ds)
no_line floors ds n k are above over joint lawful joined =
    let listed = listed_joint (take k ds) joint joined (All-take IsDelta k ds are.lawful) in
    let first = first_fewer (AreListed (cells_of joint)) ds (n + 1) k (omega (arith, above)) listed in
    let spent = over (cells_of joint) (rising_of joint lawful) first in
    let least = text_least (floor_at floors) joint lawful.some
    (above_joint floors (take k ds) (All-take (AreAbove floors) k ds are.above) joint lawful joined) in
    omega (arith, spent, least)

-- ---- floors taken away

rising_at : (n : ℕ) (cs : List ℕ) (k d : ℕ) → Rising n cs → k < length cs → n ≤ get_or cs k d
rising_at n [] k d rising within = absurd (omega (arith, within))
rising_at n (b ∷ cs) zero d rising within = rising.0
rising_at n (b ∷ cs) (suc k) d rising within =
    let rest = rising_at (b + 1) cs k d rising.1 (omega (arith, within)) in
    omega (arith, rest, rising.0)

module _ (floors : List ℕ) (c : ℕ) where
  before_all : (n : ℕ) (cs : List ℕ) → Rising n cs → c < n
      → sum_by (floor_at (set floors c 0)) cs ≡ sum_by (floor_at floors) cs
  before_all n [] rising lt = refl
  before_all n (b ∷ cs) rising lt =
      let other : b ≢ c = λ is. omega (arith, is, lt, rising.0) in
      omega (
        arith,
        before_all (b + 1) cs rising.1 (omega (arith, lt, rising.0)),
        get_or-set_other floors c b 0 0 other,
        sum_by-cons (floor_at (set floors c 0)) b cs,
        sum_by-cons (floor_at floors) b cs,
      )

  taken_once : (n : ℕ) (cs : List ℕ) (k : ℕ) → c < length floors → Rising n cs → k < length cs → get_or cs k c ≡ c
      → sum_by (floor_at (set floors c 0)) cs + floor_at floors c ≡ sum_by (floor_at floors) cs
  taken_once n [] k inside rising within is = absurd (omega (arith, within))
  taken_once n (b ∷ cs) zero inside rising within is =
      omega (
        arith,
        before_all (b + 1) cs rising.1 (omega (arith, is)),
        ap (floor_at (set floors c 0)) is,
        ap (floor_at floors) is,
        get_or-set_same floors c 0 0 inside,
        sum_by-cons (floor_at (set floors c 0)) b cs,
        sum_by-cons (floor_at floors) b cs,
      )
  taken_once n (b ∷ cs) (suc k) inside rising within is =
      let later = rising_at (b + 1) cs k c rising.1 (omega (arith, within)) in
      let other : b ≢ c = λ same. omega (arith, same, later, is) in
      omega (
        arith,
        taken_once (b + 1) cs k inside rising.1 (omega (arith, within)) is,
        get_or-set_other floors c b 0 0 other,
        sum_by-cons (floor_at (set floors c 0)) b cs,
        sum_by-cons (floor_at floors) b cs,
      )

-- ---- one more

-- a floor that is lowered
pub lower_set : (floors : List ℕ) (at new : ℕ) → at < length floors → new ≤ floor_at floors at → (c : ℕ)
    → floor_at (set floors at new) c ≤ floor_at floors c
lower_set floors at new inside le c = elim (cases_eq c at) [
  | inl is ↦
      omega (
        arith,
        le,
        ap (floor_at (set floors at new)) is,
        ap (floor_at floors) is,
        get_or-set_same floors at new 0 inside,
      )
  | inr other ↦ omega (arith, get_or-set_other floors at c new 0 other)
]

-- where floors hold, lower floors hold, too
pub above_lower : (before after : List ℕ) (cells : Entries) → ((c : ℕ) → floor_at after c ≤ floor_at before c)
    → AreAbove before cells → AreAbove after cells
above_lower before after cells lower above k d within =
    let here = above k d within in
    omega (arith, here, lower (get_or cells k d).0)

pub above_none : (floors : List ℕ) → AreAbove floors []
above_none floors = All-nil (λ e. floor_at floors e.0 ≤ cell_floor e.1)

-- the floor of one more cell lowered to what it takes
pub above_more : (floors : List ℕ) (cells : Entries) (i new : ℕ) (e : ℕ × CellState) → i < length cells
    → e ≡ get_or cells i e → e.0 < length floors → new ≤ floor_at floors e.0 → new ≤ cell_floor e.1
    → AreAbove floors (take i cells) → AreAbove (set floors e.0 new) (take (i + 1) cells)
above_more floors cells i new e within is inside lower le above =
    All-more (λ x. floor_at (set floors e.0 new) x.0 ≤ cell_floor x.1) cells i e within
    (above_lower floors (set floors e.0 new) (take i cells) (lower_set floors e.0 new inside lower) above)
    (subst (λ x. floor_at (set floors e.0 new) x.0 ≤ cell_floor x.1) is
    (omega (arith, le, get_or-set_same floors e.0 new 0 inside)))

pub floors_none : (floors : List ℕ) → AreFloors floors []
floors_none floors = record { lawful = All-nil IsDelta; above = All-nil (AreAbove floors) }

-- floors lowered for one more delta
pub floors_more : (before after : List ℕ) (ds : List Entries) (i : ℕ) (d : Entries) → i < length ds
    → d ≡ get_or ds i d → IsDelta d → ((c : ℕ) → floor_at after c ≤ floor_at before c) → AreAbove after d
    → AreFloors before (take i ds) → AreFloors after (take (i + 1) ds)
floors_more before after ds i d within is lawful lower above are = record {
  lawful = All-more IsDelta ds i d within are.lawful (subst IsDelta is lawful);
  above =
      All-more (AreAbove after) ds i d within
      (λ k x lt. above_lower before after (get_or (take i ds) k x) lower (are.above k x lt))
      (subst (AreAbove after) is above);
}

module _ (cells : Entries) (i : ℕ) (e : ℕ × CellState) (before floors : List ℕ) (room left : ℕ)
    (within : i < length cells) (is : e ≡ get_or cells i e) (inside : e.0 < length floors)
    (spends : Spends (λ listed. AreListed listed cells) before room floors left) where
  taken : (listed : List ℕ) → Rising 0 listed → AreListed listed cells
      → sum_by (floor_at (set floors e.0 0)) listed + floor_at floors e.0 ≡ sum_by (floor_at floors) listed
  taken listed rising has =
      let at : Contains listed e.0 = subst (λ x. Contains listed x.0) (sym is) (has i e within) in
      taken_once floors e.0 0 listed at.0 inside rising at.1 at.2

  -- one more floor taken away
  pub spend_one : (rest : ℕ) → rest + floor_at floors e.0 ≡ left
      → Spends (λ listed. AreListed listed cells) before room (set floors e.0 0) rest
  spend_one rest so listed rising has =
      omega (arith, so, taken listed rising has, spends listed rising has)

  -- a floor for which there is no room left
  pub spend_over : left < floor_at floors e.0 → Overspends (λ listed. AreListed listed cells) before room
  spend_over over listed rising has =
      omega (arith, over, taken listed rising has, spends listed rising has)

module _ (ds : List Entries) (n : ℕ) (d : Entries) (before floors : List ℕ) (room left : ℕ)
    (within : n < length ds) (is : d ≡ get_or ds n d)
    (spends : Spends (λ listed. All (AreListed listed) (take n ds)) before room floors left) where
  last_listed : (listed : List ℕ) → All (AreListed listed) (take (n + 1) ds) → AreListed listed d
  last_listed listed has =
      let long = length-take-le (n + 1) ds (omega (arith, within)) in
      subst (AreListed listed) (get_or-take (n + 1) ds n d (omega arith) ∙ sym is) (has n d (omega (arith, long)))

  first_listed : (listed : List ℕ) → All (AreListed listed) (take (n + 1) ds) → All (AreListed listed) (take n ds)
  first_listed listed has = first_fewer (AreListed listed) ds n (n + 1) (omega arith) has

  -- one more delta's floors taken away
  pub spend_next : (after : List ℕ) (rest : ℕ) → Spends (λ listed. AreListed listed d) floors left after rest
      → Spends (λ listed. All (AreListed listed) (take (n + 1) ds)) before room after rest
  spend_next after rest next listed rising has =
      omega (
        arith,
        spends listed rising (first_listed listed has),
        next listed rising (last_listed listed has),
      )

  -- a delta for whose floors there is no room left
  pub spend_last : Overspends (λ listed. AreListed listed d) floors left
      → Overspends (λ listed. All (AreListed listed) (take (n + 1) ds)) before room
  spend_last over listed rising has =
      omega (
        arith,
        spends listed rising (first_listed listed has),
        over listed rising (last_listed listed has),
      )

-- a list that others were appended to is taken off whole
pub given_back : (n : ℕ) (xs ys : List ℕ) → length xs ≡ n → take n (xs ++ ys) ≡ xs
given_back n xs ys long = take-append-le n xs ys (omega (arith, long)) ∙ take_all n xs (omega (arith, long))

pub set_whole : (floors : List ℕ) (at new n : ℕ) → length floors ≡ n → length (set floors at new) ≡ n
set_whole floors at new n whole = length-set floors at new ∙ whole
