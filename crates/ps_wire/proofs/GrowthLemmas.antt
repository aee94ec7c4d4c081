-- Joins take nothing away, and shorten no cell, count or pair.
use Rattle.std.proofs.Common.{◌≡◌, ◌≢◌, inl, inr, ℕ, zero, suc, ◌+◌, ◌/◌, ◌%◌, ◌<◌, ◌≤◌, ◌==◌}
use Rattle.std.proofs.Common.{Bool, true, false, ◌||◌, cond, if◌then◌else◌, Option, Some, None}
use Rattle.std.proofs.Common.{List, [], ◌∷◌, map, length, refl, sym, ap, subst, ◌∙◌, arith}
use Rattle.std.proofs.lemmas.Bool.{cases_lt, cases_order, ne_eqb}
use Rattle.std.proofs.lemmas.List.Elements.{All-head, All-tail}
use Rattle.std.proofs.lemmas.List.Sums.{sum_by-cons, sum_by-le-sum_by}
use Rattle.std.specs.Prelude.{max, sum_by}
use Rattle.std.specs.List.{All}
use Rattle.std.specs.Fmt.{digits, digits_onto, digit_glyph}
use Rattle.std.specs.Ordering.{is_eq, is_lt, nat_cmp}
use Rattle.std.specs.Cmp.{IsTotalOrder, nat_cmp_total}
use Rattle.std.specs.declared.cmp.Ordering.{Ordering}
use Rattle.std.specs.declared.cmp.Ordering.TheVariants.{Less, Equal, Greater}
use Rattle.std.specs.FinMap as maps
use Rattle.std.specs.FinMap.{entries_sorted, entries-insert, get-entries, get-insert}
use Rattle.std.specs.FinMap.Entries.{below_all, by_order}
use Rattle.serde_json.specs.Data.{Data, null, string}
use Rattle.ps_lattice.specs.Maps.{joined_maps, joined_with_held, with_entries}
use Rattle.ps_lattice.specs.Choice.{pair_cmp}
use Rattle.ps_lattice.specs.ChoiceLaws.{pairs_total}
use Rattle.ps_lattice.specs.Tally.{greater_counts}
use Rattle.ps_lattice.specs.declared.register.Assignment.{Assignment}
use Rattle.ps_lattice.specs.declared.tally.Count.{Count}
use Rattle.ps_lattice.specs.declared.choice.Pair.{Pair}
use Rattle.ps_lattice.proofs.Rising.{and_left, and_right, from_T}
use Rattle.ps_grid.specs.Place.{cell_name}
use Rattle.ps_content.specs.Content.{canonical_text}
use Rattle.ps_content.specs.declared.content.Content.{Content}
use Rattle.ps_delta.specs.declared.cell_state.CellState.{CellState}
use Rattle.ps_delta.specs.State.{State, empty_cell, joined_cell, IsBelow}
use Rattle.ps_delta.specs.CellLaws.{joined_cell-comm, joined_cell-empty}
use Rattle.ps_delta.specs.Deltas.{Entries, IsDelta, cells_of, state_of}
use Rattle.ps_delta.specs.Order.{Rising}
use Rattle.ps_delta.proofs.EntryLemmas.{state_of-here, state_of-rising, state_of-there}
use Rattle.ps_delta.proofs.StateLemmas.{joined_state-at}
use Rattle.ps_delta.proofs.WalkLemmas.{rising_of}
use Rattle.ps_wire.specs.Length.{OutgrowsLine, bare_value, lasting_size, size}
use Rattle.ps_wire.specs.Line.{delta_text}
use Rattle.ps_wire.specs.declared.TheConstants.{DELTA_LINE_LIMIT}
use Rattle.ps_wire.specs.Value.{array_of, cell_value, count_value, delta_value, gone_number, pair_value, register_value}
use Rattle.ps_wire.specs.Value.{whole}
use Rattle.ps_wire.proofs.SizeLemmas.{ended, gone_digit, size_of_array, size_of_four, size_of_three}

-- ---- bytes

-- an array is no longer than another if each of its items is no longer
arrays_more : {X : Type 0} (f g : X → Data) → ((x : X) → size (f x) ≤ size (g x)) → (xs : List X)
    → size (array_of (map f xs)) ≤ size (array_of (map g xs))
arrays_more f g each [] = omega arith
arrays_more f g each (x ∷ xs) =
    omega (
      arith,
      size_of_array f (x ∷ xs) (omega arith),
      size_of_array g (x ∷ xs) (omega arith),
      sum_by-le-sum_by (ended f) (ended g) (x ∷ xs) (λ y. omega (arith, each y)),
    )

-- an array is no longer than another if its items together are no longer
items_more : {X : Type 0} (f : X → Data) (xs ys : List X) → sum_by (ended f) xs ≤ sum_by (ended f) ys
    → size (array_of (map f xs)) ≤ size (array_of (map f ys))
items_more f [] [] le = omega arith
items_more f [] (y ∷ ys) le =
    omega (arith, size_of_array f (y ∷ ys) (omega arith), sum_by-cons (ended f) y ys)
items_more f (x ∷ xs) [] le = absurd (omega (arith, le, sum_by-cons (ended f) x xs))
items_more f (x ∷ xs) (y ∷ ys) le =
    omega (arith, le, size_of_array f (x ∷ xs) (omega arith), size_of_array f (y ∷ ys) (omega arith))

-- digits stand before what they are put before
digits_more : (k n : ℕ) (acc : List ℕ) → length acc ≤ length (digits_onto k 10 false n acc)
digits_more zero n acc = omega arith
digits_more (suc k) n acc =
    by_last (n / 10 == 0) (digits_more k (n / 10) (digit_glyph false (n % 10) ∷ acc))
  where
    by_last : (last : Bool)
        → length (digit_glyph false (n % 10) ∷ acc)
        ≤ length (digits_onto k 10 false (n / 10) (digit_glyph false (n % 10) ∷ acc))
        → length acc ≤ length (if last then digit_glyph false (n % 10) ∷ acc
        else digits_onto k 10 false (n / 10) (digit_glyph false (n % 10) ∷ acc))
    by_last true more = omega arith
    by_last false more = omega (arith, more)

-- what is put before a list where the last digit stands there already
abbrev further : ℕ → ℕ → List ℕ → List ℕ
further k n acc = if n == 0 then acc else digits_onto k 10 false n acc

-- what a greater number comes to is no shorter
abbrev Rises : (ℕ → List ℕ → List ℕ) → Type 0
Rises f = (n m : ℕ) (xs ys : List ℕ) → n ≤ m → length xs ≡ length ys → length (f n xs) ≤ length (f m ys)

further_some : (k n : ℕ) (acc : List ℕ) → further k (suc n) acc ≡ digits_onto k 10 false (suc n) acc
further_some k n acc =
    ap (λ b. if b then acc else digits_onto k 10 false (suc n) acc) (ne_eqb (suc n) 0 (λ e. omega (arith, e)))

further_rise : (k : ℕ) → Rises (digits_onto k 10 false) → Rises (further k)
further_rise k each zero zero xs ys le same = omega (arith, same)
further_rise k each zero (suc b) xs ys le same =
    omega (arith, same, digits_more k (suc b) ys, ap length (further_some k b ys))
further_rise k each (suc a) zero xs ys le same = absurd (omega (arith, le))
further_rise k each (suc a) (suc b) xs ys le same =
    omega (
      arith,
      each (suc a) (suc b) xs ys le same,
      ap length (further_some k a xs),
      ap length (further_some k b ys),
    )

-- a greater number has no fewer digits
digits_rise : (k : ℕ) → Rises (digits_onto k 10 false)
digits_rise zero n m xs ys le same = omega (arith, same)
digits_rise (suc k) n m xs ys le same =
    further_rise k (digits_rise k) (n / 10) (m / 10) (digit_glyph false (n % 10) ∷ xs) (digit_glyph false (m % 10) ∷ ys)
    (omega (arith, le)) (ap suc same)

whole_rise : (n m : ℕ) → n ≤ m → size (whole n) ≤ size (whole m)
unfolding digits
whole_rise n m le = digits_rise 64 n m [] [] le refl

-- ---- cells

pub register_least : (r : Option (Assignment Content)) → 4 ≤ size (register_value r)
register_least None = omega arith
register_least (Some a) =
    omega (arith, size_of_three (whole a.time) (whole a.replica) (string (canonical_text a.content)))

cell_least : (e : ℕ × CellState) → size (bare_value e) ≤ size (cell_value e)
unfolding cell_value
cell_least e =
    let counts = array_of (map count_value (maps.entries e.1.tally)) in
    let pairs = array_of (map pair_value (maps.entries e.1.choice)) in
    omega (
      arith,
      size_of_four (string (cell_name e.0)) null counts pairs,
      size_of_four (string (cell_name e.0)) (register_value e.1.register) counts pairs,
      register_least e.1.register,
    )

text_least : (delta : Entries) → lasting_size delta ≤ length (delta_text delta)
unfolding delta_text delta_value
text_least delta = arrays_more bare_value cell_value cell_least delta

-- ---- joins

is_less : (r : Ordering) → is_lt r ≡ true → r ≡ Less
is_less Less e = refl
is_less Equal e = cc
is_less Greater e = cc

module _ {K X : Type 0} (R : K → K → Ordering) (o : IsTotalOrder R) (w : K × X → ℕ) where
  -- a value that isn't smaller than the value that it replaces
  put_more : (k : K) (v : X) (es : List (K × X))
      → ((x : X) → maps.find R k es ≡ Some x → (q : K) → w (q, x) ≤ w (q, v))
      → sum_by w es ≤ sum_by w (maps.put R k v es)
  put_more k v [] greater = omega arith
  put_more k v (e ∷ es) greater =
      elim (R k e.0) as (λ r. R k e.0 ≡ r
      → sum_by w (e ∷ es) ≤ sum_by w (by_order r ((k, v) ∷ e ∷ es) ((e.0, v) ∷ es) (e ∷ maps.put R k v es))) [
        | Less ↦ λ is. omega (arith, sum_by-cons w (k, v) (e ∷ es))
        | Equal ↦ λ is.
            let found = greater e.1 (ap (λ r. cond (is_eq r) (Some e.1) (maps.find R k es)) is) e.0 in
            omega (arith, found, sum_by-cons w e es, sum_by-cons w (e.0, v) es)
        | Greater ↦ λ is.
            let rest = put_more k v es
            (λ x found. greater x (ap (λ r. cond (is_eq r) (Some e.1) (maps.find R k es)) is ∙ found)) in
            omega (arith, rest, sum_by-cons w e es, sum_by-cons w e (maps.put R k v es))
      ] refl

  module _ (f : X → X → X) (rises : (q : K) (x y : X) → w (q, x) ≤ w (q, f x y)) where
    -- a key below those that are joined in holds what it held
    untouched : (m : maps.FinMap R X) (es : List (K × X)) (q : K) → below_all R q es ≡ true
        → maps.get (with_entries f m es) q ≡ maps.get m q
    untouched m [] q below = refl
    untouched m (e ∷ es) q below =
        get-insert o (with_entries f m es) e.0 (joined_with_held f (maps.get m e.0) e.1) q
        ∙ ap (λ r. cond (is_eq r) (Some (joined_with_held f (maps.get m e.0) e.1)) (maps.get (with_entries f m es) q))
        (is_less (R q e.0) (and_left (is_lt (R q e.0)) (below_all R q es) below))
        ∙ untouched m es q (and_right (is_lt (R q e.0)) (below_all R q es) below)

    held_more : (a : Option X) (q : K) (x y : X) → a ≡ Some x → w (q, x) ≤ w (q, joined_with_held f a y)
    held_more a q x y is = subst (λ b. w (q, x) ≤ w (q, joined_with_held f b y)) (sym is) (rises q x y)

    with_more : (m : maps.FinMap R X) (es : List (K × X)) → maps.is_sorted R es ≡ true
        → sum_by w (maps.entries m) ≤ sum_by w (maps.entries (with_entries f m es))
    with_more m [] sorted = omega arith
    with_more m (e ∷ es) sorted =
        let before = with_entries f m es in
        let value = joined_with_held f (maps.get m e.0) e.1 in
        let held = untouched m es e.0 (and_left (below_all R e.0 es) (maps.is_sorted R es) sorted) in
        let more = put_more e.0 value (maps.entries before)
        (λ x found q. held_more (maps.get m e.0) q x e.1 (sym held ∙ get-entries before e.0 ∙ found)) in
        let rest = with_more m es (and_right (below_all R e.0 es) (maps.is_sorted R es) sorted) in
        omega (arith, more, rest, ap (sum_by w) (entries-insert o before e.0 value))

    joined_more : (m n : maps.FinMap R X)
        → sum_by w (maps.entries m) ≤ sum_by w (maps.entries (joined_maps f m n))
    unfolding joined_maps
    joined_more m n = with_more m (maps.entries n) (from_T _ (entries_sorted n))

counts_rise : (replica : ℕ) (x y : Count)
    → ended count_value (replica, x) ≤ ended count_value (replica, greater_counts x y)
counts_rise replica x y =
    omega (
      arith,
      size_of_three (whole replica) (whole x.added) (whole x.subtracted),
      size_of_three (whole replica) (whole (max x.added y.added)) (whole (max x.subtracted y.subtracted)),
      whole_rise x.added (max x.added y.added) (omega arith),
      whole_rise x.subtracted (max x.subtracted y.subtracted) (omega arith),
    )

pairs_rise : (pair : Pair) (x y : Bool) → ended pair_value (pair, x) ≤ ended pair_value (pair, x || y)
pairs_rise pair x y =
    let option = whole pair.option in
    let replica = whole pair.replica in
    let sequence = whole pair.sequence in
    omega (
      arith,
      size_of_four option replica sequence (whole (gone_number x)),
      size_of_four option replica sequence (whole (gone_number (x || y))),
      gone_digit x,
      gone_digit (x || y),
    )

parts_more : (c : ℕ) (s t : CellState) → size (bare_value (c, s)) ≤ size (bare_value (c, joined_cell s t))
unfolding joined_cell
parts_more c s t =
    let tally = joined_maps greater_counts s.tally t.tally in
    let choice = joined_maps ◌||◌ s.choice t.choice in
    omega (
      arith,
      size_of_four (string (cell_name c)) null (array_of (map count_value (maps.entries s.tally)))
          (array_of (map pair_value (maps.entries s.choice))),
      size_of_four (string (cell_name c)) null (array_of (map count_value (maps.entries tally)))
          (array_of (map pair_value (maps.entries choice))),
      items_more count_value (maps.entries s.tally) (maps.entries tally)
          (joined_more nat_cmp nat_cmp_total (ended count_value) greater_counts counts_rise s.tally t.tally),
      items_more pair_value (maps.entries s.choice) (maps.entries choice)
          (joined_more pair_cmp pairs_total (ended pair_value) ◌||◌ pairs_rise s.choice t.choice),
    )

-- a cell state that is below another one
abbrev pub IsUnder : CellState → CellState → Type 0
IsUnder s t = joined_cell t s ≡ t

pub under_size : (c : ℕ) (s t : CellState) → IsUnder s t → size (bare_value (c, s)) ≤ size (bare_value (c, t))
under_size c s t h =
    subst (λ x. size (bare_value (c, s)) ≤ size (bare_value (c, x))) (joined_cell-comm s t ∙ h) (parts_more c s t)

pub under_empty : (s t : CellState) → IsUnder s t → t ≡ empty_cell → s ≡ empty_cell
under_empty s t h none =
    sym (joined_cell-empty s) ∙ ap (λ x. joined_cell x s) (sym none) ∙ h ∙ none

pub empty_under : (s t : CellState) → s ≡ empty_cell → t ≡ empty_cell → IsUnder s t
empty_under s t e f =
    ap (λ x. joined_cell x s) f ∙ joined_cell-empty s ∙ e ∙ sym f

abbrev IsFilled : ℕ × CellState → Type 0
IsFilled e = e.1 ≢ empty_cell

-- how long the array of a delta's cells is, each written as `f` says, where a relation of states never shortens a cell
module _ (f : ℕ × CellState → Data) (U : CellState → CellState → Type 0)
    (sizes : (c : ℕ) (s t : CellState) → U s t → size (f (c, s)) ≤ size (f (c, t)))
    (empties : (s t : CellState) → U s t → t ≡ empty_cell → s ≡ empty_cell)
    (nothing : (s t : CellState) → s ≡ empty_cell → t ≡ empty_cell → U s t) where
  -- what the cells take, each with a comma or the last bracket
  abbrev cells_sum : Entries → ℕ
  cells_sum es = sum_by (ended f) es

  sum_cons : (e : ℕ × CellState) (es : Entries) → cells_sum (e ∷ es) ≡ 1 + size (f e) + cells_sum es
  sum_cons e es = sum_by-cons (ended f) e es

  sums_under : (n : ℕ) (d e : Entries) → Rising n (cells_of d) → Rising n (cells_of e) → All IsFilled d
      → ((c : ℕ) → U (state_of d c) (state_of e c)) → cells_sum d ≤ cells_sum e
  sums_under n [] e r s filled under = omega arith
  sums_under n (a ∷ more) [] r s filled under =
      absurd (All-head IsFilled a more filled
      (sym (state_of-here a more a.0 refl) ∙ empties _ _ (under a.0)
      (state_of-rising (a.0 + 1) [] a.0 tt (omega arith))))
  sums_under n (a ∷ more) (b ∷ others) r s filled under = elim (cases_order a.0 b.0) [
    | inl is ↦
        let rest = sums_under (a.0 + 1) more others r.1 (subst (λ m. Rising (m + 1) (cells_of others)) (sym is) s.1)
        (All-tail IsFilled a more filled) (λ c. rest_under c is) in
        let here : U a.1 b.1 =
        subst (λ x. U a.1 x) (state_of-here b others a.0 (sym is))
        (subst (λ x. U x (state_of (b ∷ others) a.0)) (state_of-here a more a.0 refl) (under a.0)) in
        let head = subst (λ n. size (f a) ≤ size (f (n, b.1))) is (sizes a.0 a.1 b.1 here) in
        omega (arith, rest, head, sum_cons a more, sum_cons b others)
    | inr (inl lt) ↦
        absurd (All-head IsFilled a more filled
        (sym (state_of-here a more a.0 refl) ∙ empties _ _ (under a.0)
        (state_of-rising (a.0 + 1) (b ∷ others) a.0 (omega (arith, lt), s.1) (omega arith))))
    | inr (inr lt) ↦
        let rest = sums_under (b.0 + 1) (a ∷ more) others (omega (arith, lt), r.1) s.1 filled (λ c. after c lt) in
        omega (arith, rest, sum_cons b others)
  ]
    where
      rest_under : (c : ℕ) → a.0 ≡ b.0 → U (state_of more c) (state_of others c)
      rest_under c is = elim (cases_lt c (a.0 + 1)) [
        | inl lt ↦ nothing _ _ (state_of-rising (a.0 + 1) more c r.1 lt)
            (state_of-rising (b.0 + 1) others c s.1 (omega (arith, lt, is)))
        | inr le ↦
            subst (λ x. U (state_of more c) x) (state_of-there b others c (λ eq. omega (arith, le, eq, is)))
            (subst (λ x. U x (state_of (b ∷ others) c)) (state_of-there a more c (λ eq. omega (arith, le, eq)))
            (under c))
      ]

      after : (c : ℕ) → b.0 < a.0 → U (state_of (a ∷ more) c) (state_of others c)
      after c lt = elim (cases_lt c (b.0 + 1)) [
        | inl below ↦ nothing _ _
            (state_of-rising (b.0 + 1) (a ∷ more) c (omega (arith, lt), r.1) below)
            (state_of-rising (b.0 + 1) others c s.1 below)
        | inr le ↦
            subst (λ x. U (state_of (a ∷ more) c) x) (state_of-there b others c (λ eq. omega (arith, le, eq)))
            (under c)
      ]

  pub arrays_under : (d e : Entries) → IsDelta d → IsDelta e → ((c : ℕ) → U (state_of d c) (state_of e c))
      → size (array_of (map f d)) ≤ size (array_of (map f e))
  arrays_under d e x y under =
      items_more f d e (sums_under 0 d e (rising_of d x) (rising_of e y) x.none_empty under)

-- what is joined takes no less
pub lasting_more : (d e : Entries) → IsDelta d → IsDelta e → IsBelow (state_of d) (state_of e)
    → lasting_size d ≤ lasting_size e
lasting_more d e x y below =
    arrays_under bare_value IsUnder under_size under_empty empty_under d e x y
    (λ c. sym (joined_state-at (state_of e) (state_of d) c) ∙ ap (λ (s : State). s c) below)

-- so much that no line has room for it
pub outgrows : (d : Entries) → IsDelta d → DELTA_LINE_LIMIT < lasting_size d → OutgrowsLine d
outgrows d lawful long more other below =
    omega (arith, long, lasting_more d more lawful other below, text_least more)
