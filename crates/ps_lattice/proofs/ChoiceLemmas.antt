-- What edits of a choice do to it.
use Rattle.std.proofs.Common.{◌≡◌, ℕ, zero, suc, ◌+◌, ◌<◌, ◌≤◌, max, length, get_or, Bool, true, false, cond, not}
use Rattle.std.proofs.Common.{◌&&◌, ◌||◌, ◌==◌, nat_le, nat_lt, List, [], ◌∷◌, Option, Some, None, unwrap_or, is_some}
use Rattle.std.proofs.Common.{refl, sym, ap, ◌∙◌, arith, lit≤, map as each}
use mathlib.Core.Bool.{false≢true}
use borrow.Author.Tests.{leb-true, ltb-true, eq-eqb}
use Rattle.std.specs.List.{list_all, list_any, filter}
use Rattle.std.specs.Ordering.{eq_by_cmp, is_lt, is_eq}
use Rattle.std.specs.Cmp.{Equal-is, tied_itself}
use Rattle.std.specs.FinMap as map
use Rattle.std.specs.FinMap.{get-entries, get-from_entries, get-from_sorted, same_map}
use Rattle.std.specs.FinMap.Entries.{below_all}
use Rattle.ps_lattice.specs.declared.choice.Pair.{Pair}
use Rattle.ps_lattice.specs.declared.limits.TheConstants.{OPTIONS, SEQUENCES}
use Rattle.ps_lattice.specs.Limits.{is_replica}
use Rattle.ps_lattice.specs.Maps.{both_of, joined_with_held}
use Rattle.ps_lattice.specs.MapLaws.{get-joined_maps}
use Rattle.ps_lattice.specs.Choice.{Pairs, pair_cmp, pair_of, is_added, is_removed, is_live, is_chosen, is_choice}
use Rattle.ps_lattice.specs.Choice.{joined_choices, greatest, last_of, last_sequence, with_pair, withdrawn, is_pair}
use Rattle.ps_lattice.specs.ChoiceLaws.{pairs_total, pairs_apart}
use Rattle.ps_lattice.proofs.Joining.{in_range_joined}
use Rattle.ps_lattice.proofs.Rising.{to_T, and_left, and_right, and_both, sorted_head, sorted_rest, find_tied_below}
use Rattle.ps_lattice.proofs.Views.{joined-one, get_set, entries_rise}

-- the ranges that are asked of a pair
pub sequence_fits : (e : Pair × Bool) → is_pair e ≡ true → e.0.sequence ≤ SEQUENCES
sequence_fits e h =
    leb-true e.0.sequence SEQUENCES
    (and_right
    ((nat_lt e.0.option OPTIONS && is_replica e.0.replica) && nat_le 1 e.0.sequence) _ h)

pub option_fits : (e : Pair × Bool) → is_pair e ≡ true → e.0.option < OPTIONS
option_fits e h =
    ltb-true e.0.option OPTIONS
    (and_left (nat_lt e.0.option OPTIONS) (is_replica e.0.replica)
    (and_left (nat_lt e.0.option OPTIONS && is_replica e.0.replica) (nat_le 1 e.0.sequence)
    (and_left ((nat_lt e.0.option OPTIONS && is_replica e.0.replica) && nat_le 1 e.0.sequence) _ h)))

pub all_at : (es : List (Pair × Bool)) (i : ℕ) (d : Pair × Bool) → list_all is_pair es ≡ true → i < length es
    → is_pair (get_or es i d) ≡ true
all_at [] i d h within = absurd (omega arith)
all_at (e ∷ es) zero d h within = and_left (is_pair e) (list_all is_pair es) h
all_at (e ∷ es) (suc i) d h within = all_at es i d (and_right (is_pair e) (list_all is_pair es) h) (omega arith)

-- the last sequence is in range
pub last_fits : (r : ℕ) (es : List (Pair × Bool)) → list_all is_pair es ≡ true → last_of r es ≤ SEQUENCES
last_fits r [] h = lit≤ tt
last_fits r (e ∷ es) h =
    let one = sequence_fits e (and_left (is_pair e) (list_all is_pair es) h) in
    let rest = last_fits r es (and_right (is_pair e) (list_all is_pair es) h) in
    elim (e.0.replica == r) as (λ b. greatest (each (λ (d : Pair × Bool). d.0.sequence)
    (cond b (e ∷ filter (λ (d : Pair × Bool). d.0.replica == r) es)
    (filter (λ (d : Pair × Bool). d.0.replica == r) es))) ≤ SEQUENCES) [
      | true ↦ omega arith
      | false ↦ rest
    ]

last_rest : (r : ℕ) (e : Pair × Bool) (es : List (Pair × Bool)) → last_of r es ≤ last_of r (e ∷ es)
last_rest r e es =
    elim (e.0.replica == r) as (λ b. last_of r es ≤ greatest (each (λ (d : Pair × Bool). d.0.sequence)
    (cond b (e ∷ filter (λ (d : Pair × Bool). d.0.replica == r) es)
    (filter (λ (d : Pair × Bool). d.0.replica == r) es)))) [
      | true ↦ omega arith
      | false ↦ omega arith
    ]

last_first : (r : ℕ) (e : Pair × Bool) (es : List (Pair × Bool)) → (e.0.replica == r) ≡ true
    → e.0.sequence ≤ last_of r (e ∷ es)
last_first r e es same =
    let is : last_of r (e ∷ es) ≡ max e.0.sequence (last_of r es) =
    ap (λ b. greatest (each (λ (d : Pair × Bool). d.0.sequence) (cond b
    (e ∷ filter (λ (d : Pair × Bool). d.0.replica == r) es)
    (filter (λ (d : Pair × Bool). d.0.replica == r) es)))) same in
    omega arith

unused_step : (o r s : ℕ) (e : Pair × Bool) (es : List (Pair × Bool)) → last_of r (e ∷ es) < s
    → map.find pair_cmp (pair_of o r s) es ≡ None
    → (b : Bool) → eq_by_cmp pair_cmp (pair_of o r s) e.0 ≡ b → cond b (Some e.1)
    (map.find pair_cmp (pair_of o r s) es) ≡ None
unused_step o r s e es above before true t =
    let is = pairs_apart (pair_of o r s) e.0 ((Equal-is (pair_cmp (pair_of o r s) e.0)).0 t) in
    let replica : e.0.replica ≡ r = sym (ap (λ (p : Pair). p.replica) is) in
    let sequence : s ≡ e.0.sequence = ap (λ (p : Pair). p.sequence) is in
    let at_most = last_first r e es (eq-eqb e.0.replica r replica) in
    absurd (omega arith)
unused_step o r s e es above before false t = before

-- a sequence above the last one isn't used
pub unused : (o r s : ℕ) (es : List (Pair × Bool)) → last_of r es < s → map.find pair_cmp (pair_of o r s) es ≡ None
unused o r s [] above = refl
unused o r s (e ∷ es) above =
    let rest = last_rest r e es in
    unused_step o r s e es above (unused o r s es (omega arith)) (eq_by_cmp pair_cmp (pair_of o r s) e.0) refl

unused_pair : (c : Pairs) (o r : ℕ) → map.get c (pair_of o r (last_sequence c r + 1)) ≡ None
unused_pair c o r =
    get-entries c (pair_of o r (last_sequence c r + 1)) ∙ unused o r (last_sequence c r + 1) (map.entries c)
    (omega arith)

-- choosing adds one pair
pub joined-with_pair : (c : Pairs) (o r : ℕ)
    → joined_choices c (with_pair map.empty o r (last_sequence c r + 1)) ≡ with_pair c o r (last_sequence c r + 1)
joined-with_pair c o r =
    joined-one pair_cmp pairs_total pairs_apart ◌||◌ c (pair_of o r (last_sequence c r + 1)) false
    ∙ ap (λ (a : Option Bool). map.insert c (pair_of o r (last_sequence c r + 1)) (joined_with_held ◌||◌ a false))
    (unused_pair c o r)

-- that wasn't there
pub chosen_is_fresh : (c : Pairs) (o r : ℕ) → ¬ (joined_choices c (with_pair map.empty o r (last_sequence c r + 1)) ≡ c)
chosen_is_fresh c o r same =
    let q = pair_of o r (last_sequence c r + 1) in
    let there : map.get c q ≡ Some false =
    ap (λ d. map.get d q) (sym (sym (joined-with_pair c o r) ∙ same))
    ∙ get_set pair_cmp pairs_total pairs_apart c q false in
    let gone = unused_pair c o r in
    false≢true (ap is_some (sym gone ∙ there))

-- the pairs of the option that aren't removed, as removed
abbrev pub kept : ℕ → List (Pair × Bool) → List (Pair × Bool)
kept o es = each (λ e. (e.0, true)) (filter (is_live o) es)

below_kept : (o : ℕ) (x : Pair) (es : List (Pair × Bool)) → below_all pair_cmp x es ≡ true
    → below_all pair_cmp x (kept o es) ≡ true
below_kept o x [] h = refl
below_kept o x (e ∷ es) h =
    let rest = below_kept o x es (and_right (is_lt (pair_cmp x e.0)) (below_all pair_cmp x es) h) in
    elim (is_live o e) as (λ b. below_all pair_cmp x (each (λ (d : Pair × Bool). (d.0, true))
    (cond b (e ∷ filter (is_live o) es) (filter (is_live o) es))) ≡ true) [
      | true ↦ and_both _ _ (and_left (is_lt (pair_cmp x e.0)) (below_all pair_cmp x es) h) rest
      | false ↦ rest
    ]

pub sorted_kept : (o : ℕ) (es : List (Pair × Bool)) → map.is_sorted pair_cmp es ≡ true
    → map.is_sorted pair_cmp (kept o es) ≡ true
sorted_kept o [] h = refl
sorted_kept o (e ∷ es) h =
    let rest = sorted_kept o es (sorted_rest pair_cmp pairs_total e es h) in
    elim (is_live o e) as (λ b. map.is_sorted pair_cmp (each (λ (d : Pair × Bool). (d.0, true))
    (cond b (e ∷ filter (is_live o) es) (filter (is_live o) es))) ≡ true) [
      | true ↦ and_both _ _ (below_kept o e.0 es (sorted_head pair_cmp pairs_total e es h)) rest
      | false ↦ rest
    ]

pub all_kept : (o : ℕ) (es : List (Pair × Bool)) → list_all is_pair es ≡ true → list_all is_pair (kept o es) ≡ true
all_kept o [] h = refl
all_kept o (e ∷ es) h =
    let rest = all_kept o es (and_right (is_pair e) (list_all is_pair es) h) in
    elim (is_live o e) as (λ b. list_all is_pair (each (λ (d : Pair × Bool). (d.0, true))
    (cond b (e ∷ filter (is_live o) es) (filter (is_live o) es))) ≡ true) [
      | true ↦ and_both (is_pair e) _ (and_left (is_pair e) (list_all is_pair es) h) rest
      | false ↦ rest
    ]

-- what becomes of a pair in the delta
abbrev removed_at : ℕ → Pair → Option Bool → Option Bool
removed_at o q None = None
removed_at o q (Some gone) = cond (is_live o (q, gone)) (Some true) None

kept_step : (o : ℕ) (q : Pair) (e : Pair × Bool) (es : List (Pair × Bool)) → map.is_sorted pair_cmp (e ∷ es) ≡ true
    → map.find pair_cmp q (kept o es) ≡ removed_at o q (map.find pair_cmp q es)
    → (tied live : Bool) → eq_by_cmp pair_cmp q e.0 ≡ tied → is_live o e ≡ live
    → map.find pair_cmp q (each (λ (d : Pair × Bool). (d.0, true))
    (cond live (e ∷ filter (is_live o) es) (filter (is_live o) es)))
    ≡ removed_at o q (cond tied (Some e.1) (map.find pair_cmp q es))
kept_step o q e es h before true true t l =
    let is = pairs_apart q e.0 ((Equal-is (pair_cmp q e.0)).0 t) in
    ap (λ b. cond b (Some true) (map.find pair_cmp q (kept o es))) t
    ∙ sym (ap (λ b. cond b (Some true) None) (ap (λ p. is_live o (p, e.1)) is ∙ l))
kept_step o q e es h before true false t l =
    let is = pairs_apart q e.0 ((Equal-is (pair_cmp q e.0)).0 t) in
    find_tied_below pair_cmp pairs_total q e.0 (kept o es) t (below_kept o e.0 es
    (sorted_head pair_cmp pairs_total e es h))
    ∙ sym (ap (λ b. cond b (Some true) None) (ap (λ p. is_live o (p, e.1)) is ∙ l))
kept_step o q e es h before false true t l = ap (λ b. cond b (Some true) (map.find pair_cmp q (kept o es))) t ∙ before
kept_step o q e es h before false false t l = before

find-kept : (o : ℕ) (q : Pair) (es : List (Pair × Bool)) → map.is_sorted pair_cmp es ≡ true
    → map.find pair_cmp q (kept o es) ≡ removed_at o q (map.find pair_cmp q es)
find-kept o q [] h = refl
find-kept o q (e ∷ es) h =
    kept_step o q e es h (find-kept o q es (sorted_rest pair_cmp pairs_total e es h)) (eq_by_cmp pair_cmp q e.0)
    (is_live o e) refl refl

-- the delta is seen as the pairs withdrawn
pub seen_withdrawn : (c : Pairs) (o : ℕ) (es : List (Pair × Bool)) → map.is_sorted pair_cmp es ≡ true
    → es ≡ map.entries c
    → map.from_sorted {R = pair_cmp} (kept o es) ≡ withdrawn c o
seen_withdrawn c o es h is =
    same_map pairs_total pairs_apart _ _ (λ q. get-from_sorted pair_cmp (kept o es) q (to_T _ (sorted_kept o es h))
    ∙ sym (get-from_entries pairs_total (kept o es) q))
    ∙ ap (λ l. map.from_entries {R = pair_cmp} (kept o l)) is

get-withdrawn : (c : Pairs) (o : ℕ) (q : Pair) → map.get (withdrawn c o) q ≡ removed_at o q (map.get c q)
get-withdrawn c o q =
    get-from_entries pairs_total (kept o (map.entries c)) q
    ∙ find-kept o q (map.entries c) (entries_rise pair_cmp c)
    ∙ ap (removed_at o q) (sym (get-entries c q))

get-joined : (c : Pairs) (o : ℕ) (q : Pair)
    → map.get (joined_choices c (withdrawn c o)) q ≡ both_of ◌||◌ (map.get c q) (removed_at o q (map.get c q))
get-joined c o q =
    get-joined_maps pair_cmp ◌||◌ pairs_total c (withdrawn c o) q
    ∙ ap (both_of ◌||◌ (map.get c q)) (get-withdrawn c o q)

still_there : (o : ℕ) (q : Pair) (a : Option Bool) → is_some (both_of ◌||◌ a (removed_at o q a)) ≡ is_some a
still_there o q None = refl
still_there o q (Some gone) = elim (is_live o (q, gone)) as (λ b.
    is_some (both_of ◌||◌ (Some gone) (cond b (Some true) None)) ≡ true) [ true ↦ refl | false ↦ refl ]

-- the added pairs stay
pub added-joined : (c : Pairs) (o p r s : ℕ) → is_added (joined_choices c (withdrawn c o)) p r s ≡ is_added c p r s
added-joined c o p r s = ap is_some (get-joined c o (pair_of p r s))
    ∙ still_there o (pair_of p r s) (map.get c (pair_of p r s))

gone_by : (mine gone : Bool) → unwrap_or (both_of ◌||◌ (Some gone) (cond (mine && not gone) (Some true) None)) false
    ≡ (gone || (mine && true))
gone_by true true = refl
gone_by true false = refl
gone_by false true = refl
gone_by false false = refl

none_by : (mine : Bool) → false ≡ (false || (mine && false))
none_by true = refl
none_by false = refl

then_gone : (o : ℕ) (q : Pair) (a : Option Bool)
    → unwrap_or (both_of ◌||◌ a (removed_at o q a)) false ≡ (unwrap_or a false || ((q.option == o) && is_some a))
then_gone o q None = none_by (q.option == o)
then_gone o q (Some gone) = gone_by (q.option == o) gone

-- the removed ones gain those of the option that are added
pub removed-joined : (c : Pairs) (o p r s : ℕ)
    → is_removed (joined_choices c (withdrawn c o)) p r s ≡ (is_removed c p r s || ((p == o) && is_added c p r s))
removed-joined c o p r s =
    ap (λ a. unwrap_or a false) (get-joined c o (pair_of p r s))
    ∙ then_gone o (pair_of p r s) (map.get c (pair_of p r s))

-- a live pair that is found
record SomeLive (o : ℕ) (es : List (Pair × Bool)) : Type 0 where
  pair : Pair
  found : map.find pair_cmp pair es ≡ Some false
  mine : (pair.option == o) ≡ true

pub live_is : (mine gone : Bool) → (mine && not gone) ≡ true → (mine ≡ true) × (gone ≡ false)
live_is true true h = absurd (false≢true h)
live_is true false h = (refl, refl)
live_is false gone h = absurd (false≢true h)

later_live : (o : ℕ) (e : Pair × Bool) (es : List (Pair × Bool)) → map.is_sorted pair_cmp (e ∷ es) ≡ true
    → (l : SomeLive o es)
    → (b : Bool) → eq_by_cmp pair_cmp l.pair e.0 ≡ b → cond b (Some e.1) (map.find pair_cmp l.pair es) ≡ Some false
later_live o e es h l true t =
    absurd (false≢true (ap is_some (sym (find_tied_below pair_cmp pairs_total l.pair e.0 es t
    (sorted_head pair_cmp pairs_total e es h)) ∙ l.found)))
later_live o e es h l false t = l.found

some_live_by : (o : ℕ) (e : Pair × Bool) (es : List (Pair × Bool)) → map.is_sorted pair_cmp (e ∷ es) ≡ true
    → (list_any (is_live o) es ≡ true → SomeLive o es)
    → (b : Bool) → is_live o e ≡ b → (b || list_any (is_live o) es) ≡ true → SomeLive o (e ∷ es)
some_live_by o e es h rest true l any =
    let facts = live_is (e.0.option == o) e.1 l in
    record {
      pair = e.0;
      found = ap (λ b. cond b (Some e.1) (map.find pair_cmp e.0 es)) (ap is_eq (tied_itself pairs_total e.0))
          ∙ ap Some facts.1;
      mine = facts.0;
    }
some_live_by o e es h rest false l any =
    let later = rest any in
    record {
      pair = later.pair;
      found = later_live o e es h later (eq_by_cmp pair_cmp later.pair e.0) refl;
      mine =
          later.mine;
    }

some_live : (o : ℕ) (es : List (Pair × Bool)) → map.is_sorted pair_cmp es ≡ true → list_any (is_live o) es ≡ true
    → SomeLive o es
some_live o [] h any = absurd (false≢true any)
some_live o (e ∷ es) h any =
    some_live_by o e es h (some_live o es (sorted_rest pair_cmp pairs_total e es h)) (is_live o e) refl any

-- so the delta changes a choice that holds the option
pub withdrawn_is_fresh : (c : Pairs) (o : ℕ) → is_chosen c o ≡ true → ¬ (joined_choices c (withdrawn c o) ≡ c)
withdrawn_is_fresh c o chosen same =
    let live = some_live o (map.entries c) (entries_rise pair_cmp c) chosen in
    let here : map.get c live.pair ≡ Some false = get-entries c live.pair ∙ live.found in
    let after : unwrap_or (map.get (joined_choices c (withdrawn c o)) live.pair) false ≡ true =
    ap (λ a. unwrap_or a false) (get-joined c o live.pair)
    ∙ then_gone o live.pair (map.get c live.pair)
    ∙ (λ i. unwrap_or (here i) false || (live.mine i && is_some (here i))) in
    false≢true (ap (λ a. unwrap_or a false) (sym here) ∙ ap (λ d. unwrap_or (map.get d live.pair) false) (sym same)
    ∙ after)

-- what is joined keeps a pair's ranges
pub is_pair-joined : (a b : Pair × Bool) → is_pair a ≡ true → is_pair b ≡ true → is_pair (a.0, a.1 || b.1) ≡ true
is_pair-joined a b ha hb = ha

-- a merged list is one of pairs
pub joined_in_range : (xs ys zs : List (Pair × Bool))
    → zs ≡ map.entries (joined_choices (map.from_sorted xs) (map.from_sorted ys))
    → is_choice xs ≡ true → is_choice ys ≡ true → is_choice zs ≡ true
joined_in_range xs ys zs is = in_range_joined pair_cmp ◌||◌ xs ys zs is pairs_total pairs_apart is_pair is_pair-joined
