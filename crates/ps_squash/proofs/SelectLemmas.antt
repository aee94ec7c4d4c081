-- What a selection takes of deltas, one after another.
use Rattle.std.proofs.Common.{◌≡◌, ℕ, suc, zero, ◌+◌, ◌-◌, List, [], ◌∷◌, ◌++◌, length, take, refl, sym, ap, ◌∙◌, arith}
use Rattle.std.proofs.Common.{Option, Some, None, Bool, true, false, length-append, subst, ⊎_elim}
use Rattle.std.proofs.Math.Dec.{T}
use Rattle.std.proofs.Math.Facts.{yes_ltb}
use Rattle.std.proofs.Math.Path.{fun_ext}
use Rattle.std.proofs.lemmas.Bool.{cases_eq, false≢true}
use Rattle.std.proofs.lemmas.List.{map-append}
use Rattle.std.proofs.lemmas.List.Elements.{All-filter}
use Rattle.std.proofs.lemmas.List.Sums.{AllPass-from_list_all, list_all-from_AllPass}
use Rattle.std.specs.Prelude.{◌&&◌, Err, IsSome, nat_lt, Ok, OnOk, Result, cond, filter}
use Rattle.std.specs.Option.{SomeIff}
use Rattle.std.specs.List.{list_all}
use Rattle.std.specs.declared.cmp.Ordering.{Ordering}
use Rattle.std.specs.FinMap as map
use Rattle.std.specs.FinMap.{IsAntisymmetric, entries_sorted, get-entries, get-from_sorted, get-retain_keys, same_map}
use Rattle.std.specs.FinMap.Entries.{find-where_key, is_sorted-where_key}
use Rattle.std.specs.Cmp.{IsTotalOrder}
use Rattle.ps_lattice.proofs.Rising.{and_both, and_left, and_right, from_T, to_T}
use Rattle.ps_delta.specs.declared.cell_state.CellState.{CellState}
use Rattle.ps_delta.specs.Order.{Rising}
use Rattle.ps_delta.specs.State.{State, empty_cell, empty_state, joined_state}
use Rattle.ps_delta.specs.Deltas.{Entries, cells_of, joined_history, state_of}
use Rattle.ps_delta.proofs.EntryLemmas.{state_of-here, state_of-nil, state_of-there}
use Rattle.ps_delta.proofs.HistoryLemmas.{joined_history-append, joined_history-nil, joined_history-one}
use Rattle.ps_delta.proofs.StateLemmas.{joined_state-assoc, joined_state-empty, joined_state-empty_right}
use Rattle.ps_squash.specs.Selected.{cell_without, delta_without, each_without, first_of, selected, still_after}
use Rattle.ps_squash.specs.Inside.{Sum, is_taken, sum_after, sum_before, sum_of}
use Rattle.ps_squash.specs.declared.selection.Selection.{Selection}
use Rattle.ps_squash.proofs.CellLemmas.{state_of-append}

-- ---- the first so many

take_none : (n : ℕ) → take {A = Entries} n [] ≡ []
take_none zero = refl
take_none (suc n) = refl

less_none : (n : ℕ) → n ≡ n - 0
less_none n = omega arith

none_less : (n : ℕ) → zero ≡ zero - n
none_less n = omega arith

both_less : (n m : ℕ) → n - m ≡ suc n - suc m
both_less n m = omega arith

take_append : (n : ℕ) (ds es : List Entries) → take n (ds ++ es) ≡ take n ds ++ take (n - length ds) es
take_append n [] es = ap (λ m. take m es) (less_none n) ∙ ap (λ xs. xs ++ take (n - 0) es) (sym (take_none n))
take_append zero (d ∷ ds) es = ap (λ m. take m es) (none_less (length (d ∷ ds)))
take_append (suc n) (d ∷ ds) es =
    ap (λ xs. d ∷ xs) (take_append n ds es) ∙ ap (λ m. d ∷ (take n ds ++ take m es)) (both_less n (length ds))

first_append : (until : Option ℕ) (without : Option ℕ) (ds es : List Entries)
    → first_of until (ds ++ es)
    ≡ first_of until ds ++ first_of (still_after (record { until = until; without = without }) (length ds)).until es
first_append None without ds es = refl
first_append (Some n) without ds es = take_append n ds es

without_append : (without : Option ℕ) (ds es : List Entries)
    → each_without without (ds ++ es) ≡ each_without without ds ++ each_without without es
without_append None ds es = refl
without_append (Some replica) ds es = map-append (delta_without replica) ds es

selected_append : (asked : Selection) (ds es : List Entries)
    → selected asked (ds ++ es) ≡ selected asked ds ++ selected (still_after asked (length ds)) es
selected_append asked ds es =
    ap (each_without asked.without) (first_append asked.until asked.without ds es)
    ∙ without_append asked.without (first_of asked.until ds)
    (first_of (still_after asked (length ds)).until es)

none_selected : (until without : Option ℕ) → each_without without (first_of until []) ≡ []
none_selected None None = refl
none_selected None (Some replica) = refl
none_selected (Some zero) None = refl
none_selected (Some (suc n)) None = refl
none_selected (Some zero) (Some replica) = refl
none_selected (Some (suc n)) (Some replica) = refl

-- ---- the selection for the deltas to come

sums_same : (a b : Sum) → a.state ≡ b.state → a.still.until ≡ b.still.until → a.still.without ≡ b.still.without → a ≡ b
sums_same a b state until without =
    λ i. record { state = state i; still = record { until = until i; without = without i } }

later_until : (until : Option ℕ) (without : Option ℕ) (m n k : ℕ) → m + n ≡ k
    → (still_after (still_after (record { until = until; without = without }) m) n).until
    ≡ (still_after (record { until = until; without = without }) k).until
later_until None without m n k is = refl
later_until (Some u) without m n k is = ap Some (omega (arith, is))

same_until : (until : Option ℕ) (without : Option ℕ)
    → (still_after (record { until = until; without = without }) 0).until ≡ until
same_until None without = refl
same_until (Some u) without = ap Some (omega arith)

-- ---- what was joined so far

pub after_none : (s : Sum) → sum_after s [] ≡ s
after_none s =
    sums_same (sum_after s []) s
    (ap (λ ds. joined_state s.state (joined_history ds)) (none_selected s.still.until s.still.without)
    ∙ ap (joined_state s.state) joined_history-nil ∙ joined_state-empty_right s.state)
    (same_until s.still.until s.still.without) refl

after_append : (s : Sum) (ds es : List Entries) → sum_after (sum_after s ds) es ≡ sum_after s (ds ++ es)
after_append s ds es =
    let later = selected (still_after s.still (length ds)) es in
    sums_same (sum_after (sum_after s ds) es) (sum_after s (ds ++ es))
    (joined_state-assoc s.state (joined_history (selected s.still ds)) (joined_history later)
    ∙ ap (joined_state s.state) (sym (joined_history-append (selected s.still ds) later)
    ∙ ap joined_history (sym (selected_append s.still ds es))))
    (later_until s.still.until s.still.without (length ds) (length es) (length (ds ++ es))
    (sym (length-append ds es)))
    refl

pub after_more : (asked : Selection) (old new : Sum) (ds here : List Entries) → old ≡ sum_after (sum_before asked) ds
    → new ≡ sum_after old here → new ≡ sum_after (sum_before asked) (ds ++ here)
after_more asked old new ds here is next =
    next ∙ ap (λ s. sum_after s here) is ∙ after_append (sum_before asked) ds here

pub selected_state : (asked : Selection) (sum : Sum) (ds : List Entries) → sum ≡ sum_after (sum_before asked) ds
    → sum.state ≡ joined_history (selected asked ds)
selected_state asked sum ds is =
    ap (λ (s : Sum). s.state) is ∙ joined_state-empty (joined_history (selected asked ds))

-- ---- one more delta

one_taken : (until without : Option ℕ) (d : Entries) → is_taken (record { until = until; without = without }) ≡ true
    → selected (record { until = until; without = without }) (d ∷ []) ≡ each_without without (d ∷ [])
one_taken None without d is = refl
one_taken (Some zero) without d is = absurd (false≢true is)
one_taken (Some (suc n)) without d is = ap (λ xs. each_without without (d ∷ xs)) (take_none n)

some_more : (n : ℕ) → nat_lt 0 (suc n) ≡ true
some_more n = from_T (nat_lt 0 (suc n)) (yes_ltb (omega arith))

none_taken : (until without : Option ℕ) (d : Entries) → is_taken (record { until = until; without = without }) ≡ false
    → selected (record { until = until; without = without }) (d ∷ []) ≡ []
none_taken None without d is = absurd (false≢true (sym is))
none_taken (Some zero) None d is = refl
none_taken (Some zero) (Some replica) d is = refl
none_taken (Some (suc n)) without d is = absurd (false≢true (sym is ∙ some_more n))

-- .. that is left out
pub passed : (old : State) (still new_still : Selection) (d : Entries) → is_taken still ≡ false
    → new_still ≡ still_after still 1 → sum_of old new_still ≡ sum_after (sum_of old still) (d ∷ [])
passed old still new_still d is counted =
    ap (sum_of old) counted
    ∙ ap (λ s. sum_of s (still_after still 1))
    (sym (ap (λ ds. joined_state old (joined_history ds)) (none_taken still.until still.without d is)
    ∙ ap (joined_state old) joined_history-nil ∙ joined_state-empty_right old))

-- .. that is joined, whole or without what a replica stamped
joined_one : (old new : State) (still new_still : Selection) (without : Option ℕ) (d e : Entries)
    → still.without ≡ without → is_taken still ≡ true → new_still ≡ still_after still 1
    → each_without without (d ∷ []) ≡ e ∷ [] → new ≡ joined_state old (state_of e)
    → sum_of new new_still ≡ sum_after (sum_of old still) (d ∷ [])
joined_one old new still new_still without d e whose is counted rest joined =
    ap (sum_of new) counted
    ∙ ap (λ s. sum_of s (still_after still 1))
    (joined ∙ ap (joined_state old) (sym (ap joined_history
    (one_taken still.until still.without d is ∙ ap (λ w. each_without w (d ∷ [])) whose ∙ rest)
    ∙ joined_history-one e)))

pub joined_whole : (old new : State) (still new_still : Selection) (d : Entries)
    → still.without ≡ None → is_taken still ≡ true → new_still ≡ still_after still 1
    → new ≡ joined_state old (state_of d) → sum_of new new_still ≡ sum_after (sum_of old still) (d ∷ [])
joined_whole old new still new_still d whose is counted joined =
    joined_one old new still new_still None d d whose is counted refl joined

pub joined_rest : (old new : State) (still new_still : Selection) (replica : ℕ) (d : Entries)
    → still.without ≡ Some replica → is_taken still ≡ true → new_still ≡ still_after still 1
    → new ≡ joined_state old (state_of (delta_without replica d))
    → sum_of new new_still ≡ sum_after (sum_of old still) (d ∷ [])
joined_rest old new still new_still replica d whose is counted joined =
    joined_one old new still new_still (Some replica) d (delta_without replica d) whose is counted refl joined

-- ---- the cells of a delta, one after another

same_cells : (replica n : ℕ) (es : Entries) → Rising n (cells_of es) → Rising n (cells_of (delta_without replica es))
same_cells replica n [] r = tt
same_cells replica n (e ∷ es) r = (r.0, same_cells replica (e.0 + 1) es r.1)

pub first_cell : (replica : ℕ) (s new : State) (left : Entries) (e : ℕ × CellState) (rest : Entries)
    → left ≡ e ∷ rest → (n : ℕ) × Rising n (cells_of left)
    → new ≡ joined_state s (state_of (delta_without replica (e ∷ [])))
    → joined_state new (state_of (delta_without replica rest)) ≡ joined_state s (state_of (delta_without replica left))
first_cell replica s new left e rest parts rising joined =
    let one = delta_without replica (e ∷ []) in
    let others = delta_without replica rest in
    let r : Rising rising.0 (cells_of (e ∷ rest)) = subst (λ es. Rising rising.0 (cells_of es)) parts rising.1 in
    ap (λ x. joined_state x (state_of others)) joined
    ∙ joined_state-assoc s (state_of one) (state_of others)
    ∙ ap (joined_state s) (sym (state_of-append rising.0 one others (same_cells replica rising.0 (e ∷ rest) r)))
    ∙ ap (λ es. joined_state s (state_of (delta_without replica es))) (sym parts)

pub rest_rises : (left : Entries) (e : ℕ × CellState) (rest : Entries) → left ≡ e ∷ rest
    → (n : ℕ) × Rising n (cells_of left) → (n : ℕ) × Rising n (cells_of rest)
rest_rises left e rest parts rising =
    let r : Rising rising.0 (cells_of (e ∷ rest)) = subst (λ es. Rising rising.0 (cells_of es)) parts rising.1 in
    (e.0 + 1, r.1)

pub no_cells : (replica : ℕ) (s : State) (left : Entries) → length left ≡ 0 → (wanted : State)
    → joined_state s (state_of (delta_without replica left)) ≡ wanted → s ≡ wanted
no_cells replica s [] none wanted joined = sym (ap (joined_state s) state_of-nil ∙ joined_state-empty_right s) ∙ joined
no_cells replica s (e ∷ es) none wanted joined = absurd (omega (arith, none))

-- a cell that is left with nothing
nothing_at : (replica : ℕ) (e : ℕ × CellState) → cell_without replica e.1 ≡ empty_cell → (c : ℕ)
    → state_of (delta_without replica (e ∷ [])) c ≡ empty_state c
unfolding empty_state
nothing_at replica e none c =
    ⊎_elim
    (λ p. state_of-here (e.0, cell_without replica e.1) [] c p ∙ none)
    (λ p. state_of-there (e.0, cell_without replica e.1) [] c p ∙ ap (λ (t : State). t c) state_of-nil)
    (cases_eq e.0 c)

pub nothing_left : (replica : ℕ) (s : State) (e : ℕ × CellState) → cell_without replica e.1 ≡ empty_cell
    → s ≡ joined_state s (state_of (delta_without replica (e ∷ [])))
nothing_left replica s e none = sym (ap (joined_state s) (fun_ext (nothing_at replica e none)) ∙ joined_state-empty_right s)

-- ---- a map without some keys

pub kept_keys : {K X : Type 0} {R : K → K → Ordering} → IsTotalOrder R → IsAntisymmetric R → (m : map.FinMap R X)
    (p : K → Bool) (es : List (K × X)) → es ≡ filter (λ e. p e.0) (map.entries m)
    → map.from_sorted es ≡ map.retain_keys m p
kept_keys {R = R} total apart m p es is =
    let sorted : T (map.is_sorted R es) =
    subst (λ xs. T (map.is_sorted R xs)) (sym is) (is_sorted-where_key R p (map.entries m) (entries_sorted m)) in
    same_map total apart (map.from_sorted es) (map.retain_keys m p)
    (λ q. get-from_sorted R es q sorted ∙ ap (map.find R q) is
    ∙ find-where_key R p q (λ x tie. ap p (sym (apart q x tie))) (map.entries m)
    ∙ ap (λ o. cond (p q) o None) (sym (get-entries m q))
    ∙ sym (get-retain_keys m p q (λ x tie. ap p (sym (apart q x tie)))))

pub kept_in_range : {K X : Type 0} {R : K → K → Ordering} (m : map.FinMap R X) (p : K → Bool) (q : K × X → Bool)
    (es : List (K × X)) → es ≡ filter (λ e. p e.0) (map.entries m)
    → (map.is_sorted R (map.entries m) && list_all q (map.entries m)) ≡ true
    → (map.is_sorted R es && list_all q es) ≡ true
kept_in_range {R = R} m p q es is all =
    let kept = filter (λ e. p e.0) (map.entries m) in
    let sorted : map.is_sorted R kept ≡ true =
    from_T (map.is_sorted R kept)
    (is_sorted-where_key R p (map.entries m) (to_T _ (and_left _ _ all))) in
    let in_range : list_all q kept ≡ true =
    list_all-from_AllPass q kept
    (All-filter (λ e. p e.0) (λ e. q e ≡ true) (map.entries m)
    (AllPass-from_list_all q (map.entries m) (and_right _ _ all))) in
    subst (λ xs. (map.is_sorted R xs && list_all q xs) ≡ true) (sym is) (and_both _ _ sorted in_range)

-- counts or pairs in range make a counter or a set
pub some_made : {X : Type 0} (made : Option X) (P : Type 0) (value : X) → SomeIff made P value → P → IsSome made
some_made None P value not_made p = absurd (not_made p)
some_made (Some x) P value is p = refl

pub made_value : {X : Type 0} (made : Option X) (P : Type 0) (value r : X) → SomeIff made P value → made ≡ Some r
    → r ≡ value
made_value made P value r is some = (subst (λ o. SomeIff o P value) some is).1

pub on_ok : {X E : Type 0} {P Q : Type 0} (r : Result X E) → (P → Q) → OnOk r P → OnOk r Q
on_ok (Ok x) f p = f p
on_ok (Err e) f p = p
