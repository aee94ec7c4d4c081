-- The lines of the deltas that edits make.
use Rattle.std.proofs.Common.{◌≡◌, ◌≢◌, ◌∙◌, refl, sym, ap, subst, arith, ℕ, ◌+◌, ◌<◌, ◌≤◌, Bool, true, false, cond}
use Rattle.std.proofs.Common.{not, List, [], ◌∷◌, length, get_or, nat_le, nat_lt, Result, Ok}
use Rattle.std.specs.Prelude.{◌==◌, map as each, filter}
use Rattle.std.specs.List.{All, list_all, list_any}
use Rattle.std.specs.declared.cmp.Ordering.{Ordering}
use Rattle.std.specs.Cmp.{IsTotalOrder, nat_cmp_total}
use Rattle.std.specs.Ordering.{nat_cmp}
use Rattle.std.specs.FinMap as map
use Rattle.std.specs.FinMap.{IsAntisymmetric, nat_cmp-IsAntisymmetric}
use Rattle.std.proofs.lemmas.Bool.{eqb-true, false≢true}
use Rattle.std.proofs.lemmas.Bool.Decides.{nat_tests}
use Rattle.std.proofs.lemmas.List.{length-map}
use Rattle.std.proofs.lemmas.List.Elements.{All-cons, All-map, All-nil}
use Rattle.std.proofs.lemmas.List.Folds.{list_any_at}
use Rattle.ps_grid.specs.declared.refusal.Refusal.{Refusal}
use Rattle.ps_grid.specs.declared.size.TheConstants.{CELLS, COLUMNS}
use Rattle.ps_lattice.specs.declared.choice.Pair.{Pair}
use Rattle.ps_grid.specs.declared.parties.TheConstants.{REPLICAS}
use Rattle.ps_lattice.specs.declared.limits.TheConstants.{COUNT_LIMIT, LAST_TIME, OPTIONS, SEQUENCES}
use Rattle.ps_lattice.specs.declared.tally.Count.{Count}
use Rattle.ps_lattice.specs.Register.{is_stamp, time_of}
use Rattle.ps_lattice.specs.Tally.{Counts, added, counts_of, is_amount, is_count, is_tally, subtracted}
use Rattle.ps_lattice.specs.Choice.{Pairs, is_choice, is_chosen, is_live, is_pair, last_sequence, pair_cmp, pair_of}
use Rattle.ps_lattice.specs.Choice.{with_pair, withdrawn}
use Rattle.ps_lattice.specs.ChoiceLaws.{pairs_apart, pairs_total}
use Rattle.ps_lattice.proofs.ChoiceLemmas.{all_kept, chosen_is_fresh, kept, last_fits, seen_withdrawn, sorted_kept}
use Rattle.ps_lattice.proofs.ChoiceLemmas.{withdrawn_is_fresh}
use Rattle.ps_lattice.proofs.Rising.{and_both, and_left}
use Rattle.ps_lattice.proofs.TallyLemmas.{add_is_fresh, sub_is_fresh}
use Rattle.ps_lattice.proofs.Views.{entries_of, entries_rise, seen_empty, seen_one}
use Rattle.ps_content.specs.Content.{IsContent}
use Rattle.ps_content.specs.declared.content.Content.{Content}
use Rattle.ps_delta.specs.declared.cell_state.CellState.{CellState}
use Rattle.ps_delta.specs.State.{State, empty_cell}
use Rattle.ps_delta.specs.Deltas.{Entries, joined_history}
use Rattle.ps_wire.specs.Value.{IsLawful, IsState}
use Rattle.ps_wire.specs.Fits.{FitsLine, HasRegisterAlone}
use Rattle.ps_wire.proofs.LawLemmas.{batches_fit, edits_fit}
use Rattle.ps_delta.specs.Batches.{IsBatch}
use Rattle.ps_delta.specs.declared.edit.Edit.{Edit}
use Rattle.ps_delta.specs.declared.edit.Edit.TheVariants as edits
use Rattle.ps_sheet.specs.Edits.{assigned, counted, delta_of_batch, delta_of_edit, holds_choice, holds_tally}
use Rattle.ps_sheet.specs.Edits.{is_clock_full, paired, refused_if}
use Rattle.ps_cells.specs.Settled.{content_of}
use Rattle.ps_sheet.proofs.FreshCells.{choice_not_empty, some_choice, some_tally, tally_not_empty}
use Rattle.ps_sheet.proofs.BatchDeltas.{batch_is_delta}
use Rattle.ps_session.specs.EditLines.{EditLinesFit, EditsAreLawful, IsEdit}
use Rattle.ps_session.proofs.RangeLemmas.{IsInRange, choice_in_range, history_in_range}

-- ---- what an edit that isn't refused made

abbrev pub Made : Type 0
Made = Result Entries Refusal

refused_if-ok : (b : Bool) (refusal : Refusal) (answer : Made) (d : Entries) → refused_if b refusal answer ≡ Ok d
    → (b ≡ false) × (answer ≡ Ok d)
refused_if-ok true refusal answer d is = absurd cc
refused_if-ok false refusal answer d is = (refl, is)

-- none of three refusals holds
pub record Passes (a b c : Bool) (answer : Made) (d : Entries) : Type 0 where
  pub first : a ≡ false
  pub second : b ≡ false
  pub third : c ≡ false
  pub made : answer ≡ Ok d

passes : (a b c : Bool) (x y z : Refusal) (answer : Made) (d : Entries)
    → refused_if a x (refused_if b y (refused_if c z answer)) ≡ Ok d → Passes a b c answer d
passes a b c x y z answer d is =
    let one = refused_if-ok a x _ d is in
    let two = refused_if-ok b y _ d one.1 in
    let three = refused_if-ok c z answer d two.1 in
    record { first = one.0; second = two.0; third = three.0; made = three.1 }

abbrev pub tally_passes : ℕ → State → ℕ → ℕ → ℕ → Counts → Entries → Type 0
tally_passes r s c n whole counts d =
    Passes (not (is_amount n)) (not (holds_tally (content_of (s c)))) (nat_lt COUNT_LIMIT whole)
    (Ok ((c, counted counts) ∷ [])) d

pub add_passes : (r : ℕ) (s : State) (c n : ℕ) (d : Entries) → delta_of_edit r s (edits.Add c n) ≡ Ok d
    → tally_passes r s c n (added (s c).tally r + n) (counts_of r (added (s c).tally r + n) 0) d
add_passes r s c n d is = passes _ _ _ _ _ _ _ d is

pub sub_passes : (r : ℕ) (s : State) (c n : ℕ) (d : Entries) → delta_of_edit r s (edits.Sub c n) ≡ Ok d
    → tally_passes r s c n (subtracted (s c).tally r + n) (counts_of r 0 (subtracted (s c).tally r + n)) d
sub_passes r s c n d is = passes _ _ _ _ _ _ _ d is

pub choose_passes : (r : ℕ) (s : State) (c n : ℕ) (d : Entries) → delta_of_edit r s (edits.Choose c n) ≡ Ok d
    → Passes (nat_le OPTIONS n) (not (holds_choice (content_of (s c)))) (last_sequence (s c).choice r == SEQUENCES)
    (Ok ((c, paired (with_pair map.empty n r (last_sequence (s c).choice r + 1))) ∷ [])) d
choose_passes r s c n d is = passes _ _ _ _ _ _ _ d is

pub unchoose_passes : (r : ℕ) (s : State) (c n : ℕ) (d : Entries) → delta_of_edit r s (edits.Unchoose c n) ≡ Ok d
    → Passes (nat_le OPTIONS n) (not (holds_choice (content_of (s c)))) (not (is_chosen (s c).choice n))
    (Ok ((c, paired (withdrawn (s c).choice n)) ∷ [])) d
unchoose_passes r s c n d is = passes _ _ _ _ _ _ _ d is

pub batch_passes : (r : ℕ) (s : State) (cells : List (ℕ × Content)) (d : Entries) → delta_of_batch r s cells ≡ Ok d
    → (list_any (λ e. is_clock_full (s e.0)) cells ≡ false)
    × (each (λ e. (e.0, assigned r (s e.0) e.1)) cells ≡ d)
batch_passes r s cells d is =
    let found = refused_if-ok (list_any (λ (e : ℕ × Content). is_clock_full (s e.0)) cells) _ _ d is in
    (found.0, let made = found.1 in cc)

-- ---- the entries of small maps

module _ {K X : Type 0} (R : K → K → Ordering) (o : IsTotalOrder R) (same : IsAntisymmetric R) where
  no_entries : map.entries (map.empty {K = K} {X = X} {R = R}) ≡ []
  no_entries = sym (entries_of R [] refl ∙ ap map.entries (seen_empty R o same))

  one_entry : (k : K) (x : X) → map.entries (map.insert (map.empty {K = K} {X = X} {R = R}) k x) ≡ (k, x) ∷ []
  one_entry k x = sym (entries_of R ((k, x) ∷ []) refl ∙ ap map.entries (seen_one R o same k x))

no_counts : map.entries {K = ℕ} {X = Count} {R = nat_cmp} map.empty ≡ []
no_counts = no_entries nat_cmp nat_cmp_total nat_cmp-IsAntisymmetric

no_pairs : map.entries {K = Pair} {X = Bool} {R = pair_cmp} map.empty ≡ []
no_pairs = no_entries pair_cmp pairs_total pairs_apart

one_count : (r p n : ℕ) → map.entries (counts_of r p n) ≡ (r, record { added = p; subtracted = n }) ∷ []
one_count r p n = one_entry nat_cmp nat_cmp_total nat_cmp-IsAntisymmetric r (record { added = p; subtracted = n })

one_pair : (option r sequence : ℕ)
    → map.entries (with_pair map.empty option r sequence) ≡ (pair_of option r sequence, false) ∷ []
one_pair option r sequence = one_entry pair_cmp pairs_total pairs_apart (pair_of option r sequence) false

kept_pairs : (c : Pairs) (option : ℕ) → kept option (map.entries c) ≡ map.entries (withdrawn c option)
kept_pairs c option =
    entries_of pair_cmp (kept option (map.entries c)) (sorted_kept option (map.entries c) (entries_rise pair_cmp c))
    ∙ ap map.entries (seen_withdrawn c option (map.entries c) (entries_rise pair_cmp c) refl)

-- ---- the pairs of an edit are of one option

abbrev IsOf : ℕ → Pair × Bool → Type 0
IsOf option p = p.0.option ≡ option

no_other : (option : ℕ) → All (IsOf option) (map.entries {K = Pair} {X = Bool} {R = pair_cmp} map.empty)
no_other option = subst (All (IsOf option)) (sym no_pairs) (All-nil (IsOf option))

chosen_alone : (option r sequence : ℕ) → All (IsOf option) (map.entries (with_pair map.empty option r sequence))
chosen_alone option r sequence =
    subst (All (IsOf option)) (sym (one_pair option r sequence))
    (All-cons (IsOf option) (pair_of option r sequence, false) [] refl (All-nil (IsOf option)))

live_is_of : (option : ℕ) (e : Pair × Bool) → is_live option e ≡ true → IsOf option e
live_is_of option e live = eqb-true e.0.option option (and_left (e.0.option == option) (not e.1) live)

kept_step : (option : ℕ) (e : Pair × Bool) (es : List (Pair × Bool)) → All (IsOf option) (kept option es)
    → (live : Bool) → is_live option e ≡ live
    → All (IsOf option) (each (λ d. (d.0, true)) (cond live (e ∷ filter (is_live option) es)
    (filter (is_live option) es)))
kept_step option e es rest true is =
    All-cons (IsOf option) (e.0, true) (kept option es) (live_is_of option e is) rest
kept_step option e es rest false is = rest

kept_alone : (option : ℕ) (es : List (Pair × Bool)) → All (IsOf option) (kept option es)
kept_alone option [] = All-nil (IsOf option)
kept_alone option (e ∷ es) = kept_step option e es (kept_alone option es) (is_live option e) refl

-- ---- the lines fit

one_fits : (c option : ℕ) (x : CellState) (d : Entries) → ◌≡◌ {A = Made} (Ok ((c, x) ∷ [])) (Ok d)
    → All (IsOf option) (map.entries x.choice) → IsLawful d → FitsLine d
one_fits c option x d is alone lawful =
    let same : (c, x) ∷ [] ≡ d = cc in
    subst FitsLine same (edits_fit c x option (subst IsLawful (sym same) lawful) alone)

batch_fits : (r : ℕ) (s : State) (cells : List (ℕ × Content)) (d : Entries) → length cells ≤ COLUMNS
    → delta_of_batch r s cells ≡ Ok d → IsLawful d → FitsLine d
batch_fits r s cells d few is lawful =
    let made : ℕ × Content → ℕ × CellState = λ e. (e.0, assigned r (s e.0) e.1) in
    let same : each made cells ≡ d = (batch_passes r s cells d is).1 in
    let long : length (each made cells) ≡ length cells = length-map cells made in
    subst FitsLine same (batches_fit (each made cells) (subst IsLawful (sym same) lawful)
    (omega (arith, few, long))
    (All-map (λ (e : ℕ × CellState). HasRegisterAlone e.1) made cells
    (λ i e within. record { tally = refl; choice = refl })))

pub edit_lines_fit : EditLinesFit
edit_lines_fit r s (edits.Set c content) d few is lawful = batch_fits r s ((c, content) ∷ []) d few is lawful
edit_lines_fit r s (edits.SetAll cells) d few is lawful = batch_fits r s cells d few is lawful
edit_lines_fit r s (edits.Add c n) d few is lawful =
    one_fits c 0 _ d ((add_passes r s c n d is).made) (no_other 0) lawful
edit_lines_fit r s (edits.Sub c n) d few is lawful =
    one_fits c 0 _ d ((sub_passes r s c n d is).made) (no_other 0) lawful
edit_lines_fit r s (edits.Choose c n) d few is lawful =
    one_fits c n _ d ((choose_passes r s c n d is).made) (chosen_alone n r (last_sequence (s c).choice r + 1)) lawful
edit_lines_fit r s (edits.Unchoose c n) d few is lawful =
    one_fits c n _ d ((unchoose_passes r s c n d is).made)
    (subst (All (IsOf n)) (kept_pairs (s c).choice n) (kept_alone n (map.entries (s c).choice))) lawful

-- ---- the parts of what an edit makes are in range

no_tally : is_tally (map.entries {K = ℕ} {X = Count} {R = nat_cmp} map.empty) ≡ true
no_tally = ap is_tally no_counts

no_choice : is_choice (map.entries {K = Pair} {X = Bool} {R = pair_cmp} map.empty) ≡ true
no_choice = ap is_choice no_pairs

next_stamp : (time r : ℕ) → 1 ≤ r → r ≤ REPLICAS → time ≤ LAST_TIME → (time == LAST_TIME) ≡ false
    → is_stamp (time + 1) r ≡ true
next_stamp time r low high within more = grind (arith, nat_tests, low, high, within, more)

assigned_state : (r : ℕ) (x : CellState) (content : Content) → 1 ≤ r → r ≤ REPLICAS → IsInRange x
    → is_clock_full x ≡ false → IsContent content → IsState (assigned r x content)
assigned_state r x content low high inside more is = record {
  register = (next_stamp (time_of x.register) r low high inside.time more, is);
  tally = no_tally;
  choice = no_choice;
}

counts_tally : (r p n : ℕ) → is_count (r, record { added = p; subtracted = n }) ≡ true
    → is_tally (map.entries (counts_of r p n)) ≡ true
counts_tally r p n count =
    ap is_tally (one_count r p n) ∙ and_both (is_count (r, record { added = p; subtracted = n })) true count refl

counted_state : (r p n : ℕ) → is_count (r, record { added = p; subtracted = n }) ≡ true
    → IsState (counted (counts_of r p n))
counted_state r p n count = record { register = tt; tally = counts_tally r p n count; choice = no_choice }

paired_state : (c : Pairs) → is_choice (map.entries c) ≡ true → IsState (paired c)
paired_state c choice = record { register = tt; tally = no_tally; choice = choice }

one_lawful : (c : ℕ) (x : CellState) (d : Entries) → ◌≡◌ {A = Made} (Ok ((c, x) ∷ [])) (Ok d) → c < CELLS
    → IsState x → x ≢ empty_cell → IsLawful d
one_lawful c x d is inside state some =
    let same : (c, x) ∷ [] ≡ d = cc in
    subst IsLawful same (record {
      cells = record {
        some = omega arith;
        ascending = λ k within. absurd (omega (arith, within));
        none_empty = All-cons (λ (e : ℕ × CellState). e.1 ≢ empty_cell) (c, x) [] some
            (All-nil (λ (e : ℕ × CellState). e.1 ≢ empty_cell));
      };
      in_grid = All-cons (λ (e : ℕ × CellState). e.0 < CELLS) (c, x) [] inside
          (All-nil (λ (e : ℕ × CellState). e.0 < CELLS));
      states = All-cons (λ (e : ℕ × CellState). IsState e.1) (c, x) [] state
          (All-nil (λ (e : ℕ × CellState). IsState e.1));
    })

-- ---- what an edit makes is in range

fails_by : (X : Type 0) (p : X → Bool) (xs : List X) (i : ℕ) (x : X) → list_any p xs ≡ false → i < length xs
    → (b : Bool) → p (get_or xs i x) ≡ b → b ≡ false
fails_by X p xs i x none within true is = absurd (false≢true (sym none ∙ list_any_at p xs i x within is))
fails_by X p xs i x none within false is = refl

batch_lawful : (r : ℕ) (s : State) (cells : List (ℕ × Content)) (d : Entries) → 1 ≤ r → r ≤ REPLICAS
    → ((c : ℕ) → IsInRange (s c)) → IsBatch cells → All (λ e. (e.0 < CELLS) × IsContent e.1) cells
    → delta_of_batch r s cells ≡ Ok d → IsLawful d
batch_lawful r s cells d low high inside batch good is =
    let made : ℕ × Content → ℕ × CellState = λ e. (e.0, assigned r (s e.0) e.1) in
    let found = batch_passes r s cells d is in
    subst IsLawful found.1 (record {
      cells = batch_is_delta r s cells batch;
      in_grid = All-map (λ (e : ℕ × CellState). e.0 < CELLS) made cells (λ i e within. (good i e within).0);
      states = All-map (λ (e : ℕ × CellState). IsState e.1) made cells
          (λ i e within. assigned_state r (s (get_or cells i e).0) (get_or cells i e).1 low high
          (inside (get_or cells i e).0)
          (fails_by (ℕ × Content) (λ q. is_clock_full (s q.0)) cells i e found.0 within _ refl)
          (good i e within).1);
    })

one_batch : (c : ℕ) (content : Content) → IsBatch ((c, content) ∷ [])
one_batch c content = record { some = omega arith; ascending = λ k within. absurd (omega (arith, within)) }

some_amount : (n : ℕ) → not (is_amount n) ≡ false → 1 ≤ n
some_amount n is = grind (arith, nat_tests, is)

added_count : (r p n : ℕ) → 1 ≤ r → r ≤ REPLICAS → 1 ≤ n → nat_lt COUNT_LIMIT (p + n) ≡ false
    → is_count (r, record { added = p + n; subtracted = 0 }) ≡ true
added_count r p n low high some within = grind (arith, nat_tests, low, high, some, within)

subtracted_count : (r p n : ℕ) → 1 ≤ r → r ≤ REPLICAS → 1 ≤ n → nat_lt COUNT_LIMIT (p + n) ≡ false
    → is_count (r, record { added = 0; subtracted = p + n }) ≡ true
subtracted_count r p n low high some within = grind (arith, nat_tests, low, high, some, within)

next_pair : (option r last : ℕ) → 1 ≤ r → r ≤ REPLICAS → nat_le OPTIONS option ≡ false → last ≤ SEQUENCES
    → (last == SEQUENCES) ≡ false → is_pair (pair_of option r (last + 1), false) ≡ true
next_pair option r last low high small within more = grind (arith, nat_tests, low, high, small, within, more)

chosen_choice : (option r sequence : ℕ) → is_pair (pair_of option r sequence, false) ≡ true
    → is_choice (map.entries (with_pair map.empty option r sequence)) ≡ true
chosen_choice option r sequence pair =
    ap is_choice (one_pair option r sequence) ∙ and_both (is_pair (pair_of option r sequence, false)) true pair refl

withdrawn_choice : (x : CellState) (option : ℕ) → IsInRange x
    → is_choice (map.entries (withdrawn x.choice option)) ≡ true
withdrawn_choice x option inside =
    let es = map.entries x.choice in
    subst (λ ps. is_choice ps ≡ true) (kept_pairs x.choice option)
    (and_both (map.is_sorted pair_cmp (kept option es)) (list_all is_pair (kept option es))
    (sorted_kept option es (entries_rise pair_cmp x.choice)) (all_kept option es (choice_in_range x inside)))

is_held : (b : Bool) → not b ≡ false → b ≡ true
is_held true is = refl
is_held false is = absurd (false≢true (sym is))

made_lawful : (r : ℕ) (s : State) (edit : Edit) (d : Entries) → 1 ≤ r → r ≤ REPLICAS → ((c : ℕ) → IsInRange (s c))
    → IsEdit edit → delta_of_edit r s edit ≡ Ok d → IsLawful d
made_lawful r s (edits.Set c content) d low high inside good is =
    batch_lawful r s ((c, content) ∷ []) d low high inside (one_batch c content)
    (All-cons (λ (e : ℕ × Content). (e.0 < CELLS) × IsContent e.1) (c, content) [] good
    (All-nil (λ (e : ℕ × Content). (e.0 < CELLS) × IsContent e.1))) is
made_lawful r s (edits.SetAll cells) d low high inside good is =
    batch_lawful r s cells d low high inside good.0 good.1 is
made_lawful r s (edits.Add c n) d low high inside good is =
    let p = add_passes r s c n d is in
    let some = some_amount n p.first in
    let t = (s c).tally in
    let counts = counts_of r (added t r + n) 0 in
    one_lawful c (counted counts) d p.made good
    (counted_state r (added t r + n) 0 (added_count r (added t r) n low high some p.third))
    (tally_not_empty (counted counts) (some_tally (s c) counts (add_is_fresh t r n _ refl some)))
made_lawful r s (edits.Sub c n) d low high inside good is =
    let p = sub_passes r s c n d is in
    let some = some_amount n p.first in
    let t = (s c).tally in
    let counts = counts_of r 0 (subtracted t r + n) in
    one_lawful c (counted counts) d p.made good
    (counted_state r 0 (subtracted t r + n) (subtracted_count r (subtracted t r) n low high some p.third))
    (tally_not_empty (counted counts) (some_tally (s c) counts (sub_is_fresh t r n _ refl some)))
made_lawful r s (edits.Choose c n) d low high inside good is =
    let p = choose_passes r s c n d is in
    let last = last_sequence (s c).choice r in
    let pairs = with_pair map.empty n r (last + 1) in
    let within = last_fits r (map.entries (s c).choice) (choice_in_range (s c) (inside c)) in
    one_lawful c (paired pairs) d p.made good
    (paired_state pairs (chosen_choice n r (last + 1) (next_pair n r last low high p.first within p.third)))
    (choice_not_empty (paired pairs) (some_choice (s c) pairs (chosen_is_fresh (s c).choice n r)))
made_lawful r s (edits.Unchoose c n) d low high inside good is =
    let p = unchoose_passes r s c n d is in
    let pairs = withdrawn (s c).choice n in
    one_lawful c (paired pairs) d p.made good
    (paired_state pairs (withdrawn_choice (s c) n (inside c)))
    (choice_not_empty (paired pairs)
    (some_choice (s c) pairs (withdrawn_is_fresh (s c).choice n (is_held (is_chosen (s c).choice n) p.third))))

pub edits_are_lawful : EditsAreLawful
edits_are_lawful r history edit d low high lawful good is =
    made_lawful r (joined_history history) edit d low high (history_in_range history lawful) good is
