-- The news of a delta, which is what the delta adds to a state, is in range if the delta is, and has no longer line.
use Rattle.std.proofs.Common.{◌≡◌, ◌≢◌, ◌⊎◌, inl, inr, ℕ, ◌<◌, ◌≤◌, Bool, true, false, ◌&&◌, ◌||◌}
use Rattle.std.proofs.Common.{List, [], ◌∷◌, length, map, Option, Some, None, refl, sym, ap, subst, ◌∙◌, arith}
use Rattle.std.proofs.lemmas.Bool.{cases_eq, cases_lt}
use Rattle.std.proofs.lemmas.List.Elements.{All-head, All-tail}
use Rattle.std.proofs.Math.Path.{fun_ext}
use Rattle.std.specs.Prelude.{get_or}
use Rattle.std.specs.List.{All, list_all}
use Rattle.std.specs.Ordering.{is_lt, nat_cmp}
use Rattle.std.specs.Cmp.{IsTotalOrder, nat_cmp_total}
use Rattle.std.specs.declared.cmp.Ordering.{Ordering}
use Rattle.std.specs.FinMap as maps
use Rattle.std.specs.FinMap.{IsAntisymmetric, entries-from_sorted, nat_cmp-IsAntisymmetric}
use Rattle.serde_json.specs.Data.{null, string}
use Rattle.ps_grid.specs.Place.{cell_name}
use Rattle.ps_grid.specs.declared.size.TheConstants.{CELLS}
use Rattle.ps_lattice.specs.declared.register.Assignment.{Assignment}
use Rattle.ps_lattice.specs.Orders.{larger, larger_ge, larger_lt}
use Rattle.ps_lattice.specs.Register.{assignment_cmp, joined_registers}
use Rattle.ps_lattice.specs.Maps.{both_of, joined_maps}
use Rattle.ps_lattice.specs.MapLaws.{IsJoin, maps_is_join}
use Rattle.ps_lattice.specs.Tally.{greater_counts, is_count, joined_tallies}
use Rattle.ps_lattice.specs.TallyLaws.{counts_is_join}
use Rattle.ps_lattice.specs.Choice.{is_pair, joined_choices, pair_cmp}
use Rattle.ps_lattice.specs.ChoiceLaws.{pairs_apart, pairs_total, removals_is_join}
use Rattle.ps_lattice.specs.News.{IsNewsOf}
use Rattle.ps_lattice.specs.NewsLaws.{news_below, news_once}
use Rattle.ps_lattice.specs.Inside.News.{news_entries, newer_count, newer_mark}
use Rattle.ps_lattice.specs.Inside.NewsLaws.{counts_news, marks_news}
use Rattle.ps_lattice.proofs.NewsLemmas.{count_fits, mark_fits, news_in_range, seen_news, sorted_news}
use Rattle.ps_lattice.proofs.Rising.{to_T}
use Rattle.ps_lattice.proofs.Views.{entries_rise, from_entries_of, len_by_empty}
use Rattle.ps_content.specs.Order.{content_cmp}
use Rattle.ps_content.specs.declared.content.Content.{Content}
use Rattle.ps_delta.specs.declared.cell_state.CellState.{CellState}
use Rattle.ps_delta.specs.State.{State, empty_cell, empty_state, joined_cell, joined_state, with_cell}
use Rattle.ps_delta.specs.CellLaws.{by_parts, joined_cell-choice, joined_cell-register, joined_cell-tally}
use Rattle.ps_delta.specs.Deltas.{Entries, IsDelta, state_of}
use Rattle.ps_delta.proofs.EntryLemmas.{state_of-at, state_of-here, state_of-nil, state_of-there}
use Rattle.ps_delta.proofs.StateLemmas.{joined_state-at, with_cell-other, with_cell-same}
use Rattle.ps_delta.proofs.WalkLemmas.{rising_of}
use Rattle.ps_wire.specs.Fits.{NewsFit}
use Rattle.ps_wire.specs.Length.{size}
use Rattle.ps_wire.specs.Line.{delta_text}
use Rattle.ps_wire.specs.Value.{IsLawful, IsRegister, IsState, array_of, cell_value, count_value, delta_value}
use Rattle.ps_wire.specs.Value.{pair_value, register_value}
use Rattle.ps_wire.proofs.GrowthLemmas.{IsUnder, arrays_under, empty_under, register_least, under_empty, under_size}
use Rattle.ps_wire.proofs.SizeLemmas.{size_of_four}

-- ---- by cells and by parts

module _ (s d n : State) (w : IsNewsOf joined_state s d n) (c : ℕ) where
  -- the delta, where one cell holds something else that does to the state what the delta's cell does
  does_the_same : (m : CellState) → joined_cell (s c) m ≡ joined_cell (s c) (d c) → (k : ℕ) → (c ≡ k) ⊎ (c ≢ k)
      → joined_state s (with_cell d c m) k ≡ joined_state s d k
  does_the_same m h k (inl is) =
      subst (λ k. joined_state s (with_cell d c m) k ≡ joined_state s d k) is
      (joined_state-at s (with_cell d c m) c ∙ ap (joined_cell (s c)) (with_cell-same d c m) ∙ h
      ∙ sym (joined_state-at s d c))
  does_the_same m h k (inr apart) =
      joined_state-at s (with_cell d c m) k ∙ ap (joined_cell (s k)) (with_cell-other d c k m apart)
      ∙ sym (joined_state-at s d k)

  cell_least : (m : CellState) → joined_cell (s c) m ≡ joined_cell (s c) (d c) → joined_cell m (n c) ≡ m
  cell_least m h =
      let t = with_cell d c m in
      let below = w.least t (fun_ext (λ k. does_the_same m h k (cases_eq c k))) in
      ap (λ x. joined_cell x (n c)) (sym (with_cell-same d c m)) ∙ sym (joined_state-at t n c)
      ∙ ap (λ (u : State). u c) below ∙ with_cell-same d c m

  cell_news : IsNewsOf joined_cell (s c) (d c) (n c)
  cell_news = record {
    same = sym (joined_state-at s n c) ∙ ap (λ (t : State). t c) w.same ∙ joined_state-at s d c;
    least = cell_least;
  }

module _ (s d n : CellState) (w : IsNewsOf joined_cell s d n) where
  register_news : IsNewsOf (joined_registers content_cmp) s.register d.register n.register
  register_news = record {
    same = sym (joined_cell-register s n) ∙ ap (λ (x : CellState). x.register) w.same ∙ joined_cell-register s d;
    least = λ m h.
        let x : CellState = record { register = m; tally = d.tally; choice = d.choice } in
        let gives : joined_cell s x ≡ joined_cell s d =
        by_parts (joined_cell-register s x ∙ h ∙ sym (joined_cell-register s d))
        (joined_cell-tally s x ∙ sym (joined_cell-tally s d))
        (joined_cell-choice s x ∙ sym (joined_cell-choice s d)) in
        sym (joined_cell-register x n) ∙ ap (λ (y : CellState). y.register) (w.least x gives);
  }

  tally_news : IsNewsOf joined_tallies s.tally d.tally n.tally
  tally_news = record {
    same = sym (joined_cell-tally s n) ∙ ap (λ (x : CellState). x.tally) w.same ∙ joined_cell-tally s d;
    least = λ m h.
        let x : CellState = record { register = d.register; tally = m; choice = d.choice } in
        let gives : joined_cell s x ≡ joined_cell s d =
        by_parts (joined_cell-register s x ∙ sym (joined_cell-register s d))
        (joined_cell-tally s x ∙ h ∙ sym (joined_cell-tally s d))
        (joined_cell-choice s x ∙ sym (joined_cell-choice s d)) in
        sym (joined_cell-tally x n) ∙ ap (λ (y : CellState). y.tally) (w.least x gives);
  }

  choice_news : IsNewsOf joined_choices s.choice d.choice n.choice
  choice_news = record {
    same = sym (joined_cell-choice s n) ∙ ap (λ (x : CellState). x.choice) w.same ∙ joined_cell-choice s d;
    least = λ m h.
        let x : CellState = record { register = d.register; tally = d.tally; choice = m } in
        let gives : joined_cell s x ≡ joined_cell s d =
        by_parts (joined_cell-register s x ∙ sym (joined_cell-register s d))
        (joined_cell-tally s x ∙ sym (joined_cell-tally s d))
        (joined_cell-choice s x ∙ h ∙ sym (joined_cell-choice s d)) in
        sym (joined_cell-choice x n) ∙ ap (λ (y : CellState). y.choice) (w.least x gives);
  }

-- ---- registers

abbrev Held : Type 0
Held = Option (Assignment Content)

-- nothing, or the register of the delta
register_is : (s d n : Held) → IsNewsOf (joined_registers content_cmp) s d n → (n ≡ None) ⊎ (n ≡ d)
register_is s None n w = inl (w.least None refl)
register_is None (Some b) n w = inr w.same
register_is (Some a) (Some b) None w = inl refl
register_is (Some a) (Some b) (Some c) w = by_first (is_lt (R a b)) refl
  where
    R : Assignment Content → Assignment Content → Ordering
    R = assignment_cmp content_cmp

    covered : larger R a b ≡ a → (Some c ≡ None) ⊎ (Some c ≡ Some b)
    covered below = inl (w.least None (sym (ap Some below)))

    by_second : larger R a b ≡ b → (r : Bool) → is_lt (R a c) ≡ r → (Some c ≡ None) ⊎ (Some c ≡ Some b)
    by_second after true lt = inr (ap Some (sym (larger_lt R a c lt)) ∙ w.same ∙ ap Some after)
    by_second after false ge =
        let same : Some a ≡ Some (larger R a b) = ap Some (sym (larger_ge R a c ge)) ∙ w.same in
        covered (let is : a ≡ larger R a b = cc in sym is)

    by_first : (r : Bool) → is_lt (R a b) ≡ r → (Some c ≡ None) ⊎ (Some c ≡ Some b)
    by_first true lt = by_second (larger_lt R a b lt) (is_lt (R a c)) refl
    by_first false ge = covered (larger_ge R a b ge)

register_in_range : (d n : Held) → (n ≡ None) ⊎ (n ≡ d) → IsRegister d → IsRegister n
register_in_range d n (inl none) range = subst IsRegister (sym none) tt
register_in_range d n (inr same) range = subst IsRegister (sym same) range

register_shorter : (d n : Held) → (n ≡ None) ⊎ (n ≡ d) → size (register_value n) ≤ size (register_value d)
register_shorter d n (inl none) = omega (arith, register_least d, ap (λ r. size (register_value r)) none)
register_shorter d n (inr same) = omega (arith, ap (λ r. size (register_value r)) same)

-- ---- counts and pairs

module _ {K X : Type 0} (R : K → K → Ordering) (g : Option X → X → Option X) (o : IsTotalOrder R)
    (apart : IsAntisymmetric R) (f : X → X → X) (law : IsJoin f)
    (is_news : (there : Option X) (value : X) → IsNewsOf (both_of f) there (Some value) (g there value))
    (fits : K × X → Bool)
    (keeps : (there : Option X) (e : K × X) (x : X) → fits e ≡ true → g there e.1 ≡ Some x → fits (e.0, x) ≡ true)
  where
    -- the news of entries in order and in range is in order and in range
    entries_in_range : (s d n : maps.FinMap R X) → IsNewsOf (joined_maps f) s d n
        → (maps.is_sorted R (maps.entries d) && list_all fits (maps.entries d)) ≡ true
        → (maps.is_sorted R (maps.entries n) && list_all fits (maps.entries n)) ≡ true
    entries_in_range s d n w range =
        let mine = maps.entries s in
        let theirs = maps.entries d in
        let news = news_entries R g mine theirs in
        let made = seen_news R g o f is_news apart mine theirs news s d (entries_rise R s) (entries_rise R d) refl
        (from_entries_of R s) (from_entries_of R d) in
        let is : n ≡ maps.from_sorted news =
        news_once (maps_is_join R f o apart law) s d n (maps.from_sorted news) w made in
        let listed : maps.entries n ≡ news =
        ap maps.entries is
        ∙ entries-from_sorted R news (to_T _ (sorted_news R g o mine theirs (entries_rise R d))) in
        ap (λ es. maps.is_sorted R es && list_all fits es) listed
        ∙ news_in_range R g o fits keeps mine theirs news range refl

-- ---- cells

-- s is the news of the state t of a delta's cell
record IsNewCell (s t : CellState) : Type 0 where
  under : IsUnder s t
  register : (s.register ≡ None) ⊎ (s.register ≡ t.register)

cell_shorter : (c : ℕ) (s t : CellState) → IsNewCell s t → size (cell_value (c, s)) ≤ size (cell_value (c, t))
unfolding cell_value
cell_shorter c s t new =
    let counts = λ (x : CellState). array_of (map count_value (maps.entries x.tally)) in
    let pairs = λ (x : CellState). array_of (map pair_value (maps.entries x.choice)) in
    omega (
      arith,
      under_size c s t new.under,
      register_shorter t.register s.register new.register,
      size_of_four (string (cell_name c)) null (counts s) (pairs s),
      size_of_four (string (cell_name c)) null (counts t) (pairs t),
      size_of_four (string (cell_name c)) (register_value s.register) (counts s) (pairs s),
      size_of_four (string (cell_name c)) (register_value t.register) (counts t) (pairs t),
    )

new_empty : (s t : CellState) → IsNewCell s t → t ≡ empty_cell → s ≡ empty_cell
new_empty s t new none = under_empty s t new.under none

empty_new : (s t : CellState) → s ≡ empty_cell → t ≡ empty_cell → IsNewCell s t
empty_new s t e f = record {
  under = empty_under s t e f;
  register = inr (ap (λ (x : CellState). x.register) (e ∙ sym f));
}

module _ (s d n : CellState) (w : IsNewsOf joined_cell s d n) where
  new_cell : IsNewCell n d
  new_cell = record {
    under = news_below s d n w;
    register = register_is s.register d.register n.register (register_news s d n w);
  }

  state_in_range : IsState d → IsState n
  state_in_range range = record {
    register = register_in_range d.register n.register new_cell.register range.register;
    tally = entries_in_range nat_cmp newer_count nat_cmp_total nat_cmp-IsAntisymmetric greater_counts counts_is_join
        counts_news is_count count_fits s.tally d.tally n.tally (tally_news s d n w) range.tally;
    choice = entries_in_range pair_cmp newer_mark pairs_total pairs_apart ◌||◌ removals_is_join marks_news is_pair
        mark_fits s.choice d.choice n.choice (choice_news s d n w) range.choice;
  }

-- ---- deltas

none_in_range : {K X : Type 0} (R : K → K → Ordering) (fits : K × X → Bool) (es : List (K × X)) → length es ≡ 0
    → (maps.is_sorted R es && list_all fits es) ≡ true
none_in_range R fits [] none = refl
none_in_range R fits (e ∷ es) none = absurd (omega (arith, none))

empty_in_range : IsState empty_cell
unfolding empty_cell
empty_in_range = record {
  register = tt;
  tally = none_in_range nat_cmp is_count _ (len_by_empty nat_cmp nat_cmp_total nat_cmp-IsAntisymmetric maps.empty refl);
  choice = none_in_range pair_cmp is_pair _ (len_by_empty pair_cmp pairs_total pairs_apart maps.empty refl);
}

nothing_at : (c : ℕ) → empty_state c ≡ empty_cell
unfolding empty_state
nothing_at c = refl

-- what the entries hold for any cell is in range
states_in_range : (d : Entries) → All (λ e. IsState e.1) d → (c : ℕ) → IsState (state_of d c)
states_in_range [] all c =
    subst IsState (sym (ap (λ (t : State). t c) state_of-nil ∙ nothing_at c)) empty_in_range
states_in_range (e ∷ es) all c =
    by (cases_eq e.0 c) (states_in_range es (All-tail (λ (e : ℕ × CellState). IsState e.1) e es all) c)
  where
    by : (e.0 ≡ c) ⊎ (e.0 ≢ c) → IsState (state_of es c) → IsState (state_of (e ∷ es) c)
    by (inl is) rest =
        subst IsState (sym (state_of-here e es c is)) (All-head (λ (e : ℕ × CellState). IsState e.1) e es all)
    by (inr apart) rest = subst IsState (sym (state_of-there e es c apart)) rest

-- and nothing is held outside a size that all cells are below
none_outside : (size c : ℕ) (d : Entries) → All (λ e. e.0 < size) d → size ≤ c → state_of d c ≡ empty_cell
none_outside size c [] all outside = ap (λ (t : State). t c) state_of-nil ∙ nothing_at c
none_outside size c (e ∷ es) all outside =
    let first = All-head (λ (e : ℕ × CellState). e.0 < size) e es all in
    state_of-there e es c (λ is. omega (arith, first, outside, is))
    ∙ none_outside size c es (All-tail (λ (e : ℕ × CellState). e.0 < size) e es all) outside

module _ (s : State) (d n : Entries) (lawful : IsLawful d) (delta : IsDelta n)
    (w : IsNewsOf joined_state s (state_of d) (state_of n)) where
  each_new : (c : ℕ) → IsNewCell (state_of n c) (state_of d c)
  each_new c =
      new_cell (s c) (state_of d c) (state_of n c) (cell_news s (state_of d) (state_of n) w c)

  each_in_range : (c : ℕ) → IsState (state_of n c)
  each_in_range c =
      state_in_range (s c) (state_of d c) (state_of n c) (cell_news s (state_of d) (state_of n) w c)
      (states_in_range d lawful.states c)

  in_size : (size : ℕ) → All (λ e. e.0 < size) d → All (λ e. e.0 < size) n
  in_size size all i x within = by (cases_lt (get_or n i x).0 size)
    where
      by : ((get_or n i x).0 < size) ⊎ (size ≤ (get_or n i x).0) → (get_or n i x).0 < size
      by (inl lt) = lt
      by (inr outside) =
          absurd (delta.none_empty i x within
          (sym (state_of-at 0 n i x (rising_of n delta) within)
          ∙ new_empty _ _ (each_new (get_or n i x).0) (none_outside size (get_or n i x).0 d all outside)))

  new_lawful : IsLawful n
  new_lawful = record {
    cells = delta;
    in_grid = in_size CELLS lawful.in_grid;
    states = λ i x within.
        subst IsState (state_of-at 0 n i x (rising_of n delta) within) (each_in_range (get_or n i x).0);
  }

  new_shorter : size (delta_value n) ≤ size (delta_value d)
  unfolding delta_value
  new_shorter = arrays_under cell_value IsNewCell cell_shorter new_empty empty_new n d delta lawful.cells each_new

  new_text : length (delta_text n) ≤ length (delta_text d)
  unfolding delta_text
  new_text = new_shorter

pub news_fit : NewsFit
news_fit s delta news lawful is_delta w =
    (new_lawful s delta news lawful is_delta w, new_text s delta news lawful is_delta w)
