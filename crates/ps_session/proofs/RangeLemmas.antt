-- What a joined history holds is in range where its deltas are.
use Rattle.std.proofs.Common.{◌≡◌, ◌∙◌, ◌⊎◌, inl, inr, refl, sym, ap, subst, arith, ℕ, ◌≤◌, Bool, true, false, cond}
use Rattle.std.proofs.Common.{◌||◌, List, [], ◌∷◌, Option, Some, None, is_some}
use Rattle.std.specs.Prelude.{◌==◌, if◌then◌else◌}
use Rattle.std.specs.List.{All, list_all}
use Rattle.std.specs.Ordering.{eq_by_cmp, is_eq, is_lt}
use Rattle.std.specs.Cmp.{Equal-is}
use Rattle.std.specs.FinMap as map
use Rattle.std.specs.FinMap.{get-empty, get-entries}
use Rattle.std.proofs.lemmas.Bool.{false≢true}
use Rattle.std.proofs.lemmas.Bool.Decides.{nat_tests}
use Rattle.std.proofs.lemmas.Cmp.{tied_itself}
use Rattle.std.proofs.lemmas.List.Elements.{All-head, All-tail}
use Rattle.ps_lattice.specs.declared.choice.Pair.{Pair}
use Rattle.ps_lattice.specs.declared.limits.TheConstants.{LAST_TIME}
use Rattle.ps_lattice.specs.declared.register.Assignment.{Assignment}
use Rattle.ps_lattice.specs.Maps.{both_of}
use Rattle.ps_lattice.specs.MapLaws.{get-joined_maps}
use Rattle.ps_lattice.specs.Register.{assignment_cmp, is_stamp, joined_registers, time_of}
use Rattle.ps_lattice.specs.Choice.{is_pair, pair_cmp}
use Rattle.ps_lattice.specs.ChoiceLaws.{pairs_apart, pairs_total}
use Rattle.ps_lattice.proofs.Rising.{and_both, and_left, and_right}
use Rattle.ps_content.specs.declared.content.Content.{Content}
use Rattle.ps_content.specs.Order.{content_cmp}
use Rattle.ps_delta.specs.declared.cell_state.CellState.{CellState}
use Rattle.ps_delta.specs.CellLaws.{joined_cell-choice, joined_cell-register}
use Rattle.ps_delta.specs.State.{empty_cell, empty_state, joined_cell, joined_state}
use Rattle.ps_delta.specs.Deltas.{Entries, joined_history, state_of}
use Rattle.ps_wire.specs.Value.{IsLawful, IsRegister, IsState}

-- what an edit looks at in the state of a cell is in range
pub record IsInRange (x : CellState) : Type 0 where
  pub time : time_of x.register ≤ LAST_TIME
  pub pairs : (q : Pair) → is_some (map.get x.choice q) ≡ true → is_pair (q, false) ≡ true

-- what is found in a list of pairs in range is in range, and a list is in range where all that is found in it is
found_step : (q : Pair) (e : Pair × Bool) (es : List (Pair × Bool)) → is_pair e ≡ true
    → (is_some (map.find pair_cmp q es) ≡ true → is_pair (q, false) ≡ true)
    → (tied : Bool) → eq_by_cmp pair_cmp q e.0 ≡ tied
    → is_some (cond tied (Some e.1) (map.find pair_cmp q es)) ≡ true → is_pair (q, false) ≡ true
found_step q e es here rest true t some =
    let is = pairs_apart q e.0 ((Equal-is (pair_cmp q e.0)).0 t) in
    subst (λ (p : Pair). is_pair (p, false) ≡ true) (sym is) here
found_step q e es here rest false t some = rest some

found_in_range : (q : Pair) (es : List (Pair × Bool)) → list_all is_pair es ≡ true
    → is_some (map.find pair_cmp q es) ≡ true → is_pair (q, false) ≡ true
found_in_range q [] h some = absurd (false≢true some)
found_in_range q (e ∷ es) h some =
    found_step q e es (and_left (is_pair e) (list_all is_pair es) h)
    (found_in_range q es (and_right (is_pair e) (list_all is_pair es) h)) (eq_by_cmp pair_cmp q e.0) refl some

either_found : (tied : Bool) (x : Bool) (o : Option Bool) → is_some o ≡ true → is_some (cond tied (Some x) o) ≡ true
either_found true x o some = refl
either_found false x o some = some

all_in_range : (es : List (Pair × Bool))
    → ((q : Pair) → is_some (map.find pair_cmp q es) ≡ true → is_pair (q, false) ≡ true) → list_all is_pair es ≡ true
all_in_range [] each = refl
all_in_range (e ∷ es) each =
    let tied : eq_by_cmp pair_cmp e.0 e.0 ≡ true = ap is_eq (tied_itself pairs_total e.0) in
    and_both (is_pair e) (list_all is_pair es)
    (each e.0 (ap (λ b. is_some (cond b (Some e.1) (map.find pair_cmp e.0 es))) tied))
    (all_in_range es
    (λ q some. each q (either_found (eq_by_cmp pair_cmp q e.0) e.1 (map.find pair_cmp q es) some)))

pub choice_in_range : (x : CellState) → IsInRange x → list_all is_pair (map.entries x.choice) ≡ true
choice_in_range x h =
    all_in_range (map.entries x.choice) (λ q some. h.pairs q (ap is_some (get-entries x.choice q) ∙ some))

-- the empty cell, and two cells joined
empty_in_range : IsInRange empty_cell
unfolding empty_cell
empty_in_range = record {
  time = omega arith;
  pairs = λ q some. absurd (false≢true (sym (ap is_some (get-empty pair_cmp q)) ∙ some));
}

joined_time : (a b : Option (Assignment Content)) → time_of a ≤ LAST_TIME → time_of b ≤ LAST_TIME
    → time_of (joined_registers content_cmp a b) ≤ LAST_TIME
joined_time None b h k = k
joined_time (Some a) None h k = h
joined_time (Some a) (Some b) h k = elim (is_lt (assignment_cmp content_cmp a b)) as (λ t.
    time_of (Some (if t then b else a)) ≤ LAST_TIME) [ true ↦ k | false ↦ h ]

joined_pair : (a b : Option Bool) → is_some (both_of ◌||◌ a b) ≡ true → (is_some a ≡ true) ⊎ (is_some b ≡ true)
joined_pair None b some = inr some
joined_pair (Some x) None some = inl refl
joined_pair (Some x) (Some y) some = inl refl

joined_in_range : (x y : CellState) → IsInRange x → IsInRange y → IsInRange (joined_cell x y)
joined_in_range x y h k = record {
  time = subst (λ (r : Option (Assignment Content)). time_of r ≤ LAST_TIME) (sym (joined_cell-register x y))
      (joined_time x.register y.register h.time k.time);
  pairs = λ q some. elim (joined_pair (map.get x.choice q) (map.get y.choice q) (sym (ap is_some (held q)) ∙ some)) [
    | inl s ↦ h.pairs q s
    | inr s ↦ k.pairs q s
  ];
}
  where
    held : (q : Pair) → map.get (joined_cell x y).choice q
        ≡ both_of ◌||◌ (map.get x.choice q) (map.get y.choice q)
    held q = ap (λ c. map.get c q) (joined_cell-choice x y)
        ∙ get-joined_maps pair_cmp ◌||◌ pairs_total x.choice y.choice q

-- a cell of a delta in range
stamp_time : (time replica : ℕ) → is_stamp time replica ≡ true → time ≤ LAST_TIME
stamp_time time replica h = grind (arith, nat_tests, h)

register_time : (r : Option (Assignment Content)) → IsRegister r → time_of r ≤ LAST_TIME
register_time None h = omega arith
register_time (Some a) h = stamp_time a.time a.replica h.0

state_in_range : (x : CellState) → IsState x → IsInRange x
state_in_range x h = record {
  time = register_time x.register h.register;
  pairs = λ q some. found_in_range q (map.entries x.choice)
      (and_right (map.is_sorted pair_cmp (map.entries x.choice)) (list_all is_pair (map.entries x.choice)) h.choice)
      (sym (ap is_some (get-entries x.choice q)) ∙ some);
}

delta_in_range : (d : Entries) → All (λ e. IsState e.1) d → (c : ℕ) → IsInRange (state_of d c)
unfolding state_of
delta_in_range [] all c = empty_in_range
delta_in_range (e ∷ es) all c = elim (e.0 == c) as (λ b. IsInRange (if b then e.1 else state_of es c)) [
  | true ↦ state_in_range e.1 (All-head (λ (f : ℕ × CellState). IsState f.1) e es all)
  | false ↦ delta_in_range es (All-tail (λ (f : ℕ × CellState). IsState f.1) e es all) c
]

pub history_in_range : (history : List Entries) → All IsLawful history → (c : ℕ)
    → IsInRange (joined_history history c)
unfolding joined_history empty_state joined_state
history_in_range [] all c = empty_in_range
history_in_range (d ∷ history) all c =
    joined_in_range (state_of d c) (joined_history history c)
    (delta_in_range d (All-head IsLawful d history all).states c)
    (history_in_range history (All-tail IsLawful d history all) c)
