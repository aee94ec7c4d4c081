-- The joined history of a list of deltas.
use Rattle.std.proofs.Common.{
  ◌≡◌,
  ℕ,
  zero,
  suc,
  ◌<◌,
  List,
  [],
  ◌∷◌,
  ◌++◌,
  length,
  get_or,
  refl,
  sym,
  ap,
  ◌∙◌,
  arith,
  Contains,
}
use Rattle.ps_delta.specs.State.{empty_state, joined_state}
use Rattle.ps_delta.specs.Deltas.{Entries, state_of, joined_history}
use Rattle.ps_delta.specs.Laws.{HistoryIsASet, GroupsJoin, CoveredChangesNothing, StatesJoin, all_of}
use Rattle.ps_delta.proofs.StateLemmas.{
  joined_state-comm,
  joined_state-assoc,
  joined_state-idem,
  joined_state-empty,
  joined_state-empty_right,
}

pub joined_history-nil : joined_history [] ≡ empty_state
unfolding joined_history
joined_history-nil = refl

pub joined_history-cons : (d : Entries) (h : List Entries)
    → joined_history (d ∷ h) ≡ joined_state (state_of d) (joined_history h)
unfolding joined_history
joined_history-cons d h = refl

pub joined_history-append : (g h : List Entries) → joined_history (g ++ h)
    ≡ joined_state (joined_history g) (joined_history h)
joined_history-append [] h = sym (ap (λ s. joined_state s (joined_history h)) joined_history-nil
    ∙ joined_state-empty (joined_history h))
joined_history-append (d ∷ g) h =
    joined_history-cons d (g ++ h) ∙ ap (joined_state (state_of d)) (joined_history-append g h)
    ∙ sym (joined_state-assoc (state_of d) (joined_history g) (joined_history h))
    ∙ ap (λ s. joined_state s (joined_history h)) (sym (joined_history-cons d g))

pub joined_history-one : (d : Entries) → joined_history (d ∷ []) ≡ state_of d
joined_history-one d =
    joined_history-cons d [] ∙ ap (joined_state (state_of d)) joined_history-nil ∙ joined_state-empty_right (state_of d)

-- one more delta
pub joined_history-push : (h : List Entries) (d : Entries)
    → joined_history (h ++ d ∷ []) ≡ joined_state (joined_history h) (state_of d)
joined_history-push h d = joined_history-append h (d ∷ []) ∙ ap (joined_state (joined_history h)) (joined_history-one d)

-- a delta of the list is below its joined history
below_history : (h : List Entries) (d : Entries) (k : ℕ) → k < length h → get_or h k d ≡ d
    → joined_state (joined_history h) (state_of d) ≡ joined_history h
below_history [] d k h is = absurd (omega (arith, h))
below_history (b ∷ h) d zero within is =
    ap (joined_state (joined_history (b ∷ h))) (ap state_of (sym is))
    ∙ joined_state-comm (joined_history (b ∷ h)) (state_of b)
    ∙ ap (joined_state (state_of b)) (joined_history-cons b h)
    ∙ sym (joined_state-assoc (state_of b) (state_of b) (joined_history h))
    ∙ ap (λ s. joined_state s (joined_history h)) (joined_state-idem (state_of b))
    ∙ sym (joined_history-cons b h)
below_history (b ∷ h) d (suc k) within is =
    ap (λ s. joined_state s (state_of d)) (joined_history-cons b h)
    ∙ joined_state-assoc (state_of b) (joined_history h) (state_of d)
    ∙ ap (joined_state (state_of b)) (below_history h d k (omega (arith, within)) is)
    ∙ sym (joined_history-cons b h)

pub joined_history-contains : (h : List Entries) (d : Entries) → Contains h d
    → joined_state (joined_history h) (state_of d) ≡ joined_history h
joined_history-contains h d c = below_history h d c.0 c.1 c.2

first_contained : (d : Entries) (g : List Entries) → Contains (d ∷ g) d
first_contained d g = (0, omega arith, refl)

next_contained : (b d : Entries) (g : List Entries) → Contains g d → Contains (b ∷ g) d
next_contained b d g c = (suc c.0, omega (arith, c.1), c.2)

-- deltas that all stand in a list are together below its joined history
pub joined_history-subset : (g h : List Entries) → ((d : Entries) → Contains g d → Contains h d)
    → joined_state (joined_history h) (joined_history g) ≡ joined_history h
joined_history-subset [] h sub = ap (joined_state (joined_history h)) joined_history-nil
    ∙ joined_state-empty_right (joined_history h)
joined_history-subset (d ∷ g) h sub =
    ap (joined_state (joined_history h)) (joined_history-cons d g)
    ∙ sym (joined_state-assoc (joined_history h) (state_of d) (joined_history g))
    ∙ ap (λ s. joined_state s (joined_history g)) (joined_history-contains h d (sub d (first_contained d g)))
    ∙ joined_history-subset g h (λ b c. sub b (next_contained d b g c))

pub by_set : HistoryIsASet
by_set g h same =
    sym (joined_history-subset h g (λ d. (same d).1))
    ∙ joined_state-comm (joined_history g) (joined_history h)
    ∙ joined_history-subset g h (λ d. (same d).0)

pub by_groups : GroupsJoin
by_groups [] [] z = refl
by_groups [] (d ∷ joins) z = absurd z
by_groups (g ∷ groups) [] z = absurd z
by_groups (g ∷ groups) (d ∷ joins) z =
    joined_history-append g (all_of groups)
    ∙ ap (λ s. joined_state s (joined_history (all_of groups))) (sym z.0)
    ∙ ap (joined_state (state_of d)) (by_groups groups joins z.1)
    ∙ sym (joined_history-cons d joins)

pub when_covered : CoveredChangesNothing
when_covered h d b = joined_history-push h d ∙ b

pub of_states : StatesJoin
of_states = record {
  commutes = joined_state-comm;
  associates = joined_state-assoc;
  repeats = joined_state-idem;
  neutral = joined_state-empty;
}
