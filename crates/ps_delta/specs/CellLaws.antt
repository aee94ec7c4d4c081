-- The laws of the join of cell states, part by part.
use Rattle.std.specs.Prelude.{◌≡◌, ◌||◌, List, [], ◌∷◌, None, refl}
use Rattle.std.specs.Ordering.{nat_cmp}
use Rattle.std.specs.declared.cmp.Ordering.{Ordering}
use Rattle.std.specs.Cmp.{IsTotalOrder, nat_cmp_total}
use Rattle.std.specs.FinMap as map
use Rattle.std.specs.FinMap.{IsAntisymmetric, nat_cmp-IsAntisymmetric, same_map, get-empty}
use Rattle.std.proofs.Common.{ap, ◌∙◌}
use Rattle.ps_lattice.specs.Maps.{both_of, joined_maps}
use Rattle.ps_lattice.specs.MapLaws.{get-joined_maps}
use Rattle.ps_lattice.specs.Register.{joined_registers}
use Rattle.ps_lattice.specs.RegisterLaws.{registers_is_join}
use Rattle.ps_lattice.specs.Tally.{Counts, greater_counts, joined_tallies}
use Rattle.ps_lattice.specs.TallyLaws.{tallies_is_join}
use Rattle.ps_lattice.specs.Choice.{Pairs, joined_choices, pair_cmp}
use Rattle.ps_lattice.specs.ChoiceLaws.{choices_is_join, pairs_total, pairs_apart}
use Rattle.ps_content.specs.Order.{content_cmp}
use Rattle.ps_content.specs.OrderLaws.{content_cmp-total, content_cmp-IsAntisymmetric}
use Rattle.ps_delta.specs.Places.{joined_places}
use Rattle.ps_delta.specs.declared.cell_state.CellState.{CellState}
use Rattle.ps_delta.specs.State.{Blocks, empty_cell, joined_blocks, joined_cell, joined_cells}

-- cell states with equal parts are equal
pub by_parts : {s t : CellState} → s.register ≡ t.register → s.tally ≡ t.tally → s.choice ≡ t.choice → s ≡ t
by_parts r t c = λ i. record { register = r i; tally = t i; choice = c i }

pub joined_cell-comm : (s t : CellState) → joined_cell s t ≡ joined_cell t s
unfolding joined_cell
joined_cell-comm s t =
    by_parts ((registers_is_join content_cmp content_cmp-total content_cmp-IsAntisymmetric).commutative s.register
    t.register)
    (tallies_is_join.commutative s.tally t.tally) (choices_is_join.commutative s.choice t.choice)

pub joined_cell-assoc : (s t u : CellState) → joined_cell (joined_cell s t) u ≡ joined_cell s (joined_cell t u)
unfolding joined_cell
joined_cell-assoc s t u =
    by_parts ((registers_is_join content_cmp content_cmp-total content_cmp-IsAntisymmetric).associative s.register
    t.register u.register)
    (tallies_is_join.associative s.tally t.tally u.tally) (choices_is_join.associative s.choice t.choice u.choice)

pub joined_cell-idem : (s : CellState) → joined_cell s s ≡ s
unfolding joined_cell
joined_cell-idem s =
    by_parts ((registers_is_join content_cmp content_cmp-total content_cmp-IsAntisymmetric).idempotent s.register)
    (tallies_is_join.idempotent s.tally) (choices_is_join.idempotent s.choice)

-- a map joined with the map that has no key
none_left : {K X : Type 0} (R : K → K → Ordering) (f : X → X → X) → IsTotalOrder R → IsAntisymmetric R
    → (m : map.FinMap R X) → joined_maps f map.empty m ≡ m
none_left R f o same m =
    same_map o same _ _ (λ q. get-joined_maps R f o map.empty m q ∙ ap (λ a. both_of f a (map.get m q)) (get-empty R q))

no_counts : (t : Counts) → joined_tallies map.empty t ≡ t
no_counts t = none_left nat_cmp greater_counts nat_cmp_total nat_cmp-IsAntisymmetric t

no_pairs : (c : Pairs) → joined_choices map.empty c ≡ c
no_pairs c = none_left pair_cmp ◌||◌ pairs_total pairs_apart c

pub joined_cell-empty : (s : CellState) → joined_cell empty_cell s ≡ s
unfolding joined_cell empty_cell
joined_cell-empty s = by_parts refl (no_counts s.tally) (no_pairs s.choice)

pub joined_cell-empty_right : (s : CellState) → joined_cell s empty_cell ≡ s
joined_cell-empty_right s = joined_cell-comm s empty_cell ∙ joined_cell-empty s

-- a cell state is empty where its parts are
pub empty_from_parts : (s : CellState) → s.register ≡ None → s.tally ≡ map.empty → s.choice ≡ map.empty → s ≡ empty_cell
unfolding empty_cell
empty_from_parts s r t c = by_parts r t c

-- a cell state is below another where its parts are
pub below_from_parts : (s t : CellState) → joined_registers content_cmp t.register s.register ≡ t.register
    → joined_tallies t.tally s.tally ≡ t.tally → joined_choices t.choice s.choice ≡ t.choice → joined_cell t s ≡ t
unfolding joined_cell
below_from_parts s t r c h = by_parts r c h

-- each part of a join is the join of the parts
pub joined_cell-register : (s t : CellState) → (joined_cell s t).register
    ≡ joined_registers content_cmp s.register t.register
unfolding joined_cell
joined_cell-register s t = refl

pub joined_cell-tally : (s t : CellState) → (joined_cell s t).tally ≡ joined_tallies s.tally t.tally
unfolding joined_cell
joined_cell-tally s t = refl

pub joined_cell-choice : (s t : CellState) → (joined_cell s t).choice ≡ joined_choices s.choice t.choice
unfolding joined_cell
joined_cell-choice s t = refl

-- lists joined position by position have the laws of their items
module _ {X : Type 0} (f : X → X → X) where
  places-comm : ((x y : X) → f x y ≡ f y x) → (xs ys : List X) → joined_places f xs ys ≡ joined_places f ys xs
  unfolding joined_places
  places-comm law [] [] = refl
  places-comm law [] (y ∷ ys) = refl
  places-comm law (x ∷ xs) [] = refl
  places-comm law (x ∷ xs) (y ∷ ys) = λ i. law x y i ∷ places-comm law xs ys i

  places-assoc : ((x y z : X) → f (f x y) z ≡ f x (f y z)) → (xs ys zs : List X)
      → joined_places f (joined_places f xs ys) zs ≡ joined_places f xs (joined_places f ys zs)
  unfolding joined_places
  places-assoc law [] ys zs = refl
  places-assoc law (x ∷ xs) [] zs = refl
  places-assoc law (x ∷ xs) (y ∷ ys) [] = refl
  places-assoc law (x ∷ xs) (y ∷ ys) (z ∷ zs) = λ i. law x y z i ∷ places-assoc law xs ys zs i

  places-idem : ((x : X) → f x x ≡ x) → (xs : List X) → joined_places f xs xs ≡ xs
  unfolding joined_places
  places-idem law [] = refl
  places-idem law (x ∷ xs) = λ i. law x i ∷ places-idem law xs i

pub joined_cells-comm : (xs ys : List CellState) → joined_cells xs ys ≡ joined_cells ys xs
joined_cells-comm = places-comm joined_cell joined_cell-comm

pub joined_cells-assoc : (xs ys zs : List CellState) → joined_cells (joined_cells xs ys) zs
    ≡ joined_cells xs (joined_cells ys zs)
joined_cells-assoc = places-assoc joined_cell joined_cell-assoc

pub joined_cells-idem : (xs : List CellState) → joined_cells xs xs ≡ xs
joined_cells-idem = places-idem joined_cell joined_cell-idem

pub joined_blocks-comm : (xs ys : Blocks) → joined_blocks xs ys ≡ joined_blocks ys xs
joined_blocks-comm = places-comm joined_cells joined_cells-comm

pub joined_blocks-assoc : (xs ys zs : Blocks) → joined_blocks (joined_blocks xs ys) zs
    ≡ joined_blocks xs (joined_blocks ys zs)
joined_blocks-assoc = places-assoc joined_cells joined_cells-assoc

pub joined_blocks-idem : (xs : Blocks) → joined_blocks xs xs ≡ xs
joined_blocks-idem = places-idem joined_cells joined_cells-idem
