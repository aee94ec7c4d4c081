-- The states that cells in order stand for.
use Rattle.std.proofs.Common.{◌≡◌, ◌≢◌, ℕ, ◌+◌, ◌<◌, List, [], ◌∷◌, ◌++◌, length, refl, sym, ap, ◌∙◌}
use Rattle.std.proofs.Common.{arith, ⊎_elim, All}
use Rattle.std.proofs.Math.Path.{fun_ext}
use Rattle.std.proofs.lemmas.Bool.{cases_eq}
use Rattle.ps_delta.specs.State.{empty_cell, joined_cell, joined_state}
use Rattle.ps_delta.specs.CellLaws.{joined_cell-empty, joined_cell-empty_right}
use Rattle.ps_delta.specs.Deltas.{AreEntries, Entries, IsDelta, cells_of, joined_history, state_of}
use Rattle.ps_delta.specs.Order.{Rising}
use Rattle.ps_delta.proofs.CellLists.{Rising-weaker, increasing_from_rising, rising_from_increasing}
use Rattle.ps_delta.proofs.EntryLemmas.{state_of-here, state_of-nil, state_of-rising, state_of-there}
use Rattle.ps_delta.proofs.HistoryLemmas.{joined_history-cons, joined_history-nil}
use Rattle.ps_squash.specs.Squashed.{cells_in}

nothing : (c : ℕ) → state_of [] c ≡ empty_cell
unfolding state_of
nothing c = refl

-- ---- cells in order, in two parts

rising_left : (n : ℕ) (xs ys : Entries) → Rising n (cells_of (xs ++ ys)) → Rising n (cells_of xs)
rising_left n [] ys r = tt
rising_left n (x ∷ xs) ys r = (r.0, rising_left (x.0 + 1) xs ys r.1)

pub rising_right : (n : ℕ) (xs ys : Entries) → Rising n (cells_of (xs ++ ys)) → Rising n (cells_of ys)
rising_right n [] ys r = r
rising_right n (x ∷ xs) ys r =
    Rising-weaker n (x.0 + 1) (cells_of ys) (omega (arith, r.0)) (rising_right (x.0 + 1) xs ys r.1)

joined_at : (n : ℕ) (xs ys : Entries) → Rising n (cells_of (xs ++ ys)) → (c : ℕ)
    → state_of (xs ++ ys) c ≡ joined_cell (state_of xs c) (state_of ys c)
joined_at n [] ys r c =
    sym (ap (λ x. joined_cell x (state_of ys c)) (nothing c) ∙ joined_cell-empty (state_of ys c))
joined_at n (e ∷ xs) ys r c =
    ⊎_elim
    (λ p. state_of-here e (xs ++ ys) c p ∙ sym (joined_cell-empty_right e.1)
    ∙ ap (joined_cell e.1) (sym (state_of-rising (e.0 + 1) ys c (rising_right (e.0 + 1) xs ys r.1) (omega (arith, p))))
    ∙ ap (λ x. joined_cell x (state_of ys c)) (sym (state_of-here e xs c p)))
    (λ p. state_of-there e (xs ++ ys) c p ∙ joined_at (e.0 + 1) xs ys r.1 c
    ∙ ap (λ x. joined_cell x (state_of ys c)) (sym (state_of-there e xs c p)))
    (cases_eq e.0 c)

pub state_of-append : (n : ℕ) (xs ys : Entries) → Rising n (cells_of (xs ++ ys))
    → state_of (xs ++ ys) ≡ joined_state (state_of xs) (state_of ys)
unfolding joined_state
state_of-append n xs ys r = fun_ext (joined_at n xs ys r)

-- deltas that divide cells in order say together what the cells say
pub divided_history : (n : ℕ) (ds : List Entries) → Rising n (cells_of (cells_in ds))
    → joined_history ds ≡ state_of (cells_in ds)
divided_history n [] r = joined_history-nil ∙ sym state_of-nil
divided_history n (d ∷ ds) r =
    joined_history-cons d ds
    ∙ ap (joined_state (state_of d)) (divided_history n ds (rising_right n d (cells_in ds) r))
    ∙ sym (state_of-append n d (cells_in ds) r)

pub rising_of : (es : Entries) → AreEntries es → Rising 0 (cells_of es)
rising_of es e = rising_from_increasing 0 (cells_of es) e.ascending (λ _. omega arith)

-- some of the cells, from the first on, are a delta
pub front_is_delta : (n : ℕ) (xs ys : Entries) → Rising n (cells_of (xs ++ ys)) → All (λ e. e.1 ≢ empty_cell) xs
    → 0 < length xs → IsDelta xs
front_is_delta n xs ys r none some = record {
  some = some;
  ascending = increasing_from_rising n (cells_of xs) (rising_left n xs ys r);
  none_empty = none;
}
