-- A set of options from which only what was observed is removed (an observed-remove set). It has a set of added pairs,
-- each of an option and a fresh tag: a replica and a sequence number of its own. The removed pairs are a part of these.
-- An option is in while an added pair of it isn't removed. A join of two choices unites both sets.
use Rattle.std.specs.Prelude.{ℕ, max, Bool, true, false, not, ◌&&◌, ◌||◌, ◌==◌, nat_le, nat_lt, List, [], ◌∷◌}
use Rattle.std.specs.Prelude.{map as each, filter, unwrap_or}
use Rattle.std.specs.List.{list_any, list_all}
use Rattle.std.specs.declared.cmp.Ordering.{Ordering}
use Rattle.std.specs.Ordering.{nat_cmp, on, then_cmp}
use Rattle.std.specs.FinMap as map
use Rattle.ps_lattice.specs.declared.choice.Pair.{Pair}
use Rattle.ps_lattice.specs.declared.limits.TheConstants.{OPTIONS, SEQUENCES}
use Rattle.ps_lattice.specs.Limits.{is_replica}
use Rattle.ps_lattice.specs.Maps.{joined_maps}

-- by option, then by replica, then by sequence
abbrev pub pair_cmp : Pair → Pair → Ordering
pair_cmp = then_cmp (on (λ p. p.option) nat_cmp) (then_cmp (on (λ p. p.replica) nat_cmp) (on (λ p. p.sequence) nat_cmp))

-- the added pairs, each with whether it is removed too
abbrev pub Pairs : Type 0
Pairs = map.FinMap pair_cmp Bool

abbrev pub pair_of : ℕ → ℕ → ℕ → Pair
pair_of option replica sequence = record { option = option; replica = replica; sequence = sequence }

-- whether the pair is in the added set
abbrev pub is_added : Pairs → ℕ → ℕ → ℕ → Bool
is_added c option replica sequence = map.contains_key c (pair_of option replica sequence)

-- whether the pair is in the removed set
abbrev pub is_removed : Pairs → ℕ → ℕ → ℕ → Bool
is_removed c option replica sequence = unwrap_or (map.get c (pair_of option replica sequence)) false

-- a pair of the option that is added and not removed
abbrev pub is_live : ℕ → Pair × Bool → Bool
is_live option e = (e.0.option == option) && not e.1

-- whether the option is in: some added pair of it isn't removed
abbrev pub is_chosen : Pairs → ℕ → Bool
is_chosen c option = list_any (is_live option) (map.entries c)

-- the union of the added pairs, and the union of the removed ones
abbrev pub joined_choices : Pairs → Pairs → Pairs
joined_choices c d = joined_maps ◌||◌ c d

-- the greatest number of a list; 0 if it is empty
abbrev pub greatest : List ℕ → ℕ
greatest [] = 0
greatest (x ∷ xs) = max x (greatest xs)

-- the greatest sequence of a replica in a list of pairs, removed ones too; 0 without any
abbrev pub last_of : ℕ → List (Pair × Bool) → ℕ
last_of replica es = greatest (each (λ e. e.0.sequence) (filter (λ e. e.0.replica == replica) es))

-- the greatest sequence of a replica over all options
abbrev pub last_sequence : Pairs → ℕ → ℕ
last_sequence c replica = last_of replica (map.entries c)

-- c with one more pair added
abbrev pub with_pair : Pairs → ℕ → ℕ → ℕ → Pairs
with_pair c option replica sequence = map.insert c (pair_of option replica sequence) false

-- the pairs of the option that are added and not removed, marked as removed
abbrev pub withdrawn : Pairs → ℕ → Pairs
withdrawn c option = map.from_entries (each (λ e. (e.0, true)) (filter (is_live option) (map.entries c)))

-- an option, a replica and a sequence, each in its range
abbrev pub is_pair : Pair × Bool → Bool
is_pair e =
    nat_lt e.0.option OPTIONS && is_replica e.0.replica && nat_le 1 e.0.sequence && nat_le e.0.sequence SEQUENCES

-- the pairs of a choice: ascending by option, replica and sequence, and distinct, each in its ranges
abbrev pub is_choice : List (Pair × Bool) → Bool
is_choice es = map.is_sorted pair_cmp es && list_all is_pair es
