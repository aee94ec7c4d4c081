-- Counters and sets as arrays.
use Rattle.std.proofs.Common.{◌≡◌, ℕ, Bool, true, false, ◌&&◌, List, map, IsTrue, refl, sym, ◌∙◌}
use Rattle.std.specs.declared.cmp.Ordering.{Ordering}
use Rattle.std.specs.List.{list_all}
use Rattle.std.specs.Ordering.{nat_cmp}
use Rattle.std.proofs.lemmas.Bool.{and_parts}
use Rattle.std.specs.FinMap as maps
use Rattle.serde_json.specs.Data.{Data}
use Rattle.ps_lattice.specs.declared.tally.Count.{Count}
use Rattle.ps_lattice.specs.declared.choice.Pair.{Pair}
use Rattle.ps_lattice.specs.Tally.{is_count, is_tally}
use Rattle.ps_lattice.specs.Choice.{is_choice, is_pair, pair_cmp}
use Rattle.ps_lattice.proofs.Views.{entries_of}
use Rattle.ps_wire.specs.Value.{array_of, count_value, pair_value, gone_number}
use Rattle.ps_wire.proofs.ArrayLemmas.{array_of-injective, map-injective}

-- nothing is asked of an item
abbrev Any : {X : Type 0} → X → Type 0
Any x = Unit {0}

count_value-injective : (x y : ℕ × Count) → count_value x ≡ count_value y → x ≡ y
count_value-injective x y e =
    let replica : x.0 ≡ y.0 = cc in
    let added : x.1.added ≡ y.1.added = cc in
    let subtracted : x.1.subtracted ≡ y.1.subtracted = cc in
    λ i. (replica i, record { added = added i; subtracted = subtracted i })

gone_number-injective : (a b : Bool) → gone_number a ≡ gone_number b → a ≡ b
gone_number-injective true true e = refl
gone_number-injective true false e = absurd cc
gone_number-injective false true e = absurd cc
gone_number-injective false false e = refl

pair_value-injective : (x y : Pair × Bool) → pair_value x ≡ pair_value y → x ≡ y
pair_value-injective x y e =
    let option : x.0.option ≡ y.0.option = cc in
    let replica : x.0.replica ≡ y.0.replica = cc in
    let sequence : x.0.sequence ≡ y.0.sequence = cc in
    let gone : x.1 ≡ y.1 = gone_number-injective x.1 y.1 cc in
    λ i. (record { option = option i; replica = replica i; sequence = sequence i }, gone i)

pub counts-injective : (xs ys : List (ℕ × Count)) → map count_value xs ≡ map count_value ys → xs ≡ ys
counts-injective xs ys e =
    map-injective count_value Any (λ x y _ _. count_value-injective x y) xs ys (λ _ _ _. tt) (λ _ _ _. tt) e

pub pairs-injective : (xs ys : List (Pair × Bool)) → map pair_value xs ≡ map pair_value ys → xs ≡ ys
pairs-injective xs ys e =
    map-injective pair_value Any (λ x y _ _. pair_value-injective x y) xs ys (λ _ _ _. tt) (λ _ _ _. tt) e

-- a value as the entries of a map: each is written by `item`, and good ones pass `good`
module _ {K X : Type 0} (R : K → K → Ordering) (good : K × X → Bool) (item : K × X → Data) (value : Data) where
  -- what a map of good entries lists
  abbrev IsGood : List (K × X) → Type 0
  IsGood all = IsTrue (maps.is_sorted R all && list_all good all)

  -- the value stands for no map of good entries
  abbrev NoMap : Type 0
  NoMap = (m : maps.FinMap R X) → IsGood (maps.entries m) → value ≡ array_of (map item (maps.entries m)) → ⊥

  -- the value stands for a map where its items stand for good entries, ..
  pub map_found : (all : List (K × X)) → value ≡ array_of (map item all) → IsGood all
      → (value ≡ array_of (map item (maps.entries (maps.from_sorted {R = R} all))))
      × IsGood (maps.entries (maps.from_sorted {R = R} all))
  map_found all read well =
      let same = entries_of R all (and_parts (maps.is_sorted R all) (list_all good all) well).0 in
      (rw (← same) read, rw (← same) well)

  -- .. and for none where they stand for bad ones
  map_none : ((xs ys : List (K × X)) → map item xs ≡ map item ys → xs ≡ ys)
      → (all : List (K × X)) → value ≡ array_of (map item all) → (IsGood all → ⊥) → NoMap
  map_none same_items all read bad m well e =
      let same = same_items all (maps.entries m)
      (array_of-injective (map item all) (map item (maps.entries m)) (sym read ∙ e)) in
      bad (rw same well)

-- entries that make no counter
pub no_counts : (value : Data) (all : List (ℕ × Count)) → value ≡ array_of (map count_value all)
    → (IsTrue (is_tally all) → ⊥) → NoMap nat_cmp is_count count_value value
no_counts value = map_none nat_cmp is_count count_value value counts-injective

-- pairs that make no set
pub no_pairs : (value : Data) (all : List (Pair × Bool)) → value ≡ array_of (map pair_value all)
    → (IsTrue (is_choice all) → ⊥) → NoMap pair_cmp is_pair pair_value value
no_pairs value = map_none pair_cmp is_pair pair_value value pairs-injective
