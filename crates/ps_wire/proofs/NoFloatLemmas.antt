-- The value of a delta has no float and isn't deep.
use Rattle.std.proofs.Common.{◌≡◌, ℕ, ◌≤◌, ◌+◌, Bool, false, ◌||◌, List, [], ◌∷◌, map, Option, Some, None, refl, arith}
use Rattle.std.specs.FinMap as maps
use Rattle.serde_json.specs.Data.{Data, depth, items_depth, string}
use Rattle.serde_json.specs.View.{items_of}
use Rattle.serde_json.specs.Written.{has_float, items_have_float}
use Rattle.ps_grid.specs.Place.{cell_name}
use Rattle.ps_lattice.specs.declared.register.Assignment.{Assignment}
use Rattle.ps_content.specs.declared.content.Content.{Content}
use Rattle.ps_delta.specs.declared.cell_state.CellState.{CellState}
use Rattle.ps_delta.specs.Deltas.{Entries}
use Rattle.ps_wire.specs.Value.{array_of, register_value, count_value, pair_value, cell_value, delta_value}

-- a value that is no deeper than n, without floats
pub record IsPlain (n : ℕ) (value : Data) : Type 0 where
  pub shallow : depth value ≤ n
  pub whole : has_float value ≡ false

no_float : (a b : Bool) → a ≡ false → b ≡ false → (a || b) ≡ false
no_float a b h k = rw (h, k) refl

record ArePlain (n : ℕ) (values : List Data) : Type 0 where
  shallow : items_depth (items_of values) ≤ n
  whole : items_have_float (items_of values) ≡ false

none_plain : (n : ℕ) → ArePlain n []
none_plain n = record { shallow = omega arith; whole = refl }

one_plain : (n : ℕ) (value : Data) (rest : List Data) → IsPlain n value → ArePlain n rest → ArePlain n (value ∷ rest)
one_plain n value rest h k = record {
  shallow = omega (arith, h.shallow, k.shallow);
  whole = no_float (has_float value) (items_have_float (items_of rest)) h.whole k.whole;
}

each_plain : {X : Type 0} (f : X → Data) (n : ℕ) → ((x : X) → IsPlain n (f x)) → (xs : List X) → ArePlain n (map f xs)
each_plain f n plain [] = none_plain n
each_plain f n plain (x ∷ xs) = one_plain n (f x) (map f xs) (plain x) (each_plain f n plain xs)

array_plain : (n : ℕ) (values : List Data) → ArePlain n values → IsPlain (n + 1) (array_of values)
array_plain n values h = record { shallow = omega (arith, h.shallow); whole = h.whole }

count_plain : (e : _) → IsPlain 1 (count_value e)
count_plain e = record { shallow = omega arith; whole = refl }

pair_plain : (e : _) → IsPlain 1 (pair_value e)
pair_plain e = record { shallow = omega arith; whole = refl }

register_plain : (r : Option (Assignment Content)) → IsPlain 2 (register_value r)
register_plain None = record { shallow = omega arith; whole = refl }
register_plain (Some a) = record { shallow = omega arith; whole = refl }

cell_plain : (e : ℕ × CellState) → IsPlain 3 (cell_value e)
unfolding cell_value
cell_plain e =
    let counters = array_plain 1 _ (each_plain count_value 1 count_plain (maps.entries e.1.tally)) in
    let pairs = array_plain 1 _ (each_plain pair_value 1 pair_plain (maps.entries e.1.choice)) in
    let name : IsPlain 2 (string (cell_name e.0)) = record { shallow = omega arith; whole = refl } in
    array_plain 2 _ (one_plain 2 _ _ name (one_plain 2 _ _ (register_plain e.1.register)
    (one_plain 2 _ _ counters (one_plain 2 _ _ pairs (none_plain 2)))))

pub delta_plain : (delta : Entries) → IsPlain 4 (delta_value delta)
unfolding delta_value
delta_plain delta = array_plain 3 _ (each_plain cell_value 3 cell_plain delta)
