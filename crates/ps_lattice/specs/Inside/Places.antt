-- Positions in lists of entries whose keys rise.
use Rattle.std.specs.Prelude.{◌≡◌, ℕ, ◌<◌, ◌≤◌, Bool, true, false, List, length, get_or}
use Rattle.std.specs.declared.cmp.Ordering.{Ordering}
use Rattle.std.specs.declared.cmp.Ordering.TheVariants.{Less, Equal, Greater}
use Rattle.ps_lattice.specs.declared.choice.Pair.{Pair}

-- the keys from `from` to before `at` are less than `key`; `key` is at `at` if `there` is true, and if not, a greater
-- key or the end of the list is there
pub record IsPlace {K X : Type 0} (R : K → K → Ordering) (es : List (K × X)) (from : ℕ) (key : K) (at : ℕ)
    (there : Bool) : Type 0 where
  pub low : from ≤ at
  pub high : at ≤ length es
  pub before : (j : ℕ) (d : K × X) → from ≤ j → j < at → R (get_or es j d).0 key ≡ Less
  pub within : there ≡ true → at < length es
  pub here : there ≡ true → (d : K × X) → R (get_or es at d).0 key ≡ Equal
  pub after : there ≡ false → (d : K × X) → at < length es → R (get_or es at d).0 key ≡ Greater

-- the pairs from `from` to before `end`, at least one, have the same option
pub record IsStretch (es : List (Pair × Bool)) (from end : ℕ) : Type 0 where
  pub low : from < end
  pub high : end ≤ length es
  pub same : (j : ℕ) (d : Pair × Bool) → from ≤ j → j < end → (get_or es j d).0.option ≡ (get_or es from d).0.option
