-- What in a delta is new to a state: the least value whose join with the state is the delta's join with it. Registers,
-- counters and sets are lattices of parts. For these, what is new is the join of the delta's parts that aren't below
-- the state (Enes, Almeida, Baquero and Leitao, ICDE 2019).
use Rattle.std.specs.Prelude.{◌≡◌}

-- n is what in d is new to s, where f joins
pub record IsNewsOf {X : Type 0} (f : X → X → X) (s d n : X) : Type 0 where
  -- joined into s it has the effect of d
  pub same : f s n ≡ f s d
  -- it is below each value that has that effect
  pub least : (m : X) → f s m ≡ f s d → f m n ≡ m

-- no part of s is needed for n: where n is p joined with something below s, n is p
abbrev pub HasNothingOf : {X : Type 0} → (X → X → X) → X → X → Type 0
HasNothingOf f s n = (p x : _) → f s x ≡ s → f p x ≡ n → p ≡ n
