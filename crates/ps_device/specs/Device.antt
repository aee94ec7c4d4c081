-- What a call of a device did.
use Rattle.std.specs.Prelude.{ℕ, zero, suc, ◌<◌, ◌≡◌, List, [], ◌∷◌, ◌++◌, length, take, Option, Result, Ok, Err}
use Rattle.std.specs.Prelude.{MatchResult}
use Rattle.std.specs.Io.KnownBytes.{Appends}

-- how many failures a read counts as: one if it returned an error, else none
abbrev pub failed_take : {E : Type 0} → Result ℕ E → ℕ
failed_take (Ok count) = 0
failed_take (Err error) = 1

-- how many failures a write counts as: one if it returned an error, or took no byte of a piece that isn't empty
abbrev pub failed_put : {E : Type 0} → Result ℕ E → List ℕ → ℕ
failed_put (Err error) piece = 1
failed_put (Ok zero) [] = 0
failed_put (Ok zero) (b ∷ bs) = 1
failed_put (Ok (suc count)) piece = 0

-- how many failures a flush counts as: one if it returned an error, else none
abbrev pub failed_flush : {E : Type 0} → Result (Unit {0}) E → ℕ
failed_flush (Ok done) = 0
failed_flush (Err error) = 1

-- at Ok all the bytes were written; at an error only a front of them, shorter than all
abbrev pub Sends : {E : Type 0} → Option (List ℕ) → Option (List ℕ) → Result (Unit {0}) E → List ℕ → Type 0
Sends old new result bytes =
    MatchResult result (λ _. Appends old new bytes)
    (λ _. (count : ℕ) × (count < length bytes) × Appends old new (take count bytes))

-- the contents grew by some bytes, and exactly these were appended to the bytes that wait
abbrev pub HoldsBack : Option (List ℕ) → Option (List ℕ) → List ℕ → List ℕ → Type 0
HoldsBack old new waited waiting = (taken : List ℕ) × Appends old new taken × (waiting ≡ waited ++ taken)
