-- What a session replies to a line, and how its replies are counted.
use Rattle.std.specs.Prelude.{◌≡◌, ◌+◌, ◌-◌, ◌<◌, ◌^◌, ℕ, Bool, List, Option, Result, MatchResult}
use Rattle.std.specs.Prelude.{length, take, min, if◌then◌else◌}
use Rattle.std.specs.Io.KnownBytes.{Appends}
use Rattle.ps_device.specs.Device.{Sends}

-- a line was answered, and the reply was sent, or cut
abbrev pub Tells : {State E : Type 0} → (State → List ℕ → State → Type 0) → State → State → Option (List ℕ)
    → Option (List ℕ) → Result (Unit {0}) E → Type 0
Tells Answers old new contents after result =
    (reply : List ℕ) × Answers old reply new × Sends contents after result reply

-- a line was answered, and its reply was sent or cut. A reply that was sent counts as `replies`
abbrev pub Replied : {State E : Type 0} → (State → List ℕ → State → Type 0) → State → State → ℕ → Option (List ℕ)
    → Option (List ℕ) → ℕ → ℕ
    → Result (Unit {0}) E → Type 0
Replied Answers old new replies contents after answered counted result = MatchResult result
    (λ _. (reply : List ℕ) × Answers old reply new × Appends contents after reply
    × (counted ≡ min (answered + replies) (2 ^ 64 - 1)))
    (λ _. (reply : List ℕ) × (count : ℕ) × Answers old reply new × (count < length reply)
    × Appends contents after (take count reply))

abbrev pub as_one : Bool → ℕ
as_one b = if b then 1 else 0
