-- A peer that replies to each request by a line, or by several.
use Rattle.std.specs.Prelude.{◌≡◌, ◌<◌, ◌≤◌, ℕ, List, [], ◌∷◌, ◌++◌, Option, length, take}
use Rattle.std.specs.Io.KnownBytes.{Appends, Consumes, IsAtEnd}
use Rattle.ps_lines.specs.Feeding.{HasNoFeed}

-- what contracts see of a peer
pub record PeerView : Type 0 where
  -- the bytes of replies that are still to be read, if its source shows them: those that were taken from the source
  -- already, then the source's
  pub to_come : Option (List ℕ)
  -- the requests that were sent to it so far, if its sink shows them
  pub asked : Option (List ℕ)
  -- the line that was read last, with the carriage return that may be at its end
  pub line : List ℕ
  -- how many calls of its source and its sink failed so far
  pub failures : ℕ
  -- a bound on how many more lines it has
  pub left : ℕ

-- REPLIED: these bytes were put whole, and then one line was read, which is the reply
pub record IsReplied (question : List ℕ) (old new : PeerView) : Type 0 where
  pub asked : Appends old.asked new.asked question
  pub one : HasNoFeed new.line
  pub read : Consumes old.to_come new.to_come (new.line ++ 10 ∷ [])
  pub calm : new.failures ≡ old.failures
  pub falls : new.left < old.left

-- READ ON: one line more was read, which is the reply's next one
pub record IsReadOn (old new : PeerView) : Type 0 where
  pub unasked : new.asked ≡ old.asked
  pub one : HasNoFeed new.line
  pub read : Consumes old.to_come new.to_come (new.line ++ 10 ∷ [])
  pub calm : new.failures ≡ old.failures
  pub falls : new.left < old.left

-- PUT: these bytes were put whole, and nothing was read
pub record IsPut (question : List ℕ) (old new : PeerView) : Type 0 where
  pub asked : Appends old.asked new.asked question
  pub unread : new.to_come ≡ old.to_come
  pub calm : new.failures ≡ old.failures
  pub left : new.left ≡ old.left

-- CLOSED: these bytes were put whole, and then the input ended, with nothing after the line that was read last
pub record IsClosed (question : List ℕ) (old new : PeerView) : Type 0 where
  pub asked : Appends old.asked new.asked question
  pub none : Consumes old.to_come new.to_come []
  pub ended : IsAtEnd new.to_come
  pub calm : new.failures ≡ old.failures

-- a beginning of these bytes was put, or all of them
abbrev pub PutsSome : Option (List ℕ) → Option (List ℕ) → List ℕ → Type 0
PutsSome old new bytes = (count : ℕ) × (count ≤ length bytes) × Appends old new (take count bytes)
