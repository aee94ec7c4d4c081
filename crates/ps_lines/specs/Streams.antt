-- How bytes divide into lines, and the replies to lines, one after another.
use Rattle.std.specs.Prelude.{◌≡◌, ◌⊎◌, ℕ, List, [], ◌∷◌, ◌++◌, length, Option, MatchBool, flat_map, nat_le}
use Rattle.std.specs.List.{All}
use Rattle.std.specs.Io.KnownBytes.{Consumes}
use Rattle.ps_grid.specs.declared.refusal.Refusal.TheVariants as refusals
use Rattle.ps_lines.specs.declared.line_buffer.TheConstants.{LINE_LIMIT}
use Rattle.ps_lines.specs.Feeding.{HasNoFeed, without_return}
use Rattle.ps_lines.specs.Replies.{refusal_text}

-- these lines, each with its line feed, and then a rest
abbrev pub stream_of : List (List ℕ) → List ℕ → List ℕ
stream_of lines rest = flat_map (λ line. line ++ 10 ∷ []) lines ++ rest

-- the bytes are these lines, and a rest that no line feed has ended
pub record Splits (bytes : List ℕ) (lines : List (List ℕ)) (rest : List ℕ) : Type 0 where
  pub whole : bytes ≡ stream_of lines rest
  pub each : All HasNoFeed lines
  pub partial : HasNoFeed rest

-- at the end of the input a rest that isn't empty is a line too
abbrev pub with_last : List (List ℕ) → List ℕ → List (List ℕ)
with_last lines [] = lines
with_last lines (b ∷ bs) = lines ++ (b ∷ bs) ∷ []

-- what stands after a line: the end, or its line feed and more
abbrev pub IsAfterLine : Type 0 → List ℕ → Type 0
IsAfterLine ended [] = ended
IsAfterLine ended (b ∷ bs) = b ≡ 10

-- LAW: bytes divide into lines in only one way
abbrev pub DividesOneWay : Type 0
DividesOneWay =
    (bytes : List ℕ) (lines others : List (List ℕ)) (rest remainder : List ℕ)
    → Splits bytes lines rest → Splits bytes others remainder → (lines ≡ others) × (rest ≡ remainder)

-- at most one line was read: nothing, a part of a line, or a line with its line feed
pub record TakesLine (old new : Option (List ℕ)) : Type 0 where
  pub part : List ℕ
  pub feed : List ℕ
  pub one : HasNoFeed part
  pub ends : (feed ≡ []) ⊎ (feed ≡ 10 ∷ [])
  pub taken : Consumes old new (part ++ feed)

-- what answers a line that isn't empty and isn't too long: it relates the state before, the line, the reply's bytes and
-- the state after
abbrev pub Answering : Type 0 → Type 1
Answering State = State → List ℕ → List ℕ → State → Type 0

-- an empty line has no reply
abbrev pub Replies : {State : Type 0} → Answering State → State → List ℕ → List ℕ → State → Type 0
Replies Answers old [] text new = (text ≡ []) × (new ≡ old)
Replies Answers old (b ∷ bs) text new = Answers old (b ∷ bs) text new

-- the same for the bytes between two line feeds; a line that is too long has the reply `refused`
abbrev pub Handles : {State : Type 0} → List ℕ → Answering State → State → List ℕ → List ℕ → State → Type 0
Handles refused Answers old raw text new = MatchBool (nat_le (length raw) LINE_LIMIT)
    (Replies Answers old (without_return raw) text new)
    ((text ≡ refused) × (new ≡ old))

-- .. and `refused` is the refusal `Line`
abbrev pub Lines : {State : Type 0} → Answering State → Answering State
Lines Answers = Handles (refusal_text refusals.Line) Answers

-- the lines are handled one after another, and `text` has all replies
abbrev pub Run : {State : Type 0} → Answering State → State → List (List ℕ) → List ℕ → State → Type 0
Run Line old [] text new = (text ≡ []) × (new ≡ old)
Run {State} Line old (line ∷ lines) text new = (first : List ℕ) × (middle : State) × (others : List ℕ)
    × Line old line first middle × (text ≡ first ++ others) × Run Line middle lines others new
