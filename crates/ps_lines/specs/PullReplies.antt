-- What a pull returns from a history.
use Rattle.std.specs.Prelude.{◌≡◌, ◌⊎◌, ◌+◌, ◌<◌, ◌≤◌, ℕ, List, [], ◌∷◌, length, take, drop, Ok, Err}
use Rattle.std.specs.List.{All}
use Rattle.ps_grid.specs.declared.refusal.Refusal.TheVariants as refusals
use Rattle.ps_delta.specs.Deltas.{Entries, IsDelta, joined_history, state_of}
use Rattle.ps_wire.specs.Line.{delta_text}
use Rattle.ps_wire.specs.declared.TheConstants.{DELTA_LINE_LIMIT}
use Rattle.ps_wire.specs.Fits.{FitsLine}
use Rattle.ps_wire.specs.Value.{IsLawful}
use Rattle.ps_lines.specs.Commands.{Read}
use Rattle.ps_lines.specs.Replies.{end_text, group_text, refusal_text}

-- the delta is the join of the deltas
pub record IsJoint (deltas : List Entries) (delta : Entries) : Type 0 where
  pub lawful : IsDelta delta
  pub joined : state_of delta ≡ joined_history deltas

-- the bytes are the line of the join of the first n deltas, and not too long
pub record IsGroupLine (deltas : List Entries) (n : ℕ) (line : List ℕ) : Type 0 where
  pub within : n ≤ length deltas
  pub delta : Entries
  pub joint : IsJoint (take n deltas) delta
  pub is : line ≡ delta_text delta
  pub fits : length line ≤ DELTA_LINE_LIMIT

-- n is the greatest number up to `most` for which there is such a line
pub record IsGreatest (deltas : List Entries) (most n : ℕ) (line : List ℕ) : Type 0 where
  pub some : 1 ≤ n
  pub within : n ≤ most
  pub grouped : IsGroupLine deltas n line
  pub greatest : (k : ℕ) (longer : List ℕ) → n < k → k ≤ most → ¬ IsGroupLine deltas k longer

-- there is no such line for any number from 1 to `most`
abbrev pub HasNone : List Entries → ℕ → Type 0
HasNone deltas most = (k : ℕ) (line : List ℕ) → 1 ≤ k → k ≤ most → ¬ IsGroupLine deltas k line

-- the reply with the deltas after the version `from`: as many of them, up to `most`, as fit joined on one line
abbrev pub ReturnsGroup : ℕ → ℕ → List Entries → List ℕ → Type 0
ReturnsGroup from most deltas text =
    ((n : ℕ) × (line : List ℕ) × IsGreatest deltas most n line × (text ≡ group_text (from + n) line))
    ⊎ (HasNone deltas most × (text ≡ refusal_text refusals.TooLong))

-- PULL: the reply to a client that has the first `from` deltas, and accepts at most `most` joined into one
pub record IsPullReply (history : List Entries) (from most : ℕ) (text : List ℕ) : Type 0 where
  pub beyond : length history < from → text ≡ refusal_text refusals.Version
  pub at_end : from ≡ length history → text ≡ end_text from
  pub before_end : from < length history → ReturnsGroup from most (drop from history) text

-- the reply to a client that has the first `from` deltas, given the deltas after them or a refusal. The reply is that
-- refusal, or `end` if there are no deltas. Otherwise it has as many deltas as fit on one line, or is out of memory
abbrev pub RepliesWith : ℕ → ℕ → Read (List Entries) → List ℕ → Type 0
RepliesWith from most (Err refusal) reply = reply ≡ refusal_text refusal
RepliesWith from most (Ok []) reply = reply ≡ end_text from
RepliesWith from most (Ok (d ∷ ds)) reply =
    ReturnsGroup from most (d ∷ ds) reply ⊎ (reply ≡ refusal_text refusals.Memory)

-- the delta is in range, and fits on a line
pub record HasLine (delta : Entries) : Type 0 where
  pub lawful : IsLawful delta
  pub fits : FitsLine delta

-- LAW: if each delta of a history fits on a line, no pull is refused as too long: a client that lacks deltas gets some
abbrev pub PullsReturnDeltas : Type 0
PullsReturnDeltas =
    (history : List Entries) (from most : ℕ) (text : List ℕ) → All HasLine history → from < length history → 1 ≤ most
    → IsPullReply history from most text
    → (n : ℕ) × (line : List ℕ) × IsGreatest (drop from history) most n line × (text ≡ group_text (from + n) line)
