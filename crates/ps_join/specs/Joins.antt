-- What a join asks two peers and what they reply, and that each gets what the other has.
use Rattle.std.specs.Prelude.{◌≡◌, ◌≢◌, ◌⊎◌, ◌<◌, ◌≤◌, ◌+◌, ℕ, Bool, false, true, List, [], ◌∷◌, ◌++◌, Some, codes}
use Rattle.std.specs.Prelude.{length}
use Rattle.std.specs.Io.KnownBytes.{Appends, Consumes}
use Rattle.std.specs.List.{All}
use Rattle.ps_join.specs.declared.carrying.Positions.{Positions}
use Rattle.ps_join.specs.declared.fault.End.{End}
use Rattle.ps_join.specs.declared.fault.End.TheVariants as ends
use Rattle.ps_lines.specs.Feeding.{HasNoFeed, without_return}
use Rattle.ps_lines.specs.Streams.{Answering, Run, TakesLine, stream_of}
use Rattle.ps_peers.specs.Asking.{number_after}
use Rattle.ps_peers.specs.Exchange.{IsGroup, TellsEnd, TellsNews, pull_text, wait_text}
use Rattle.ps_peers.specs.Peers.{IsPut, IsReplied, PeerView, PutsSome}

-- the line that merges a delta, with its line feed
abbrev pub merge_text : List ℕ → List ℕ
merge_text delta = codes "merge " ++ (delta ++ 10 ∷ [])

-- what a join knows of a peer: one side of the join
pub record Side : Type 0 where
  -- how many of its changes, from the first on, were pulled or came from the other peer
  pub position : ℕ
  -- the delta lines that the peer returned to pulls, in order
  pub returned : List (List ℕ)
  -- the delta lines that were merged at the peer, in order
  pub merged : List (List ℕ)
  -- whether the last pull had the reply `end`
  pub is_whole : Bool

abbrev pub fresh : Side
fresh = record { position = 0; returned = []; merged = []; is_whole = false }

-- a side after the peer returned a group, up to this version
abbrev pub gave : Side → List ℕ → ℕ → Side
gave side delta last =
    record { position = last; returned = side.returned ++ delta ∷ []; merged = side.merged; is_whole = false }

-- .. after the peer's `end`
abbrev pub ended : Side → Side
ended side =
    record { position = side.position; returned = side.returned; merged = side.merged; is_whole = true }

-- .. after a delta was merged at the peer
abbrev pub took : Side → List ℕ → ℕ → Side
took side delta next =
    record { position = next; returned = side.returned; merged = side.merged ++ delta ∷ []; is_whole = side.is_whole }

-- a change of this number moves the position if it is the very next one; else changes of others lie between
abbrev pub Moves : ℕ → ℕ → ℕ → Type 0
Moves position number next = (number ≡ position + 1 → next ≡ number) × (number ≢ position + 1 → next ≡ position)

-- MERGED: the reply to a merge, and the position after it: `ok` may move it, `same` never does
abbrev pub IsMerged : ℕ → List ℕ → ℕ → Type 0
IsMerged position reply next =
    ((number : ℕ) × (number_after reply (codes "ok ") ≡ Some number) × Moves position number next)
    ⊎ ((number : ℕ) × (number_after reply (codes "same ") ≡ Some number) × (next ≡ position))

-- what ends a wait early: nothing, or an empty line
abbrev pub EndsWait : List ℕ → Type 0
EndsWait more = (more ≡ []) ⊎ (more ≡ 10 ∷ [])

-- A side before, a line that the peer replied, what was asked, and the side after: a pull that returns a group,
abbrev pub Gives : Answering Side
Gives old line request new = (delta : List ℕ) × (last : ℕ) × (request ≡ pull_text old.position)
    × IsGroup old.position (without_return line) last delta × (new ≡ gave old delta last)

-- .. a pull that returns the end,
abbrev pub Ends : Answering Side
Ends old line request new =
    (request ≡ pull_text old.position) × TellsEnd (without_return line) old.position × (new ≡ ended old)

-- .. a merge,
abbrev pub Takes : Answering Side
Takes old line request new = (delta : List ℕ) × (next : ℕ) × (request ≡ merge_text delta)
    × IsMerged old.position (without_return line) next × (new ≡ took old delta next)

-- .. or a wait for more
abbrev pub Waits : Answering Side
Waits old line request new = (more : List ℕ) × EndsWait more × (request ≡ wait_text old.position ++ more)
    × TellsNews old.position (without_return line) × (new ≡ old)

-- EXCHANGES: one of these four; a wait only if `waits` says so
abbrev pub Exchanges : Bool → Answering Side
Exchanges waits old line request new =
    Gives old line request new ⊎ Ends old line request new ⊎ Takes old line request new
    ⊎ ((waits ≡ true) × Waits old line request new)

-- from the first view to the last, the requests to a peer and its replies lead from a fresh side to this one
pub record HasTalked (waits : Bool) (first last : PeerView) (side : Side) : Type 0 where
  pub replies : List (List ℕ)
  pub each : All HasNoFeed replies
  pub read : Consumes first.to_come last.to_come (stream_of replies [])
  pub requests : List ℕ
  pub run : Run (Exchanges waits) fresh replies requests side
  pub asked : Appends first.asked last.asked requests

-- JOINING: all requests had their replies. What was merged at each peer is exactly what the other returned, in order,
-- each once
pub record IsJoining (waits : Bool) (from0 from1 to0 to1 : PeerView) (from to : Side) : Type 0 where
  pub from_talked : HasTalked waits from0 from1 from
  pub to_talked : HasTalked waits to0 to1 to
  pub there : to.merged ≡ from.returned
  pub back : from.merged ≡ to.returned

-- JOINED: all of `from` was pulled, and then all of `to`, whose `end` is the last reply
pub record IsJoined (from0 from1 to0 to1 : PeerView) : Type 0 where
  pub from : Side
  pub to : Side
  pub joining : IsJoining false from0 from1 to0 to1 from to
  pub from_whole : from.is_whole ≡ true
  pub to_whole : to.is_whole ≡ true
  pub last : TellsEnd (without_return to1.line) to.position

-- what may be asked of a peer next, while these groups of the other peer are in hand: pulled, and not merged yet
abbrev pub MayAsk : Bool → Side → List (List ℕ) → List ℕ → Type 0
MayAsk waits side hand request =
    (request ≡ pull_text side.position)
    ⊎ ((delta : List ℕ) × (hand ≡ delta ∷ []) × (request ≡ merge_text delta))
    ⊎ ((waits ≡ true) × ((more : List ℕ) × EndsWait more × (request ≡ wait_text side.position ++ more)))

-- a beginning of a request was sent, and at most one line came
pub record IsBroken (waits : Bool) (side : Side) (hand : List (List ℕ)) (old new : PeerView) : Type 0 where
  pub request : List ℕ
  pub may : MayAsk waits side hand request
  pub put : PutsSome old.asked new.asked request
  pub taken : TakesLine old.to_come new.to_come

-- nothing came from a peer, and nothing was sent to it, except for a wait
abbrev pub IsIdle : Bool → Side → PeerView → PeerView → Type 0
IsIdle waits side old new = (new ≡ old) ⊎ ((waits ≡ true) × IsPut (wait_text side.position) old new)

-- the exchange broke off at this end
abbrev pub IsBrokenAt : End → Type 0 → Type 0 → Type 0 → Type 0 → Type 0
IsBrokenAt ends.From from_broken from_idle to_broken to_idle = from_broken × to_idle
IsBrokenAt ends.To from_broken from_idle to_broken to_idle = to_broken × from_idle

-- STOPPED: the peers were joining up to some reply of each. At most one group is left in hand: it wasn't merged at the
-- other peer, or its merge had no due reply. The exchange broke off at this end
pub record IsStopped (waits : Bool) (end : End) (from0 from1 to0 to1 : PeerView) : Type 0 where
  pub from_middle : PeerView
  pub to_middle : PeerView
  pub from : Side
  pub to : Side
  pub from_talked : HasTalked waits from0 from_middle from
  pub to_talked : HasTalked waits to0 to_middle to
  pub ahead : List (List ℕ)
  pub behind : List (List ℕ)
  pub there : from.returned ≡ to.merged ++ ahead
  pub back : to.returned ≡ from.merged ++ behind
  pub one : length ahead + length behind ≤ 1
  pub broken : IsBrokenAt end (IsBroken waits from behind from_middle from1) (IsIdle waits from from_middle from1)
      (IsBroken waits to ahead to_middle to1) (IsIdle waits to to_middle to1)

-- a device of the peer at this end failed
abbrev pub IsFailed : End → PeerView → PeerView → PeerView → PeerView → Type 0
IsFailed ends.From from0 from1 to0 to1 = from0.failures < from1.failures
IsFailed ends.To from0 from1 to0 to1 = to0.failures < to1.failures

-- the other end
abbrev pub turned_end : End → End
turned_end ends.From = ends.To
turned_end ends.To = ends.From

-- the peers are joining up to here, at these positions; `whole` says whether all of `to` was pulled
pub record IsReached (waits whole : Bool) (at : Positions) (from0 from1 to0 to1 : PeerView) : Type 0 where
  pub from : Side
  pub to : Side
  pub joining : IsJoining waits from0 from1 to0 to1 from to
  pub from_at : from.position ≡ at.from
  pub to_at : to.position ≡ at.to
  pub kept : to.is_whole ≡ whole

-- .. and all of `from` was pulled
pub record IsCarried (waits whole : Bool) (at : Positions) (from0 from1 to0 to1 : PeerView) : Type 0 where
  pub reached : IsReached waits whole at from0 from1 to0 to1
  pub from_whole : reached.from.is_whole ≡ true

-- .. and all of each peer was pulled
pub record IsBothWays (waits : Bool) (at : Positions) (from0 from1 to0 to1 : PeerView) : Type 0 where
  pub from : Side
  pub to : Side
  pub joining : IsJoining waits from0 from1 to0 to1 from to
  pub from_at : from.position ≡ at.from
  pub to_at : to.position ≡ at.to
  pub from_whole : from.is_whole ≡ true
  pub to_whole : to.is_whole ≡ true

-- whatever was exchanged before: if the peers were joining at these positions, then what follows holds
abbrev pub Later : Positions → PeerView → PeerView → (Bool → Bool → PeerView → PeerView → Type 0) → Type 0
Later start from1 to1 Then = (waits : Bool) (from0 to0 : PeerView) (from to : Side)
    → IsJoining waits from0 from1 to0 to1 from to → from.position ≡ start.from → to.position ≡ start.to
    → Then waits to.is_whole from0 to0

-- these bytes were sent to a waiting peer, and it replied to the wait
abbrev pub IsEnded : List ℕ → ℕ → PeerView → PeerView → Type 0
IsEnded more position old new = IsReplied more old new × TellsNews position (without_return new.line)

-- .. or a beginning of them was sent, and no due reply came
abbrev pub IsUnended : List ℕ → PeerView → PeerView → Type 0
IsUnended more old new = PutsSome old.asked new.asked more × TakesLine old.to_come new.to_come

-- .. for two waiting peers: the reply of `from` is read after no bytes, and that of `to` after an empty line; it broke
-- off at this end
abbrev pub AreUnended : End → Positions → PeerView → PeerView → PeerView → PeerView → Type 0
AreUnended ends.From at from0 from1 to0 to1 = IsUnended [] from0 from1 × (to1 ≡ to0)
AreUnended ends.To at from0 from1 to0 to1 = IsUnended (10 ∷ []) to0 to1 × IsEnded [] at.from from0 from1

-- a whole wait: its request, what ended it, and its reply
abbrev pub IsWaited : ℕ → PeerView → PeerView → Type 0
IsWaited position old new = (more : List ℕ) × EndsWait more × IsEnded (wait_text position ++ more) position old new

-- .. or it broke off
abbrev pub IsUnwaited : ℕ → PeerView → PeerView → Type 0
IsUnwaited position old new = (more : List ℕ) × EndsWait more × IsUnended (wait_text position ++ more) old new

-- what the other peer did meanwhile: nothing, it was sent a wait, or it waited to the end
abbrev pub IsBeside : ℕ → PeerView → PeerView → Type 0
IsBeside position old new = (new ≡ old) ⊎ IsPut (wait_text position) old new ⊎ IsWaited position old new

-- a wait of both peers broke off at this end
abbrev pub AreUnwaited : End → Positions → PeerView → PeerView → PeerView → PeerView → Type 0
AreUnwaited ends.From at from0 from1 to0 to1 = IsUnwaited at.from from0 from1 × IsBeside at.to to0 to1
AreUnwaited ends.To at from0 from1 to0 to1 = IsUnwaited at.to to0 to1 × IsBeside at.from from0 from1
