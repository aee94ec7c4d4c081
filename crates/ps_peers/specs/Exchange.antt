-- What a client pulls from one peer, and writes or pushes to another: the replies to one request after the other, and
-- the text that is made of them.
use Rattle.std.specs.Prelude.{◌≡◌, ◌⊎◌, ◌<◌, ◌≤◌, ⊤, ℕ, List, [], ◌∷◌, ◌++◌, Option, Some, codes, decimal}
use Rattle.std.specs.Prelude.{Bool, false, true, drop, length, string_bytes}
use Rattle.std.specs.Io.KnownBytes.{Appends, Consumes}
use Rattle.std.specs.List.{All}
use Rattle.ps_lines.specs.declared.command.TheConstants.{LARGEST_GROUP}
use Rattle.ps_peers.specs.declared.peer_reply.PeerReply.{PeerReply}
use Rattle.ps_peers.specs.declared.peer_reply.PeerReply.TheVariants as replies
use Rattle.ps_peers.specs.declared.peer_pull.Due.{Due}
use Rattle.ps_peers.specs.declared.peer_pull.Due.TheVariants as dues
use Rattle.ps_peers.specs.declared.peer_pull.SyncFault.{SyncFault}
use Rattle.ps_peers.specs.declared.peer_pull.SyncFault.TheVariants.{Closed, PeerRefused, Refused}
use Rattle.ps_lines.specs.Feeding.{HasNoFeed, without_return}
use Rattle.ps_peers.specs.Peers.{IsClosed, IsReplied, PeerView, PutsSome}
use Rattle.ps_lines.specs.Streams.{Answering, Run, TakesLine, stream_of}
use Rattle.ps_lines.specs.PushLine.{push_text}
use Rattle.ps_lines.specs.Words.{whole_number}

-- the request for at most `most` deltas after a version
abbrev pub pull_most : ℕ → ℕ → List ℕ
pull_most version most = codes "pull " ++ decimal version ++ (codes " " ++ decimal most) ++ 10 ∷ []

-- .. for as many deltas as a reply may join
abbrev pub pull_text : ℕ → List ℕ
pull_text version = pull_most version LARGEST_GROUP

-- the request for a reply once there are more than `version` changes
abbrev pub wait_text : ℕ → List ℕ
wait_text version = codes "wait " ++ decimal version ++ 10 ∷ []

-- the reply `delta`, with a version and a delta line
pub record TellsDelta (reply : List ℕ) (last : ℕ) (delta : List ℕ) : Type 0 where
  pub digits : List ℕ
  pub is : reply ≡ codes "delta " ++ (digits ++ 32 ∷ delta)
  pub number : whole_number digits ≡ Some last

-- a reply of this word, with a number
pub record TellsNumber (word reply : List ℕ) (number : ℕ) : Type 0 where
  pub digits : List ℕ
  pub is : reply ≡ word ++ digits
  pub number_is : whole_number digits ≡ Some number

-- the reply `end`, with a version
abbrev pub TellsEnd : List ℕ → ℕ → Type 0
TellsEnd reply version = TellsNumber (codes "end ") reply version

-- the reply `ok`, with a version
abbrev pub TellsDone : List ℕ → Type 0
TellsDone reply = (version : ℕ) × TellsNumber (codes "ok ") reply version

-- the reply to a wait for more than `version` changes: how many there are
abbrev pub TellsNews : ℕ → List ℕ → Type 0
TellsNews version reply = (number : ℕ) × TellsNumber (codes "version ") reply number × (version ≤ number)

-- what a reply says
abbrev pub IsTold : List ℕ → PeerReply → Type 0
IsTold reply replies.Taken = TellsDone reply
IsTold reply (replies.Delta last delta) = TellsDelta reply last delta.now
IsTold reply (replies.End version) = TellsEnd reply version
IsTold reply (replies.Version number) = TellsNumber (codes "version ") reply number
IsTold reply (replies.Refused text) = text.now ≡ reply

-- if the fault is `PeerRefused`, its text is this line
abbrev pub IsOwn : SyncFault → List ℕ → Type 0
IsOwn (PeerRefused text) line = string_bytes text ≡ line
IsOwn (Refused refusal) line = ⊤
IsOwn Closed line = ⊤

-- GROUP: the reply is a delta line whose version is greater than `version`, that of the pull
abbrev pub IsGroup : ℕ → List ℕ → ℕ → List ℕ → Type 0
IsGroup version reply last delta = TellsDelta reply last delta × (version < last)

-- what a reply to a pull after `version` returns; `start` is where in the reply the line of a group begins
abbrev pub IsDue : ℕ → List ℕ → Due → Type 0
IsDue version reply (dues.Group last start) = IsGroup version reply last (drop start reply) × (start ≤ length reply)
IsDue version reply dues.End = TellsEnd reply version
IsDue version reply dues.Closed = ⊥

-- the outcome of a pull of at most `most` deltas after `version`: a reply that is due, or the peer closed instead of
-- replying
abbrev pub IsNext : ℕ → ℕ → PeerView → PeerView → Due → Type 0
IsNext version most old new dues.Closed = IsClosed (pull_most version most) old new
IsNext version most old new due =
    IsReplied (pull_most version most) old new × IsDue version (without_return new.line) due

-- the outcome of a wait for more than `version` changes: it ended, or the peer closed instead of replying
abbrev pub IsAwaited : ℕ → PeerView → PeerView → Bool → Type 0
IsAwaited version old new true =
    IsReplied (wait_text version) old new × TellsNews version (without_return new.line)
IsAwaited version old new false = IsClosed (wait_text version) old new

-- the text written for a line that replies to a pull after `version`, and the version of the next pull
abbrev pub WritesPulled : Answering ℕ
WritesPulled version line text next =
    ((delta : List ℕ) × IsGroup version (without_return line) next delta × (text ≡ push_text delta))
    ⊎ (TellsEnd (without_return line) version × (text ≡ []) × (next ≡ version))

-- for a line that replies to a wait no text is written, and the version stays
abbrev pub WritesNothing : Answering ℕ
WritesNothing version line text next =
    TellsNews version (without_return line) × (text ≡ []) × (next ≡ version)

-- the text written for a line that replies to a pull, or, if there are `waits`, to a wait
abbrev pub WritesReply : Type 0 → Answering ℕ
WritesReply waits version line text next =
    WritesPulled version line text next ⊎ (waits × WritesNothing version line text next)

-- .. and the request that the line replies to
abbrev pub Asks : Type 0 → Answering ℕ
Asks waits version line text next =
    ((text ≡ pull_text version) × ((written : List ℕ) × WritesPulled version line written next))
    ⊎ (waits × (text ≡ wait_text version) × ((written : List ℕ) × WritesNothing version line written next))

-- FOLLOWED: the peer replied to one pull after the other, the first after the version `start`, each further one after
-- the version of the reply before. If there are `waits`, there may be waits between them. What was written is exactly
-- the text made of the replies, in order, each once
pub record IsFollowed (waits : Type 0) (start : ℕ) (first last : PeerView) (written contents : Option (List ℕ))
    (version : ℕ) : Type 0 where
  pub replies : List (List ℕ)
  pub each : All HasNoFeed replies
  pub read : Consumes first.to_come last.to_come (stream_of replies [])
  pub requests : List ℕ
  pub asks : Run (Asks waits) start replies requests version
  pub asked : Appends first.asked last.asked requests
  pub text : List ℕ
  pub writes : Run (WritesReply waits) start replies text version
  pub sent : Appends written contents text

-- .. until the peer had no more: its last reply is the end
pub record IsAll (waits : Type 0) (start : ℕ) (first last : PeerView) (written contents : Option (List ℕ))
    : Type 0 where
  pub version : ℕ
  pub followed : IsFollowed waits start first last written contents version
  pub ended : TellsEnd (without_return last.line) version

-- .. until the peer closed: it ended its replies after one of them, instead of one more
pub record IsUntilClosed (waits : Type 0) (start : ℕ) (first last : PeerView) (written contents : Option (List ℕ))
    : Type 0 where
  pub middle : PeerView
  pub version : ℕ
  pub followed : IsFollowed waits start first middle written contents version
  pub closed : IsClosed (pull_text version) middle last ⊎ (waits × IsClosed (wait_text version) middle last)

-- a line that was due was read, and only a beginning of its text was written
pub record IsCut (middle last : PeerView) (version : ℕ) (before contents : Option (List ℕ)) : Type 0 where
  pub one : HasNoFeed last.line
  pub read : Consumes middle.to_come last.to_come (last.line ++ 10 ∷ [])
  pub text : List ℕ
  pub next : ℕ
  pub writes : WritesPulled version last.line text next
  pub sent : PutsSome before contents text

-- HALTED: the peer was followed up to some reply. Then at most one line was read, and none of its text was written. If
-- the writing `failed`, a beginning of it may have been
pub record IsHalted (waits failed : Type 0) (start : ℕ) (first last : PeerView) (written contents : Option (List ℕ))
    : Type 0 where
  pub middle : PeerView
  pub before : Option (List ℕ)
  pub version : ℕ
  pub followed : IsFollowed waits start first middle written before version
  pub taken : TakesLine middle.to_come last.to_come
  pub wrote : (before ≡ contents) ⊎ (failed × IsCut middle last version before contents)
