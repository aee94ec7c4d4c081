-- What a relay asks its server. It writes each change of the server, except for those that came in.
use Rattle.std.specs.Prelude.{◌≡◌, ◌≢◌, ◌⊎◌, ◌<◌, ◌≤◌, ◌+◌, ℕ, true, List, [], ◌∷◌, ◌++◌, Option, Some, None}
use Rattle.std.specs.Prelude.{codes, nat_eq}
use Rattle.std.specs.Io.KnownBytes.{Appends, Consumes, IsAtEnd}
use Rattle.std.specs.List.{All, Contains, starts_with}
use Rattle.ps_grid.specs.declared.refusal.Refusal.TheVariants.{Device}
use Rattle.ps_join.specs.Joins.{EndsWait, merge_text}
use Rattle.ps_join.specs.declared.bringing.Brought.{Brought}
use Rattle.ps_join.specs.declared.bringing.Brought.TheVariants as broughts
use Rattle.ps_join.specs.declared.fault.RelayFault.{RelayFault}
use Rattle.ps_join.specs.declared.fault.RelayFault.TheVariants as faults
use Rattle.ps_lines.specs.Feeding.{HasNoFeed, without_return}
use Rattle.ps_lines.specs.Streams.{Answering, Run, TakesLine, stream_of}
use Rattle.ps_peers.specs.Asking.{no_seat, number_after}
use Rattle.ps_peers.specs.Exchange.{IsGroup, TellsEnd, TellsNews, pull_most, wait_text}
use Rattle.ps_peers.specs.Peers.{IsReplied, PeerView, PutsSome}
use Rattle.ps_peers.specs.declared.peer_pull.SyncFault.TheVariants.{Refused}

-- the progress of a relay
pub record Course : Type 0 where
  -- each change of the server up to this number was written or came in
  pub position : ℕ
  -- the numbers that the server gave to changes that came in
  pub numbers : List ℕ
  -- the merge lines that came in and had a reply, in order
  pub merged : List ℕ
  -- the merge lines that were written, in order
  pub written : List ℕ

abbrev pub unbegun : Course
unbegun = record { position = 0; numbers = []; merged = []; written = [] }

-- a course after a group of changes was written, up to this number
abbrev pub tells : Course → List ℕ → ℕ → Course
tells course delta last = record {
  position = last;
  numbers = course.numbers;
  merged = course.merged;
  written = course.written ++ merge_text delta;
}

-- .. after a delta that came in became the changes of these numbers: one or none
abbrev pub takes : Course → List ℕ → List ℕ → Course
takes course delta numbers = record {
  position = course.position;
  numbers = course.numbers ++ numbers;
  merged = course.merged ++ merge_text delta;
  written = course.written;
}

-- .. with another position
abbrev pub moved_to : Course → ℕ → Course
moved_to course position =
    record { position = position; numbers = course.numbers; merged = course.merged; written = course.written }

-- no change after the first number and up to the last one came in
abbrev pub AreOutside : List ℕ → ℕ → ℕ → Type 0
AreOutside numbers first last = All (λ n. (n ≤ first) ⊎ (last < n)) numbers

-- the position may pass the next change if that came in
abbrev pub Passes : Course → Course → Type 0
Passes old new =
    (new ≡ old) ⊎ (Contains old.numbers (old.position + 1) × (new ≡ moved_to old (old.position + 1)))

-- the reply to a merge: the change has this number, which is after the position; or the server knew all of it; or the
-- server refused it, and not because all session slots are taken
abbrev pub IsTaken : ℕ → List ℕ → Brought → Type 0
IsTaken position reply (broughts.Anew number) =
    (number_after reply (codes "ok ") ≡ Some number) × (position < number)
IsTaken position reply (broughts.Known number) = number_after reply (codes "same ") ≡ Some number
IsTaken position reply broughts.Refused =
    (starts_with nat_eq reply (codes "err ") ≡ true) × (reply ≢ no_seat)

-- the numbers of what was brought
abbrev pub numbers_of : Brought → List ℕ
numbers_of (broughts.Anew number) = number ∷ []
numbers_of (broughts.Known number) = []
numbers_of broughts.Refused = []

-- A course before, a line that the server replied, what was asked, and the course after: a pull that returns a group,
-- in which nothing came in, and which is written,
abbrev pub Writes : Answering Course
Writes old line request new = (most : ℕ) × (delta : List ℕ) × (last : ℕ) × (request ≡ pull_most old.position most)
    × IsGroup old.position (without_return line) last delta × AreOutside old.numbers old.position last
    × (new ≡ tells old delta last)

-- .. a pull that returns the end,
abbrev pub IsThrough : Answering Course
IsThrough old line request new = (most : ℕ) × (request ≡ pull_most old.position most)
    × TellsEnd (without_return line) old.position × (new ≡ old)

-- .. a merge of what came in,
abbrev pub Brings : Answering Course
Brings old line request new = (delta : List ℕ) × (brought : Brought) × (request ≡ merge_text delta)
    × IsTaken old.position (without_return line) brought × (new ≡ takes old delta (numbers_of brought))

-- .. or a wait for more
abbrev pub Awaits : Answering Course
Awaits old line request new = (more : List ℕ) × EndsWait more × (request ≡ wait_text old.position ++ more)
    × TellsNews old.position (without_return line) × (new ≡ old)

-- RELAYS: one of these four, perhaps after the position passed a change that came in
abbrev pub Relays : Answering Course
Relays old line request new = (from : Course) × Passes old from
    × (Writes from line request new ⊎ IsThrough from line request new ⊎ Brings from line request new
    ⊎ Awaits from line request new)

-- what a relay works with: its server, the merge lines that come in and have had no reply yet, if they are shown, and
-- what was written
pub record RelayView : Type 0 where
  pub server : PeerView
  pub to_come : Option (List ℕ)
  pub contents : Option (List ℕ)

abbrev pub seen : PeerView → Option (List ℕ) → Option (List ℕ) → RelayView
seen server to_come contents = record { server = server; to_come = to_come; contents = contents }

-- the requests to the server and its replies lead from an unbegun course to this one. What was merged is what came in,
-- and the text of the course was written
pub record HasAsked (first last : RelayView) (course : Course) : Type 0 where
  pub replies : List (List ℕ)
  pub each : All HasNoFeed replies
  pub read : Consumes first.server.to_come last.server.to_come (stream_of replies [])
  pub requests : List ℕ
  pub run : Run Relays unbegun replies requests course
  pub asked : Appends first.server.asked last.server.asked requests
  pub came : Consumes first.to_come last.to_come course.merged
  pub sent : Appends first.contents last.contents course.written

-- RELAYED: .. and then the position may pass a change that came in
pub record HasRelayed (first last : RelayView) (course : Course) : Type 0 where
  pub before : Course
  pub asked : HasAsked first last before
  pub passes : Passes before course

-- THROUGH: nothing more comes in, and the server has no more
pub record IsRelayed (first last : RelayView) : Type 0 where
  pub course : Course
  pub relayed : HasRelayed first last course
  pub through : TellsEnd (without_return last.server.line) course.position
  pub ended : IsAtEnd last.to_come

-- what may be asked next, after this delta came in
abbrev pub MayAskNext : Course → List ℕ → List ℕ → Type 0
MayAskNext course held request =
    ((most : ℕ) × (request ≡ pull_most course.position most))
    ⊎ (request ≡ merge_text held)
    ⊎ ((more : List ℕ) × EndsWait more × (request ≡ wait_text course.position ++ more))

-- what was written of a group that is due, up to its number. If the output failed, that is a beginning of it; else
-- nothing
abbrev pub IsCutAt : RelayFault → (ℕ → Type 0) → ℕ → PeerView → Option (List ℕ) → Option (List ℕ) → Type 0
IsCutAt faults.Output IsDueTo position server before contents = (delta : List ℕ) × (last : ℕ)
    × IsGroup position (without_return server.line) last delta × IsDueTo last
    × PutsSome before contents (merge_text delta)
IsCutAt (faults.Server fault) IsDueTo position server before contents = contents ≡ before

-- HALTED: it relayed up to some reply. Then a beginning of a request was sent, and at most one line came. At most a
-- beginning of that line's text was written
pub record IsHalted (fault : RelayFault) (held : List ℕ) (first last : RelayView) : Type 0 where
  pub middle : RelayView
  pub course : Course
  pub relayed : HasRelayed first middle course
  pub request : List ℕ
  pub may : MayAskNext course held request
  pub put : PutsSome middle.server.asked last.server.asked request
  pub taken : TakesLine middle.server.to_come last.server.to_come
  pub unsettled : last.to_come ≡ middle.to_come
  pub cut : IsCutAt fault (AreOutside course.numbers course.position) course.position last.server middle.contents
      last.contents

-- if the fault says that a device failed, one did
abbrev pub HasFailed : RelayFault → Type 0 → Type 0 → Type 0
HasFailed faults.Output server_failed output_failed = output_failed
HasFailed (faults.Server fault) server_failed output_failed = fault ≡ Refused Device → server_failed

-- the outcome of a pull of at most `most` changes after a position: a group was written, up to this number, or there is
-- none
abbrev pub IsWritten : ℕ → ℕ → PeerView → PeerView → Option (List ℕ) → Option (List ℕ) → Option ℕ → Type 0
IsWritten position most old new before contents (Some last) = IsReplied (pull_most position most) old new
    × ((delta : List ℕ) × IsGroup position (without_return new.line) last delta × (last ≤ position + most)
    × Appends before contents (merge_text delta))
IsWritten position most old new before contents None = IsReplied (pull_most position most) old new
    × TellsEnd (without_return new.line) position × (contents ≡ before)

-- .. or it broke off
pub record IsUnwritten (fault : RelayFault) (position most : ℕ) (old new : PeerView)
    (before contents : Option (List ℕ)) : Type 0 where
  pub put : PutsSome old.asked new.asked (pull_most position most)
  pub taken : TakesLine old.to_come new.to_come
  pub cut : IsCutAt fault (λ last. last ≤ position + most) position new before contents

-- whatever was relayed before, up to this position: if no change after it and up to the limit came in, what follows
-- holds
abbrev pub Onward : ℕ → ℕ → PeerView → Option (List ℕ)
    → ((first : RelayView) → Option (List ℕ) → Course → Type 0) → Type 0
Onward position limit server contents Then = (first : RelayView) (to_come : Option (List ℕ)) (course : Course)
    → HasAsked first (seen server to_come contents) course → course.position ≡ position
    → AreOutside course.numbers position limit → Then first to_come course

-- .. it was relayed further, up to this position
pub record IsOnward (position : ℕ) (numbers : List ℕ) (first last : RelayView) : Type 0 where
  pub course : Course
  pub asked : HasAsked first last course
  pub here : course.position ≡ position
  pub same : course.numbers ≡ numbers

-- the position has passed all changes that came in
abbrev pub ArePassed : Course → Type 0
ArePassed course = All (λ n. n ≤ course.position) course.numbers

-- relayed up to this position
pub record IsAt (position : ℕ) (first last : RelayView) : Type 0 where
  pub course : Course
  pub relayed : HasRelayed first last course
  pub here : course.position ≡ position
  pub passed : ArePassed course
