-- What a peer holds: the join of all deltas that it returns. Also the cells at which two peers differ, and the line
-- that says so.
use Rattle.std.specs.Prelude.{◌≡◌, ℕ, List, [], ◌∷◌, ◌++◌, codes, decimal, flat_map, length, take}
use Rattle.std.specs.Io.KnownBytes.{Appends, Consumes}
use Rattle.std.specs.List.{All}
use Rattle.ps_grid.specs.Place.{cell_name}
use Rattle.ps_delta.specs.State.{AreTouched, State}
use Rattle.ps_delta.specs.Deltas.{Entries, joined_history}
use Rattle.ps_wire.specs.Line.{IsLine}
use Rattle.ps_lines.specs.Feeding.{HasNoFeed, without_return}
use Rattle.ps_lines.specs.Streams.{Answering, Run, TakesLine, stream_of}
use Rattle.ps_peers.specs.Exchange.{IsGroup, TellsEnd, pull_text}
use Rattle.ps_peers.specs.Peers.{IsReplied, PeerView, PutsSome}
use Rattle.ps_step.specs.declared.step.TheConstants.{MOST_NAMES}

-- what was pulled from a peer so far
pub record Pulled : Type 0 where
  -- the version after the last group
  pub version : ℕ
  -- the deltas of the groups, in order
  pub deltas : List Entries

abbrev pub nothing : Pulled
nothing = record { version = 0; deltas = [] }

-- what was pulled before, a line that the peer replied, the request, and what was pulled then. The request is a pull
-- after the version so far, and the reply a group whose line is a delta
abbrev pub Gives : Answering Pulled
Gives old line request new = (text : List ℕ) × (delta : Entries) × (last : ℕ) × (request ≡ pull_text old.version)
    × IsGroup old.version (without_return line) last text × IsLine text delta
    × (new ≡ record { version = last; deltas = old.deltas ++ delta ∷ [] })

-- GIVEN: the peer replied to one pull after another by a group, the first after version 0, each further one after the
-- version of the reply before. `version` is the last one, and `state` the join of the groups
pub record HasGiven (first last : PeerView) (version : ℕ) (state : State) : Type 0 where
  pub replies : List (List ℕ)
  pub each : All HasNoFeed replies
  pub read : Consumes first.to_come last.to_come (stream_of replies [])
  pub requests : List ℕ
  pub deltas : List Entries
  pub run : Run Gives nothing replies requests (record { version = version; deltas = deltas })
  pub asked : Appends first.asked last.asked requests
  pub joined : state ≡ joined_history deltas

-- .. and then by `end`: the peer holds this state
pub record HasGivenAll (first last : PeerView) (version : ℕ) (state : State) : Type 0 where
  pub middle : PeerView
  pub given : HasGiven first middle version state
  pub replied : IsReplied (pull_text version) middle last
  pub ended : TellsEnd (without_return last.line) version

-- ASKED: only such pulls were sent to the peer, and then at most a beginning of the next one
pub record WasAsked (first last : PeerView) : Type 0 where
  pub middle : PeerView
  pub version : ℕ
  pub state : State
  pub given : HasGiven first middle version state
  pub put : PutsSome middle.asked last.asked (pull_text version)
  pub taken : TakesLine middle.to_come last.to_come

-- COMPARED: two peers returned all that they hold, up to these versions. These are exactly the cells at which what they
-- hold differs, in order
pub record IsCompared (from0 from1 to0 to1 : PeerView) (from to : ℕ) (cells : List ℕ) : Type 0 where
  pub from_state : State
  pub to_state : State
  pub from_given : HasGivenAll from0 from1 from from_state
  pub to_given : HasGivenAll to0 to1 to to_state
  pub apart : AreTouched from_state to_state cells

-- the names of cells, a blank before each
abbrev pub names_text : List ℕ → List ℕ
names_text cells = flat_map (λ c. 32 ∷ cell_name c) cells

-- the line where no cell differs: both versions
abbrev pub even_text : ℕ → ℕ → List ℕ
even_text from to = codes "in step at " ++ decimal from ++ codes " and " ++ decimal to ++ 10 ∷ []

-- .. and if some do: how many, and the first of them
abbrev pub uneven_text : List ℕ → List ℕ
uneven_text cells = codes "differ " ++ decimal (length cells) ++ names_text (take MOST_NAMES cells) ++ 10 ∷ []

-- the line of two peers at these versions that differ at these cells
abbrev pub step_text : ℕ → ℕ → List ℕ → List ℕ
step_text from to [] = even_text from to
step_text from to (cell ∷ cells) = uneven_text (cell ∷ cells)
