-- A conversation with a peer: the lines of an input, each sent in its turn, and the replies as they are written.
use Rattle.std.specs.Prelude.{◌≡◌, ◌⊎◌, ℕ, Bool, cond, ◌||◌, List, [], ◌∷◌, ◌++◌, Option, Some, None, codes, bytes_eq}
use Rattle.std.specs.Prelude.{drop, flat_map, length, nat_eq, nat_lt, option_map, take}
use Rattle.std.specs.Io.KnownBytes.{Appends, Consumes, IsAtEnd}
use Rattle.std.specs.List.{All, starts_with}
use Rattle.std.specs.Option.{option_or}
use Rattle.ps_grid.specs.declared.refusal.Refusal.TheVariants as refusals
use Rattle.ps_lines.specs.Commands.{verb_of}
use Rattle.ps_lines.specs.Feeding.{HasNoFeed, kept, without_return}
use Rattle.ps_peers.specs.Peers.{PeerView, PutsSome}
use Rattle.ps_lines.specs.Streams.{Answering, Lines, Run, TakesLine, stream_of, with_last}
use Rattle.ps_lines.specs.Replies.{refusal_text}
use Rattle.ps_lines.specs.Words.{first_word, whole_number}
use Rattle.ps_lines.specs.declared.verb.Verb.{Verb}
use Rattle.ps_lines.specs.declared.verb.Verb.TheVariants as verbs

-- a line with its line feed
abbrev pub ended : List ℕ → List ℕ
ended line = line ++ 10 ∷ []

-- the number after a word at the front of a line, if it is that word and a number
abbrev pub number_after : List ℕ → List ℕ → Option ℕ
number_after first word =
    cond (nat_lt (length first) (length word)) None
    (cond (bytes_eq (take (length word) first) word) (whole_number (drop (length word) first)) None)

-- no line follows if this holds; else the reply isn't due
abbrev pub none_more : Bool → Option ℕ
none_more due = cond due (Some 0) None

-- how many lines follow the first line of a reply to a line of this verb; none if it isn't such a reply
abbrev pub lines_after : Option Verb → List ℕ → Option ℕ
lines_after None first = None
lines_after (Some verbs.Get) first = none_more (starts_with nat_eq first (codes "val "))
lines_after (Some verbs.Entry) first = none_more (starts_with nat_eq first (codes "entry "))
lines_after (Some verbs.Rows) first = number_after first (codes "rows ")
lines_after (Some verbs.Entries) first = number_after first (codes "entries ")
lines_after (Some verbs.Pull) first =
    none_more (starts_with nat_eq first (codes "delta ") || starts_with nat_eq first (codes "end "))
lines_after (Some verbs.Replica) first = option_map (λ n. 0) (number_after first (codes "replica "))
lines_after (Some verbs.Wait) first = option_map (λ n. 0) (number_after first (codes "version "))
lines_after (Some verbs.Set) first = option_map (λ n. 0) (number_after first (codes "ok "))
lines_after (Some verbs.Add) first = option_map (λ n. 0) (number_after first (codes "ok "))
lines_after (Some verbs.Sub) first = option_map (λ n. 0) (number_after first (codes "ok "))
lines_after (Some verbs.Choose) first = option_map (λ n. 0) (number_after first (codes "ok "))
lines_after (Some verbs.Unchoose) first = option_map (λ n. 0) (number_after first (codes "ok "))
lines_after (Some verbs.Push) first = option_map (λ n. 0) (number_after first (codes "ok "))
lines_after (Some verbs.Merge) first =
    option_or (option_map (λ n. 0) (number_after first (codes "ok ")))
    (option_map (λ n. 0) (number_after first (codes "same ")))

-- the reply of a server without a free session slot; it then closes the connection
abbrev pub no_seat : List ℕ
no_seat = codes "err 21 seat"

-- how many lines follow the first line of the reply to a line; none if it isn't due. Each refusal is due to each line,
-- except for the refusal `no_seat`
abbrev pub lines_due : List ℕ → List ℕ → Option ℕ
lines_due line first =
    cond (bytes_eq first no_seat) None
    (cond (starts_with nat_eq first (codes "err ")) (Some 0) (lines_after (verb_of (first_word line)) first))

-- the lines of a reply as they are written
abbrev pub written_text : List (List ℕ) → List ℕ
written_text lines = flat_map (λ line. ended (without_return line)) lines

-- ASKED: the line was sent to the peer, once, and then its whole reply was read. The reply is due, and has this text
pub record Asked (old : PeerView) (line text : List ℕ) (new : PeerView) : Type 0 where
  pub first : List ℕ
  pub rest : List (List ℕ)
  pub asked : Appends old.asked new.asked (ended line)
  pub each : All HasNoFeed (first ∷ rest)
  pub read : Consumes old.to_come new.to_come (stream_of (first ∷ rest) [])
  pub due : lines_due line (without_return first) ≡ Some (length rest)
  pub is : text ≡ written_text (first ∷ rest)

-- .. for a line as it stands between line feeds: an empty one isn't sent, and one that is too long is refused and not
-- sent
abbrev pub AsksLine : Answering PeerView
AsksLine = Lines Asked

-- lines were sent, one after another, and their replies were written
pub record IsAsking (first last : PeerView) (written contents given left : Option (List ℕ)) : Type 0 where
  pub lines : List (List ℕ)
  pub text : List ℕ
  pub each : All HasNoFeed lines
  pub read : Consumes given left (stream_of lines [])
  pub run : Run AsksLine first lines text last
  pub sent : Appends written contents text

-- CONVERSED: all lines of the input were sent, also a last one without a line feed
pub record IsConversed (first last : PeerView) (written contents given left : Option (List ℕ)) : Type 0 where
  pub lines : List (List ℕ)
  pub rest : List ℕ
  pub text : List ℕ
  pub each : All HasNoFeed lines
  pub partial : HasNoFeed rest
  pub read : Consumes given left (stream_of lines rest)
  pub ended : IsAtEnd left
  pub run : Run AsksLine first (with_last lines rest) text last
  pub sent : Appends written contents text

-- these lines came, and each was written
pub record WritesLines (lines : List (List ℕ)) (old new written contents : Option (List ℕ)) : Type 0 where
  pub each : All HasNoFeed lines
  pub read : Consumes old new (stream_of lines [])
  pub sent : Appends written contents (written_text lines)

-- some lines came, and then at most one line more; a beginning of the text of the first ones was written
pub record WritesSome (old new written contents : Option (List ℕ)) : Type 0 where
  pub came : List (List ℕ)
  pub each : All HasNoFeed came
  pub later : Option (List ℕ)
  pub read : Consumes old later (stream_of came [])
  pub more : TakesLine later new
  pub wrote : PutsSome written contents (written_text came)

-- BROKEN OFF: a beginning of the line was sent, and a beginning of the lines that came then was written. Or the line is
-- too long, and a beginning of its refusal was written
abbrev pub IsBrokenOff : List ℕ → PeerView → PeerView → Option (List ℕ) → Option (List ℕ) → Type 0
IsBrokenOff raw old new written contents =
    (PutsSome old.asked new.asked (ended (without_return raw)) × WritesSome old.to_come new.to_come written contents)
    ⊎ ((kept raw ≡ None) × (new ≡ old) × PutsSome written contents (refusal_text refusals.Line))

-- .. in a conversation: all lines before it were answered, and no more of the input was read than this line
pub record IsInterrupted (first last : PeerView) (written contents given left : Option (List ℕ)) : Type 0 where
  pub middle : PeerView
  pub before : Option (List ℕ)
  pub given_then : Option (List ℕ)
  pub asking : IsAsking first middle written before given given_then
  pub raw : List ℕ
  pub feed : List ℕ
  pub one : HasNoFeed raw
  pub ends : (feed ≡ []) ⊎ (feed ≡ 10 ∷ [])
  pub taken : Consumes given_then left (raw ++ feed)
  pub broken : IsBrokenOff raw middle last before contents
