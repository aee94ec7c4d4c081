-- What a line asks for. It depends on the line alone, not on a sheet.
use Rattle.std.specs.Prelude.{◌≡◌, ◌<◌, ◌↔◌, ℕ, ◌&&◌, nat_le, List, [], ◌∷◌, codes, bytes_eq, drop}
use Rattle.std.specs.Prelude.{Option, Some, None, MatchOption, Result, Ok, Err, IfOk, IfErr, MatchResult, ◌⊎◌}
use Rattle.std.specs.Prelude.{if◌then◌else◌, true, ⊤}
use Rattle.ps_grid.specs.Place.{cell_name}
use Rattle.ps_grid.specs.declared.refusal.Refusal.{Refusal}
use Rattle.ps_grid.specs.declared.refusal.Refusal.TheVariants as refusals
use Rattle.ps_grid.specs.declared.parties.TheConstants.{REPLICAS}
use Rattle.ps_grid.specs.declared.size.TheConstants.{CELLS}
use Rattle.ps_content.specs.Entry.{Reads, kind_of, takes_memory}
use Rattle.ps_content.specs.declared.content.Content.{Content}
use Rattle.ps_delta.specs.Deltas.{Entries}
use Rattle.ps_wire.specs.Line.{IsLine}
use Rattle.ps_delta.specs.declared.edit.Edit.{Edit}
use Rattle.ps_delta.specs.declared.edit.Edit.TheVariants as edits
use Rattle.ps_lines.specs.DigestLine.{is_digest}
use Rattle.ps_lines.specs.Words.{after_word, first_word, parts, whole_number, words}
use Rattle.ps_lines.specs.declared.command.Command.{Command}
use Rattle.ps_lines.specs.declared.command.TheConstants.{LARGEST_GROUP}
use Rattle.ps_lines.specs.declared.command.Command.TheVariants as commands
use Rattle.ps_lines.specs.declared.verb.Verb.{Verb}
use Rattle.ps_lines.specs.declared.verb.Verb.TheVariants.{Add, Choose, Entries as AllEntries, Entry, Get, Merge}
use Rattle.ps_lines.specs.declared.verb.Verb.TheVariants.{Pull, Push, Replica, Rows, Set, Sub, Unchoose, Wait}

-- the verb that a word names
unfoldable pub verb_of : List ℕ → Option Verb
verb_of word =
    if bytes_eq word (codes "get") then Some Get
    else if bytes_eq word (codes "set") then Some Set
    else if bytes_eq word (codes "add") then Some Add
    else if bytes_eq word (codes "sub") then Some Sub
    else if bytes_eq word (codes "choose") then Some Choose
    else if bytes_eq word (codes "unchoose") then Some Unchoose
    else if bytes_eq word (codes "rows") then Some Rows
    else if bytes_eq word (codes "entry") then Some Entry
    else if bytes_eq word (codes "entries") then Some AllEntries
    else if bytes_eq word (codes "push") then Some Push
    else if bytes_eq word (codes "merge") then Some Merge
    else if bytes_eq word (codes "pull") then Some Pull
    else if bytes_eq word (codes "replica") then Some Replica
    else if bytes_eq word (codes "wait") then Some Wait
    else None

-- the result of reading a line or a part of it, or why it is refused
abbrev pub Read : Type 0 → Type 0
Read X = Result X Refusal

-- a refusal of the part refuses the whole
abbrev pub with_part : {X Y : Type 0} → (X → Y) → Read X → Read Y
with_part whole (Ok part) = Ok (whole part)
with_part whole (Err refusal) = Err refusal

-- `found` is the cell that a text names, or None if it names none
abbrev pub NamesCell : List ℕ → Option ℕ → Type 0
NamesCell text found = (c : ℕ) → (found ≡ Some c) ↔ ((c < CELLS) × (text ≡ cell_name c))

-- a word that names no cell is refused as `Cell`; otherwise `Decides` holds for the named cell
abbrev pub AtCell : {X : Type 0} → List ℕ → Read X → (ℕ → Type 0) → Type 0
AtCell word read Decides =
    (found : Option ℕ) × NamesCell word found × MatchOption found (read ≡ Err refusals.Cell) Decides

-- one word, a cell
abbrev pub ReadsOneCell : List (List ℕ) → Read ℕ → Type 0
ReadsOneCell (cell ∷ []) read = AtCell cell read (λ c. read ≡ Ok c)
ReadsOneCell _ read = read ≡ Err refusals.Command

-- a question about one cell
abbrev pub AsksOfCell : (ℕ → Command) → List (List ℕ) → Read Command → Type 0
AsksOfCell question others read =
    (cell : Read ℕ) × ReadsOneCell others cell × (read ≡ with_part question cell)

-- the cell is assigned the content that the entry stands for
abbrev pub Assigns : ℕ → List ℕ → Read Command → Type 0
Assigns c entry read = (content : Read Content) × Reads (kind_of entry) entry content
    × (read ≡ with_part (λ x. commands.Edit (edits.Set c x)) content)

-- `set`: a cell, and after its space the entry
abbrev pub ReadsSet : List (List ℕ) → List ℕ → Read Command → Type 0
ReadsSet [] entry read = read ≡ Err refusals.Command
ReadsSet (cell ∷ others) entry read = AtCell cell read (λ c. Assigns c entry read)

-- two words, a cell and a number; if the second isn't a number, the line is refused with `refusal`
abbrev pub ReadsPair : Refusal → List (List ℕ) → Read (ℕ × ℕ) → Type 0
ReadsPair refusal (cell ∷ number ∷ []) read =
    AtCell cell read (λ c. MatchOption (whole_number number) (read ≡ Err refusal) (λ n. read ≡ Ok (c, n)))
ReadsPair refusal _ read = read ≡ Err refusals.Command

-- a change of a cell by a number
abbrev pub ReadsChange : (ℕ → ℕ → Edit) → Refusal → List (List ℕ) → Read Command → Type 0
ReadsChange change refusal others read = (pair : Read (ℕ × ℕ)) × ReadsPair refusal others pair
    × (read ≡ with_part (λ p. commands.Edit (change p.0 p.1)) pair)

-- two cells with a colon between
abbrev pub ReadsCorners : List (List ℕ) → Read (ℕ × ℕ) → Type 0
ReadsCorners (first ∷ last ∷ []) read = AtCell first read (λ c. AtCell last read (λ d. read ≡ Ok (c, d)))
ReadsCorners _ read = read ≡ Err refusals.Cell

-- one word, two corners of a rectangle
abbrev pub ReadsRectangle : List (List ℕ) → Read (ℕ × ℕ) → Type 0
ReadsRectangle (corners ∷ []) read = ReadsCorners (parts 58 corners) read
ReadsRectangle _ read = read ≡ Err refusals.Command

-- a question about a rectangle
abbrev pub AsksOfRectangle : (ℕ → ℕ → Command) → List (List ℕ) → Read Command → Type 0
AsksOfRectangle question others read = (pair : Read (ℕ × ℕ)) × ReadsRectangle others pair
    × (read ≡ with_part (λ p. question p.0 p.1) pair)

-- the delta whose line these bytes are; bytes that are no delta's line are refused
pub record ReadsDelta (bytes : List ℕ) (read : Read Entries) : Type 0 where
  pub line : IfOk read (λ d. IsLine bytes d)
  pub only : (d : Entries) → IsLine bytes d → MatchResult read (λ found. found ≡ d) (λ e. e ≡ refusals.Memory)
  pub refused : IfErr read (λ e. (e ≡ refusals.Delta) ⊎ (e ≡ refusals.Memory))

-- the request to take in the delta whose line these bytes are
abbrev pub TakesIn : (Entries → Command) → List ℕ → Read Command → Type 0
TakesIn asked bytes read = (delta : Read Entries) × ReadsDelta bytes delta × (read ≡ with_part asked delta)

-- .. by `push`, or by `merge`
abbrev pub Pushes : List ℕ → Read Command → Type 0
Pushes bytes read = TakesIn (λ d. commands.Push d) bytes read

abbrev pub Merges : List ℕ → Read Command → Type 0
Merges bytes read = TakesIn (λ d. commands.Merge d) bytes read

-- the delta's line is all that follows the verb's space
abbrev pub ReadsTakingIn : (Entries → Command) → List (List ℕ) → List ℕ → Read Command → Type 0
ReadsTakingIn asked [] line read = read ≡ Err refusals.Command
ReadsTakingIn asked (word ∷ others) line read = TakesIn asked line read

-- `push`
abbrev pub ReadsPush : List (List ℕ) → List ℕ → Read Command → Type 0
ReadsPush others line read = ReadsTakingIn (λ d. commands.Push d) others line read

-- `merge`
abbrev pub ReadsMerge : List (List ℕ) → List ℕ → Read Command → Type 0
ReadsMerge others line read = ReadsTakingIn (λ d. commands.Merge d) others line read

-- without a number the line is refused as `Version`; otherwise `Decides` holds for the number
abbrev pub AtNumber : Option ℕ → Read Command → (ℕ → Type 0) → Type 0
AtNumber number read Decides = MatchOption number (read ≡ Err refusals.Version) Decides

-- the number, if a pull may join so many deltas into one
abbrev pub group_size : Option ℕ → Option ℕ
group_size None = None
group_size (Some n) = if nat_le 1 n && nat_le n LARGEST_GROUP then Some n else None

-- `pull`: a version, and perhaps the most deltas to join into one
abbrev pub ReadsPull : List (List ℕ) → Read Command → Type 0
ReadsPull (from ∷ []) read = AtNumber (whole_number from) read (λ n. read ≡ Ok (commands.Pull n None))
ReadsPull (from ∷ most ∷ []) read =
    AtNumber (whole_number from) read (λ n.
    AtNumber (group_size (whole_number most)) read (λ m. read ≡ Ok (commands.Pull n (Some m))))
ReadsPull _ read = read ≡ Err refusals.Command

-- the number, if a replica may have it
abbrev pub replica_number : Option ℕ → Option ℕ
replica_number None = None
replica_number (Some n) = if nat_le 1 n && nat_le n REPLICAS then Some n else None

-- how a word that is no replica's number is read: a digest names no replica, and any other word is refused
abbrev pub read_unnumbered : List ℕ → Read Command
read_unnumbered word = if is_digest word then Ok (commands.Replica None) else Err refusals.Replica

-- `replica`: no other word, the number of a replica, or a digest
abbrev pub ReadsReplica : List (List ℕ) → Read Command → Type 0
ReadsReplica [] read = read ≡ Ok (commands.Replica None)
ReadsReplica (word ∷ []) read = MatchOption (replica_number (whole_number word)) (read ≡ read_unnumbered word)
    (λ n. read ≡ Ok (commands.Replica (Some n)))
ReadsReplica _ read = read ≡ Err refusals.Command

-- `wait`: one word, the number of changes that the client knows
abbrev pub ReadsWait : List (List ℕ) → Read Command → Type 0
ReadsWait (seen ∷ []) read = AtNumber (whole_number seen) read (λ n. read ≡ Ok (commands.Wait n))
ReadsWait _ read = read ≡ Err refusals.Command

-- how the rest of a line is read after its verb, given the rest's words and its bytes
abbrev pub ReadsVerb : Option Verb → List (List ℕ) → List ℕ → Read Command → Type 0
ReadsVerb None others rest read = read ≡ Err refusals.Command
ReadsVerb (Some Get) others rest read = AsksOfCell (λ c. commands.Get c) others read
ReadsVerb (Some Set) others rest read = ReadsSet others (after_word rest) read
ReadsVerb (Some Add) others rest read = ReadsChange (λ c n. edits.Add c n) refusals.Amount others read
ReadsVerb (Some Sub) others rest read = ReadsChange (λ c n. edits.Sub c n) refusals.Amount others read
ReadsVerb (Some Choose) others rest read = ReadsChange (λ c n. edits.Choose c n) refusals.OptionRange others read
ReadsVerb (Some Unchoose) others rest read =
    ReadsChange (λ c n. edits.Unchoose c n) refusals.OptionRange others read
ReadsVerb (Some Rows) others rest read = AsksOfRectangle (λ c d. commands.Rows c d) others read
ReadsVerb (Some Entry) others rest read = AsksOfCell (λ c. commands.Entry c) others read
ReadsVerb (Some AllEntries) others rest read = AsksOfRectangle (λ c d. commands.Entries c d) others read
ReadsVerb (Some Push) others rest read = ReadsPush others rest read
ReadsVerb (Some Merge) others rest read = ReadsMerge others rest read
ReadsVerb (Some Pull) others rest read = ReadsPull others read
ReadsVerb (Some Replica) others rest read = ReadsReplica others read
ReadsVerb (Some Wait) others rest read = ReadsWait others read

-- WHAT A LINE ASKS FOR: how a whole line is read
abbrev pub ReadsLine : List ℕ → Read Command → Type 0
ReadsLine line read =
    ReadsVerb (verb_of (first_word line)) (drop 1 (words line)) (after_word line) read

-- reading the rest of a line takes memory, for a formula, a text or a delta
abbrev pub IsKeptInMemory : Option Verb → List ℕ → Type 0
IsKeptInMemory (Some Set) rest = takes_memory (kind_of (after_word rest)) ≡ true
IsKeptInMemory (Some Push) rest = ⊤
IsKeptInMemory (Some Merge) rest = ⊤
IsKeptInMemory _ rest = ⊥

-- reading the line takes memory: it assigns a formula or a text, or it is a `push` or a `merge`
abbrev pub TakesMemoryToRead : List ℕ → Type 0
TakesMemoryToRead line = IsKeptInMemory (verb_of (first_word line)) (after_word line)
