-- The text of a reply: one line of words, and in two cases the lines of a table after it.
use Rattle.std.specs.Prelude.{ℕ, List, [], ◌∷◌, ◌++◌, codes, decimal}
use Rattle.ps_grid.specs.Refusals.{number_of, name_of}
use Rattle.ps_grid.specs.declared.refusal.Refusal.{Refusal}
use Rattle.ps_lines.specs.declared.reply.Reply.{Reply}
use Rattle.ps_lines.specs.declared.reply.Reply.TheVariants.{Delta, Done, DoneElsewhere, End, Entries, Entry, Refused}
use Rattle.ps_lines.specs.declared.reply.Reply.TheVariants.{Replica, Rows, Same, Shown, Version}
use Rattle.ps_value.specs.declared.value.Value.{Value}
use Rattle.ps_value.specs.Shown.{shown_text}

abbrev pub done_text : ℕ → List ℕ
done_text version = codes "ok " ++ decimal version ++ 10 ∷ []

-- a merged delta had nothing new
abbrev pub same_text : ℕ → List ℕ
same_text version = codes "same " ++ decimal version ++ 10 ∷ []

abbrev pub value_text : Value → List ℕ
value_text value = codes "val " ++ (shown_text value ++ 10 ∷ [])

-- the number of a table's lines, and the lines
abbrev pub rows_text : ℕ → List ℕ → List ℕ
rows_text count table = codes "rows " ++ decimal count ++ 10 ∷ table

-- the entry of a cell
abbrev pub entry_reply : List ℕ → List ℕ
entry_reply entry = codes "entry " ++ (entry ++ 10 ∷ [])

-- the number of lines of a table of entries, and the lines
abbrev pub entries_reply : ℕ → List ℕ → List ℕ
entries_reply count table = codes "entries " ++ decimal count ++ 10 ∷ table

-- the version after a delta, and its line
abbrev pub group_text : ℕ → List ℕ → List ℕ
group_text last line = codes "delta " ++ decimal last ++ (codes " " ++ line) ++ 10 ∷ []

abbrev pub end_text : ℕ → List ℕ
end_text version = codes "end " ++ decimal version ++ 10 ∷ []

-- the number of the own replica
abbrev pub replica_text : ℕ → List ℕ
replica_text number = codes "replica " ++ decimal number ++ 10 ∷ []

-- how many changes the history has
abbrev pub version_text : ℕ → List ℕ
version_text number = codes "version " ++ decimal number ++ 10 ∷ []

abbrev pub refusal_text : Refusal → List ℕ
refusal_text refusal = codes "err " ++ decimal (number_of refusal) ++ (codes " " ++ name_of refusal) ++ 10 ∷ []

abbrev pub reply_text : Reply → List ℕ
reply_text (Done version) = done_text version
reply_text (DoneElsewhere version) = done_text version
reply_text (Same version) = same_text version
reply_text (Shown value) = value_text value
reply_text (Rows count table) = rows_text count table.items
reply_text (Entry entry) = entry_reply entry.items
reply_text (Entries count table) = entries_reply count table.items
reply_text (Delta last line) = group_text last line.items
reply_text (End version) = end_text version
reply_text (Replica number) = replica_text number
reply_text (Version number) = version_text number
reply_text (Refused refusal) = refusal_text refusal
