-- What a line asks for is in range, and the delta of an edit that it asks for lies in the grid.
use Rattle.std.proofs.Common.{◌≡◌, ◌<◌, ◌≤◌, ◌∙◌, refl, sym, ap, subst, arith, ℕ, List, [], ◌∷◌}
use Rattle.std.proofs.Common.{Bool, true, false, Option, Some, None, MatchOption, Result, Ok, Err, drop}
use Rattle.std.specs.Prelude.{if◌then◌else◌}
use Rattle.std.specs.List.{All}
use Rattle.std.proofs.lemmas.List.Elements.{All-cons}
use Rattle.ps_grid.specs.declared.refusal.Refusal.{Refusal}
use Rattle.ps_grid.specs.declared.refusal.Refusal.TheVariants as refusals
use Rattle.ps_grid.specs.declared.size.TheConstants.{CELLS, COLUMNS}
use Rattle.ps_content.specs.Content.{IsContent}
use Rattle.ps_delta.specs.declared.cell_state.CellState.{CellState}
use Rattle.ps_delta.specs.State.{State}
use Rattle.ps_delta.specs.Deltas.{Entries}
use Rattle.ps_wire.proofs.ShorterLemmas.{decoded_fit}
use Rattle.ps_delta.specs.declared.edit.Edit.{Edit}
use Rattle.ps_delta.specs.declared.edit.Edit.TheVariants as edits
use Rattle.ps_sheet.specs.Edits.{assigned, delta_of_edit}
use Rattle.ps_lines.specs.Commands.{AsksOfCell, AsksOfRectangle, AtNumber, Read, ReadsChange, ReadsLine, ReadsPair}
use Rattle.ps_lines.specs.Commands.{ReadsPull, ReadsReplica, ReadsSet, ReadsTakingIn, ReadsVerb, ReadsWait}
use Rattle.ps_lines.specs.Commands.{group_size, read_unnumbered, replica_number, verb_of}
use Rattle.ps_lines.specs.DigestLine.{is_digest}
use Rattle.ps_lines.specs.PullReplies.{HasLine}
use Rattle.ps_session.specs.EditLines.{IsEdit, named_count}
use Rattle.ps_lines.specs.Words.{after_word, first_word, words, whole_number}
use Rattle.ps_lines.specs.declared.command.Command.{Command}
use Rattle.ps_lines.specs.declared.command.Command.TheVariants as commands
use Rattle.ps_lines.specs.declared.verb.Verb.{Verb}
use Rattle.ps_lines.specs.declared.verb.Verb.TheVariants.{Add, Choose, Entries as AllEntries, Entry, Get, Merge}
use Rattle.ps_lines.specs.declared.verb.Verb.TheVariants.{Pull, Push, Replica, Rows, Set, Sub, Unchoose, Wait}
use Rattle.ps_session.proofs.EditLineLemmas.{add_passes, batch_passes, choose_passes, sub_passes, unchoose_passes}
use Rattle.ps_session.proofs.EntryLemmas.{content_read}

-- a line asks for an edit of one cell of the grid, with a valid content
abbrev pub EditsCell : Edit → Type 0
EditsCell (edits.Set c content) = (c < CELLS) × IsContent content
EditsCell (edits.SetAll cells) = ⊥
EditsCell (edits.Add c amount) = c < CELLS
EditsCell (edits.Sub c amount) = c < CELLS
EditsCell (edits.Choose c option) = c < CELLS
EditsCell (edits.Unchoose c option) = c < CELLS

pub is_edit : (edit : Edit) → EditsCell edit → IsEdit edit × (named_count edit ≤ COLUMNS)
is_edit (edits.Set c content) is = (is, omega arith)
is_edit (edits.SetAll cells) is = absurd is
is_edit (edits.Add c amount) is = (is, omega arith)
is_edit (edits.Sub c amount) is = (is, omega arith)
is_edit (edits.Choose c option) is = (is, omega arith)
is_edit (edits.Unchoose c option) is = (is, omega arith)

abbrev pub AsksInRange : Read Command → Type 0
AsksInRange (Ok (commands.Edit edit)) = EditsCell edit
AsksInRange (Ok (commands.Get c)) = Unit {0}
AsksInRange (Ok (commands.Rows c d)) = Unit {0}
AsksInRange (Ok (commands.Entry c)) = Unit {0}
AsksInRange (Ok (commands.Entries c d)) = Unit {0}
AsksInRange (Ok (commands.Pull from most)) = Unit {0}
AsksInRange (Ok (commands.Push d)) = HasLine d
AsksInRange (Ok (commands.Merge d)) = HasLine d
AsksInRange (Ok (commands.Replica named)) = Unit {0}
AsksInRange (Ok (commands.Wait seen)) = Unit {0}
AsksInRange (Err refusal) = Unit {0}

number_in_grid : (c : ℕ) (refusal : Refusal) (found : Option ℕ) (p : ℕ × ℕ) (read : Read (ℕ × ℕ)) → read ≡ Ok p
    → MatchOption found (read ≡ Err refusal) (λ n. read ≡ Ok (c, n)) → c < CELLS → p.0 < CELLS
number_in_grid c refusal None p read is other inside = absurd (let no : Err refusal ≡ Ok p = sym other ∙ is in cc)
number_in_grid c refusal (Some n) p read is other inside =
    let whole : Ok (c, n) ≡ Ok p = sym other ∙ is in
    let same : (c, n) ≡ p = cc in
    subst (λ (q : ℕ × ℕ). q.0 < CELLS) same inside

pair_in_grid : (refusal : Refusal) (others : List (List ℕ)) (p : ℕ × ℕ) → ReadsPair refusal others (Ok p)
    → p.0 < CELLS
pair_in_grid refusal [] p reads = absurd cc
pair_in_grid refusal (cell ∷ []) p reads = absurd cc
pair_in_grid refusal (cell ∷ number ∷ more ∷ others) p reads = absurd cc
pair_in_grid refusal (cell ∷ number ∷ []) p (None, names, is) = absurd cc
pair_in_grid refusal (cell ∷ number ∷ []) p (Some c, names, is) =
    number_in_grid c refusal (whole_number number) p (Ok p) refl is ((names c).0 refl).0

change_in_range : (change : ℕ → ℕ → Edit) (refusal : Refusal) (others : List (List ℕ)) (read : Read Command)
    → ((c n : ℕ) → c < CELLS → EditsCell (change c n)) → ReadsChange change refusal others read → AsksInRange read
change_in_range change refusal others read one (Ok p, pair, is) =
    subst AsksInRange (sym is) (one p.0 p.1 (pair_in_grid refusal others p pair))
change_in_range change refusal others read one (Err e, pair, is) = subst AsksInRange (sym is) tt

set_in_range : (others : List (List ℕ)) (entry : List ℕ) (read : Read Command) → ReadsSet others entry read
    → AsksInRange read
set_in_range [] entry read is = subst AsksInRange (sym is) tt
set_in_range (cell ∷ others) entry read (None, names, is) = subst AsksInRange (sym is) tt
set_in_range (cell ∷ others) entry read (Some c, names, (Ok content, reads, is)) =
    subst AsksInRange (sym is) (((names c).0 refl).0, content_read entry content reads)
set_in_range (cell ∷ others) entry read (Some c, names, (Err e, reads, is)) = subst AsksInRange (sym is) tt

cell_in_range : (question : ℕ → Command) (others : List (List ℕ)) (read : Read Command)
    → ((c : ℕ) → AsksInRange (Ok (question c))) → AsksOfCell question others read → AsksInRange read
cell_in_range question others read each (Ok c, reads, is) = subst AsksInRange (sym is) (each c)
cell_in_range question others read each (Err e, reads, is) = subst AsksInRange (sym is) tt

rectangle_in_range : (question : ℕ → ℕ → Command) (others : List (List ℕ)) (read : Read Command)
    → ((c d : ℕ) → AsksInRange (Ok (question c d))) → AsksOfRectangle question others read → AsksInRange read
rectangle_in_range question others read each (Ok p, reads, is) = subst AsksInRange (sym is) (each p.0 p.1)
rectangle_in_range question others read each (Err e, reads, is) = subst AsksInRange (sym is) tt

group_in_range : (n : ℕ) (most : Option ℕ) (read : Read Command)
    → AtNumber most read (λ m. read ≡ Ok (commands.Pull n (Some m))) → AsksInRange read
group_in_range n None read is = subst AsksInRange (sym is) tt
group_in_range n (Some m) read is = subst AsksInRange (sym is) tt

version_in_range : (from : Option ℕ) (read : Read Command) (P : ℕ → Type 0) → AtNumber from read P
    → ((n : ℕ) → P n → AsksInRange read) → AsksInRange read
version_in_range None read P is each = subst AsksInRange (sym is) tt
version_in_range (Some n) read P reads each = each n reads

pull_in_range : (others : List (List ℕ)) (read : Read Command) → ReadsPull others read → AsksInRange read
pull_in_range [] read is = subst AsksInRange (sym is) tt
pull_in_range (from ∷ []) read reads =
    version_in_range (whole_number from) read _ reads (λ n is. subst AsksInRange (sym is) tt)
pull_in_range (from ∷ most ∷ []) read reads =
    version_in_range (whole_number from) read _ reads (λ n. group_in_range n (group_size (whole_number most)) read)
pull_in_range (from ∷ most ∷ third ∷ more) read is = subst AsksInRange (sym is) tt

taking_in_range : (asked : Entries → Command) (others : List (List ℕ)) (line : List ℕ) (read : Read Command)
    → ((d : Entries) → HasLine d → AsksInRange (Ok (asked d))) → ReadsTakingIn asked others line read
    → AsksInRange read
taking_in_range asked [] line read each is = subst AsksInRange (sym is) tt
taking_in_range asked (word ∷ others) line read each (Ok d, reads, is) =
    subst AsksInRange (sym is)
    (each d (record { lawful = reads.line.lawful; fits = (decoded_fit line d reads.line).1 }))
taking_in_range asked (word ∷ others) line read each (Err e, reads, is) = subst AsksInRange (sym is) tt

replica_in_range : (others : List (List ℕ)) (read : Read Command) → ReadsReplica others read → AsksInRange read
replica_in_range [] read is = subst AsksInRange (sym is) tt
replica_in_range (word ∷ []) read reads = at (replica_number (whole_number word)) reads
  where
    unnumbered : (digest : Bool) → read ≡ (if digest then Ok (commands.Replica None) else Err refusals.Replica)
        → AsksInRange read
    unnumbered true is = subst AsksInRange (sym is) tt
    unnumbered false is = subst AsksInRange (sym is) tt

    at : (n : Option ℕ) → MatchOption n (read ≡ read_unnumbered word) (λ n. read ≡ Ok (commands.Replica (Some n)))
        → AsksInRange read
    at None is = unnumbered (is_digest word) is
    at (Some n) is = subst AsksInRange (sym is) tt
replica_in_range (word ∷ second ∷ more) read is = subst AsksInRange (sym is) tt

wait_in_range : (others : List (List ℕ)) (read : Read Command) → ReadsWait others read → AsksInRange read
wait_in_range [] read is = subst AsksInRange (sym is) tt
wait_in_range (seen ∷ []) read reads =
    version_in_range (whole_number seen) read _ reads (λ n is. subst AsksInRange (sym is) tt)
wait_in_range (seen ∷ second ∷ more) read is = subst AsksInRange (sym is) tt

verb_in_range : (verb : Option Verb) (others : List (List ℕ)) (rest : List ℕ) (read : Read Command)
    → ReadsVerb verb others rest read → AsksInRange read
verb_in_range None others rest read is = subst AsksInRange (sym is) tt
verb_in_range (Some Get) others rest read reads = cell_in_range (λ c. commands.Get c) others read (λ c. tt) reads
verb_in_range (Some Set) others rest read reads = set_in_range others (after_word rest) read reads
verb_in_range (Some Add) others rest read reads =
    change_in_range (λ c n. edits.Add c n) refusals.Amount others read (λ c n lt. lt) reads
verb_in_range (Some Sub) others rest read reads =
    change_in_range (λ c n. edits.Sub c n) refusals.Amount others read (λ c n lt. lt) reads
verb_in_range (Some Choose) others rest read reads =
    change_in_range (λ c n. edits.Choose c n) refusals.OptionRange others read (λ c n lt. lt) reads
verb_in_range (Some Unchoose) others rest read reads =
    change_in_range (λ c n. edits.Unchoose c n) refusals.OptionRange others read (λ c n lt. lt) reads
verb_in_range (Some Rows) others rest read reads =
    rectangle_in_range (λ c d. commands.Rows c d) others read (λ c d. tt) reads
verb_in_range (Some Entry) others rest read reads =
    cell_in_range (λ c. commands.Entry c) others read (λ c. tt) reads
verb_in_range (Some AllEntries) others rest read reads =
    rectangle_in_range (λ c d. commands.Entries c d) others read (λ c d. tt) reads
verb_in_range (Some Push) others rest read reads =
    taking_in_range (λ d. commands.Push d) others rest read (λ d line. line) reads
verb_in_range (Some Merge) others rest read reads =
    taking_in_range (λ d. commands.Merge d) others rest read (λ d line. line) reads
verb_in_range (Some Pull) others rest read reads = pull_in_range others read reads
verb_in_range (Some Replica) others rest read reads = replica_in_range others read reads
verb_in_range (Some Wait) others rest read reads = wait_in_range others read reads

pub line_in_range : (line : List ℕ) (read : Read Command) → ReadsLine line read → AsksInRange read
line_in_range line read reads =
    verb_in_range (verb_of (first_word line)) (drop 1 (words line)) (after_word line) read reads

-- the delta of such an edit names that cell alone
one_in_grid : (c : ℕ) (x : CellState) (d : Entries) → c < CELLS
    → let made : Result Entries Refusal = Ok ((c, x) ∷ []) in made ≡ Ok d → All (λ e. e.0 < CELLS) d
one_in_grid c x d inside is =
    let same : (c, x) ∷ [] ≡ d = cc in
    subst (λ (k : Entries). All (λ e. e.0 < CELLS) k) same
    (All-cons (λ e. e.0 < CELLS) (c, x) [] inside (λ k e lt. absurd (omega (arith, lt))))

pub made_in_grid : (r : ℕ) (s : State) (edit : Edit) (d : Entries) → EditsCell edit → delta_of_edit r s edit ≡ Ok d
    → All (λ e. e.0 < CELLS) d
made_in_grid r s (edits.Set c content) d inside is =
    one_in_grid c (assigned r (s c) content) d inside.0 (ap Ok (batch_passes r s ((c, content) ∷ []) d is).1)
made_in_grid r s (edits.SetAll cells) d inside is = absurd inside
made_in_grid r s (edits.Add c n) d inside is = one_in_grid c _ d inside (add_passes r s c n d is).made
made_in_grid r s (edits.Sub c n) d inside is = one_in_grid c _ d inside (sub_passes r s c n d is).made
made_in_grid r s (edits.Choose c n) d inside is = one_in_grid c _ d inside (choose_passes r s c n d is).made
made_in_grid r s (edits.Unchoose c n) d inside is = one_in_grid c _ d inside (unchoose_passes r s c n d is).made
