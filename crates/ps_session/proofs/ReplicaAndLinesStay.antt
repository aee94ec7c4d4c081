-- No line changes the replica of a sheet or takes a delta out of its history, and none leaves a delta without a line.
use Rattle.std.proofs.Common.{◌≡◌, ◌∙◌, ◌++◌, inl, inr, refl, sym, ap, subst, ℕ, ◌≤◌, List, [], ◌∷◌, Result, Ok, Err}
use Rattle.std.proofs.Common.{append-nil, append_assoc}
use Rattle.std.specs.List.{All}
use Rattle.std.proofs.lemmas.List.Elements.{All-push}
use Rattle.ps_grid.specs.declared.parties.TheConstants.{REPLICAS}
use Rattle.ps_grid.specs.declared.refusal.Refusal.{Refusal}
use Rattle.ps_delta.specs.Deltas.{Entries, joined_history}
use Rattle.ps_wire.specs.Value.{IsLawful}
use Rattle.ps_sheet.specs.Edits.{delta_of_edit}
use Rattle.ps_sheet.specs.Sheet.{SheetView, Takes}
use Rattle.ps_lines.specs.declared.command.Command.{Command}
use Rattle.ps_lines.specs.declared.command.Command.TheVariants as commands
use Rattle.ps_session.specs.Answers.{Answers, Edited, IsMerged, Obeys}
use Rattle.ps_lines.specs.Commands.{Read}
use Rattle.ps_lines.specs.PullReplies.{HasLine}
use Rattle.ps_session.specs.Keeping.{IsLater}
use Rattle.ps_session.proofs.AskedInRange.{AsksInRange, is_edit, line_in_range}
use Rattle.ps_session.proofs.EditLineLemmas.{edit_lines_fit, edits_are_lawful}
use Rattle.ps_session.proofs.NewsLines.{news_line}

-- ---- the history that a line leaves

abbrev HaveLines : List Entries → Type 0
HaveLines history = All HasLine history

same_lines : (history next : List Entries) → next ≡ history → HaveLines history → HaveLines next
same_lines history next is have = subst HaveLines (sym is) have

one_more : (d : Entries) (history next : List Entries) → HasLine d → next ≡ history ++ d ∷ [] → HaveLines history
    → HaveLines next
one_more d history next line is have = subst HaveLines (sym is) (All-push HasLine history d have line)

taken_lines : (d : Entries) (history next : List Entries) → HasLine d → Takes d history next → HaveLines history
    → HaveLines next
taken_lines d history next line (inl below) have = same_lines history next below.1 have
taken_lines d history next line (inr fresh) have = one_more d history next line fresh.1 have

merged_lines : (d : Entries) (history next : List Entries) (text : List ℕ) → HasLine d
    → IsMerged d history text next → HaveLines history → HaveLines next
merged_lines d history next text line (inl new) have =
    one_more new.0 history next (news_line (joined_history history) d new.0 line new.1) new.2 have
merged_lines d history next text line (inr known) have = same_lines history next known.1 have

edited_lines : (made : Result Entries Refusal) (history next : List Entries) (text : List ℕ)
    → ((d : Entries) → made ≡ Ok d → HasLine d) → Edited made history text next → HaveLines history → HaveLines next
edited_lines (Ok d) history next text line edited have = one_more d history next (line d refl) edited.0 have
edited_lines (Err e) history next text line edited have = same_lines history next edited.0 have

lawful_history : (history : List Entries) → HaveLines history → All IsLawful history
lawful_history history have i d within = (have i d within).lawful

obeyed_lines : (r : ℕ) (history next : List Entries) (asked : Read Command) (text : List ℕ) → 1 ≤ r → r ≤ REPLICAS
    → AsksInRange asked → Obeys r history asked text next → HaveLines history → HaveLines next
obeyed_lines r history next (Ok (commands.Edit edit)) text low high asks obeys have =
    let good = is_edit edit asks in
    edited_lines (delta_of_edit r (joined_history history) edit) history next text
    (λ d is. let lawful = edits_are_lawful r history edit d low high (lawful_history history have) good.0 is in
    record { lawful = lawful; fits = edit_lines_fit r (joined_history history) edit d good.1 is lawful }) obeys have
obeyed_lines r history next (Ok (commands.Get c)) text low high asks obeys have =
    same_lines history next obeys.0 have
obeyed_lines r history next (Ok (commands.Rows c d)) text low high asks obeys have =
    same_lines history next obeys.0 have
obeyed_lines r history next (Ok (commands.Entry c)) text low high asks obeys have =
    same_lines history next obeys.0 have
obeyed_lines r history next (Ok (commands.Entries c d)) text low high asks obeys have =
    same_lines history next obeys.0 have
obeyed_lines r history next (Ok (commands.Pull from most)) text low high asks obeys have =
    same_lines history next obeys.0 have
obeyed_lines r history next (Ok (commands.Push d)) text low high asks obeys have =
    taken_lines d history next asks obeys.0 have
obeyed_lines r history next (Ok (commands.Merge d)) text low high asks obeys have =
    merged_lines d history next text asks obeys have
obeyed_lines r history next (Ok (commands.Wait seen)) text low high asks obeys have =
    same_lines history next obeys.0 have
obeyed_lines r history next (Ok (commands.Replica named)) text low high asks obeys have =
    same_lines history next obeys.0 have
obeyed_lines r history next (Err e) text low high asks obeys have = same_lines history next obeys.0 have

-- ---- the history grows at its end

-- more deltas after a history, or none
abbrev Grows : List Entries → List Entries → Type 0
Grows history next = (more : List Entries) × (next ≡ history ++ more)

same_grows : (history next : List Entries) → next ≡ history → Grows history next
same_grows history next is = ([], is ∙ sym (append-nil history))

edited_grows : (made : Result Entries Refusal) (history next : List Entries) (text : List ℕ)
    → Edited made history text next → Grows history next
edited_grows (Ok d) history next text edited = (d ∷ [], edited.0)
edited_grows (Err e) history next text edited = same_grows history next edited.0

taken_grows : (d : Entries) (history next : List Entries) → Takes d history next → Grows history next
taken_grows d history next (inl below) = same_grows history next below.1
taken_grows d history next (inr fresh) = (d ∷ [], fresh.1)

merged_grows : (d : Entries) (history next : List Entries) (text : List ℕ) → IsMerged d history text next
    → Grows history next
merged_grows d history next text (inl new) = (new.0 ∷ [], new.2)
merged_grows d history next text (inr known) = same_grows history next known.1

obeyed_grows : (r : ℕ) (history next : List Entries) (asked : Read Command) (text : List ℕ)
    → Obeys r history asked text next → Grows history next
obeyed_grows r history next (Ok (commands.Edit edit)) text obeys =
    edited_grows (delta_of_edit r (joined_history history) edit) history next text obeys
obeyed_grows r history next (Ok (commands.Get c)) text obeys = same_grows history next obeys.0
obeyed_grows r history next (Ok (commands.Rows c d)) text obeys = same_grows history next obeys.0
obeyed_grows r history next (Ok (commands.Entry c)) text obeys = same_grows history next obeys.0
obeyed_grows r history next (Ok (commands.Entries c d)) text obeys = same_grows history next obeys.0
obeyed_grows r history next (Ok (commands.Pull from most)) text obeys = same_grows history next obeys.0
obeyed_grows r history next (Ok (commands.Push d)) text obeys = taken_grows d history next obeys.0
obeyed_grows r history next (Ok (commands.Merge d)) text obeys = merged_grows d history next text obeys
obeyed_grows r history next (Ok (commands.Replica asked)) text obeys = same_grows history next obeys.0
obeyed_grows r history next (Ok (commands.Wait seen)) text obeys = same_grows history next obeys.0
obeyed_grows r history next (Err e) text obeys = same_grows history next obeys.0

-- ---- what stays

pub later_itself : (sheet : SheetView) → IsLater sheet sheet
later_itself sheet = record {
  replica = refl;
  more = [];
  history = sym (append-nil sheet.history);
  lines = λ low high have. have;
}

pub then_later : (old middle new : SheetView) → IsLater old middle → IsLater middle new → IsLater old new
then_later old middle new a b = record {
  replica = b.replica ∙ a.replica;
  more = a.more ++ b.more;
  history = b.history ∙ ap (λ h. h ++ b.more) a.history ∙ append_assoc old.history a.more b.more;
  lines = λ low high have.
      b.lines (subst (λ r. 1 ≤ r) (sym a.replica) low) (subst (λ r. r ≤ REPLICAS) (sym a.replica) high)
      (a.lines low high have);
}

pub answered_later : (old new : SheetView) (line text : List ℕ) → Answers old line text new → IsLater old new
answered_later old new line text (inl serves) =
    let grows = obeyed_grows old.replica old.history new.history serves.asked text serves.obeys in
    record {
      replica = serves.replica;
      more = grows.0;
      history = grows.1;
      lines = λ low high have. obeyed_lines old.replica old.history new.history serves.asked text low high
          (line_in_range line serves.asked serves.reads) serves.obeys have;
    }
answered_later old new line text (inr lacks) =
    let grows = same_grows old.history new.history lacks.history in
    record {
      replica = lacks.replica;
      more = grows.0;
      history = grows.1;
      lines = λ low high have. same_lines old.history new.history lacks.history have;
    }
