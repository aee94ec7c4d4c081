-- What a sheet answers as a board is what it answers to a line.
use Rattle.std.proofs.Common.{◌≡◌, ◌≢◌, ◌⊎◌, ◌<◌, ◌≤◌, ◌++◌, ◌∷◌, [], ◌∙◌, inl, inr, refl, ap, subst, arith}
use Rattle.std.proofs.Common.{ℕ, List, length, max, Result, Ok, Err}
use Rattle.std.specs.Prelude.{◌↔◌, IfErr, IfOk, IsOkAnd, drop, take, unwrap_or}
use Rattle.std.proofs.lemmas.Bool.{cases_lt}
use Rattle.ps_grid.specs.Rectangle.{spanned}
use Rattle.ps_grid.specs.declared.refusal.Refusal.{Refusal}
use Rattle.ps_grid.specs.declared.refusal.Refusal.TheVariants as refusals
use Rattle.ps_delta.specs.Deltas.{Entries, joined_history}
use Rattle.ps_sheet.specs.Edits.{delta_of_edit}
use Rattle.ps_sheet.specs.Sheet.{SheetView}
use Rattle.ps_session.specs.Boards.{BoardAnswers, Obeyed}
use Rattle.ps_lines.specs.Commands.{Read, ReadsLine, with_part}
use Rattle.ps_session.specs.Answers.{Answers, Edited, Obeys, TakesMemory}
use Rattle.ps_lines.specs.Replies.{done_text, entries_reply, entry_reply, refusal_text, replica_text, rows_text}
use Rattle.ps_lines.specs.Replies.{same_text, value_text, version_text}
use Rattle.ps_session.specs.SheetBoard.{SheetCalls, SheetPulls}
use Rattle.ps_lines.specs.declared.command.Command.{Command}
use Rattle.ps_session.specs.declared.board.Merged.TheVariants.{Known, New}
use Rattle.ps_lines.specs.declared.command.Command.TheVariants as commands
use Rattle.ps_lines.proofs.PulledDeltas.{pull_reply}

-- a refusal is out of memory, or it isn't
pub memory_or_other : (refusal : Refusal) → (refusal ≡ refusals.Memory) ⊎ (refusal ≢ refusals.Memory)
memory_or_other refusals.Memory = inl refl
memory_or_other _ = inr (λ is. cc)

-- deltas of the history before its end
pub sheet_pulls : {V : Type 0} (deltas : V → List Entries) (xs : List Entries) (old : SheetView) (from most : ℕ)
    (r : Result V Refusal) → xs ≡ old.history → IfOk r (λ v. deltas v ≡ take most (drop from xs))
    → (r ≡ Err refusals.Version) ↔ (length xs < from) → (r ≡ Err refusals.Memory → from < length xs)
    → IfErr r (λ e. (e ≡ refusals.Version) ⊎ (e ≡ refusals.Memory))
    → SheetPulls old from most (with_part deltas r) old
sheet_pulls {V = V} deltas xs old from most (Ok v) history is above memory refused =
    let within : from ≤ length xs = elim (cases_lt (length xs) from) [
      | inl lt ↦ let no : ◌≡◌ {A = Result V Refusal} (Ok v) (Err refusals.Version) = above.1 lt in absurd cc
      | inr le ↦ le
    ] in (subst (λ n. from ≤ n) (ap length history) within, is ∙ ap (λ h. take most (drop from h)) history, refl)
sheet_pulls deltas xs old from most (Err e) history is above memory (inl version) =
    (inl (version, subst (λ n. n < from) (ap length history) (above.0 (ap Err version))), refl)
sheet_pulls deltas xs old from most (Err e) history is above memory (inr lacks) =
    (inr (lacks, subst (λ n. from < n) (ap length history) (memory (ap Err lacks))), refl)

edited_of : (made : Result Entries Refusal) (history next : List Entries) (number : ℕ) (text : List ℕ)
    → IsOkAnd made (λ d. next ≡ history ++ d ∷ []) → number ≡ length next → text ≡ done_text number
    → Edited made history text next
edited_of (Ok d) history next number text made counts told = (made, told ∙ ap done_text counts)
edited_of (Err e) history next number text made counts told = absurd made

refused_of : (made : Result Entries Refusal) (history next : List Entries) (refusal : Refusal) (text : List ℕ)
    → made ≡ Err refusal → next ≡ history → text ≡ refusal_text refusal → Edited made history text next
refused_of (Ok d) history next refusal text made stays told = absurd cc
refused_of (Err e) history next refusal text made stays told =
    let same : refusal ≡ e = cc in
    (stays, told ∙ ap refusal_text same)

module _ (old new : SheetView) (line text : List ℕ) where
  serves : (command : Command) → ReadsLine line (Ok command)
      → Obeys old.replica old.history (Ok command) text new.history → new.replica ≡ old.replica
      → Answers old line text new
  serves command reads obeys replica = inl (record {
    asked = Ok command;
    reads = reads;
    ample = λ is. cc;
    obeys = obeys;
    replica = replica;
  })

  lacks : (asked : Read Command) → ReadsLine line asked → TakesMemory old.replica old.history asked
      → text ≡ refusal_text refusals.Memory → new ≡ old → Answers old line text new
  lacks asked reads takes told same = inr (record {
    asked = asked;
    reads = reads;
    takes = takes;
    told = told;
    history = ap (λ (x : SheetView). x.history) same;
    replica = ap (λ (x : SheetView). x.replica) same;
  })

  stays : new ≡ old → new.history ≡ old.history
  stays same = ap (λ (x : SheetView). x.history) same

  replica_stays : new ≡ old → new.replica ≡ old.replica
  replica_stays same = ap (λ (x : SheetView). x.replica) same

  obeyed : (asked : Read Command) → ReadsLine line asked → Obeyed SheetCalls old asked text new
      → Answers old line text new
  obeyed (Ok (commands.Edit edit)) reads (Ok number, made, told) =
      serves (commands.Edit edit) reads
      (edited_of (delta_of_edit old.replica (joined_history old.history) edit) old.history new.history number text
      made.0 made.1.number told) made.1.replica
  obeyed (Ok (commands.Edit edit)) reads (Err refusal, (inl refused, same), told) =
      serves (commands.Edit edit) reads
      (refused_of (delta_of_edit old.replica (joined_history old.history) edit) old.history new.history refusal text
      refused (stays same) told) (replica_stays same)
  obeyed (Ok (commands.Edit edit)) reads (Err refusal, (inr memory, same), told) =
      lacks (Ok (commands.Edit edit)) reads memory.1 (told ∙ ap refusal_text memory.0) same
  obeyed (Ok (commands.Get cell)) reads (Ok value, look, told) =
      serves (commands.Get cell) reads
      (stays look.1, look.0.0, look.0.1, told ∙ ap value_text look.0.2) (replica_stays look.1)
  obeyed (Ok (commands.Get cell)) reads (Err refusal, none, told) = absurd none
  obeyed (Ok (commands.Rows first last)) reads (Ok table, look, told) =
      serves (commands.Rows first last) reads
      (stays look.1, look.0.0, look.0.1, told ∙ ap (rows_text ((spanned first last).height)) look.0.2)
      (replica_stays look.1)
  obeyed (Ok (commands.Rows first last)) reads (Err refusal, memory, told) =
      lacks (Ok (commands.Rows first last)) reads tt (told ∙ ap refusal_text memory.0) memory.1
  obeyed (Ok (commands.Entry cell)) reads (Ok entry, held, told) =
      serves (commands.Entry cell) reads (stays held.1, told ∙ ap entry_reply held.0) (replica_stays held.1)
  obeyed (Ok (commands.Entry cell)) reads (Err refusal, memory, told) =
      lacks (Ok (commands.Entry cell)) reads tt (told ∙ ap refusal_text memory.0) memory.1
  obeyed (Ok (commands.Entries first last)) reads (Ok table, held, told) =
      serves (commands.Entries first last) reads
      (stays held.1, told ∙ ap (entries_reply ((spanned first last).height)) held.0) (replica_stays held.1)
  obeyed (Ok (commands.Entries first last)) reads (Err refusal, memory, told) =
      lacks (Ok (commands.Entries first last)) reads tt (told ∙ ap refusal_text memory.0) memory.1
  obeyed (Ok (commands.Pull from most)) reads (Ok deltas, pulled, told) =
      elim (pull_reply old.history from (unwrap_or most 1) (max (unwrap_or most 1) 1) deltas text pulled.1 pulled.0
      (omega arith) (omega arith) told) [
        | inl returned ↦ serves (commands.Pull from most) reads (stays pulled.2, returned) (replica_stays pulled.2)
        | inr memory ↦ lacks (Ok (commands.Pull from most)) reads memory.0 memory.1 pulled.2
      ]
  obeyed (Ok (commands.Pull from most)) reads (Err refusal, (inl beyond, same), told) =
      serves (commands.Pull from most) reads (
        stays same,
        record {
          beyond = λ lt. told ∙ ap refusal_text beyond.0;
          at_end = λ at. absurd (omega (arith, at, beyond.1));
          before_end = λ lt. absurd (omega (arith, lt, beyond.1));
        },
      ) (replica_stays same)
  obeyed (Ok (commands.Pull from most)) reads (Err refusal, (inr memory, same), told) =
      lacks (Ok (commands.Pull from most)) reads memory.1 (told ∙ ap refusal_text memory.0) same
  obeyed (Ok (commands.Push delta)) reads (Ok number, taken, told) =
      serves (commands.Push delta) reads (taken.0, told ∙ ap done_text taken.1.number) taken.1.replica
  obeyed (Ok (commands.Push delta)) reads (Err refusal, memory, told) =
      lacks (Ok (commands.Push delta)) reads tt (told ∙ ap refusal_text memory.0) memory.1
  obeyed (Ok (commands.Merge delta)) reads (Ok (New number), merged, told) =
      serves (commands.Merge delta) reads
      (inl (merged.0.0, merged.0.1, merged.0.2, told ∙ ap done_text merged.1.number)) merged.1.replica
  obeyed (Ok (commands.Merge delta)) reads (Ok (Known number), merged, told) =
      serves (commands.Merge delta) reads
      (inr (merged.0.0, merged.0.1, told ∙ ap same_text merged.1.number)) merged.1.replica
  obeyed (Ok (commands.Merge delta)) reads (Err refusal, memory, told) =
      lacks (Ok (commands.Merge delta)) reads tt (told ∙ ap refusal_text memory.0) memory.1
  obeyed (Ok (commands.Replica named)) reads (number, told, is) =
      serves (commands.Replica named) reads (stays told.1, is ∙ ap replica_text told.0) (replica_stays told.1)
  obeyed (Ok (commands.Wait seen)) reads (number, told, is) =
      serves (commands.Wait seen) reads (stays told.1, is ∙ ap version_text told.0) (replica_stays told.1)
  obeyed (Err refusal) reads refused = elim (memory_or_other refusal) [
    | inl is ↦ lacks (Err refusal) reads is (refused.1 ∙ ap refusal_text is) refused.0
    | inr other ↦ inl (record {
      asked = Err refusal;
      reads = reads;
      ample = λ is. other cc;
      obeys = (stays refused.0, refused.1);
      replica = replica_stays refused.0;
    })
  ]

pub sheet_answers : (old new : SheetView) (line text : List ℕ) → BoardAnswers SheetCalls old line text new
    → Answers old line text new
sheet_answers old new line text a = obeyed old new line text a.asked a.reads a.obeyed
