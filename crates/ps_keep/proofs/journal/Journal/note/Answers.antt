use Rattle.std.proofs.Common.{List, ℕ, ◌++◌, sym, ◌∙◌, ap, subst}
use Rattle.ps_keep.specs.Journals.{Holds}
use Rattle.ps_keep.specs.Lines.{whole_lines}
use Rattle.ps_keep.proofs.JournalLemmas.{holds_journal, note_holds, noted_last, noted_view}
use Rattle.ps_keep.proofs.journal.Journal.note.Goals as goal

pub returns-in_err-append_line-clause-journal : goal.returns-in_err-append_line-clause-journal
returns-in_err-append_line-clause-journal g c =
    let written = g.D.Device.written in
    holds_journal _ _ _ _ _ _ _
    (subst (λ (w : List ℕ). Holds (written c.self.inside.durable.value) w (written c.self.inside.device)
    (g.D.Device.synced c.self.inside.device) c.self.inside.is_stopped (g.D.Device.is_cut c.self.inside.device)
    (g.D.Device.cut_failed c.self.inside.device))
    (sym {A = List ℕ} c.in_err-append_line.ensures.same) c.self.invariant.0)

-- one line more waits
pub invariant_of-self-2 : goal.invariant_of-self-2
invariant_of-self-2 g c = (
  rw c.in_ok-append_line.ensures.added (note_holds _ _ _ _ _ _ _ c.self.invariant.0 c.args.line.now
      c.requires),
  c.self.invariant.1,
)

pub returns-clause-journal : goal.returns-clause-journal
returns-clause-journal g c = holds_journal _ _ _ _ _ _ _ (invariant_of-self-2 g c).0

pub returns-clause-noted : goal.returns-clause-noted
returns-clause-noted g c =
    let h = c.self.invariant.0 in
    let durable = g.D.Device.written c.self.inside.durable.value in
    noted_view _ _ (whole_lines (durable ++ c.append_line.new.bytes.items)) c.args.line.now c.self.view_is
    (ap (λ (w : List ℕ). whole_lines (durable ++ w)) c.in_ok-append_line.ensures.added
    ∙ noted_last durable c.self.inside.waiting.items c.args.line.now h.whole h.waits c.requires)
