use Rattle.std.proofs.Common.{All, List, ap, sym, subst, ◌∙◌}
use mathlib.Core.List.{IsPrefix}
use Rattle.ps_delta.specs.Deltas.{Entries}
use Rattle.ps_face.specs.Legal.{history_of}
use Rattle.ps_face.specs.declared.patch.Note.{Note}
use Rattle.ps_kept_desk.specs.Records.{RecordView}
use Rattle.ps_kept_desk.proofs.RecordLemmas.{ends_kept, seen_later}
use Rattle.ps_kept_desk.proofs.record.Record.close.Goals as goal

pub invariant_of-self : goal.invariant_of-self
invariant_of-self g c =
    let v : RecordView = record {
      journal = c.self.inside.journal;
      kept = c.self.inside.kept;
      seen = c.self.inside.seen;
      noted = c.self.inside.noted;
    } in (
      c.self.invariant.0,
      seen_later _ g.L.Named.opening v c.self.invariant.1 c.close_at-sheet.new.position c.close_at-sheet.ensures.later,
    )

pub returns-clause-reported : goal.returns-clause-reported
returns-clause-reported g c =
    let v : RecordView = record {
      journal = c.self-2.inside.journal;
      kept = c.self-2.inside.kept;
      seen = c.self-2.inside.seen;
      noted = c.self-2.inside.noted;
    } in
    let h : List Entries = g.L.Named.opening in
    let reported : List (List Note) = c.args.reported.now in
    let whole = c.close_at-sheet.ensures.end
    ∙ ap (history_of h) (sym c.finish-synced.ensures.seen ∙ sym (ap (λ (w : RecordView). w.seen) c.self-2.view_is)) in
    ends_kept _ h v c.self-2.invariant.1 c.close_at-sheet.result.history reported whole
    (subst (λ (w : RecordView). All (λ list. IsPrefix list w.kept) reported) (sym c.self-2.view_is) c.audit.ensures)
