use Rattle.std.proofs.Common.{◌≡◌, List, ap, length, sym, subst, ◌∙◌}
use Rattle.ps_delta.specs.Deltas.{Entries}
use Rattle.ps_face.specs.Legal.{history_of}
use Rattle.ps_face.specs.declared.patch.Note.{Note}
use Rattle.ps_kept_desk.specs.Records.{IsRecord, RecordView}
use Rattle.ps_kept_desk.proofs.RecordLemmas.{synced}
use Rattle.ps_kept_desk.proofs.record.Record.sync.Goals as goal

pub invariant_of-self : goal.invariant_of-self
invariant_of-self g c =
    let v : RecordView = record {
      journal = c.self.inside.journal;
      kept = c.self.inside.kept;
      seen = c.self.inside.seen;
      noted = c.self.inside.noted;
    } in
    let h : List Entries = g.L.Named.opening in
    let all : v.noted ≡ length (history_of h v.seen) =
    subst (λ (w : RecordView). w.noted ≡ length (history_of h w.seen)) (sym c.self.view_is) c.requires.all in
    let calm = ap (λ (w : RecordView). w.journal.has_failed) c.self.view_is ∙ c.requires.open in (
      c.in-Ok.ensures.failed ∙ sym calm ∙ c.self.invariant.0,
      subst
          (λ (l : List Note). IsRecord g.L.DeskName.replica h (record v { journal = c.sync.new.self; kept = l }))
          (sym c.again.ensures)
          (synced _ h v c.self.invariant.1 c.sync.new.self all c.in-Ok.ensures.acknowledged c.in-Ok.ensures.lines
          c.sync.ensures.journal),
    )
