use Rattle.std.proofs.Common.{◌≡◌, List, drop, sym, subst, ◌∙◌}
use Rattle.ps_delta.specs.Deltas.{Entries}
use Rattle.ps_face.specs.Legal.{history_of}
use Rattle.ps_kept_desk.specs.Records.{RecordView}
use Rattle.ps_kept_desk.proofs.RecordLemmas.{noted_some, stays_calm}
use Rattle.ps_kept_desk.proofs.record.Record.note.Goals as goal

pub invariant_of-self : goal.invariant_of-self
invariant_of-self g c =
    let v : RecordView = record {
      journal = c.self.inside.journal;
      kept = c.self.inside.kept;
      seen = c.self.inside.seen;
      noted = c.self.inside.noted;
    } in
    let h : List Entries = g.L.Named.opening in
    let deltas : List Entries = c.args.deltas.now in
    let rest : deltas ≡ drop v.noted (history_of h v.seen) =
    subst (λ (w : RecordView). deltas ≡ drop w.noted (history_of h w.seen)) (sym c.self.view_is) c.requires.rest in
    let j = c.note_deltas.new.journal in
    let count = c.note_deltas.new.noted in
    let told = c.note_deltas.ensures in (
      stays_calm _ h v c.self.invariant.1 c.note_deltas.result j deltas count told.noted told.part
          ∙ c.self.invariant.0,
      noted_some _ h v c.self.invariant.1 c.note_deltas.result j deltas count rest told.noted told.part,
    )
