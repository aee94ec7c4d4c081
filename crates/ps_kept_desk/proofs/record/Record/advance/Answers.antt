use Rattle.std.proofs.Common.{subst}
use mathlib.Core.List.{IsPrefix}
use Rattle.ps_face.proofs.Beginnings.{begins_trans}
use Rattle.ps_kept_desk.specs.Records.{RecordView}
use Rattle.ps_kept_desk.proofs.RecordLemmas.{kept_later, seen_later}
use Rattle.ps_kept_desk.proofs.record.Record.advance.Goals as goal

pub invariant_of-self : goal.invariant_of-self
invariant_of-self g c =
    let v : RecordView = record {
      journal = c.self.inside.journal;
      kept = c.self.inside.kept;
      seen = c.self.inside.seen;
      noted = c.self.inside.noted;
    } in
    (c.self.invariant.0, seen_later _ g.L.Named.opening v c.self.invariant.1 c.later.new.position c.later.ensures.later)

pub invariant_of-self-in-Err : goal.invariant_of-self-in-Err
invariant_of-self-in-Err g c =
    let v : RecordView = record {
      journal = c.self.inside.journal;
      kept = c.self.inside.kept;
      seen = c.self.inside.seen;
      noted = c.self.inside.noted;
    } in
    (c.self.invariant.0, seen_later _ g.L.Named.opening v c.self.invariant.1 c.later.new.position c.later.ensures.later)

pub returns-in-Ok-clause-later : goal.returns-in-Ok-clause-later
returns-in-Ok-clause-later g c =
    let v : RecordView = record {
      journal = c.self.inside.journal;
      kept = c.self.inside.kept;
      seen = c.self.inside.seen;
      noted = c.self.inside.noted;
    } in
    subst (λ (w : RecordView). IsPrefix w.kept c.add.new.self.kept) c.self.view_is
    (kept_later c.add.result v.kept c.later.new.position c.add.new.self.kept
    (begins_trans v.kept v.seen c.later.new.position c.self.invariant.1.later c.later.ensures.later) c.add.ensures.all
    c.add.ensures.not_yet)
