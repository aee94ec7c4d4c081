use Rattle.std.proofs.Common.{All, List, subst}
use Rattle.std.proofs.lemmas.List.{take_all}
use Rattle.std.proofs.lemmas.List.Elements.{All-push}
use mathlib.Core.List.{IsPrefix}
use Rattle.ps_face.specs.declared.patch.Note.{Note}
use Rattle.ps_kept_desk.specs.Records.{RecordView}
use Rattle.ps_kept_desk.proofs.RecordLemmas.{one_more}
use Rattle.ps_kept_desk.proofs.record.Record.audit.Goals as goal

pub loop-kept-preserved : goal.loop-kept-preserved
loop-kept-preserved g c =
    let kept : List Note = c.args.self.now.kept in
    subst (λ (lists : List (List Note)). All (λ list. IsPrefix list kept) lists)
    (one_more c.args.reported.now c.loop-kept.kept-index c.kept-item.result c.loop-kept-test.true c.kept-item.is)
    (All-push (λ list. IsPrefix list kept) _ c.kept-item.result c.loop-kept.invariant
    (subst (λ (w : RecordView). IsPrefix c.kept-item.result w.kept) c.self.view_is c.if-not-begins.ensures.0))

pub returns : goal.returns
returns g c =
    let kept : List Note = c.args.self.now.kept in
    subst (λ (lists : List (List Note)). All (λ list. IsPrefix list kept) lists)
    (take_all c.loop-kept.kept-index c.args.reported.now c.loop-kept-test.false) c.loop-kept.invariant
