use Rattle.std.proofs.Common.{Some, ap, inl, refl, rules, subst, sym, ◌∙◌}
use Rattle.std.specs.Prelude.{MatchOption, nat_eq}
use Rattle.std.specs.List.{starts_with}
use Rattle.ps_lines.specs.KeptLines.{LineSays, LineSaysNothing}
use Rattle.ps_kept.proofs.PushLemmas.{no_beginning, unbegun}
use Rattle.ps_kept.proofs.TakenLemmas.{is_other}
use Rattle.ps_kept.proofs.reading.after_first.Goals as goal

pub returns-in-None-clause-read : goal.returns-in-None-clause-read
returns-in-None-clause-read c =
    let bytes = c.args.bytes.now in
    inl (
      refl,
      unbegun c.args.replica bytes _ c.in_ok-own.ensures (c.in-None.ensures.none refl)
          (ap (λ l. starts_with nat_eq l bytes) (sym c.deref.ensures.value) ∙ sym c.starts_with.ensures.value
          ∙ c.if-starts_with.true),
    )

pub returns-clause-fault : goal.returns-clause-fault
returns-clause-fault c =
    let bytes = c.args.bytes.now in
    inl (
      refl,
      no_beginning c.args.replica bytes _ c.in_ok-own.ensures (c.in-None-2.ensures.none refl)
          (ap (λ l. starts_with nat_eq l bytes) (sym c.deref.ensures.value) ∙ sym c.starts_with.ensures.value
          ∙ c.if-starts_with.false),
    )

pub returns-in-Ok-Some-Replica-2-clause-fault : goal.returns-in-Ok-Some-Replica-2-clause-fault
returns-in-Ok-Some-Replica-2-clause-fault c =
    let line = c.in-Some.line.now in
    let found = c.in-Ok-Some-Replica in
    is_other c.args.replica found.told c.args.bytes.now line _ c.in-Some.ensures.line
    (subst (λ f. MatchOption f (LineSaysNothing line) (LineSays line)) (found.field-0-is ∙ ap Some found.field-0-0-is)
    found.ensures.says)
    c.requires.replica.0 c.requires.replica.1 (λ same. search (rules, same, c.if-told-replica.false))
