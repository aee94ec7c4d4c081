use Rattle.std.proofs.Common.{◌∙◌, ap, ◌+◌}
use Rattle.std.specs.Prelude.{if◌then◌else◌}
use Rattle.ps_desk.proofs.Receipted.{edit_appended}
use Rattle.ps_desk.proofs.desk.Desk.edit.Goals as goal

pub returns-clause-fresh : goal.returns-clause-fresh
returns-clause-fresh g c =
    let m = c.in_ok-receipt.ensures.made in
    (edit_appended g.L.DeskName.replica g.L.Named.opening c.args.edit c.args.pass.now.list c.change.new.pass.list
    c.args.pass.now.seat c.in_ok-receipt.receipt.number c.in_ok-receipt.receipt.fresh c.edits_are_fresh.ensures m.delta
    m.is_delta m.stands).0

pub returns-clause-receipt : goal.returns-clause-receipt
returns-clause-receipt g c =
    let m = c.in_ok-receipt.ensures.made in (
      m.delta,
      m.encloses,
      (edit_appended g.L.DeskName.replica g.L.Named.opening c.args.edit c.args.pass.now.list c.change.new.pass.list
          c.args.pass.now.seat c.in_ok-receipt.receipt.number c.in_ok-receipt.receipt.fresh c.edits_are_fresh.ensures
          m.delta m.is_delta m.stands).1,
    )

pub returns-clause-counted : goal.returns-clause-counted
returns-clause-counted g c =
    c.in_ok-receipt.ensures.made.counted
    ∙ ap (λ b. c.args.pass.now.appended + (if b then 1 else 0)) (returns-clause-fresh g c)
