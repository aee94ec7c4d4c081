use Rattle.std.proofs.Common.{rules, subst, sym, List, ℕ}
use Rattle.ps_sheet.specs.Staging.{StagingView}
use Rattle.ps_face.specs.Legal.{Follows}
use Rattle.ps_desk.specs.Patches.{found_in}
use Rattle.ps_desk.proofs.Noted.{staged_follows, worked_out}
use Rattle.ps_desk.proofs.patch.patch_of.Goals as goal

pub returns-in_ok-kept-in-Some-clause-patch : goal.returns-in_ok-kept-in-Some-clause-patch
returns-in_ok-kept-in-Some-clause-patch c = search rules

pub returns-in_ok-kept-in-Some-clause-follows : goal.returns-in_ok-kept-in-Some-clause-follows
returns-in_ok-kept-in-Some-clause-follows c =
    let x : StagingView = c.args.sheet.now in
    let cells : List ℕ = found_in x c.args.one in
    let next = staged_follows x cells c.args.owner (worked_out x c.requires.staged c.report-number.ensures.staging)
    c.requires.fresh c.requires.found in
    subst (Follows x.history) (sym (returns-in_ok-kept-in-Some-clause-patch c)) next

pub returns-in_ok-changes-in-None-clause-patch : goal.returns-in_ok-changes-in-None-clause-patch
returns-in_ok-changes-in-None-clause-patch c = search rules

pub returns-in_ok-changes-in-None-clause-follows : goal.returns-in_ok-changes-in-None-clause-follows
returns-in_ok-changes-in-None-clause-follows c =
    let x : StagingView = c.args.sheet.now in
    let cells : List ℕ = found_in x c.args.one in
    let next = staged_follows x cells c.args.owner (worked_out x c.requires.staged c.report-number.ensures.staging)
    c.requires.fresh c.requires.found in
    subst (Follows x.history) (sym (returns-in_ok-changes-in-None-clause-patch c)) next
