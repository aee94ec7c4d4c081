use Rattle.std.proofs.Common.{◌∙◌, ap, ap₂}
use Rattle.std.proofs.lemmas.Result.{IfOk-weaker}
use Rattle.clap.specs.Words.{app_of, with_rule}
use Rattle.ps_words.proofs.arguments.with_sheet_options.Goals as goal

pub returns-clause-app : goal.returns-clause-app
returns-clause-app c =
    let with_workers = c.in_ok-command.ensures.app
    ∙ ap (with_rule (app_of c.args.command)) c.number_option-workers.ensures.rule in
    let replica_is = rw c.from.ensures at c.number_option-replica.ensures.rule in
    let with_replica = c.in_ok-command-2.ensures.app ∙ ap₂ with_rule with_workers replica_is in
    IfOk-weaker c.with_option-3.result _ _
    (λ new is. is ∙ ap₂ with_rule with_replica c.flag_option-squash.ensures.rule)
    c.with_option-3.ensures.app

pub returns-clause-local : goal.returns-clause-local
returns-clause-local c old =
    c.with_option-3.ensures.local (c.in_ok-command-2.ensures.local (c.in_ok-command.ensures.local old))
