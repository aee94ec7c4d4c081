use Rattle.std.proofs.Common.{◌∙◌, ap₂}
use Rattle.std.proofs.lemmas.Result.{IfOk-weaker}
use Rattle.clap.specs.Words.{with_rule}
use Rattle.ps_words.proofs.commands.follow_command.Goals as goal

pub returns-clause-app : goal.returns-clause-app
returns-clause-app c =
    let with_from = c.in_ok-command.ensures.app
    ∙ ap₂ with_rule c.new_command.ensures.app c.needed_option-from.ensures.rule in
    let with_after = c.in_ok-command-2.ensures.app ∙ ap₂ with_rule with_from c.usual_option-after.ensures.rule in
    let with_flag = c.in_ok-command-3.ensures.app
    ∙ ap₂ with_rule with_after c.flag_option-until_now.ensures.rule in
    let every_is = rw c.from.ensures at c.usual_option-every.ensures.rule in
    let with_every = c.in_ok-command-4.ensures.app ∙ ap₂ with_rule with_flag every_is in
    IfOk-weaker c.with_option-5.result _ _
    (λ command is. is ∙ ap₂ with_rule with_every c.flag_option-explain.ensures.rule)
    c.with_option-5.ensures.app

pub returns-clause-local : goal.returns-clause-local
returns-clause-local c = c.with_option-5.ensures.local (c.in_ok-command-4.ensures.local (c.in_ok-command-3.ensures.local
    (c.in_ok-command-2.ensures.local (c.in_ok-command.ensures.local c.new_command.ensures.local))))
