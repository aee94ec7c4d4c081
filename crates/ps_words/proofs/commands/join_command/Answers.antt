use Rattle.std.proofs.Common.{◌∙◌, ap₂}
use Rattle.std.proofs.lemmas.Result.{IfOk-weaker}
use Rattle.clap.specs.Words.{with_rule}
use Rattle.ps_words.proofs.commands.join_command.Goals as goal

pub returns-clause-app : goal.returns-clause-app
returns-clause-app c =
    let with_from = c.in_ok-command.ensures.app
    ∙ ap₂ with_rule c.new_command.ensures.app c.text_option-from.ensures.rule in
    let with_to = c.in_ok-command-2.ensures.app ∙ ap₂ with_rule with_from c.text_option-to.ensures.rule in
    let with_server = c.in_ok-command-3.ensures.app ∙ ap₂ with_rule with_to c.ranged_option-server.ensures.rule in
    let with_lines = c.in_ok-command-4.ensures.app ∙ ap₂ with_rule with_server c.flag_option-lines.ensures.rule in
    let with_once = c.in_ok-command-5.ensures.app ∙ ap₂ with_rule with_lines c.flag_option-once.ensures.rule in
    let with_check = c.in_ok-command-6.ensures.app ∙ ap₂ with_rule with_once c.flag_option-check.ensures.rule in
    IfOk-weaker c.with_option-7.result _ _
    (λ command is. is ∙ ap₂ with_rule with_check c.flag_option-explain.ensures.rule)
    c.with_option-7.ensures.app

pub returns-clause-local : goal.returns-clause-local
returns-clause-local c = c.with_option-7.ensures.local (c.in_ok-command-6.ensures.local
    (c.in_ok-command-5.ensures.local (c.in_ok-command-4.ensures.local (c.in_ok-command-3.ensures.local
    (c.in_ok-command-2.ensures.local (c.in_ok-command.ensures.local c.new_command.ensures.local))))))
