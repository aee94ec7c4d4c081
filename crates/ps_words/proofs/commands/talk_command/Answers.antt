use Rattle.std.proofs.Common.{◌∙◌, ap₂}
use Rattle.std.proofs.lemmas.Result.{IfOk-weaker}
use Rattle.clap.specs.Words.{with_rule}
use Rattle.ps_words.proofs.commands.talk_command.Goals as goal

pub returns-clause-app : goal.returns-clause-app
returns-clause-app c =
    let with_to = c.in_ok-command.ensures.app
    ∙ ap₂ with_rule c.new_command.ensures.app c.needed_option-to.ensures.rule in
    IfOk-weaker c.with_option-2.result _ _
    (λ command is. is ∙ ap₂ with_rule with_to c.flag_option-explain.ensures.rule)
    c.with_option-2.ensures.app

pub returns-clause-local : goal.returns-clause-local
returns-clause-local c = c.with_option-2.ensures.local (c.in_ok-command.ensures.local c.new_command.ensures.local)
