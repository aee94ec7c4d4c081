use Rattle.std.proofs.Common.{◌∙◌, ap₂}
use Rattle.std.proofs.lemmas.Result.{IfOk-weaker}
use Rattle.clap.specs.Words.{with_rule}
use Rattle.ps_words.proofs.commands.squash_command.Goals as goal

pub returns-clause-app : goal.returns-clause-app
returns-clause-app c =
    let with_keep = c.in_ok-command.ensures.app
    ∙ ap₂ with_rule c.new_command.ensures.app c.text_option-keep.ensures.rule in
    let with_until = c.in_ok-command-2.ensures.app ∙ ap₂ with_rule with_keep c.ranged_option-until.ensures.rule in
    IfOk-weaker c.with_option-3.result _ _
    (λ command is. is ∙ ap₂ with_rule with_until c.ranged_option-without.ensures.rule)
    c.with_option-3.ensures.app

pub returns-clause-local : goal.returns-clause-local
returns-clause-local c = c.with_option-3.ensures.local (c.in_ok-command-2.ensures.local
    (c.in_ok-command.ensures.local c.new_command.ensures.local))
