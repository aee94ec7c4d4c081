use Rattle.std.proofs.Common.{◌∙◌, ap, ap₂}
use Rattle.std.proofs.lemmas.Result.{IfOk-weaker}
use Rattle.clap.specs.Words.{with_rule}
use Rattle.ps_words.specs.Words.{with_sheet_options}
use Rattle.ps_words.proofs.commands.run_command.Goals as goal

pub returns-clause-app : goal.returns-clause-app
returns-clause-app c =
    let opened = c.in_ok-command.ensures.app ∙ ap with_sheet_options c.new_command.ensures.app in
    let explained = c.in_ok-command-2.ensures.app ∙ ap₂ with_rule opened c.flag_option-explain.ensures.rule in
    let strict = c.in_ok-command-3.ensures.app ∙ ap₂ with_rule explained c.flag_option-strict.ensures.rule in
    IfOk-weaker c.with_option-3.result _ _
    (λ command is. is ∙ ap₂ with_rule strict c.text_option-keep.ensures.rule)
    c.with_option-3.ensures.app

pub returns-clause-local : goal.returns-clause-local
returns-clause-local c = c.with_option-3.ensures.local (c.in_ok-command-3.ensures.local
    (c.in_ok-command-2.ensures.local (c.in_ok-command.ensures.local c.new_command.ensures.local)))
