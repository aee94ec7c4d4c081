use Rattle.std.proofs.Common.{◌∙◌, ap, ap₂}
use Rattle.std.proofs.lemmas.Result.{IfOk-weaker}
use Rattle.clap.specs.Words.{with_rule}
use Rattle.ps_words.specs.Words.{with_sheet_options}
use Rattle.ps_words.proofs.commands.serve_command.Goals as goal

pub returns-clause-app : goal.returns-clause-app
returns-clause-app c =
    let port = c.in_ok-command.ensures.app
    ∙ ap₂ with_rule c.new_command.ensures.app c.needed_option-port.ensures.rule in
    let sessions = c.in_ok-command-2.ensures.app ∙ ap₂ with_rule port c.ranged_option-sessions.ensures.rule in
    let seats = c.in_ok-command-3.ensures.app ∙ ap₂ with_rule sessions c.usual_option-seats.ensures.rule in
    let wait_is = rw c.from.ensures at c.usual_option-wait.ensures.rule in
    let wait = c.in_ok-command-4.ensures.app ∙ ap₂ with_rule seats wait_is in
    let idle = c.in_ok-command-5.ensures.app ∙ ap₂ with_rule wait c.ranged_option-idle.ensures.rule in
    let explain = c.in_ok-command-6.ensures.app ∙ ap₂ with_rule idle c.flag_option-explain.ensures.rule in
    let keep = c.in_ok-command-7.ensures.app ∙ ap₂ with_rule explain c.text_option-keep.ensures.rule in
    let title = c.in_ok-with_option.ensures.app ∙ ap₂ with_rule keep c.text_option-title.ensures.rule in
    IfOk-weaker c.with_sheet_options.result _ _ (λ command is. is ∙ ap with_sheet_options title)
    c.with_sheet_options.ensures.app

pub returns-clause-local : goal.returns-clause-local
returns-clause-local c = c.with_sheet_options.ensures.local
    (c.in_ok-with_option.ensures.local (c.in_ok-command-7.ensures.local (c.in_ok-command-6.ensures.local
    (c.in_ok-command-5.ensures.local (c.in_ok-command-4.ensures.local (c.in_ok-command-3.ensures.local
    (c.in_ok-command-2.ensures.local (c.in_ok-command.ensures.local c.new_command.ensures.local))))))))
