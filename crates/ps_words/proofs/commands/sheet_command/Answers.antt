use Rattle.std.proofs.Common.{ap, ap₂, ◌≡◌, ◌∙◌, true, Some, Bor, List, ℕ}
use Rattle.std.proofs.lemmas.Result.{IfOk-weaker}
use Rattle.clap.specs.Words.{App, app_of, with_subcommand, Shape}
use Rattle.clap.specs.Simple.{on_top, app_of_fields}
use Rattle.clap.specs.declared.builder.command.Command.{Command}
use Rattle.clap.specs.declared.builder.command.Command.TheOpen.{Command-F}
use Rattle.ps_words.proofs.commands.sheet_command.Goals as goal

abbrev asks : Shape → Shape
asks s = record s { subcommand_required = true; has_version = true }

abbrev asks_fields : Command-F Command → Command-F Command
asks_fields f = record f { subcommand_required = true }

abbrev helped_fields : Bor (List ℕ) → Command-F Command → Command-F Command
helped_fields text f = record f { after_help = Some text }

abbrev versioned : Bor (List ℕ) → Command-F Command → Command-F Command
versioned text f = record f { version = Some text }

pub returns : goal.returns
returns c =
    let top_is : app_of c.version.result ≡ on_top asks (app_of c.new.result) =
    ap app_of_fields (c.version.ensures
    ∙ ap (versioned _) (c.subcommand_required.ensures
    ∙ ap asks_fields (c.after_help.ensures
    ∙ ap (helped_fields _) c.about.ensures))) in
    let with_run = c.in_ok-subcommand.ensures.shape c.in_ok-run_command.ensures.local
    ∙ ap₂ with_subcommand (top_is ∙ ap (on_top asks) c.new.ensures.app) (ap (λ (a : App). a.top)
    c.in_ok-run_command.ensures.app) in
    let with_table = c.in_ok-subcommand-2.ensures.shape c.in_ok-table_command.ensures.local
    ∙ ap₂ with_subcommand with_run (ap (λ (a : App). a.top) c.in_ok-table_command.ensures.app) in
    let with_serve = c.in_ok-subcommand-3.ensures.shape c.in_ok-serve_command.ensures.local
    ∙ ap₂ with_subcommand with_table (ap (λ (a : App). a.top) c.in_ok-serve_command.ensures.app) in
    let with_sync = c.in_ok-subcommand-4.ensures.shape c.in_ok-sync_command.ensures.local
    ∙ ap₂ with_subcommand with_serve (ap (λ (a : App). a.top) c.in_ok-sync_command.ensures.app) in
    let with_join = c.in_ok-subcommand-5.ensures.shape c.in_ok-join_command.ensures.local
    ∙ ap₂ with_subcommand with_sync (ap (λ (a : App). a.top) c.in_ok-join_command.ensures.app) in
    let with_follow = c.in_ok-subcommand-6.ensures.shape c.in_ok-follow_command.ensures.local
    ∙ ap₂ with_subcommand with_join (ap (λ (a : App). a.top) c.in_ok-follow_command.ensures.app) in
    let with_talk = c.in_ok-subcommand-7.ensures.shape c.in_ok-talk_command.ensures.local
    ∙ ap₂ with_subcommand with_follow (ap (λ (a : App). a.top) c.in_ok-talk_command.ensures.app) in
    IfOk-weaker c.subcommand-8.result _ _
    (λ command h. h.shape c.in_ok-squash_command.ensures.local
    ∙ ap₂ with_subcommand with_talk (ap (λ (a : App). a.top) c.in_ok-squash_command.ensures.app))
    c.subcommand-8.ensures
