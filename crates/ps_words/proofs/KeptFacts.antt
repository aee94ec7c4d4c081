-- What stays of a command when a help text or an argument is added to it.
use Rattle.std.proofs.Common.{◌≡◌, ◌∙◌, ◌||◌, ap, ap₂, Bool, false, List, ℕ, Some, Bor}
use Rattle.clap.specs.Words.{AddsArg, App, app_of}
use Rattle.clap.specs.Simple.{app_of_fields}
use Rattle.clap.specs.declared.builder.arg.Arg.{Arg}
use Rattle.clap.specs.declared.builder.command.Command.{Command}
use Rattle.clap.specs.declared.builder.command.Command.TheOpen.{Command-F}
use Rattle.clap.specs.declared.builder.command.Command.TheViews.{out-Command as fields_of}

-- a command with two help texts added reads the same words
pub told-app : {text after : Bor (List ℕ)} (new about told : Command) (app : App)
    → fields_of about ≡ record (fields_of new) { about = Some text }
    → fields_of told ≡ record (fields_of about) { after_help = Some after }
    → app_of new ≡ app → app_of told ≡ app
told-app {text} {after} new about told app is_about is_told is =
    ap app_of_fields (is_told ∙ ap (λ (f : Command-F Command). record f { after_help = Some after }) is_about) ∙ is

pub told-local : {text after : Bor (List ℕ)} (new about told : Command)
    → fields_of about ≡ record (fields_of new) { about = Some text }
    → fields_of told ≡ record (fields_of about) { after_help = Some after }
    → (fields_of new).has_globals ≡ false → (fields_of told).has_globals ≡ false
told-local new about told is_about is_told is =
    ap (λ (f : Command-F Command). f.has_globals) is_told
    ∙ ap (λ (f : Command-F Command). f.has_globals) is_about ∙ is

-- a command without global arguments has none after a local one is added
pub added-local : (old new : Command) (a : Arg) → AddsArg old a new → a.global ≡ false
    → (fields_of old).has_globals ≡ false → (fields_of new).has_globals ≡ false
added-local old new a adds is_local is = adds.globals ∙ ap₂ (λ (x : Bool) (y : Bool). x || y) is is_local
