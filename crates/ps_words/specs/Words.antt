-- The command line of the program, as `clap` sees it, and what its matches give.
use Rattle.std.specs.Prelude.{◌≡◌, ℕ, Bool, true, false, List, [], ◌∷◌, Option, Some, None, bytes_eq, codes, pos}
use Rattle.std.specs.Borrow.{Bor}
use Rattle.std.specs.Prelude.{option_map}
use Rattle.std.specs.Str.Parse.{digits_value, without_leading_plus}
use Rattle.clap.specs.Words.{App, Row, Rule, Text, first_of, new_app, new_rule, one_of, with_rule}
use Rattle.clap.specs.Words.{with_subcommand}
use Rattle.clap.specs.Simple.{on_top}
use Rattle.clap.specs.declared.builder.action.ArgAction.TheVariants.{Set, SetTrue}
use Rattle.clap.specs.declared.builder.value_parser.ValueParser.TheVariants as vp
use Rattle.ps_grid.specs.declared.parties.TheConstants.{REPLICAS, SEATS, WORKERS}
use Rattle.ps_words.specs.declared.options.TheConstants.{LONGEST_IDLE, LONGEST_PAUSE, LONGEST_WAIT}
use Rattle.ps_words.specs.declared.options.TheConstants.{MOST_CHANGES, MOST_SESSIONS}
use Rattle.ps_words.specs.declared.arguments.TheConstants.{LAST_PORT}
use Rattle.ps_words.specs.declared.options.Options.{Options}
use Rattle.ps_words.specs.declared.options.Options.TheVariants.{Follow, Join, Pipe, Relay, Run, Serve, Squash}
use Rattle.ps_words.specs.declared.options.Options.TheVariants.{Sync, Table, Talk}

-- an option with a number from least to most, which may be left out ..
abbrev pub ranged_option : Text → ℕ → ℕ → Rule
ranged_option id least most = record (new_rule id) {
  long = Some id;
  action = Some Set;
  parser = Some (vp.Signed (pos least) (pos most));
}

-- .. and is `usual` when left out
abbrev pub usual_option : Text → ℕ → ℕ → Text → Rule
usual_option id least most usual = record (ranged_option id least most) { defaults = usual ∷ [] }

-- an option with a number from 1 to most, which is 1 when left out ..
abbrev pub number_option : Text → ℕ → Rule
number_option id most = record (ranged_option id 1 most) { defaults = codes "1" ∷ [] }

-- .. and is required
abbrev pub needed_option : Text → ℕ → Rule
needed_option id most = record (ranged_option id 1 most) { required = true }

-- an option with a text
abbrev pub text_option : Text → Rule
text_option id = record (new_rule id) { long = Some id; action = Some Set }

-- an option without a value
abbrev pub flag_option : Text → Rule
flag_option id = record (new_rule id) { long = Some id; action = Some SetTrue }

-- the command with the options of a sheet that it opens
abbrev pub with_sheet_options : App → App
with_sheet_options app =
    with_rule (with_rule (with_rule app (number_option (codes "workers") WORKERS))
    (number_option (codes "replica") REPLICAS)) (flag_option (codes "squash"))

abbrev pub run_app : App
run_app = with_rule (with_rule (with_rule (with_sheet_options (new_app (codes "run"))) (flag_option (codes "explain")))
    (flag_option (codes "strict"))) (text_option (codes "keep"))

abbrev pub table_app : App
table_app = with_rule (with_rule (with_rule (new_app (codes "table")) (number_option (codes "workers") WORKERS))
    (flag_option (codes "entries"))) (flag_option (codes "explain"))

abbrev pub serve_app : App
serve_app = with_sheet_options (with_rule (with_rule (with_rule (with_rule (with_rule (with_rule (with_rule (with_rule
    (new_app (codes "serve"))
    (needed_option (codes "port") LAST_PORT))
    (ranged_option (codes "sessions") 1 MOST_SESSIONS))
    (usual_option (codes "seats") 1 SEATS (codes "64")))
    (usual_option (codes "wait") 0 LONGEST_WAIT (codes "5")))
    (ranged_option (codes "idle") 1 LONGEST_IDLE))
    (flag_option (codes "explain")))
    (text_option (codes "keep")))
    (text_option (codes "title")))

abbrev pub sync_app : App
sync_app = with_rule (with_rule (with_rule (new_app (codes "sync")) (needed_option (codes "from") LAST_PORT))
    (needed_option (codes "to") LAST_PORT)) (flag_option (codes "explain"))

abbrev pub join_app : App
join_app = with_rule (with_rule (with_rule (with_rule (with_rule (with_rule (with_rule (new_app (codes "join"))
    (text_option (codes "from"))) (text_option (codes "to")))
    (ranged_option (codes "with") 1 LAST_PORT)) (flag_option (codes "lines")))
    (flag_option (codes "once"))) (flag_option (codes "check"))) (flag_option (codes "explain"))

abbrev pub follow_app : App
follow_app = with_rule (with_rule (with_rule (with_rule (with_rule (new_app (codes "follow"))
    (needed_option (codes "from") LAST_PORT))
    (usual_option (codes "after") 0 MOST_CHANGES (codes "0"))) (flag_option (codes "until-now")))
    (usual_option (codes "every") 1 LONGEST_PAUSE (codes "50"))) (flag_option (codes "explain"))

abbrev pub talk_app : App
talk_app = with_rule (with_rule (new_app (codes "talk")) (needed_option (codes "to") LAST_PORT))
    (flag_option (codes "explain"))

abbrev pub squash_app : App
squash_app = with_rule (with_rule (with_rule (new_app (codes "squash")) (text_option (codes "keep")))
    (ranged_option (codes "until") 1 MOST_CHANGES)) (ranged_option (codes "without") 1 REPLICAS)

-- the whole command line: it needs one of the commands, and has a version
abbrev pub sheet_app : App
sheet_app = with_subcommand (with_subcommand (with_subcommand (with_subcommand (with_subcommand (with_subcommand
    (with_subcommand (with_subcommand (on_top (λ s. record s {
      subcommand_required = true;
      has_version = true;
    }) (new_app (codes "sheet"))) run_app.top) table_app.top) serve_app.top) sync_app.top) join_app.top)
    follow_app.top) talk_app.top) squash_app.top

-- among a command's matches the option has this number
abbrev pub GivesNumber : List Row → Text → ℕ → Type 0
GivesNumber rows id n = (text : Text) × (one_of id rows ≡ Some text)
    × (digits_value 10 (without_leading_plus text) ≡ n)

-- .. or none, if the option was left out
abbrev pub GivesCount : List Row → Text → Option ℕ → Type 0
GivesCount rows id None = one_of id rows ≡ None
GivesCount rows id (Some n) = GivesNumber rows id n

-- .. this text, as it was given, or none
abbrev pub GivesText : List Row → Text → Option (Bor Text) → Type 0
GivesText rows id given = option_map (λ s. s.now) given ≡ first_of id rows

-- .. the flag is set, or isn't
abbrev pub GivesFlag : List Row → Text → Bool → Type 0
GivesFlag rows id b = (one_of id rows ≡ Some (codes "true") → b ≡ true)
    × (one_of id rows ≡ Some (codes "false") → b ≡ false) × (one_of id rows ≡ None → b ≡ false)

-- one of `--from` and `--to` is `-`, and the other one has this number; true if `--from` is `-`
abbrev pub GivesPipe : List Row → Bool → ℕ → Type 0
GivesPipe rows true port = (first_of (codes "from") rows ≡ Some (codes "-")) × GivesNumber rows (codes "to") port
GivesPipe rows false port = (first_of (codes "to") rows ≡ Some (codes "-")) × GivesNumber rows (codes "from") port

-- the command's name
abbrev pub name_of : Options → Text
name_of (Run o) = codes "run"
name_of (Table o) = codes "table"
name_of (Serve o) = codes "serve"
name_of (Sync o) = codes "sync"
name_of (Join o) = codes "join"
name_of (Pipe o) = codes "join"
name_of (Relay o) = codes "join"
name_of (Follow o) = codes "follow"
name_of (Talk o) = codes "talk"
name_of (Squash o) = codes "squash"

-- among a command's matches its options have these numbers and texts, and its flags are set so
abbrev pub GivesNumbers : List Row → Options → Type 0
GivesNumbers rows (Run o) = GivesNumber rows (codes "workers") o.sheet.workers
    × GivesNumber rows (codes "replica") o.sheet.replica
    × GivesFlag rows (codes "explain") o.explain × GivesFlag rows (codes "strict") o.strict
    × GivesText rows (codes "keep") o.keep × GivesFlag rows (codes "squash") o.sheet.squash
GivesNumbers rows (Table o) = GivesNumber rows (codes "workers") o.workers
    × GivesFlag rows (codes "entries") o.entries × GivesFlag rows (codes "explain") o.explain
GivesNumbers rows (Serve o) = GivesNumber rows (codes "port") o.port × GivesCount rows (codes "sessions") o.sessions
    × GivesNumber rows (codes "seats") o.seats × GivesNumber rows (codes "wait") o.wait
    × GivesCount rows (codes "idle") o.idle × GivesFlag rows (codes "explain") o.explain
    × GivesText rows (codes "keep") o.keep × GivesText rows (codes "title") o.title
    × GivesNumber rows (codes "workers") o.sheet.workers × GivesNumber rows (codes "replica") o.sheet.replica
    × GivesFlag rows (codes "squash") o.sheet.squash
GivesNumbers rows (Sync o) = GivesNumber rows (codes "from") o.from × GivesNumber rows (codes "to") o.to
    × GivesFlag rows (codes "explain") o.explain
GivesNumbers rows (Join o) = GivesNumber rows (codes "from") o.from × GivesNumber rows (codes "to") o.to
    × GivesFlag rows (codes "once") o.once × GivesFlag rows (codes "check") o.check
    × GivesFlag rows (codes "explain") o.explain
GivesNumbers rows (Pipe o) = GivesPipe rows o.is_first o.port
    × GivesFlag rows (codes "once") o.once × GivesFlag rows (codes "explain") o.explain
GivesNumbers rows (Relay o) = GivesNumber rows (codes "with") o.server × GivesFlag rows (codes "lines") true
    × GivesFlag rows (codes "once") o.once × GivesFlag rows (codes "explain") o.explain
GivesNumbers rows (Follow o) = GivesNumber rows (codes "from") o.from × GivesNumber rows (codes "after") o.after
    × GivesFlag rows (codes "until-now") o.until_now × GivesNumber rows (codes "every") o.every
    × GivesFlag rows (codes "explain") o.explain
GivesNumbers rows (Talk o) = GivesNumber rows (codes "to") o.to × GivesFlag rows (codes "explain") o.explain
GivesNumbers rows (Squash o) = GivesText rows (codes "keep") o.keep × GivesCount rows (codes "until") o.until
    × GivesCount rows (codes "without") o.without

-- the matches are those of the command that has these options
abbrev pub GivesOptions : Option (Text × List Row) → Options → Type 0
GivesOptions matches options = (rows : List Row) × (matches ≡ Some (name_of options, rows)) × GivesNumbers rows options

-- the first word after the program's name is `page`, a command of earlier versions
abbrev pub asks_for_page : List Text → Bool
asks_for_page (name ∷ word ∷ words) = bytes_eq word (codes "page")
asks_for_page (name ∷ []) = false
asks_for_page [] = false
