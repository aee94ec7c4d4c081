use Rattle.std.proofs.Common.{true, ◌≡◌, Some, map, string_bytes}
use Rattle.std.proofs.Common.{refl, ap, ◌∙◌, sym}
use Rattle.clap.specs.Words.{found_of, subcommand_of, is_simple, Text, rows_of}
use Rattle.ps_words.specs.Words.{sheet_app}
use Rattle.clap.proofs.OnLiterals.{clap_on_literals}
use Rattle.ps_words.proofs.Subcommands.{subcommand_rows_is}
use Rattle.ps_words.proofs.words.read_words.Goals as goal

simple : is_simple sheet_app ≡ true
unfolding clap_on_literals
simple = refl

pub returns : goal.returns
returns c =
    let matched = c.in_ok-matches.ensures.matches (ap is_simple c.in_ok-sheet_command.ensures ∙ simple) in
    let entered = subcommand_rows_is _ c.in-Some.name.now (rows_of (found_of c.in-Some.found.now))
    c.in-Some.ensures.name c.in-Some.ensures.rows in
    let command_is = ap (λ a. subcommand_of a (map string_bytes c.args.words.now)) c.in_ok-sheet_command.ensures in
    let name_is = ap (λ (t : Text). Some (t, rows_of (found_of c.in-Some.found.now)))
    (sym c.in-Some-options_of.ensures.0) in (
      rows_of (found_of c.in-Some.found.now),
      sym command_is ∙ sym matched.1 ∙ entered ∙ name_is,
      c.in-Some-options_of.ensures.1,
    )
