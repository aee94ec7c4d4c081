use Rattle.std.proofs.Common.{sym, ◌∙◌}
use Rattle.clap.specs.Words.{found_of}
use Rattle.ps_words.proofs.Subcommands.{gives_none}
use Rattle.ps_words.proofs.words.replica_of.Goals as goal

pub returns-then-not-contains_id-clause-number : goal.returns-then-not-contains_id-clause-number
returns-then-not-contains_id-clause-number c =
    gives_none (found_of c.args.matches.now) c.args.id.now (sym c.contains_id.ensures ∙ c.if-not-contains_id.true)
