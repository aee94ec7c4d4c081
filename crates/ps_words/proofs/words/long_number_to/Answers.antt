use Rattle.std.proofs.Common.{rules, sym, ◌∙◌}
use Rattle.clap.specs.Words.{found_of}
use Rattle.ps_words.proofs.Subcommands.{gives_number}
use Rattle.ps_words.proofs.words.long_number_to.Goals as goal

pub returns-in-Some-clause-number : goal.returns-in-Some-clause-number
returns-in-Some-clause-number c = gives_number (found_of c.args.matches.now) c.args.id.now c.in-Some.number
    (λ none. let bad = sym c.in-Some.is ∙ c.get_one.ensures.none none in search rules)
    (λ text is. let read = c.get_one.ensures.value text is in let told = rw c.in-Some.is at read in sym told.0.1)
