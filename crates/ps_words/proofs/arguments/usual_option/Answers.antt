use Rattle.std.proofs.Common.{◌∙◌, ap, ◌∷◌, []}
use Rattle.clap.specs.Words.{Rule, rule_of}
use Rattle.clap.specs.declared.builder.arg.Arg.{Arg}
use Rattle.ps_words.proofs.arguments.usual_option.Goals as goal

pub returns-clause-rule : goal.returns-clause-rule
returns-clause-rule c = ap rule_of c.default_value.ensures
    ∙ ap (λ (r : Rule). record r { defaults = c.args.usual.now ∷ [] }) c.ranged_option.ensures.rule

pub returns-clause-local : goal.returns-clause-local
returns-clause-local c = ap (λ (a : Arg). a.global) c.default_value.ensures ∙ c.ranged_option.ensures.local
