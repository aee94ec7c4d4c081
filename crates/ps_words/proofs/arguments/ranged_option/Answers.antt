use Rattle.std.proofs.Common.{rules, ◌≡◌, ◌∙◌, ap, ap₂, Option, Some}
use Rattle.std.specs.Prelude.{pos}
use Rattle.clap.specs.Words.{Rule, rule_of}
use Rattle.clap.specs.declared.builder.action.ArgAction.TheVariants.{Set}
use Rattle.clap.specs.declared.builder.arg.Arg.{Arg}
use Rattle.clap.specs.declared.builder.value_parser.ValueParser.{ValueParser}
use Rattle.clap.specs.declared.builder.value_parser.ValueParser.TheVariants as vp
use Rattle.ps_words.proofs.arguments.ranged_option.Goals as goal

pub returns-clause-rule : goal.returns-clause-rule
returns-clause-rule c =
    let ranged : c.value_parser.result.value_parser ≡ Some (vp.Signed (pos c.args.least) (pos c.args.most)) =
    search rules in
    let named : c.action.result ≡ record c.new.result { long = Some c.args.id; action = Some Set } =
    c.action.ensures ∙ ap (λ (a : Arg). record a { action = Some Set }) c.long.ensures in
    let read = c.value_parser.ensures.others
    ∙ ap (λ (a : Arg). record a { value_parser = c.value_parser.result.value_parser }) named in
    ap rule_of c.help.ensures ∙ ap rule_of read
    ∙ ap₂ (λ (r : Rule) (p : Option ValueParser). record r {
      long = Some c.args.id.now;
      action = Some Set;
      parser = p;
    }) c.new.ensures.rule ranged

pub returns-clause-local : goal.returns-clause-local
returns-clause-local c =
    ap (λ (a : Arg). a.global) c.help.ensures
    ∙ ap (λ (a : Arg). a.global) c.value_parser.ensures.others
    ∙ ap (λ (a : Arg). a.global) c.action.ensures
    ∙ ap (λ (a : Arg). a.global) c.long.ensures
    ∙ c.new.ensures.optional.1
