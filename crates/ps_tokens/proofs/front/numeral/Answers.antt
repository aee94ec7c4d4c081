use Rattle.std.proofs.Common.{take, sym, ap, subst, ◌∙◌}
use Rattle.std.specs.Str.Parse.{AllDigits}
use Rattle.ps_tokens.proofs.LongestRuns.{AllDigits-digits_at}
use Rattle.ps_tokens.proofs.front.numeral.Goals as goal

pub number-requires : goal.number-requires
number-requires c =
    let s = c.args.text.now in
    let cut = c.split_at.ensures.front ∙ ap (λ n. take n s) c.digits_at.ensures.count in
    subst (AllDigits 10) (sym cut) (AllDigits-digits_at s)
