use Rattle.std.proofs.Common.{arith, inl, inr, rules}
use Rattle.std.proofs.lemmas.Int.{ints}
use Rattle.ps_eval.proofs.ModuloLemmas.{other_sign, same_sign}
use Rattle.ps_eval.proofs.arithmetic.rest_of.Goals as goal

pub returns-then-rest-lt0 : goal.returns-then-rest-lt0
returns-then-rest-lt0 c =
    other_sign c.args.a c.args.b c.cut_rest_of-rest.result (search rules) (search rules) (search rules)
    c.cut_rest_of-rest.ensures (inl (omega (arith, ints), omega (arith, ints)))

pub returns-else-rest-lt0 : goal.returns-else-rest-lt0
returns-else-rest-lt0 c =
    same_sign c.args.a c.args.b c.cut_rest_of-rest.result (search rules) (search rules) (search rules)
    c.cut_rest_of-rest.ensures (omega (arith, ints)) (omega (arith, ints))

pub returns-then-rest-gt0 : goal.returns-then-rest-gt0
returns-then-rest-gt0 c =
    other_sign c.args.a c.args.b c.cut_rest_of-rest.result (search rules) (search rules) (search rules)
    c.cut_rest_of-rest.ensures (inr (omega (arith, ints), omega (arith, ints)))
