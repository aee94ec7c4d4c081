use Rattle.std.proofs.lemmas.Result.{IfOk-weaker}
use Rattle.ps_words.proofs.KeptFacts.{added-local}
use Rattle.ps_words.proofs.arguments.with_option.Goals as goal

pub returns-clause-app : goal.returns-clause-app
returns-clause-app c = IfOk-weaker c.arg.result _ _ (λ new adds. adds.shape c.requires.local) c.arg.ensures

pub returns-clause-local : goal.returns-clause-local
returns-clause-local c old =
    IfOk-weaker c.arg.result _ _ (λ new adds. added-local _ _ _ adds c.requires.local old) c.arg.ensures
