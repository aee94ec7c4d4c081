use Rattle.std.proofs.Common.{vec_len, sym, ◌∙◌, arith}
use Rattle.std.proofs.lemmas.Bool.{eqb-true}
use Rattle.ps_shown.proofs.BlockLemmas.{remembered_past}
use Rattle.ps_shown.proofs.blocks.follow.Goals as goal

pub returns-then-not-is_empty-clause-remembered : goal.returns-then-not-is_empty-clause-remembered
returns-then-not-is_empty-clause-remembered c =
    c.exchange_or_forget.ensures.remembered c.args.put.now c.operand.ensures

pub returns-else-not-is_empty-clause-remembered : goal.returns-else-not-is_empty-clause-remembered
returns-else-not-is_empty-clause-remembered c =
    let none = eqb-true (vec_len c.args.sums.now) 0 (sym c.is_empty.ensures ∙ c.if-not-is_empty.false) in
    remembered_past c.args.kept.now c.args.sums.now.items c.args.place c.args.put.now c.requires.remembered
    (omega (arith, none, c.args.sums.now.ok.0))
