use Rattle.std.proofs.Common.{◌≡◌, arith}
use Rattle.std.proofs.lemmas.Result.{err_from_is_err_and}
use Rattle.std.proofs.lemmas.Bool.Decides.{nat_tests}
use Rattle.ps_grid.specs.declared.refusal.Refusal.TheVariants.{Formula}
use Rattle.ps_formula.specs.TreeOf.{tree_of}
use Rattle.ps_formula.proofs.WholeListsRead.{read_whole, nothing_read, not_all_read, refused_none}
use Rattle.ps_formula.proofs.parser.whole.Goals as goal

pub returns-in_err-tree-clause-none : goal.returns-in_err-tree-clause-none
returns-in_err-tree-clause-none c = λ is.
    let p = err_from_is_err_and c.from_residual.result c.from_residual.ensures.1 in
    let refused : c.in_err-tree.field-0.0 ≡ Formula = cc (p.1, p.2, is) in
    nothing_read c.args.tokens.now (refused_none c.in_err-tree.field-0.0 _ c.in_err-tree.ensures refused)

pub returns-then-not-is_empty-clause-none : goal.returns-then-not-is_empty-clause-none
returns-then-not-is_empty-clause-none c = λ is.
    not_all_read c.args.tokens.now (tree_of c.in_ok-tree.tree) c.in_ok-tree.rest.now c.in_ok-tree.ensures
    (grind (arith, nat_tests, c.if-not-is_empty.ensures))

pub returns-clause-found : goal.returns-clause-found
returns-clause-found c =
    read_whole _ c.args.tokens.now (tree_of c.in_ok-tree.tree) c.in_ok-tree.rest.now c.in_ok-tree.ensures
    (grind (arith, nat_tests, c.if-not-is_empty.ensures))
