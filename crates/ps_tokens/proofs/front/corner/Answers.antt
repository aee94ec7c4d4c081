use Rattle.std.proofs.Common.{◌≡◌, Some, None, sym, ◌∙◌, arith}
use Rattle.std.proofs.lemmas.Grind.{common_steps}
use Rattle.ps_tokens.specs.Inside.Lexing.{cell_in, corner_at}
use Rattle.ps_tokens.proofs.NamedCells.{named_is}
use Rattle.ps_tokens.proofs.front.corner.Goals as goal

pub returns-in_err-cell : goal.returns-in_err-cell
unfolding corner_at
returns-in_err-cell c =
    let found : c.named.result ≡ cell_in c.split_at.result.0.now c.split_at-2.result.0.now =
    named_is c.named.result _ _ c.named.ensures in
    let none : cell_in c.split_at.result.0.now c.split_at-2.result.0.now ≡ None = sym found ∙ c.in_err-cell.was in
    grind (arith, common_steps)

pub returns : goal.returns
unfolding corner_at
returns c =
    let found : c.named.result ≡ cell_in c.split_at.result.0.now c.split_at-2.result.0.now =
    named_is c.named.result _ _ c.named.ensures in
    let some : cell_in c.split_at.result.0.now c.split_at-2.result.0.now ≡ Some c.in_ok-cell.cell =
    sym found ∙ c.in_ok-cell.was in
    grind (arith, common_steps)
