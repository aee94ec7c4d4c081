use Rattle.std.proofs.Common.{◌≡◌, ◌≤◌, ◌-◌, length, take, subst, arith}
use Rattle.ps_eval.specs.Items.{numbers_in}
use Rattle.ps_shown.specs.Sums.{items_kept}
use Rattle.ps_shown.proofs.BlockLemmas.{few_between}
use Rattle.ps_shown.proofs.run.take_one.Goals as goal

pub take_cell-requires : goal.take_cell-requires
take_cell-requires c =
    let kept = c.args.run.now in
    let n = c.args.at in
    let all : n - 0 ≡ n = omega arith in
    let few : length (numbers_in (items_kept (take n kept))) ≤ n =
    subst (λ m. length (numbers_in (items_kept (take m kept))) ≤ m) all (few_between kept 0 n) in
    omega (arith, c.requires.taken.counted, few, c.requires.room)
