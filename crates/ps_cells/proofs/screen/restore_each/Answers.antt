use Rattle.std.proofs.Common.{◌≡◌, ◌+◌, ◌<◌, ◌++◌, ◌∷◌, [], ℕ, Bool, List, length, take, sym, ap, ◌∙◌, subst, arith}
use Rattle.std.proofs.lemmas.List.{take_all, take_more}
use Rattle.ps_shown.specs.declared.kept.Kept.{Kept}
use Rattle.ps_cells.specs.Inside.Screens.{ShowCycle, put_back}
use Rattle.ps_cells.proofs.ChangeLists.{fresh_old}
use Rattle.ps_cells.proofs.CyclicSets.{restored_more, restored_none}
use Rattle.ps_cells.proofs.screen.restore_each.Goals as goal

pub loop-old-init : goal.loop-old-init
loop-old-init c = λ w shows. restored_none w c.args.cyclic.now shows

pub loop-old-preserved : goal.loop-old-preserved
loop-old-preserved c = λ w shows.
    let olds = c.args.olds.now in
    let i = c.loop-old.old-index in
    let e : ℕ × Kept = c.old-item.result in
    let lt : i < length olds = c.loop-old-test.true in
    let longer : take (i + 1) olds ≡ take i olds ++ e ∷ [] =
    take_more olds i e lt ∙ ap (λ (q : ℕ × Kept). take i olds ++ q ∷ []) (sym c.old-item.is) in
    subst (λ (xs : List (ℕ × Kept)). ShowCycle (put_back xs w) c.restore_one.new.cyclic) (sym longer)
    (restored_more (take i olds) e w (fresh_old olds i e c.requires.once lt c.old-item.is) c.loop-old.cyclic
    c.restore_one.new.cyclic (c.loop-old.invariant w shows) c.restore_one.ensures)

pub returns : goal.returns
returns c = record {
  before = λ w shows.
      subst (λ (xs : List (ℕ × Kept)). ShowCycle (put_back xs w) c.loop-old.cyclic)
      (take_all c.loop-old.old-index c.args.olds.now (let t = c.loop-old-test.false in omega (arith, t)))
      (c.loop-old.invariant w shows);
}
