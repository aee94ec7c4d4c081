use Rattle.std.proofs.Common.{◌≡◌, ◌+◌, ◌<◌, ◌++◌, ◌∷◌, [], ℕ, List, length, take, sym, ap, ◌∙◌, subst, arith}
use Rattle.std.proofs.lemmas.List.{take_more}
use Rattle.ps_shown.specs.declared.kept.Kept.{Kept}
use Rattle.ps_shown.specs.Shown.{shown_at}
use Rattle.ps_cells.specs.Inside.Screens.{Differ, put_back}
use Rattle.ps_cells.proofs.ChangeLists.{differ_none, few_more, fresh_old, listed_more}
use Rattle.ps_cells.proofs.screen.list_differing.Goals as goal

pub loop-entry-init : goal.loop-entry-init
loop-entry-init c =
    let w = shown_at c.args.shown.now in
    let none = c.clear.ensures.items in
    let no = ap length none in
    record {
      differ = subst (Differ w (put_back [] w)) (sym none) (differ_none w);
      few = omega (arith, no);
      room = omega arith;
    }

pub loop-entry-preserved : goal.loop-entry-preserved
loop-entry-preserved c =
    let olds = c.args.olds.now in
    let w = shown_at c.args.shown.now in
    let i = c.loop-entry.entry-index in
    let e : ℕ × Kept = c.entry-item.result in
    let lt : i < length olds = c.loop-entry-test.true in
    let longer : take (i + 1) olds ≡ take i olds ++ e ∷ [] =
    take_more olds i e lt ∙ ap (λ (q : ℕ × Kept). take i olds ++ q ∷ []) (sym c.entry-item.is) in
    let before = c.loop-entry.invariant.room in
    let room = c.list_one.ensures.room in
    record {
      differ = subst (λ (xs : List (ℕ × Kept)). Differ w (put_back xs w) c.list_one.new.cells.items) (sym longer)
          (listed_more (take i olds) e w (fresh_old olds i e c.requires.once lt c.entry-item.is)
          c.loop-entry.cells.items c.loop-entry.invariant.differ c.list_one.new.cells.items c.list_one.ensures.listed);
      few = few_more e w c.loop-entry.cells.items c.list_one.new.cells.items i c.list_one.ensures.listed
          c.loop-entry.invariant.few;
      room = omega (arith, before, room);
    }
