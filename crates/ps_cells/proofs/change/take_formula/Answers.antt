use Rattle.std.proofs.Common.{Option, sym, subst}
use Rattle.ps_formula.specs.Tree.{Tree}
use Rattle.ps_index.specs.Stands.{Stands, with_put}
use Rattle.ps_cells.proofs.change.take_formula.Goals as goal

pub remove-requires : goal.remove-requires
remove-requires c =
    let was = c.requires.stands in (
      was.0,
      subst (λ (p : Option Tree). Stands c.args.index.now (with_put c.args.entry.now.0 p was.0)) (sym c.in-Some.ensures)
          was.1,
    )

pub returns-in-Some : goal.returns-in-Some
returns-in-Some c = record {
  taken = λ forms stands. c.remove.ensures forms
      (subst (λ (p : Option Tree). Stands c.args.index.now (with_put c.args.entry.now.0 p forms))
      (sym c.in-Some.ensures)
      stands);
}
