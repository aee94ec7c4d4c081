use Rattle.std.proofs.Common.{take, subst}
use Rattle.std.proofs.lemmas.List.{take_all}
use Rattle.ps_index.specs.Stands.{Stands}
use Rattle.ps_cells.specs.Inside.Formulas.{with_puts}
use Rattle.ps_cells.proofs.change.put_formulas.Goals as goal

pub set-requires : goal.set-requires
set-requires c =
    let was = c.requires.stands in
    (with_puts (take c.loop-i.i c.args.cells.now) was.0, c.loop-i.invariant was.0 was.1)

pub take_formulas-requires : goal.take_formulas-requires
take_formulas-requires c =
    let was = c.requires.stands in
    record {
      stands = (
        was.0,
        c.in-Err.ensures.err (with_puts (take c.loop-i.i c.args.cells.now) was.0)
            (c.loop-i.invariant was.0 was.1),
      );
    }

pub returns-in-Err-clause-undone : goal.returns-in-Err-clause-undone
returns-in-Err-clause-undone c = λ forms stands.
    c.take_formulas.ensures.taken forms
    (c.in-Err.ensures.err (with_puts (take c.loop-i.i c.args.cells.now) forms) (c.loop-i.invariant forms stands))

pub returns-clause-put : goal.returns-clause-put
returns-clause-put c = λ forms stands.
    subst (λ xs. Stands c.loop-i.index (with_puts xs forms)) (take_all c.loop-i.i c.args.cells.now c.loop-i-test.false)
    (c.loop-i.invariant forms stands)
