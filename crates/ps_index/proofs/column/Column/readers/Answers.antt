use Rattle.std.proofs.Common.{◌≡◌, ℕ, [], ◌∷◌, ◌∙◌, sym, ap, arith}
use Rattle.ps_index.specs.Spans.{refers_at}
use Rattle.ps_index.proofs.SoleCells.{noted_at, nobody_passes, one_passes}
use Rattle.ps_index.proofs.column.Column.readers.Goals as goal

pub returns-in-None-clause-nobody : goal.returns-in-None-clause-nobody
returns-in-None-clause-nobody c = λ same.
    let below = c.if-sole-gt-CELLS.false in
    let past = c.in-None.ensures in
    nobody_passes (refers_at c.args.self.now c.args.row) c.index.result.now
    (noted_at c.self.inside.spans c.args.self.now c.self.inside.sole.items c.self.inside.lowest c.args.row
    c.index.result.now c.self.invariant.1 c.if-self-ne-LEVELS.false c.requires.some c.requires.in_grid c.index.ensures
    c.self.view_is)
    (omega (arith, below, past))

pub returns-in-Some-clause-one : goal.returns-in-Some-clause-one
returns-in-Some-clause-one c = λ q same.
    let cell : c.in-Some.cell ≡ q = cc in
    let is = c.in-Some.ensures in
    one_passes (refers_at c.args.self.now c.args.row) c.index.result.now
    (noted_at c.self.inside.spans c.args.self.now c.self.inside.sole.items c.self.inside.lowest c.args.row
    c.index.result.now c.self.invariant.1 c.if-self-ne-LEVELS.false c.requires.some c.requires.in_grid c.index.ensures
    c.self.view_is)
    is.0
    ∙ ap (λ (n : ℕ). n ∷ []) (sym is.1 ∙ cell)
