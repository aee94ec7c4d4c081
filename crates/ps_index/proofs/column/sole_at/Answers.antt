use Rattle.std.proofs.Common.{◌∙◌, ap, arith, refl, sym}
use Rattle.ps_index.specs.Inside.Columns.{IsColumn}
use Rattle.ps_index.specs.declared.nodes.TheConstants.{LEVELS}
use Rattle.ps_index.specs.declared.span.Span.{Span}
use Rattle.ps_index.proofs.SoleCells.{sole_none, sole_one}
use Rattle.ps_index.proofs.column.sole_at.Goals as goal

pub returns-then-to-from : goal.returns-then-to-from
returns-then-to-from c = λ (col : IsColumn c.args.spans.now c.args.counts.now LEVELS).
    sole_none _ _ col c.args.row (omega arith) (omega arith) _ refl
    (omega (arith, c.kept_at-kept.ensures.from, c.kept_at-kept.ensures.to))

pub returns-then-to-from-eq1 : goal.returns-then-to-from-eq1
returns-then-to-from-eq1 c = λ (col : IsColumn c.args.spans.now c.args.counts.now LEVELS).
    let from = c.kept_at-kept.ensures.from in
    let to = c.kept_at-kept.ensures.to in
    sole_one _ _ col c.args.row (omega arith) (omega arith) c.index.result (omega arith) (omega (arith, from, to))
    (rw (sym from) (λ (d : Span). ap (λ (s : Span). s.cell) (c.at.ensures.span d) ∙ sym c.index.ensures.index))
