use Rattle.std.proofs.Common.{◌≡◌, ◌∙◌, ap, arith, sym}
use Rattle.ps_index.specs.Spans.{cell_of}
use Rattle.ps_index.specs.declared.span.Span.{Span}
use Rattle.ps_index.proofs.WalksInOrder.{only_end, only_found}
use Rattle.ps_index.proofs.walk.only_head.Goals as goal

pub returns-then-place-end : goal.returns-then-place-end
returns-then-place-end c =
    only_end _ _ _ _ _ c.passed-place.result c.requires (omega (arith, c.told-starts)) c.passed-place.ensures.from
    c.passed-place.ensures.to c.passed-place.ensures.passed (omega arith)

pub returns : goal.returns
returns c =
    let place = c.passed-place.result in
    let cell : (d : Span) → cell_of c.args.spans.now place d ≡ c.index.result = λ (d : Span).
    ap (λ (s : Span). s.cell) (c.at.ensures.span d) ∙ sym c.index.ensures.index in
    only_found _ _ _ _ _ place c.requires (omega (arith, c.told-starts)) c.passed-place.ensures.from
    c.passed-place.ensures.to c.passed-place.ensures.passed c.index.result (omega arith) cell
    (c.passed-place.ensures.has_row (omega arith))
    (omega (arith, cell c.at.result, c.passed-place.ensures.from_least (omega arith) c.at.result))
