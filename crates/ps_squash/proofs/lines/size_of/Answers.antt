use Rattle.std.proofs.Common.{◌≡◌, ◌+◌, ◌∙◌, ap, arith, length}
use Rattle.std.proofs.lemmas.Grind.{common_steps}
use Rattle.ps_wire.specs.Line.{delta_text}
use Rattle.ps_squash.specs.Inside.{cell_size}
use Rattle.ps_squash.proofs.RoomLemmas.{size_alone}
use Rattle.ps_squash.proofs.lines.size_of.Goals as goal

pub overflow_sub-result : goal.overflow_sub-result
overflow_sub-result c =
    let size : length (delta_text c.in_ok-delta.delta) ≡ cell_size c.args.entry.now + 2 =
    ap (λ d. length (delta_text d)) c.in_ok-delta.ensures.delta ∙ size_alone c.args.entry.now in
    grind (arith, common_steps, size)

pub returns-clause-size : goal.returns-clause-size
returns-clause-size c =
    let size : length (delta_text c.in_ok-delta.delta) ≡ cell_size c.args.entry.now + 2 =
    ap (λ d. length (delta_text d)) c.in_ok-delta.ensures.delta ∙ size_alone c.args.entry.now in
    grind (arith, common_steps, size)
