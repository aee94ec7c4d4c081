use Rattle.std.proofs.Common.{◌∙◌, ap, arith, List}
use Rattle.std.specs.List.{insert}
use Rattle.ps_index.proofs.PartedLists.{parted_put}
use Rattle.ps_index.specs.declared.span.Span.{Span}
use Rattle.ps_index.proofs.spans.put_at.Goals as goal

pub returns-clause-put : goal.returns-clause-put
returns-clause-put c =
    parted_put c.move_free.new.places.items c.args.index c.args.free c.args.span c.requires.some
    (omega (arith, c.requires.index, c.move_free.ensures.length))
    ∙ ap (λ (xs : List Span). insert xs c.args.index c.args.span) c.move_free.ensures.same
