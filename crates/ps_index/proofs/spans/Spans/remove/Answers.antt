use Rattle.std.proofs.Common.{◌+◌, ◌<◌, ◌∙◌, ap, arith, length, List}
use Rattle.std.specs.List.{remove}
use Rattle.ps_index.proofs.PartedLists.{length-parted, parted_taken}
use Rattle.ps_index.specs.declared.span.Span.{Span}
use Rattle.ps_index.proofs.spans.Spans.remove.Goals as goal

pub move_free-requires-clause-to : goal.move_free-requires-clause-to
move_free-requires-clause-to c = omega (
  arith,
  length-parted c.self.inside.places.items c.self.inside.front c.self.inside.free c.self.invariant,
  ap length c.self.view_is,
  c.requires,
)

pub invariant_of-self : goal.invariant_of-self
invariant_of-self c = omega (
  arith,
  length-parted c.self.inside.places.items c.self.inside.front c.self.inside.free c.self.invariant,
  ap length c.self.view_is,
  c.requires,
  c.move_free.ensures.length,
)

pub returns : goal.returns
returns c =
    let lt : c.args.index + c.self.inside.free < length c.move_free.new.places.items = omega (
      arith,
      length-parted c.self.inside.places.items c.self.inside.front c.self.inside.free c.self.invariant,
      ap length c.self.view_is,
      c.requires,
      c.move_free.ensures.length,
    ) in
    parted_taken c.move_free.new.places.items c.args.index c.self.inside.free lt
    ∙ ap (λ (xs : List Span). remove xs c.args.index) (c.move_free.ensures.same ∙ c.self.view_is)
