use Rattle.std.proofs.Common.{◌+◌, ◌∙◌, sym, ap, arith, length, get_or, List}
use Rattle.ps_index.proofs.PartedLists.{length-parted, parted_back, parted_front}
use Rattle.std.proofs.lemmas.List.{get_or_read}
use Rattle.ps_index.specs.declared.span.Span.{Span}
use Rattle.ps_index.proofs.spans.Spans.at.Goals as goal

pub overflow_add-index : goal.overflow_add-index
overflow_add-index c = omega (
  arith,
  length-parted c.self.inside.places.items c.self.inside.front c.self.inside.free c.self.invariant,
  ap length c.self.view_is,
  c.requires,
)

pub index-requires-else-index-self : goal.index-requires-else-index-self
index-requires-else-index-self c = omega (
  arith,
  length-parted c.self.inside.places.items c.self.inside.front c.self.inside.free c.self.invariant,
  ap length c.self.view_is,
  c.requires,
)

pub returns-then-index-self-clause-span : goal.returns-then-index-self-clause-span
returns-then-index-self-clause-span c = λ (d : Span).
    let e = ap (λ (xs : List Span). get_or xs c.args.index d) c.self.view_is in
    sym e ∙ parted_front c.self.inside.places.items c.self.inside.front c.self.inside.free c.args.index d c.self.invariant
    c.if-index-self.true
    ∙ sym (get_or_read c.self.inside.places.items c.args.index c.index.result.now (omega (arith, c.if-index-self.true, c.self.invariant)) c.index.ensures d)

pub returns-else-index-self-clause-span : goal.returns-else-index-self-clause-span
returns-else-index-self-clause-span c = λ (d : Span).
    let e = ap (λ (xs : List Span). get_or xs c.args.index d) c.self.view_is in
    sym e ∙ parted_back c.self.inside.places.items c.self.inside.front c.self.inside.free c.args.index d c.self.invariant
    (omega (arith, c.if-index-self.false))
    ∙ sym (get_or_read c.self.inside.places.items (c.args.index + c.self.inside.free) c.index-else-index-self.result.now (omega (arith, length-parted c.self.inside.places.items c.self.inside.front c.self.inside.free c.self.invariant, ap length c.self.view_is, c.requires)) c.index-else-index-self.ensures d)

pub returns-then-index-self-clause-small : goal.returns-then-index-self-clause-small
returns-then-index-self-clause-small c = omega (
  arith,
  length-parted c.self.inside.places.items c.self.inside.front c.self.inside.free c.self.invariant,
  ap length c.self.view_is,
  c.self.inside.places.ok,
  c.self.inside.places.small,
)

pub returns-else-index-self-clause-small : goal.returns-else-index-self-clause-small
returns-else-index-self-clause-small c = omega (
  arith,
  length-parted c.self.inside.places.items c.self.inside.front c.self.inside.free c.self.invariant,
  ap length c.self.view_is,
  c.self.inside.places.ok,
  c.self.inside.places.small,
)
