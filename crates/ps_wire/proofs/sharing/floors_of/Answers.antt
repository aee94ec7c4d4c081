use Rattle.std.proofs.Common.{◌≡◌, ◌∙◌, ◌+◌, ap, arith, get_or, length, subst, sym, take}
use Rattle.ps_delta.specs.Deltas.{Entries}
use Rattle.ps_wire.specs.Inside.{AreFloors, floor_at}
use Rattle.ps_wire.proofs.SharingLemmas.{floors_more, given_back}
use Rattle.ps_wire.proofs.sharing.floors_of.Goals as goal

pub loop-delta-preserved : goal.loop-delta-preserved
loop-delta-preserved c =
    let deltas = c.args.deltas.now in
    let i = c.loop-delta.delta-index in
    let before = c.loop-delta.floors.items in
    let after = c.lower.new.floors in
    let d : Entries = c.parts.result.now in
    let value : d ≡ c.delta-item.result = c.parts.ensures.value in
    let is : d ≡ get_or deltas i d = value ∙ c.delta-item.is ∙ ap (get_or deltas i) (sym value) in
    let floors = floors_more before after deltas i d c.loop-delta-test.true is c.parts.ensures.delta
    (λ q. omega (arith, c.lower.ensures.lower q, ap (λ fs. floor_at fs q) c.deref_mut.ensures.value))
    c.lower.ensures.above c.loop-delta.invariant.floors in
    let back = given_back c.loop-delta.floors.len after _
    (omega (arith, c.lower.ensures.whole, c.loop-delta.floors.ok, c.loop-delta.invariant.whole)) in
    record {
      whole = ap length back ∙ c.lower.ensures.whole;
      floors = subst (λ fs. AreFloors fs (take (i + 1) deltas)) (sym back) floors;
    }
