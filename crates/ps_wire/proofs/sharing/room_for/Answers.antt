use Rattle.std.proofs.Common.{◌≡◌, ◌-◌, ◌∙◌, ap, arith, get_or, refl, sym}
use Rattle.ps_delta.specs.Deltas.{Entries}
use Rattle.ps_wire.specs.declared.TheConstants.{DELTA_LINE_LIMIT}
use Rattle.ps_wire.proofs.SharingLemmas.{spend_last, spend_next}
use Rattle.ps_wire.proofs.sharing.room_for.Goals as goal

pub returns-in-None-clause-more : goal.returns-in-None-clause-more
returns-in-None-clause-more c = λ _.
    let deltas = c.args.deltas.now in
    let d : Entries = c.parts.result.now in
    let value : d ≡ c.index-deltas-count.result = c.parts.ensures.value in
    let is : d ≡ get_or deltas c.deltas.count d =
    value ∙ c.index-deltas-count.is ∙ ap (get_or deltas c.deltas.count) (sym value) in
    spend_last deltas c.deltas.count d c.args.floors.now c.deltas.floors (DELTA_LINE_LIMIT - 1)
    c.deltas.left c.deltas-test.true is c.deltas.invariant.spends
    (c.in-None.ensures.none refl)

pub deltas-preserved : goal.deltas-preserved
deltas-preserved c =
    let deltas = c.args.deltas.now in
    let d : Entries = c.parts.result.now in
    let value : d ≡ c.index-deltas-count.result = c.parts.ensures.value in
    let is : d ≡ get_or deltas c.deltas.count d =
    value ∙ c.index-deltas-count.is ∙ ap (get_or deltas c.deltas.count) (sym value) in
    record {
      whole = c.spend.ensures.whole;
      few = omega (arith, c.deltas-test.true);
      spends =
          spend_next deltas c.deltas.count d c.args.floors.now c.deltas.floors (DELTA_LINE_LIMIT - 1)
          c.deltas.left c.deltas-test.true is c.deltas.invariant.spends
          c.spend.new.floors c.in-Some.rest c.in-Some.ensures.left;
    }
