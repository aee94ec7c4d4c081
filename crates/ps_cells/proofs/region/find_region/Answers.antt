use Rattle.std.proofs.Common.{ℕ, List, refl, sym, subst}
use Rattle.std.specs.Prelude.{Option}
use Rattle.ps_delta.specs.State.{state_at}
use Rattle.ps_region.specs.Found.{IsFound}
use Rattle.ps_region.specs.Listed.{listed}
use Rattle.ps_cells.specs.Settled.{refers_to}
use Rattle.ps_cells.specs.Inside.Walk.{formula_at, IsRegionOf}
use Rattle.ps_cells.proofs.Recalculations.{extra_bounded, outside_yes, outside_no, found_now}
use Rattle.ps_cells.proofs.RegionsStay.{region_stays, region_found}
use Rattle.ps_cells.proofs.region.find_region.Goals as goal

pub mark-requires-clause-extra : goal.mark-requires-clause-extra
mark-requires-clause-extra c =
    extra_bounded c.requires.change.0 (state_at c.args.grid.now) c.requires.change.1 c.args.touched.now
    c.requires.change.2 c.requires.inside (listed c.args.index.now) c.requires.lists

pub mark-requires-clause-outside_yes : goal.mark-requires-clause-outside_yes
mark-requires-clause-outside_yes c = λ q out i.
    outside_yes c.requires.change.0 (state_at c.args.grid.now) c.requires.change.1 c.args.touched.now
    c.requires.change.2 c.requires.inside c.args.cyclic.now c.requires.change.3 q out i

pub mark-requires-clause-outside_no : goal.mark-requires-clause-outside_no
mark-requires-clause-outside_no c = λ q out cyc.
    outside_no c.requires.change.0 (state_at c.args.grid.now) c.requires.change.1 c.args.touched.now
    c.requires.change.2 c.requires.inside c.args.cyclic.now c.requires.change.3 q out cyc

pub returns-then-stays : goal.returns-then-stays
returns-then-stays c =
    let t = state_at c.args.grid.now in
    let r = c.requires.change in
    let is = c.if-stays.ensures refl in
    let found = region_stays r.0 t r.1 c.args.touched.now c.args.source.now c.args.region.now is.0 r.2 r.4 is.1 is.2
    is.3 is.4 in
    record {
      found = subst (λ (xs : List ℕ). IsFound (refers_to t) (formula_at t) xs c.args.region.now) (sym is.2) found;
      source = subst (λ (o : Option ℕ). IsRegionOf t o c.args.region.now) (sym is.1) found;
    }

pub returns : goal.returns
returns c =
    let t = state_at c.args.grid.now in
    let r = c.requires.change in
    let found = found_now r.0 t r.1 c.args.touched.now r.2 c.requires.inside c.mark.new.self c.mark.ensures.found in
    record {
      found = found;
      source = region_found t c.args.touched.now c.sole.result c.mark.new.self c.sole.ensures found;
    }
