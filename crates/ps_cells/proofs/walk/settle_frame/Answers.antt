use Rattle.std.proofs.Common.{◌≡◌, ◌+◌, ◌∙◌, ◌<◌, ◌≤◌, [], length, nat_eq, refl, sym, subst, arith}
use Rattle.std.proofs.lemmas.Bool.{eqb-true}
use Rattle.ps_grid.specs.Chains.{In}
use Rattle.ps_grid.specs.declared.size.TheConstants.{CELLS}
use Rattle.ps_delta.specs.State.{state_at}
use Rattle.ps_region.specs.Found.{level_cells, level_count}
use Rattle.ps_region.specs.Listed.{listed}
use Rattle.ps_shown.specs.Shown.{shown_at}
use Rattle.ps_cells.specs.Inside.Steps.{flag_at, StepsLevels}
use Rattle.ps_cells.specs.Inside.Walk.{IsDue, IsPassed}
use Rattle.ps_cells.proofs.SettledValues.{formula_below}
use Rattle.ps_cells.proofs.CellCounts.{count_below_cells}
use Rattle.ps_cells.proofs.WalkSteps.{frame_none, frame_more, level_few, level_formula}
use Rattle.ps_cells.proofs.walk.settle_frame.Given.{Over}
use Rattle.ps_cells.proofs.walk.settle_frame.Goals as goal
use Rattle.ps_cells.proofs.walk.settle_frame.Goals.{After-slice_known-in-loop-before-1}

pub loop-before-init : goal.loop-before-init
loop-before-init g c = record {
  steps = frame_none (state_at c.args.inputs.now.grid.now) (listed c.args.inputs.now.index.now)
      (level_cells c.args.region.now)
      (level_count c.args.region.now) (shown_at c.args.shown.now.kept) (flag_at c.args.flags.now);
  before = refl;
  metered = omega arith;
  room = c.requires.room;
}

pub settle-requires-clause-formulas : goal.settle-requires-clause-formulas
settle-requires-clause-formulas g c κs within2 = λ q i.
    let lt = c.loop-before-test.true in
    let top = c.levels-levels.ensures in
    let within : c.loop-before.before + 1 ≤ level_count c.args.region.now = omega (arith, lt, top) in
    let some : 0 < c.loop-before.before + 1 = omega arith in
    level_formula (state_at c.args.inputs.now.grid.now) (listed c.args.inputs.now.index.now)
    (level_cells c.args.region.now)
    (level_count c.args.region.now) (shown_at c.args.shown.now.kept) (flag_at c.args.flags.now) c.requires.begun
    (c.loop-before.before + 1) some within q
    (subst (λ xs. In xs q) (c.level-cells.ensures.inside some within) i)

pub settle-requires-clause-room : goal.settle-requires-clause-room
settle-requires-clause-room g c κs within2 = c.loop-before.invariant.room

pub settle-requires-clause-few : goal.settle-requires-clause-few
settle-requires-clause-few g c κs within2 =
    let lt = c.loop-before-test.true in
    let top = c.levels-levels.ensures in
    let within : c.loop-before.before + 1 ≤ level_count c.args.region.now = omega (arith, lt, top) in
    let some : 0 < c.loop-before.before + 1 = omega arith in
    subst (λ xs. length xs ≤ CELLS) (sym (c.level-cells.ensures.inside some within))
    (level_few (state_at c.args.inputs.now.grid.now) (listed c.args.inputs.now.index.now)
    (level_cells c.args.region.now)
    (level_count c.args.region.now) (shown_at c.args.shown.now.kept) (flag_at c.args.flags.now) c.requires.begun
    (c.loop-before.before + 1) some within)

pub returns-clause-room : goal.returns-clause-room
returns-clause-room g c = c.loop-before.invariant.room

-- one level more
stepped : (g : Over) (c : After-slice_known-in-loop-before-1 g)
    → StepsLevels (state_at c.args.inputs.now.grid.now) (listed c.args.inputs.now.index.now)
    (level_cells c.args.region.now)
    (level_count c.args.region.now) (c.loop-before.before + 1 + 1) (shown_at c.args.shown.now.kept)
    (shown_at c.settle.new.shown.kept) (flag_at c.args.flags.now) (flag_at c.settle.new.flags)
    (c.loop-before.evaluated + c.settle.result)
stepped g c =
    let lt = c.loop-before-test.true in
    let top = c.levels-levels.ensures in
    let within : c.loop-before.before + 1 ≤ level_count c.args.region.now = omega (arith, lt, top) in
    let some : 0 < c.loop-before.before + 1 = omega arith in
    frame_more (state_at c.args.inputs.now.grid.now) (listed c.args.inputs.now.index.now)
    (level_cells c.args.region.now) (level_count c.args.region.now) (c.loop-before.before + 1) c.level-cells.result.now
    (nat_eq (c.loop-before.before + 1) c.levels-levels.result)
    (shown_at c.args.shown.now.kept)
    (shown_at c.loop-before.shown.kept) (shown_at c.settle.new.shown.kept) (flag_at c.args.flags.now)
    (flag_at c.loop-before.flags) (flag_at c.settle.new.flags) c.loop-before.evaluated c.settle.result
    c.loop-before.invariant.steps c.settle.ensures.settled some within
    (λ on. eqb-true (c.loop-before.before + 1) c.levels-levels.result on ∙ top)
    (sym (c.level-cells.ensures.inside some within))

pub overflow_add-evaluated : goal.overflow_add-evaluated
overflow_add-evaluated g c =
    let may = c.requires.begun in
    let w = stepped g c may.0 may.1 may.2 may.3 in
    let few : c.loop-before.evaluated + c.settle.result ≤ CELLS =
    count_below_cells
    (λ q. IsPassed (level_cells c.args.region.now) (c.loop-before.before + 1 + 1) [] q
    × IsDue (state_at c.args.inputs.now.grid.now) may.1 may.0 (shown_at c.settle.new.shown.kept) q)
    (c.loop-before.evaluated + c.settle.result)
    (λ q p. formula_below (state_at c.args.inputs.now.grid.now) may.2.change.after q (w.framed q p.0).1) w.counted in
    omega (arith, few)

pub loop-before-preserved : goal.loop-before-preserved
loop-before-preserved g c =
    let metered = c.loop-before.invariant.metered in
    let more = c.settle.ensures.metered in
    record {
      steps = stepped g c;
      before = c.settle.ensures.before ∙ c.loop-before.invariant.before;
      metered = omega (arith, metered, more);
      room = c.settle.ensures.room;
    }

pub returns-clause-settled : goal.returns-clause-settled
returns-clause-settled g c =
    let end = c.loop-before-test.false in
    let high = c.loop-before.auto.before-end in
    let top = c.levels-levels.ensures in
    let is : c.loop-before.before ≡ level_count c.args.region.now = omega (arith, end, high, top) in
    subst (λ n. StepsLevels (state_at c.args.inputs.now.grid.now) (listed c.args.inputs.now.index.now)
    (level_cells c.args.region.now) (level_count c.args.region.now) (n + 1) (shown_at c.args.shown.now.kept)
    (shown_at c.loop-before.shown.kept) (flag_at c.args.flags.now) (flag_at c.loop-before.flags)
    c.loop-before.evaluated) is c.loop-before.invariant.steps
