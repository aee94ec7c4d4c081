use Rattle.std.proofs.Common.{◌≡◌, ◌∙◌, filter, length, refl, subst, arith, ap}
use Rattle.ps_grid.specs.Chains.{In}
use Rattle.ps_delta.specs.State.{state_at}
use Rattle.ps_region.specs.Listed.{listed}
use Rattle.ps_shown.specs.Shown.{shown_at}
use Rattle.ps_cells.specs.Inside.Steps.{flag_at, ShowsAll, StepsLevel, values_at}
use Rattle.ps_cells.proofs.CyclicLists.{In-filtered}
use Rattle.ps_cells.proofs.LevelSteps.{level_stepped, few_due, sole}
use Rattle.ps_cells.proofs.level.Level.settle.Goals as goal

pub returns-in-len1-clause-settled : goal.returns-in-len1-clause-settled
returns-in-len1-clause-settled g c =
    subst
    (λ xs. StepsLevel (state_at c.args.inputs.now.grid.now) (listed c.args.inputs.now.index.now) xs
    c.args.step.now.is_last (shown_at c.args.shown.now.kept) (shown_at c.settle_one.new.shown.kept)
    (flag_at c.args.flags.now) (flag_at c.settle_one.new.flags) c.settle_one.result)
    (sole c.args.step.now.cells.now c.cell-item.result c.in-len1.len_at_least c.in-len1.len_below c.cell-item.is)
    c.settle_one.ensures.settled

pub make_places-requires : goal.make_places-requires
make_places-requires g c =
    let due = few_due (flag_at c.args.flags.now) c.args.step.now.cells.now in
    let is = ap length c.list_due.ensures.due in
    let count = c.len.ensures in
    let few = c.requires.few in
    let room = c.requires.room.1 in
    record { room = omega (arith, due, is, count, few, room) }

pub settle_due-requires-clause-formulas : goal.settle_due-requires-clause-formulas
settle_due-requires-clause-formulas g c κs within = λ q i.
    c.requires.formulas q
    (In-filtered (flag_at c.args.flags.now) c.args.step.now.cells.now q
    (subst (λ xs. In xs q) (c.deref.ensures.value ∙ c.list_due.ensures.due) i)).0

pub returns-clause-settled : goal.returns-clause-settled
returns-clause-settled g c =
    let t = state_at c.args.inputs.now.grid.now in
    let list = listed c.args.inputs.now.index.now in
    let flags = flag_at c.args.flags.now in
    let flags2 = flag_at c.settle_due.new.flags in
    let u = shown_at c.args.shown.now.kept in
    let u2 = shown_at c.settle_due.new.shown.kept in
    let cells = filter flags c.args.step.now.cells.now in
    let due : c.list_due.new.due.items ≡ cells = c.list_due.ensures.due in
    let shown : ShowsAll c.args.step.now.is_last list cells (values_at t u cells) u u2 flags flags2 =
    subst (λ xs. ShowsAll c.args.step.now.is_last list xs (values_at t u xs) u u2 flags flags2)
    (c.deref.ensures.value ∙ due) c.settle_due.ensures.shows in
    let count : length cells ≡ c.len-2.result =
    (let a = c.len-2.ensures in let b = ap length due in omega (arith, a, b)) in
    subst (λ n. StepsLevel t list c.args.step.now.cells.now c.args.step.now.is_last u u2 flags flags2 n) count
    (level_stepped t list c.args.step.now.cells.now c.args.step.now.is_last (values_at t u cells) u u2 flags flags2
    refl shown)
