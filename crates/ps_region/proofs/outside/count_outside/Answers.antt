use Rattle.std.proofs.Common.{◌≡◌, ℕ, ◌+◌, ◌<◌, ◌&&◌, true, false, [], arith, sym, ap, ◌∙◌, eqb, get_or, subst}
use Rattle.std.specs.List.{list_any}
use Rattle.std.proofs.lemmas.List.{get_or_read}
use Rattle.ps_grid.specs.Chains.{In}
use Rattle.ps_grid.specs.declared.size.TheConstants.{CELLS}
use Rattle.ps_region.specs.CellSets.{has_cell}
use Rattle.ps_region.specs.Inside.Counts.{cells_left, count_below, is_in}
use Rattle.ps_region.specs.Inside.LevelWalk.{is_pending}
use Rattle.ps_region.specs.Inside.Outside.{is_covered, is_outside}
use Rattle.ps_region.proofs.CellListLemmas.{in-get_or}
use Rattle.ps_region.proofs.CountLemmas.{count_below-le}
use Rattle.ps_region.proofs.OutsideCounts.{left_before, left_counted, left_passed, member_le, member_more, member_none}
use Rattle.ps_region.proofs.outside.count_outside.Goals as goal
use Rattle.ps_region.proofs.outside.count_outside.Goals.{then-has_formula, else-has_formula}

pub overflow_add-left : goal.overflow_add-left
overflow_add-left g c =
    let refers = g.A.After.refers c.args.change.now.after.now in
    let formula = g.A.After.formula c.args.change.now.after.now in
    let set = c.args.change.now.outside.now in
    let marks = c.args.marks.now in
    let members = c.args.members.now in
    let i = c.loop-c.c-index in
    let p = c.index.result in
    let at : p ≡ get_or members i 0 =
    c.index.ensures.index ∙ get_or_read members i c.c-item.result c.loop-c-test.true c.c-item.is 0 in
    let inside : In members p =
    subst (λ x. In members x) (sym at) (in-get_or members i 0 c.loop-c-test.true) in
    let on : get_or marks p false ≡ true = c.requires.marked.same p ∙ inside in
    let was = left_before (λ q. cells_left refers (is_pending formula (has_cell set) marks) [] CELLS q)
    (λ q. cells_left refers (is_pending formula (is_in []) marks) [] CELLS q) marks members c.loop-c.left i p at
    c.loop-c-test.true c.requires.marked.once c.loop-c.invariant on in
    let few = member_le refers formula set marks p in
    let more = count_below-le (λ d. is_covered c.rects.result.now d && is_outside set marks d) CELLS in
    omega (arith, was, few, more, c.count_covered.ensures)

pub loop-c-preserved : goal.loop-c-preserved
loop-c-preserved g c =
    let refers = g.A.After.refers c.args.change.now.after.now in
    let formula = g.A.After.formula c.args.change.now.after.now in
    let set = c.args.change.now.outside.now in
    let marks = c.args.marks.now in
    let members = c.args.members.now in
    let left = c.loop-c.left in
    let i = c.loop-c.c-index in
    let e = c.c-item.result in
    let is : e ≡ get_or members i 0 = get_or_read members i e c.loop-c-test.true c.c-item.is 0 in
    let inside : In members e = subst (λ x. In members x) (sym is) (in-get_or members i 0 c.loop-c-test.true) in
    elim c.if-has_formula.branch [
      | then-has_formula w ↦ λ q m.
          let p = w.index.result in
          let here : p ≡ e = w.index.ensures.index in
          let auto = c.loop-c.auto.left in
          rw w.left-is (left_counted
          (λ q. cells_left refers (is_pending formula (has_cell set) marks) [] CELLS q)
          (λ q. cells_left refers (is_pending formula (is_in []) marks) [] CELLS q)
          marks members left i p (here ∙ is) c.loop-c-test.true c.requires.marked.once c.loop-c.invariant
          w.count_covered.result (omega (arith, w.index.ensures.in_grid, auto, c.requires.left_length))
          (member_more refers formula set marks w.rects.result.now p
          (λ d lt. w.rects.ensures d lt ∙ ap (λ x. refers x d) (sym here))
          ∙ ap (λ n. cells_left refers (is_pending formula (is_in []) marks) [] CELLS p + n)
          (sym w.count_covered.ensures))
          q m)
      | else-has_formula w ↦ λ q m.
          rw w.left-is (left_passed
          (λ q. cells_left refers (is_pending formula (has_cell set) marks) [] CELLS q)
          (λ q. cells_left refers (is_pending formula (is_in []) marks) [] CELLS q)
          marks members left i e is c.loop-c-test.true c.requires.marked.once c.loop-c.invariant
          (member_none refers formula set marks e (g.met.A.After.refers_formula c.args.change.now.after.now e)
          (sym (c.requires.formula e inside) ∙ sym w.if-has_formula.ensures))
          q m)
    ]
