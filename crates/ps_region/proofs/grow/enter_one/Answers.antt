use Rattle.std.proofs.Common.{◌≡◌, ◌<◌, ◌+◌, ◌&&◌, [], not, arith, length, sym, refl, ap, ◌∙◌}
use Rattle.ps_region.specs.Inside.Counts.{counted_in}
use Rattle.ps_region.proofs.CellListLemmas.{marked_below, now_in}
use Rattle.ps_region.proofs.GrowthCounts.{counted_yes, counted_no}
use Rattle.ps_region.proofs.TouchedLemmas.{not_not}
use Rattle.ps_region.proofs.grow.enter_one.Goals as goal

pub add_one-requires-clause-small : goal.add_one-requires-clause-small
add_one-requires-clause-small g c =
    let inside = now_in c.args.members.now.items c.enter.new.members.items c.args.e c.enter.ensures.members in
    let now = rw inside at (c.enter.ensures.counts c.args.e) in
    let small = c.requires.small in
    omega (arith, now, small)

pub returns-then-is_counted-clause-counts : goal.returns-then-is_counted-clause-counts
returns-then-is_counted-clause-counts g c = λ q.
    let e = c.args.e in
    let d = c.args.d in
    let inside = now_in c.args.members.now.items c.enter.new.members.items e c.enter.ensures.members in
    let below = marked_below c.enter.new.marks c.enter.new.members.items c.enter.ensures.marked e inside in
    let low : e < length c.enter.new.left =
    omega (arith, below, c.enter.auto.marks, c.enter.auto.left, c.requires.marks_length, c.requires.left_length) in
    rw c.add_one.ensures
    (counted_yes
    (λ x. g.A.After.formula c.args.change.now.after.now d && g.A.After.refers c.args.change.now.after.now x d) []
    (λ x. counted_in c.args.members.now.items c.args.left.now x) c.enter.new.members.items c.enter.new.left e
    (λ x. let n = counted_in c.args.members.now.items c.args.left.now x in
    let same : n ≡ n + 0 = omega arith in c.enter.ensures.counts x ∙ same)
    inside
    (sym (c.if-is_counted.ensures
    ∙ ap (λ b. b && g.A.After.refers c.args.change.now.after.now e d)
    (c.has_formula-counted.ensures ∙
    (ap not c.requires.formula ∙ not_not (g.A.After.formula c.args.change.now.after.now d)))))
    refl low q)

pub returns-else-is_counted-clause-counts : goal.returns-else-is_counted-clause-counts
returns-else-is_counted-clause-counts g c = λ q.
    let e = c.args.e in
    let d = c.args.d in
    counted_no (λ x. g.A.After.formula c.args.change.now.after.now d
    && g.A.After.refers c.args.change.now.after.now x d) []
    (λ x. counted_in c.args.members.now.items c.args.left.now x) c.enter.new.members.items c.enter.new.left e
    (λ x. let n = counted_in c.args.members.now.items c.args.left.now x in
    let same : n ≡ n + 0 = omega arith in c.enter.ensures.counts x ∙ same)
    (sym (c.if-is_counted.ensures
    ∙ ap (λ b. b && g.A.After.refers c.args.change.now.after.now e d)
    (c.has_formula-counted.ensures ∙
    (ap not c.requires.formula ∙ not_not (g.A.After.formula c.args.change.now.after.now d)))))
    q
