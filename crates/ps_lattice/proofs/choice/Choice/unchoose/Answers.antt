use Rattle.std.proofs.Common.{◌&&◌, sym, ap, ◌∙◌}
use Rattle.ps_lattice.specs.Choice.{joined_choices, is_added, is_removed}
use Rattle.ps_lattice.specs.Choice.{pair_cmp, is_pair}
use Rattle.std.specs.FinMap as map
use Rattle.std.specs.List.{list_all}
use Rattle.ps_lattice.proofs.Rising.{and_left, and_right, and_both}
use Rattle.ps_lattice.proofs.ChoiceLemmas.{kept, sorted_kept, all_kept, seen_withdrawn, added-joined, removed-joined}
use Rattle.ps_lattice.proofs.ChoiceLemmas.{withdrawn_is_fresh}
use Rattle.ps_lattice.proofs.choice.Choice.unchoose.Goals as goal

-- the delta's pairs ascend and are in range
pub invariant_of-result : goal.invariant_of-result
invariant_of-result c =
    let es = c.parts.result.now in
    let o = c.args.option in
    let well = c.parts.ensures.in_range in
    ap (λ l. map.is_sorted pair_cmp l && list_all is_pair l) (c.in_ok-pairs.ensures.ok ∙ c.in_ok-withdrawn.ensures)
    ∙ and_both (map.is_sorted pair_cmp (kept o es)) (list_all is_pair (kept o es))
    (sorted_kept o es (and_left (map.is_sorted pair_cmp es) (list_all is_pair es) well))
    (all_kept o es (and_right (map.is_sorted pair_cmp es) (list_all is_pair es) well))

pub returns-clause-ok : goal.returns-clause-ok
returns-clause-ok c =
    let es = c.parts.result.now in
    let sorted = and_left (map.is_sorted pair_cmp es) (list_all is_pair es) c.parts.ensures.in_range in
    ap (λ l. map.from_sorted {R = pair_cmp} l) (c.in_ok-pairs.ensures.ok ∙ c.in_ok-withdrawn.ensures)
    ∙ seen_withdrawn c.args.self.now c.args.option es sorted c.parts.ensures.value

pub returns-clause-added : goal.returns-clause-added
returns-clause-added c p r s =
    ap (λ d. is_added (joined_choices c.args.self.now d) p r s) (returns-clause-ok c)
    ∙ added-joined c.args.self.now c.args.option p r s

pub returns-clause-removed : goal.returns-clause-removed
returns-clause-removed c p r s =
    ap (λ d. is_removed (joined_choices c.args.self.now d) p r s) (returns-clause-ok c)
    ∙ removed-joined c.args.self.now c.args.option p r s

pub returns-clause-fresh : goal.returns-clause-fresh
returns-clause-fresh c same =
    withdrawn_is_fresh c.args.self.now c.args.option (sym c.is_chosen.ensures ∙ c.if-not-is_chosen.false)
    (ap (joined_choices c.args.self.now) (sym (returns-clause-ok c)) ∙ same)
