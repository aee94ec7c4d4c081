use Rattle.std.proofs.Common.{◌≡◌, ◌+◌, ◌-◌, ◌++◌, ap, sym, ◌∙◌, subst, take, drop, append-nil, arith}
use Rattle.ps_grid.specs.Rectangle.{cell_within}
use Rattle.ps_eval.specs.Summarized.{Summarizes}
use Rattle.ps_shown.specs.Shown.{KeepsCells, place_of}
use Rattle.ps_shown.specs.Sums.{items_kept}
use Rattle.ps_shown.specs.Blocks.{items_between}
use Rattle.ps_shown.proofs.BlockLemmas.{between_join, nothing_between}
use Rattle.ps_shown.proofs.RunLemmas.{below_fits, below_rows, column_is}
use Rattle.ps_shown.proofs.shown.Shown.column.Goals as goal

pub summary_between-requires-clause-within : goal.summary_between-requires-clause-within
summary_between-requires-clause-within c =
    let a = c.args.rect in
    let top : c.place-top.result ≡ place_of (cell_within a c.args.across 0) =
    c.place-top.ensures.place ∙ ap place_of c.at.ensures in
    let fits = below_fits a c.args.across c.args.below c.area.ensures.in_grid c.requires.across c.requires.below in
    omega (arith, top, fits, c.height.ensures.height)

pub returns : goal.returns
returns c =
    let a = c.args.rect in
    let kept = c.args.self.now in
    let from = c.place-top.result in
    let to = from + c.height.result in
    let end = to + c.args.below in
    let top : from ≡ place_of (cell_within a c.args.across 0) = c.place-top.ensures.place ∙ ap place_of c.at.ensures in
    let size : to - from ≡ a.height = omega (arith, c.height.ensures.height) in
    let keeps = subst KeepsCells c.self.view_is c.self.invariant.4 in
    let none = nothing_between kept to end (λ j low high. keeps j (below_rows a c.args.across c.args.below j
    c.area.ensures.in_grid c.requires.across c.requires.below (omega (arith, top, size, low))
    (omega (arith, top, size, high)))) in
    let short = sym (between_join kept from to end (omega arith) (omega arith))
    ∙ ap (λ ns. items_between kept from to ++ ns) none ∙ append-nil (items_between kept from to) in
    let all = (λ i. items_kept (take (size i) (drop (top i) kept)))
    ∙ column_is kept a c.args.across c.area.ensures.in_grid c.requires.across in
    let here = subst (λ ks. Summarizes (items_between ks from end) c.summary_between.result)
    (c.deref.ensures.value ∙ c.self.view_is) c.summary_between.ensures in
    subst (λ ns. Summarizes ns c.summary_between.result) (short ∙ all) here
