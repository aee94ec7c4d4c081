use Rattle.std.proofs.Common.{◌≡◌, ◌+◌, ◌∙◌, ap, arith}
use Rattle.ps_grid.specs.Rectangle.{cell_within}
use Rattle.ps_shown.specs.Shown.{place_of}
use Rattle.ps_shown.proofs.BlockLemmas.{to_floor}
use Rattle.ps_shown.proofs.RunLemmas.{below_fits}
use Rattle.ps_shown.proofs.shown.Shown.remember_column.Goals as goal

pub remember_blocks-requires-clause-within : goal.remember_blocks-requires-clause-within
remember_blocks-requires-clause-within c =
    let a = c.args.rect in
    let top : c.place-top.result ≡ place_of (cell_within a c.args.across 0) =
    c.place-top.ensures.place ∙ ap place_of c.at.ensures in
    let fits = below_fits a c.args.across c.args.below c.area.ensures.in_grid c.requires.across c.requires.below in
    let floor = to_floor (c.place-top.result + c.height.result + c.args.below) in
    omega (arith, top, fits, floor, c.height.ensures.height)
