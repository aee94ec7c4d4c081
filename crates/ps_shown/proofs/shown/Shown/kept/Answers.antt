use Rattle.std.proofs.Common.{arith}
use Rattle.ps_shown.proofs.PlaceLemmas.{shown_at-read, shown_at-beyond}
use Rattle.ps_shown.proofs.shown.Shown.kept.Goals as goal

pub returns-then-place-len : goal.returns-then-place-len
returns-then-place-len c =
    let read = rw c.place-place.ensures.place at c.index.ensures in
    let within = rw (c.len.ensures, c.place-place.ensures.place) at c.if-place-len.true in
    let size = c.self.inside.kept.ok.0 in
    rw (← c.self.view_is)
    (shown_at-read _ c.args.cell _ c.place-place.ensures.in_grid (omega (arith, within, size)) read)

pub returns-else-place-len : goal.returns-else-place-len
returns-else-place-len c =
    let beyond = rw (c.len.ensures, c.place-place.ensures.place) at c.if-place-len.false in
    let size = c.self.inside.kept.ok.0 in
    rw (← c.self.view_is)
    (shown_at-beyond _ c.args.cell _ c.place-place.ensures.in_grid (omega (arith, beyond, size)) c.self.invariant.1)
