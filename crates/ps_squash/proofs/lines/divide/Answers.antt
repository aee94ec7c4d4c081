use Rattle.std.proofs.Common.{◌+◌, ◌<◌, ◌≤◌, ◌∙◌, ap, arith, drop, length, map, subst, sym, All}
use Rattle.std.proofs.lemmas.Grind.{common_steps}
use Rattle.std.specs.List.{drop-map}
use Rattle.std.proofs.lemmas.List.Elements.{All-drop}
use Rattle.ps_delta.specs.Deltas.{IsDelta}
use Rattle.ps_wire.specs.Fits.{FitsLine}
use Rattle.ps_wire.specs.declared.TheConstants.{DELTA_LINE_LIMIT}
use Rattle.ps_squash.specs.Inside.{cell_size}
use Rattle.ps_squash.proofs.RoomLemmas.{IsCount, counted}
use Rattle.ps_squash.proofs.TextLemmas.{front_delta, written_none, written_step}
use Rattle.ps_squash.proofs.lines.divide.Goals as goal

pub lines-init : goal.lines-init
lines-init c = record {
  written = written_none _ _ c.requires.entries;
  sizes = c.requires.sizes;
  fit = c.requires.fit;
}

pub put_line-requires-clause-delta : goal.put_line-requires-clause-delta
put_line-requires-clause-delta c =
    let filled : 0 < length c.lines.left.now = grind (arith, common_steps, c.lines-test.ensures) in
    let n = c.count_with_room-count.result in
    let e = c.count_with_room-count.ensures in
    let k : IsCount n c.lines.left.now =
    counted n c.lines.left.now c.lines.left_sizes.now c.lines.invariant.sizes filled e.some e.within e.fits e.full in
    subst IsDelta (sym c.split_at.ensures.front) (front_delta _ _ _ _ n c.lines.invariant.written k.front)

pub put_line-requires-clause-fits : goal.put_line-requires-clause-fits
put_line-requires-clause-fits c =
    let filled : 0 < length c.lines.left.now = grind (arith, common_steps, c.lines-test.ensures) in
    let n = c.count_with_room-count.result in
    let e = c.count_with_room-count.ensures in
    let k : IsCount n c.lines.left.now =
    counted n c.lines.left.now c.lines.left_sizes.now c.lines.invariant.sizes filled e.some e.within e.fits e.full in
    subst FitsLine (sym c.split_at.ensures.front) k.fits

pub lines-preserved : goal.lines-preserved
lines-preserved c =
    let filled : 0 < length c.lines.left.now = grind (arith, common_steps, c.lines-test.ensures) in
    let n = c.count_with_room-count.result in
    let e = c.count_with_room-count.ensures in
    let k : IsCount n c.lines.left.now =
    counted n c.lines.left.now c.lines.left_sizes.now c.lines.invariant.sizes filled e.some e.within e.fits e.full in
    let back = c.split_at-in-lines.ensures.back in record {
      written = written_step _ _ _ _ n _ _ _ c.lines.invariant.written k c.split_at.ensures.front
          c.split_at.ensures.back c.in_ok-put_line.ensures.line c.in_ok-put_line.ensures.is_line;
      sizes = back ∙ ap (drop n) c.lines.invariant.sizes ∙ drop-map cell_size n c.lines.left.now
          ∙ ap (map cell_size) (sym c.split_at.ensures.back);
      fit = subst (All (λ m. m + 2 ≤ DELTA_LINE_LIMIT)) (sym back)
          (All-drop (λ m. m + 2 ≤ DELTA_LINE_LIMIT) n c.lines.left_sizes.now c.lines.invariant.fit);
    }
