use Rattle.ps_lines.proofs.WordCounts.{corners_more}
use Rattle.ps_lines.proofs.command.read_corners.Goals as goal

pub returns-in_default-Some : goal.returns-in_default-Some
returns-in_default-Some c =
    rw (c.split_part.ensures.parts, c.in-Some.is, c.split_part-2.ensures.parts, c.in_default-Some.is-1)
    (corners_more c.split_part.result.0.now c.split_part-2.result.0.now c.in_default-Some.field-0-1.now)
