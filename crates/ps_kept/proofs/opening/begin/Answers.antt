use Rattle.std.proofs.Common.{sym, subst, ◌∙◌}
use Rattle.ps_keep.specs.Lines.{IsLine}
use Rattle.ps_kept.proofs.StartLemmas.{replica_line-is_line}
use Rattle.ps_kept.proofs.opening.begin.Goals as goal

pub note-requires : goal.note-requires
note-requires g c =
    subst IsLine (sym (c.as_slice.ensures.value ∙ c.in_ok-first.ensures))
    (replica_line-is_line c.args.replica c.ranges.replica.fits)
