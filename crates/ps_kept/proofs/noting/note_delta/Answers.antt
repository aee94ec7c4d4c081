use Rattle.std.proofs.Common.{sym, subst, ◌∙◌}
use Rattle.ps_keep.specs.Lines.{IsLine}
use Rattle.ps_kept.proofs.NoteLemmas.{push_line-is_line}
use Rattle.ps_kept.proofs.noting.note_delta.Goals as goal

pub note-requires : goal.note-requires
note-requires g c =
    subst IsLine (sym (c.as_slice.ensures.value ∙ c.in-Ok.ensures.written)) (push_line-is_line c.args.delta.now)
