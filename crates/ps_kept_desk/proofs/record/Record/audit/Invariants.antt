use Rattle.std.proofs.Common.{All, List, take}
use mathlib.Core.List.{IsPrefix}
use Rattle.ps_face.specs.declared.patch.Note.{Note}
use Rattle.ps_kept_desk.proofs.record.Record.audit.Given as goal

abbrev pub invariant-loop-kept : goal.invariant-loop-kept
invariant-loop-kept g l = All (λ (list : List Note). IsPrefix list l.self.kept) (take l.kept-index l.reported)
