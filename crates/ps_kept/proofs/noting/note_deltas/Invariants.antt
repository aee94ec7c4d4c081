use Rattle.std.proofs.Common.{◌≡◌, ◌+◌, take}
use Rattle.ps_kept.specs.Kept.{Notes}
use Rattle.ps_kept.proofs.noting.note_deltas.Given as goal

-- those before this one are noted, and counted
abbrev pub invariant-deltas : goal.invariant-deltas
invariant-deltas g l = record {
  counted : l.noted ≡ l.fn.noted + l.delta-index;
  noted : Notes l.fn.journal (take l.delta-index l.deltas) l.journal;
}
