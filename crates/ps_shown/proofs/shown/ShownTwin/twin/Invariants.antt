use Rattle.std.proofs.Common.{◌≡◌, ◌≤◌, take}
use Rattle.std.specs.Prelude.{vec_capacity}
use Rattle.ps_shown.specs.declared.shown.TheConstants.{PLACES}
use Rattle.ps_shown.proofs.shown.ShownTwin.twin.Given as goal

abbrev pub invariant-loop-one : goal.invariant-loop-one
invariant-loop-one l = record {
  copied : l.kept.items ≡ take l.one-index l.self;
  room : PLACES ≤ vec_capacity l.kept;
}
