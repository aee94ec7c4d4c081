use Rattle.std.proofs.Common.{◌≡◌, ℕ, true, false, drop, get_or}
use Rattle.ps_grid.specs.Chains.{In}
use Rattle.ps_region.proofs.members.clear.Given as goal

abbrev pub invariant-loop-c : goal.invariant-loop-c
invariant-loop-c l = record {
  marks : (q : ℕ) → get_or l.marks q false ≡ true → In (drop l.c-index l.c-items) q;
  fresh : (q : ℕ) → get_or l.fresh q false ≡ true → In (drop l.c-index l.c-items) q;
  plain : (q : ℕ) → get_or l.plain q false ≡ true → In (drop l.c-index l.c-items) q;
}
