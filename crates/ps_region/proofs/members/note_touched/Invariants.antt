use Rattle.std.proofs.Common.{◌≡◌, ℕ, false, not, ◌&&◌, take, get_or}
use Rattle.std.specs.List.{list_any}
use Rattle.std.specs.Prelude.{nat_eq}
use Rattle.ps_region.proofs.members.note_touched.Given as goal

abbrev pub invariant-loop-c : goal.invariant-loop-c
invariant-loop-c g l = record {
  fresh : (q : ℕ) → get_or l.fresh q false ≡ list_any (nat_eq q) (take l.c-index l.touched);
  plain : (q : ℕ) → get_or l.plain q false
      ≡ (list_any (nat_eq q) (take l.c-index l.touched) && not (g.A.After.formula l.after q));
}
