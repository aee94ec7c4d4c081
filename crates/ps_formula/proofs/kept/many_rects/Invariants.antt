use Rattle.std.proofs.Common.{◌≡◌, take}
use Rattle.std.specs.List.{flat_map}
use Rattle.ps_formula.specs.References.{rects_at}
use Rattle.ps_formula.proofs.kept.many_rects.Given as goal

abbrev pub invariant-tokens : goal.invariant-tokens
invariant-tokens l = l.rects.items ≡ flat_map rects_at (take l.token-index l.tokens)
