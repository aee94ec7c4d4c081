use Rattle.std.proofs.Common.{rules, ◌≡◌, ◌++◌, ◌∷◌, [], false}
use Rattle.std.specs.Prelude.{nat_eq}
use Rattle.std.specs.List.{ends_with}
use Rattle.ps_shorten.proofs.ShortenLemmas.{one_plain}
use Rattle.ps_shorten.proofs.in_place.plain_lines.Goals as goal

pub lines-preserved : goal.lines-preserved
lines-preserved c =
    let line = c.in-Some.line.now in
    let ends : ends_with nat_eq line (13 ∷ []) ≡ false = search rules in
    let more : c.extend_from_slice-in-Some.new.self.items ≡ (c.lines.plain.items ++ line) ++ 10 ∷ [] = search rules in
    one_plain c.args.bytes.now c.lines.left.now c.in-Some.rest.now line c.lines.plain.items
    c.extend_from_slice-in-Some.new.self.items c.lines.invariant c.in-Some.ensures.line ends more
