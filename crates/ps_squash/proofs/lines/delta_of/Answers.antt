use Rattle.std.proofs.Common.{◌≡◌, ◌∙◌, rules, subst, sym}
use Rattle.std.proofs.lemmas.List.{take_all}
use Rattle.ps_delta.specs.Deltas.{IsDelta}
use Rattle.ps_squash.proofs.lines.delta_of.Goals as goal

pub unwrap-requires : goal.unwrap-requires
unwrap-requires c =
    let all : c.loop-entry.cells.items ≡ c.args.entries.now =
    c.loop-entry.invariant ∙ take_all _ _ c.loop-entry-test.false in
    let delta : IsDelta c.loop-entry.cells.items = subst IsDelta (sym all) c.requires in
    search (rules, c.in_ok-delta.ensures.made, delta)
