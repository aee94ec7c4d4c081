use Rattle.std.proofs.Common.{◌≡◌, ◌+◌, List, length, take, sym, ap, subst, ◌∙◌, arith}
use Rattle.std.specs.Prelude.{slice_index_or}
use Rattle.ps_grid.specs.declared.size.TheConstants.{CELLS}
use Rattle.ps_value.specs.declared.value.Value.{Value}
use Rattle.ps_value.specs.declared.value.Value.TheVariants.{Empty}
use Rattle.ps_face.specs.Legal.{Shows, history_of}
use Rattle.ps_desk.proofs.Read.{length-shown, one_more, whole_same}
use Rattle.ps_desk.proofs.pass.copy_all.Goals.{in-Some, in_default}
use Rattle.ps_desk.proofs.pass.copy_all.Goals as goal

pub loop-index-preserved : goal.loop-index-preserved
loop-index-preserved g c =
    let h = history_of g.L.Named.opening c.args.seen.now.list in
    let all = c.args.seen.now.values in
    let i = c.loop-index.index in
    let Copied : List Value → Type 0 = λ vs. (length vs ≡ CELLS) × (take (i + 1) vs ≡ take (i + 1) all) in
    elim c.match-from_index.branch [
      | in-Some w ↦ subst Copied (sym w.values-is)
          (one_more all c.loop-index.values i w.at.result
          (omega (arith, c.loop-index-test.true, c.loop-index.auto.values))
          (length-shown h all c.requires.shows) c.loop-index.invariant
          (w.at.ensures.value ∙ ap (λ k. slice_index_or all k Empty) w.in-Some.ensures.1))
      | in_default w ↦ absurd (w.in_default.ensures
          (omega (arith, c.loop-index-test.true, c.loop-index.auto.values, c.loop-index.invariant.0)))
    ]

pub returns-clause-shows : goal.returns-clause-shows
returns-clause-shows g c =
    let h = history_of g.L.Named.opening c.args.seen.now.list in
    let all = c.args.seen.now.values in
    subst (Shows h) (sym (whole_same all c.loop-index.values c.loop-index.index
    (length-shown h all c.requires.shows)
    (omega (arith, c.loop-index-test.false, c.loop-index.auto.values)) c.loop-index.invariant)) c.requires.shows
