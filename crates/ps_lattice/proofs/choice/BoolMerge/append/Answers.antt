use Rattle.std.proofs.Common.{◌≡◌, ◌+◌, ◌-◌, ◌++◌, take, drop, sym, ap, ◌∙◌, arith}
use Rattle.std.proofs.Math.Seq.{take-add}
use Rattle.std.proofs.lemmas.List.{append_assoc}
use Rattle.ps_lattice.proofs.choice.BoolMerge.append.Goals as goal

-- one block more
pub loop-from-preserved : goal.loop-from-preserved
loop-from-preserved g c =
    let es = c.args.entries.now in
    let from = c.loop-from.from in
    let more = c.loop-from-test.true in
    let size : (from + 512) - from ≡ 512 = omega arith in
    record {
      within = omega (arith, more);
      so_far = c.in_ok-extend_from_slice.ensures.items
          ∙ ap (λ n. c.loop-from.list.items ++ take n (drop from es)) size
          ∙ ap (λ l. l ++ take 512 (drop from es)) c.loop-from.invariant.so_far
          ∙ append_assoc c.args.list.now.items (take from es) (take 512 (drop from es))
          ∙ ap (λ l. c.args.list.now.items ++ l) (sym (take-add from 512 es));
    }
