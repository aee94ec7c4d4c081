use Rattle.std.proofs.Common.{◌≡◌, ◌+◌, ◌-◌, ◌∙◌, take, drop, max, false, rules, sym, ap, arith}
use Rattle.ps_lattice.specs.Choice.{last_of}
use Rattle.ps_lattice.proofs.LastLemmas.{block_taken, block_passed}
use Rattle.ps_lattice.proofs.choice.last_by_blocks.Goals as goal
use Rattle.ps_lattice.proofs.choice.last_by_blocks.Goals.{then-not-are_apart, else-not-are_apart}

-- a block is taken in, or it has no pair of the replica
pub loop-i-preserved : goal.loop-i-preserved
loop-i-preserved c =
    let es = c.args.pairs.now in
    let r = c.args.replica in
    let i = c.loop-i.i in
    let last = c.loop-i.last in
    let more = c.loop-i-test.true in
    let size : (i + 16) - i ≡ 16 = omega arith in
    record {
      within = omega (arith, more);
      so_far = elim c.if-not-are_apart.branch [
        | then-not-are_apart w ↦
            let greater : w.max-last.result ≡ max last w.last_of.result = search rules in
            ap (λ m. max m (last_of r (drop (i + 16) es))) (w.last-is ∙ greater
            ∙ ap (max last) (w.last_of.ensures ∙ ap (λ n. last_of r (take n (drop i es))) size))
            ∙ block_taken r i 16 es last (last_of r es) c.loop-i.invariant.so_far
        | else-not-are_apart w ↦
            let apart = c.are_apart.ensures.0 w.if-not-are_apart.false in
            ap (λ m. max m (last_of r (drop (i + 16) es))) w.last-is
            ∙ ap (max last) (sym (block_passed es c.requires r i (i + 15) 16
            (record { option = 0; replica = 0; sequence = 0 }, false) (omega arith) (omega (arith, more)) apart.0 apart.1))
            ∙ c.loop-i.invariant.so_far
      ];
    }
