use Rattle.std.proofs.Common.{arith}
use Rattle.std.proofs.lemmas.List.Sums.{sum_by-take-drop}
use Rattle.ps_lattice.specs.declared.tally.Count.{Count}
use Rattle.std.proofs.Common.{ℕ}
use Rattle.ps_lattice.proofs.TallyLemmas.{partial_fits, added_total_fits, subtracted_total_fits}
use Rattle.ps_lattice.proofs.counts.totals.Goals as goal

pub overflow_add-added : goal.overflow_add-added
overflow_add-added c =
    let total = added_total_fits c.args.counts.now c.requires in
    let part = partial_fits (λ (e : ℕ × Count). e.1.added) c.args.counts.now c.loop-count.count-index
    (0, record { added = 0; subtracted = 0 }) c.loop-count-test.true in
    let so_far = c.loop-count.invariant.added in
    omega arith

pub overflow_add-subtracted : goal.overflow_add-subtracted
overflow_add-subtracted c =
    let total = subtracted_total_fits c.args.counts.now c.requires in
    let part = partial_fits (λ (e : ℕ × Count). e.1.subtracted) c.args.counts.now c.loop-count.count-index
    (0, record { added = 0; subtracted = 0 }) c.loop-count-test.true in
    let so_far = c.loop-count.invariant.subtracted in
    omega arith

pub returns-clause-added_fits : goal.returns-clause-added_fits
returns-clause-added_fits c =
    let total = added_total_fits c.args.counts.now c.requires in
    let part = sum_by-take-drop (λ (e : ℕ × Count). e.1.added) c.args.counts.now c.loop-count.count-index in
    let so_far = c.loop-count.invariant.added in
    omega arith

pub returns-clause-subtracted_fits : goal.returns-clause-subtracted_fits
returns-clause-subtracted_fits c =
    let total = subtracted_total_fits c.args.counts.now c.requires in
    let part = sum_by-take-drop (λ (e : ℕ × Count). e.1.subtracted) c.args.counts.now c.loop-count.count-index in
    let so_far = c.loop-count.invariant.subtracted in
    omega arith
