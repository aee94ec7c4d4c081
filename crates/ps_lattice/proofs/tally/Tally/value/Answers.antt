use Rattle.std.proofs.Common.{ℕ, pos, ◌-ℤ◌, ap, ◌∙◌, arith, sum_by, w64, to_z}
use Rattle.std.specs.FinMap as map
use Rattle.std.specs.List.{list_all}
use Rattle.std.specs.Ordering.{nat_cmp}
use Rattle.std.proofs.lemmas.Int.{to_z_pos, to_z-of_z, ints}
use Rattle.ps_lattice.specs.declared.tally.Count.{Count}
use Rattle.ps_lattice.specs.Inside.Counts.{counts_in}
use Rattle.ps_lattice.specs.Tally.{is_count}
use Rattle.ps_lattice.proofs.Rising.{and_left}
use Rattle.ps_lattice.proofs.Views.{entries_of}
use Rattle.ps_lattice.proofs.tally.Tally.value.Goals as goal

pub returns : goal.returns
returns c =
    let es = counts_in c.self.inside.counts in
    let is =
    entries_of nat_cmp es (and_left (map.is_sorted nat_cmp es) (list_all is_count es) c.self.invariant)
    ∙ ap map.entries c.self.view_is in
    let p = c.totals-added.result.0 in
    let n = c.totals-added.result.1 in
    let added = to_z_pos w64 p (omega arith) in
    let subtracted = to_z_pos w64 n (omega arith) in
    to_z-of_z w64 (to_z w64 p -ℤ to_z w64 n) (rw (added, subtracted) (omega (arith, ints)))
    ∙ (λ i. added i -ℤ subtracted i)
    ∙ (λ i. pos ((c.totals-added.ensures.added ∙ ap (sum_by (λ (e : ℕ × Count). e.1.added)) is) i) -ℤ pos
    ((c.totals-added.ensures.subtracted ∙ ap (sum_by (λ (e : ℕ × Count). e.1.subtracted)) is) i))
