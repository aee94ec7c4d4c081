use Rattle.std.proofs.Common.{◌≡◌, ◌-◌, ℕ, ◌<◌, ◌≤◌, ◌∙◌, ap, arith, length, sym}
use Rattle.std.proofs.lemmas.List.{with_items_is}
use Rattle.ps_index.proofs.CountsWritten.{count_written, counts_length, counts_lowered, row_written}
use Rattle.ps_index.specs.Inside.Counts.{all_counts}
use Rattle.ps_index.proofs.counts.RowCounts.lower.Goals as goal

pub lower_from-requires : goal.lower_from-requires
lower_from-requires c = record {
  some = rw c.deref_mut.ensures.value (
      λ (j : ℕ) (from : c.args.row ≤ j) (to : j < length c.self.inside.ends.items).
      omega (
        arith,
        count_written c.self.inside.ends.items (length c.self.inside.ends.items - 1) j
            (omega (arith, c.self.invariant.1)) (omega arith),
        (rw (sym c.self.view_is) at c.requires.some) j from
            (omega (
              arith,
              counts_length c.self.inside.ends.items (length c.self.inside.ends.items - 1),
              c.self.invariant.1,
            )),
      ));
}

pub returns-clause-length : goal.returns-clause-length
returns-clause-length c =
    counts_length _ _ ∙ sym (counts_length c.self.inside.ends.items (length c.self.inside.ends.items - 1))
    ∙ ap length c.self.view_is

pub returns-clause-lowered : goal.returns-clause-lowered
returns-clause-lowered c =
    let last = length c.self.inside.ends.items - 1 in
    let same : length c.lower_from.new.ends ≡ c.self.inside.ends.len =
    c.lower_from.ensures.length ∙ c.deref_mut.ensures.len in
    let whole : length c.lower_from.new.ends ≡ length c.self.inside.ends.items =
    c.lower_from.ensures.length ∙ ap length c.deref_mut.ensures.value in
    let written : c.args.row ≤ last =
    row_written c.self.inside.ends.items last c.args.row (omega arith)
    (rw (sym c.self.view_is) at c.requires.there) in
    rw (sym c.self.view_is, with_items_is c.self.inside.ends c.lower_from.new.ends same, whole) (
    λ (j : ℕ) (within : j < length (all_counts c.self.inside.ends.items last)).
    counts_lowered _ _ last c.args.row written (omega (arith, c.self.invariant.1))
    (λ (i : ℕ) (le : i ≤ last). (rw c.deref_mut.ensures.value at c.lower_from.ensures.lowered) i
    (omega (arith, c.self.invariant.0, le))) j
    (omega (arith, counts_length c.self.inside.ends.items last, within)))
