use Rattle.std.proofs.Common.{◌≡◌, ◌-◌, ℕ, ◌<◌, ◌≤◌, ◌∙◌, ap, arith, length, sym}
use Rattle.std.proofs.lemmas.List.{with_items_is}
use Rattle.ps_index.specs.Inside.Counts.{all_counts}
use Rattle.ps_index.proofs.CountsWritten.{count_at, counts_length, counts_raised}
use Rattle.ps_index.proofs.counts.RowCounts.raise.Goals as goal

pub raise_from-requires : goal.raise_from-requires
raise_from-requires c = record {
  room = rw c.deref_mut.ensures.value (
      λ (j : ℕ) (from : c.args.row ≤ j) (to : j < length c.extend.new.ends.items).
      omega (
        arith,
        c.extend.ensures.extended j to,
        count_at c.self.inside.ends.items (length c.self.inside.ends.items - 1) j
            (omega (arith, c.extend.ensures.longer, c.self.invariant.1, to)),
        (rw (sym c.self.view_is) at c.requires.room) j
            (omega (
              arith,
              counts_length c.self.inside.ends.items (length c.self.inside.ends.items - 1),
              c.extend.ensures.longer,
              c.self.invariant.1,
              to,
            )),
      ));
}

pub returns-clause-length : goal.returns-clause-length
returns-clause-length c =
    counts_length _ _ ∙ sym (counts_length c.self.inside.ends.items (length c.self.inside.ends.items - 1))
    ∙ ap length c.self.view_is

pub returns-clause-raised : goal.returns-clause-raised
returns-clause-raised c =
    let last = length c.self.inside.ends.items - 1 in
    let last2 = length c.extend.new.ends.items - 1 in
    let same : length c.raise_from.new.ends ≡ c.extend.new.ends.len =
    c.raise_from.ensures.length ∙ c.deref_mut.ensures.len in
    let whole : length c.raise_from.new.ends ≡ length c.extend.new.ends.items =
    c.raise_from.ensures.length ∙ ap length c.deref_mut.ensures.value in
    rw (sym c.self.view_is, with_items_is c.extend.new.ends c.raise_from.new.ends same, whole) (
    λ (j : ℕ) (within : j < length (all_counts c.self.inside.ends.items last)).
    counts_raised c.self.inside.ends.items c.extend.new.ends.items c.raise_from.new.ends last last2 c.args.row
    (omega (arith, c.extend.ensures.longer)) (omega (arith, c.extend.ensures.longer))
    (omega (arith, c.extend.ensures.longer, c.self.invariant.1))
    (λ (i : ℕ) (le : i ≤ last2). c.extend.ensures.extended i
    (omega (arith, c.extend.ensures.longer, c.self.invariant.0, le)))
    (λ (i : ℕ) (le : i ≤ last2). (rw c.deref_mut.ensures.value at c.raise_from.ensures.raised) i
    (omega (arith, c.extend.ensures.longer, c.self.invariant.0, le))) j
    (omega (arith, counts_length c.self.inside.ends.items last, within)))
