use Rattle.std.proofs.Common.{◌≡◌, ◌≤◌, ◌<◌, ◌*◌, ◌/◌, ℕ, None, sym, subst, arith}
use Rattle.std.proofs.lemmas.Nat.{div-add-mod', mod_below}
use Rattle.ps_shown.specs.declared.blocks.TheConstants.{BLOCK}
use Rattle.ps_shown.specs.Faults.{fault_kept}
use Rattle.ps_shown.proofs.BlockLemmas.{to_floor}
use Rattle.ps_shown.proofs.FaultLemmas.{clean_on}
use Rattle.ps_shown.proofs.faults.place_of_fault.Goals as goal

pub fault_in_block-next-requires-clause-begins : goal.fault_in_block-next-requires-clause-begins
fault_in_block-next-requires-clause-begins c = to_floor c.search.next

pub fault_in_block-next-requires-clause-order : goal.fault_in_block-next-requires-clause-order
fault_in_block-next-requires-clause-order c =
    let whole = div-add-mod' c.search.next BLOCK in
    let rest = mod_below c.search.next BLOCK (omega arith) in
    omega (arith, whole, rest, c.min-end.ensures, c.search-test.true)

pub fault_in_block-next-requires-clause-ends : goal.fault_in_block-next-requires-clause-ends
fault_in_block-next-requires-clause-ends c = omega (arith, c.min-end.ensures)

pub returns-then-next-end : goal.returns-then-next-end
returns-then-next-end c =
    let found = c.fault_in_block-next.ensures in
    record {
      order = omega (arith, c.search.invariant.order, found.order);
      within = omega (arith, found.within, c.min-end.ensures);
      clean = clean_on c.args.kept.now c.args.from c.search.next c.min-end.result c.fault_in_block-next.result
          c.search.invariant.clean found;
      there = λ less. found.there (omega (arith, c.if-next-end.true));
    }

pub search-preserved : goal.search-preserved
search-preserved c =
    let found = c.fault_in_block-next.ensures in
    record {
      order = omega (arith, c.search.invariant.order, found.order);
      within = omega (arith, found.within, c.min-end.ensures);
      clean = clean_on c.args.kept.now c.args.from c.search.next c.min-end.result c.fault_in_block-next.result
          c.search.invariant.clean found;
    }

pub returns : goal.returns
returns c =
    let end : c.search.next ≡ c.args.to = omega (arith, c.search-test.false, c.search.invariant.within) in
    record {
      order = c.requires.order;
      within = omega arith;
      clean = subst (λ n. (j : ℕ) → c.args.from ≤ j → j < n → fault_kept c.args.kept.now j ≡ None) end
          c.search.invariant.clean;
      there = λ less. absurd (omega (arith, less));
    }

pub search-smaller : goal.search-smaller
search-smaller c =
    let whole = div-add-mod' c.search.next BLOCK in
    let rest = mod_below c.search.next BLOCK (omega arith) in
    omega (arith, whole, rest, c.min-end.ensures, c.search-test.true, c.if-next-end.false)
