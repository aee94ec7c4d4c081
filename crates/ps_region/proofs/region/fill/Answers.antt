use Rattle.std.proofs.Common.{◌≡◌, ◌∙◌, length, sym, arith, ⊎_elim}
use Rattle.std.proofs.lemmas.Bool.{cases_lt}
use Rattle.std.proofs.lemmas.List.{get_or_past}
use Rattle.ps_grid.specs.declared.size.TheConstants.{CELLS}
use Rattle.ps_region.proofs.region.fill.Goals as goal

pub returns-then-len-lt-CELLS-clause-same : goal.returns-then-len-lt-CELLS-clause-same
returns-then-len-lt-CELLS-clause-same g c = λ k.
    let old = c.args.table.now in
    let new = c.resize.new.self in
    let ok = c.resize.ensures.succeeds c.requires.room in
    let size = old.ok.0 in
    let long : length new.items ≡ CELLS =
    let l = rw ok at c.resize.ensures.len in let s = new.ok.0 in omega (arith, l, s) in
    ⊎_elim
    (λ within. ⊎_elim
    (λ below. c.resize.ensures.by_index.0 k c.args.value within (omega (arith, below, size)))
    (λ past. c.resize.ensures.by_index.1 k c.args.value ok (omega (arith, past, size)) within
    ∙ sym (get_or_past old.items k c.args.value past))
    (cases_lt k (length old.items)))
    (λ beyond. get_or_past new.items k c.args.value (omega (arith, beyond, long))
    ∙ sym (get_or_past old.items k c.args.value (omega (arith, beyond, c.requires.short))))
    (cases_lt k CELLS)
