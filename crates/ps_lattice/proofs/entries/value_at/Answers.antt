use Rattle.std.proofs.Common.{rules, sym}
use Rattle.std.proofs.lemmas.List.Sorted.{answers_always}
use Rattle.ps_lattice.proofs.Rising.{find_at, find_in_gap, comparisons_rise}
use Rattle.ps_lattice.proofs.entries.value_at.Goals as goal

-- the key is where the search found it
pub returns-in-Ok : goal.returns-in-Ok
returns-in-Ok g c =
    let here = c.in-Ok.ensures.position (λ e. e.0) (answers_always _ _ _ (λ f a r h called. search rules)) in
    sym (find_at g.K.Ord.cmp g.met.K.Ord.total c.args.key c.args.entries.now c.requires c.in-Ok.at
    c.index-entries-at.result c.in-Ok.ensures.bound (here c.index-entries-at.result))

-- the key isn't there
pub returns-in-Err : goal.returns-in-Err
returns-in-Err g c =
    let rise = comparisons_rise g.K.Ord.cmp g.met.K.Ord.total c.args.key c.args.entries.now c.requires in
    let parted = c.in-Err.ensures.position (λ e. e.0) (answers_always _ _ _ (λ f a r h called. search rules)) rise in
    sym (find_in_gap g.K.Ord.cmp g.met.K.Ord.total c.args.key c.args.entries.now c.in-Err.field-0 parted.0 parted.1)
