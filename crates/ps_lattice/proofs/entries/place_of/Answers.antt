use Rattle.std.proofs.Common.{rules}
use Rattle.std.proofs.lemmas.List.Sorted.{answers_always}
use Rattle.ps_lattice.proofs.Places.{place_found, place_in_gap, rise_from}
use Rattle.ps_lattice.proofs.entries.place_of.Goals as goal

-- the key is where the search found it
pub returns-in-Ok : goal.returns-in-Ok
returns-in-Ok g c =
    place_found g.K.Ord.cmp g.met.K.Ord.total c.args.key c.args.entries.now c.args.from c.in-Ok.at c.requires.ascending
    c.requires.within c.in-Ok.ensures.bound
    (c.in-Ok.ensures.position (λ e. e.0) (answers_always _ _ _ (λ f a r h called. search rules)))

-- the key isn't there
pub returns-in-Err : goal.returns-in-Err
returns-in-Err g c =
    place_in_gap g.K.Ord.cmp g.met.K.Ord.total c.args.key c.args.entries.now c.args.from c.in-Err.at
    c.requires.within c.in-Err.ensures.bound
    (c.in-Err.ensures.position (λ e. e.0) (answers_always _ _ _ (λ f a r h called. search rules))
    (rise_from g.K.Ord.cmp g.met.K.Ord.total c.args.key c.args.entries.now c.args.from c.requires.ascending))
