use Rattle.std.proofs.Common.{ap, ◌∙◌}
use Rattle.std.proofs.lemmas.Result.{IfOk-weaker}
use Rattle.ps_lattice.specs.Inside.Shared.{items_of}
use Rattle.ps_lattice.proofs.Covering.{none_is_below}
use Rattle.ps_lattice.proofs.Joining.{entries_same, entries_swapped}
use Rattle.ps_lattice.proofs.shared.joined.Goals as goal

-- the second list is empty
pub returns-in_default-Empty-clause-ok : goal.returns-in_default-Empty-clause-ok
returns-in_default-Empty-clause-ok g c =
    IfOk-weaker c.share.result _ _ (λ v is. is
    ∙ entries_same g.K.Ord.cmp g.X.Join.joined (items_of c.args.mine.now) (items_of c.args.theirs.now)
    c.requires.mine
    (none_is_below g.K.Ord.cmp g.X.Join.joined g.met.K.Ord.total g.met.K.Linear.no_ties
    (items_of c.args.mine.now) (items_of c.args.theirs.now) c.requires.mine (ap items_of c.in_default-Empty.is-1)))
    c.share.ensures.ok

-- the first one is
pub returns-in-Empty-default-clause-ok : goal.returns-in-Empty-default-clause-ok
returns-in-Empty-default-clause-ok g c =
    IfOk-weaker c.share-in-Empty-default.result _ _ (λ v is. is
    ∙ entries_swapped g.K.Ord.cmp g.X.Join.joined (items_of c.args.mine.now) (items_of c.args.theirs.now)
    g.met.K.Ord.total g.met.K.Linear.no_ties
    (record {
      associative = g.met.X.Join.associative;
      commutative = g.met.X.Join.commutative;
      idempotent = g.met.X.Join.idempotent;
    }) c.requires.theirs
    (none_is_below g.K.Ord.cmp g.X.Join.joined g.met.K.Ord.total g.met.K.Linear.no_ties
    (items_of c.args.theirs.now) (items_of c.args.mine.now) c.requires.theirs (ap items_of c.in-Empty-default.is-0)))
    c.share-in-Empty-default.ensures.ok
