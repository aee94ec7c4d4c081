use Rattle.std.proofs.Common.{◌∙◌}
use Rattle.std.proofs.lemmas.Result.{IfOk-weaker}
use Rattle.ps_lattice.specs.Inside.Shared.{items_of}
use Rattle.ps_lattice.proofs.Joining.{entries_same, entries_swapped}
use Rattle.ps_lattice.proofs.shared.merged.Goals as goal

-- the second list changes nothing in the first one
pub returns-then-is_below-clause-ok : goal.returns-then-is_below-clause-ok
returns-then-is_below-clause-ok g c =
    IfOk-weaker c.share.result _ _ (λ v is. is
    ∙ entries_same g.K.Ord.cmp g.X.Join.joined (items_of c.args.mine.now) (items_of c.args.theirs.now)
    c.requires.mine
    (rw (c.items.ensures, c.items-2.ensures) at (c.is_below.ensures.0 c.if-is_below.true))) c.share.ensures.ok

-- nor the first one in the second one
pub returns-then-is_below-2-clause-ok : goal.returns-then-is_below-2-clause-ok
returns-then-is_below-2-clause-ok g c =
    IfOk-weaker c.share-then-is_below-2.result _ _ (λ v is. is
    ∙ entries_swapped g.K.Ord.cmp g.X.Join.joined (items_of c.args.mine.now) (items_of c.args.theirs.now)
    g.met.K.Ord.total g.met.K.Linear.no_ties
    (record {
      associative = g.met.X.Join.associative;
      commutative = g.met.X.Join.commutative;
      idempotent = g.met.X.Join.idempotent;
    }) c.requires.theirs
    (rw (c.items-3.ensures, c.items-4.ensures) at (c.is_below-2.ensures.0 c.if-is_below-2.true)))
    c.share-then-is_below-2.ensures.ok
