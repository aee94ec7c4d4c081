use Rattle.std.proofs.Common.{rules, ap, ◌∙◌}
use Rattle.std.proofs.lemmas.Result.{IfOk-weaker}
use Rattle.ps_lattice.specs.Inside.Shared.{items_of}
use Rattle.ps_lattice.proofs.Joining.{entries_at_key}
use Rattle.ps_lattice.proofs.shared.joined_filled.Goals as goal

-- both have one entry, of one key
pub returns-in-One-One-clause-ok : goal.returns-in-One-One-clause-ok
returns-in-One-One-clause-ok g c =
    IfOk-weaker c.joined_at_key.result _ _ (λ v is. is
    ∙ entries_at_key g.K.Ord.cmp g.X.Join.joined g.met.K.Ord.total g.met.K.Linear.no_ties
    (items_of c.args.mine.now) (items_of c.args.theirs.now) _ _
    (ap items_of c.in-One-One.is-0) (ap items_of c.in-One-One.is-1) (search rules))
    c.joined_at_key.ensures.ok
