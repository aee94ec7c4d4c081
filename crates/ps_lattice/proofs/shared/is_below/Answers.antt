use Rattle.std.proofs.Common.{refl, ap}
use Rattle.ps_lattice.specs.Inside.Shared.{items_of}
use Rattle.ps_lattice.proofs.Covering.{none_is_below}
use Rattle.ps_lattice.proofs.shared.is_below.Goals as goal

-- an empty list changes nothing
pub returns-in-Empty : goal.returns-in-Empty
returns-in-Empty g c = (
  λ _. none_is_below g.K.Ord.cmp g.X.Join.joined g.met.K.Ord.total g.met.K.Linear.no_ties
      (items_of c.args.theirs.now) (items_of c.args.mine.now) c.requires.theirs (ap items_of c.in-Empty.is),
  λ _. refl,
)
