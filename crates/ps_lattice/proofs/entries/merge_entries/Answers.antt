use Rattle.std.proofs.Common.{ap, ◌∙◌}
use Rattle.std.proofs.lemmas.Result.{IfOk-weaker}
use Rattle.std.specs.FinMap as map
use Rattle.ps_lattice.specs.MapLaws.{maps_commutative}
use Rattle.ps_lattice.proofs.entries.merge_entries.Goals as goal

-- the second list joined with the first one is the first one joined with the second
pub returns-then-mine-theirs-clause-ok : goal.returns-then-mine-theirs-clause-ok
returns-then-mine-theirs-clause-ok g c =
    IfOk-weaker c.merge_few-then-mine-theirs.result _ _ (λ v is. is
    ∙ ap map.entries (maps_commutative g.K.Ord.cmp g.X.Join.joined g.met.K.Ord.total g.met.K.Linear.no_ties
    (record {
      associative = g.met.X.Join.associative;
      commutative = g.met.X.Join.commutative;
      idempotent = g.met.X.Join.idempotent;
    }) (map.from_sorted {R = g.K.Ord.cmp} c.args.theirs.now) (map.from_sorted {R = g.K.Ord.cmp} c.args.mine.now)))
    c.merge_few-then-mine-theirs.ensures.ok
