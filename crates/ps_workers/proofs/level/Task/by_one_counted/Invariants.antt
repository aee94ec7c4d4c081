use Rattle.std.proofs.Common.{◌≡◌, take}
use Rattle.ps_workers.specs.Level.{kept_values, values_of}
use Rattle.ps_workers.proofs.level.Task.by_one_counted.Given as goal

-- the cells so far are counted, and their values are there
abbrev pub invariant-loop-k : goal.invariant-loop-k
invariant-loop-k g l =
    (l.meter ≡ l.k)
    × (kept_values (take l.k l.out)
    ≡ values_of (g.F.Formulas.formula_at l.self.formulas.now) (g.K.Look.value_at l.self.look.now) (take l.k l.cells))
