use Rattle.std.specs.Prelude.{Some}
use Rattle.ps_index.specs.Stands.{Puts, Stands, with_put}
use Rattle.ps_index.proofs.FormulasStand.{on_ok}
use Rattle.checks_state.proofs.index.put_in.Goals as goal

pub returns : goal.returns
returns c = on_ok c.set.result
    ((forms : Puts) → Stands c.args.index.now forms
    → Stands c.set.new.self (with_put c.args.cell (Some c.args.formula.now) forms))
    ((forms : Puts) × Stands c.set.new.self forms)
    (λ f. (with_put c.args.cell (Some c.args.formula.now) c.requires.0, f c.requires.0 c.requires.1)) c.set.ensures.ok
