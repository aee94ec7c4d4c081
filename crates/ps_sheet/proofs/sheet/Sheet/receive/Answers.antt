use Rattle.std.proofs.Common.{◌≡◌}
use Rattle.ps_delta.specs.State.{joined_state}
use Rattle.ps_delta.specs.Deltas.{Entries, joined_history, state_of}
use Rattle.ps_delta.specs.declared.edit.Change.TheVariants.{Delta}
use Rattle.ps_sheet.specs.Sheet.{Takes}
use Rattle.ps_sheet.proofs.AcceptedRuns.{taken_joins}
use Rattle.ps_sheet.proofs.MadeChanges.{below_idle, below_made, delta_made}
use Rattle.ps_sheet.proofs.sheet.Sheet.receive.Goals as goal

pub returns-clause-taken : goal.returns-clause-taken
returns-clause-taken g c =
    let x = c.args.self.now in
    let y = c.change.new.self in
    delta_made x y (Delta c.args.delta) c.args.delta c.change.result
    (λ (d : Entries). Takes d x.history y.history) (λ e is. is) (λ r m. m.takes) c.change.ensures.made

pub returns-clause-joined : goal.returns-clause-joined
returns-clause-joined g c =
    let x = c.args.self.now in
    let y = c.change.new.self in
    delta_made x y (Delta c.args.delta) c.args.delta c.change.result
    (λ (d : Entries). joined_history y.history ≡ joined_state (joined_history x.history) (state_of d)) (λ e is. is)
    (λ r m. taken_joins m.delta x.history y.history m.takes) c.change.ensures.made

pub returns-clause-below : goal.returns-clause-below
returns-clause-below g c =
    let said = c.change.ensures in
    below_made c.args.self.now c.change.new.self (Delta c.args.delta) c.args.delta c.args.meter.now
    c.change.new.meter c.change.result (λ e is. is) (λ e never. never) (λ new. new) said.made said.metered said.refused
    said.asked

pub returns-clause-idle : goal.returns-clause-idle
returns-clause-idle g c =
    below_idle c.args.self.now c.change.new.self (Delta c.args.delta) c.args.delta c.change.result
    (λ e is. is) c.change.ensures.made
