use Rattle.std.proofs.Common.{◌≡◌, ◌++◌, ◌∷◌, [], is_ok, ap}
use Rattle.ps_delta.specs.State.{joined_state}
use Rattle.ps_delta.specs.Deltas.{Entries, joined_history, state_of}
use Rattle.ps_sheet.specs.Sheet.{Takes}
use Rattle.ps_sheet.proofs.AcceptedRuns.{taken_joins}
use Rattle.ps_sheet.proofs.MadeChanges.{edit_made}
use Rattle.ps_sheet.proofs.sheet.Sheet.edit.Goals as goal

pub returns-clause-made : goal.returns-clause-made
returns-clause-made g c =
    let x = c.args.self.now in
    let y = c.change.new.self in
    edit_made x y c.args.edit c.change.result (λ (d : Entries). y.history ≡ x.history ++ d ∷ [])
    (λ r m. m.appended (ap is_ok m.of)) c.change.ensures.made

pub returns-clause-taken : goal.returns-clause-taken
returns-clause-taken g c =
    let x = c.args.self.now in
    let y = c.change.new.self in
    edit_made x y c.args.edit c.change.result (λ (d : Entries). Takes d x.history y.history) (λ r m. m.takes)
    c.change.ensures.made

pub returns-clause-joined : goal.returns-clause-joined
returns-clause-joined g c =
    let x = c.args.self.now in
    let y = c.change.new.self in
    edit_made x y c.args.edit c.change.result
    (λ (d : Entries). joined_history y.history ≡ joined_state (joined_history x.history) (state_of d))
    (λ r m. taken_joins m.delta x.history y.history m.takes) c.change.ensures.made
