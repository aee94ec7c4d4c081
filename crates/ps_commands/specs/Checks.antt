-- What `join --check` finds of two peers.
use Rattle.std.specs.Prelude.{◌≡◌, ℕ, List, [], ◌∷◌}
use Rattle.ps_peers.specs.Peers.{PeerView}
use Rattle.ps_peers.specs.declared.peer_pull.SyncFault.{SyncFault}
use Rattle.ps_step.specs.Steps.{IsCompared, WasAsked}
use Rattle.ps_commands.specs.Status.{sync_fault}
use Rattle.ps_commands.specs.declared.fault.ProgramFault.{ProgramFault}

-- two peers returned all that they hold up to these versions, and differ at these cells
abbrev pub AreCompared : ℕ → ℕ → List ℕ → Type 0
AreCompared from to cells = (from0 : PeerView) × (from1 : PeerView) × (to0 : PeerView) × (to1 : PeerView)
    × IsCompared from0 from1 to0 to1 from to cells

-- two peers were only asked for what they hold, and this fault ended it
pub record IsCheckFault (fault : ProgramFault) : Type 0 where
  pub cause : SyncFault
  pub from0 : PeerView
  pub from1 : PeerView
  pub to0 : PeerView
  pub to1 : PeerView
  pub is : fault ≡ sync_fault cause
  pub from_asked : WasAsked from0 from1
  pub to_asked : WasAsked to0 to1

-- the exit status: 0 where no cell differs
abbrev pub step_status : List ℕ → ℕ
step_status [] = 0
step_status (cell ∷ cells) = 3
