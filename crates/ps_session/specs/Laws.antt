-- Laws of sessions.
use Rattle.std.specs.Prelude.{◌≡◌, ℕ, List, Option}
use Rattle.ps_sheet.specs.Sheet.{IsSheet, SheetView}
use Rattle.ps_session.specs.Answers.{AmpleLines}
use Rattle.ps_session.specs.Transcript.{Transcribed}

-- two sheets have the same replica and the same history
pub record IsSameSheet (a b : SheetView) : Type 0 where
  pub replica : a.replica ≡ b.replica
  pub history : a.history ≡ b.history

-- LAW: if no reply is out of memory, the replica, the history and the bytes decide the replies and the history
-- afterwards
abbrev pub TranscriptIsDecided : Type 0
TranscriptIsDecided =
    (a b last end : SheetView) (read : List ℕ) (before after written contents : Option (List ℕ)) (n m : ℕ)
    → IsSheet a → IsSameSheet a b
    → (t : Transcribed AmpleLines a before read last after n)
    → (u : Transcribed AmpleLines b written read end contents m)
    → (t.text ≡ u.text) × IsSameSheet last end × (n ≡ m)
