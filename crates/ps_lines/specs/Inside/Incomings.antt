-- The reader of a source's lines, between two reads of one line.
use Rattle.std.specs.Prelude.{◌≡◌, ◌≤◌, ℕ, List, Option}
use Rattle.std.specs.Io.KnownBytes.{Consumes}
use Rattle.ps_device.specs.declared.device.Source.{Ghosts}
use Rattle.ps_lines.specs.Feeding.{HasNoFeed, kept}
use Rattle.ps_lines.specs.Incomings.{due, lines_left}
use Rattle.ps_lines.specs.declared.incoming.Incoming.{Incoming}

-- a part of the line was taken in, from the state `old` to the state `new`
pub record IsReading {S : Type 0} {G : Ghosts S} (remaining : S → Option (List ℕ)) (left failures : S → ℕ)
    (old new : Incoming S G) : Type 0 where
  pub part : List ℕ
  pub one : HasNoFeed part
  pub taken : Consumes (due remaining old) (due remaining new) part
  pub held : new.lines.pending ≡ kept part
  pub calm : failures new.source ≡ failures old.source
  pub falls : lines_left left new ≤ lines_left left old
