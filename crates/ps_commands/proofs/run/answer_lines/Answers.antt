use Rattle.std.proofs.Common.{rules, ◌≡◌, ◌⊎◌, ◌∙◌, Err, ap, inl, inr, refl}
use Rattle.ps_grid.specs.declared.refusal.Refusal.TheVariants.{Device}
use Rattle.ps_session.specs.declared.transcript.RunFault.{RunFault}
use Rattle.ps_session.specs.declared.transcript.RunFault.TheVariants as sessions
use Rattle.ps_commands.specs.Status.{session_fault}
use Rattle.ps_commands.specs.declared.fault.ProgramFault.TheVariants.{Refused}
use Rattle.ps_commands.proofs.run.answer_lines.Goals as goal

-- a session ends the program with a device's fault only where a device failed, or its keeper
device_of : (f : RunFault) → Refused Device ≡ session_fault f
    → (f ≡ sessions.Source) ⊎ (f ≡ sessions.Sink) ⊎ (f ≡ sessions.Keep)
device_of sessions.Memory h = search (rules, h)
device_of sessions.Source h = inl refl
device_of sessions.Sink h = inr (inl refl)
device_of sessions.Keep h = inr (inr refl)

-- replies that aren't held back
whole_of : {A B : Type 0} → A ⊎ (⊥ × B) → A
whole_of (inl whole) = whole
whole_of (inr part) = absurd part.0

pub returns-in_err-done-clause-device : goal.returns-in_err-done-clause-device
returns-in_err-done-clause-device g c asked =
    let ran = c.converse-done.ensures in
    elim (device_of c.in_err-done.field-0.0 (rw asked at c.from_residual-in_err-done.ensures.1)) [
      | inl source ↦
          let is = c.in_err-done.was ∙ ap Err source in
          let told = ran.source is in (
            c.in_ok-sheet.sheet,
            c.converse-done.new.board,
            told.0,
            c.in_ok-sheet.ensures.opened,
            told.1,
            inl (ran.source_failed is, ran.source_flushed is, told.2),
          )
      | inr (inl sink) ↦
          let is = c.in_err-done.was ∙ ap Err sink in
          let told = ran.sink is in (
            c.in_ok-sheet.sheet,
            c.converse-done.new.board,
            told.0,
            c.in_ok-sheet.ensures.opened,
            told.1,
            inr (ran.sink_failed is, whole_of told.2),
          )
      | inr (inr keep) ↦ absurd (ran.keep (c.in_err-done.was ∙ ap Err keep)).0
    ]
