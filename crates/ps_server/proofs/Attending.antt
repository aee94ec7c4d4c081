-- The lines that a session at a desk answered, whatever it came to.
use Rattle.std.proofs.Common.{◌≡◌, ◌∙◌, sym, ap, subst, ℕ, List, [], ◌∷◌, ◌++◌, Option, append_assoc}
use Rattle.ps_delta.specs.Deltas.{Entries}
use Rattle.ps_session.specs.Keeping.{IsCovered}
use Rattle.ps_lines.specs.Streams.{Answering, Run}
use Rattle.ps_desk.specs.Passes.{PassView}
use Rattle.ps_desk.specs.Seats.{GoesOn, SeatLines}
use Rattle.ps_server.specs.Sessions.{IsAttended}

-- some lines were answered, one after another
abbrev pub Ran : {State : Type 0} → Answering State → State → State → Type 0
Ran Line first last = (lines : List (List ℕ)) × (text : List ℕ) × Run Line first lines text last

module _ {State : Type 0} (Line : Answering State) where
  -- more lines after them
  run_on : (first middle last : State) (lines more : List (List ℕ)) (text due : List ℕ)
      → Run Line first lines text middle → Run Line middle more due last
      → Run Line first (lines ++ more) (text ++ due) last
  run_on first middle last [] more text due run on =
      subst (λ t. Run Line first more (t ++ due) last) (sym run.0)
      (subst (λ s. Run Line s more due last) run.1 on)
  run_on first middle last (l ∷ lines) more text due run on = (
    run.0,
    run.1,
    run.2 ++ due,
    run.3,
    ap (λ t. t ++ due) run.4 ∙ append_assoc run.0 run.2 due,
    run_on run.1 middle last lines more run.2 due run.5 on,
  )

  -- .. all lines of a session
  pub ran_covered : (covers : State → Type 0) (ended : Type 0) (first last : State) (written contents : Option (List ℕ))
      (read waiting : List ℕ) → IsCovered Line covers ended first written read last contents waiting
      → Ran Line first last
  ran_covered covers ended first last written contents read waiting t =
      (_, _, run_on first t.state last t.lines t.others t.text t.due t.run t.since)

-- a session that began with a pass, and returned the pass that its lines made of it
pub attended : {r : ℕ} {h : List Entries} {seat last : PassView} (pass left : PassView) → seat ≡ pass → left ≡ last
    → GoesOn seat last → Ran (SeatLines r h) seat last → IsAttended r h pass left
attended {r} {h} {seat} {last} pass left entered given on answered = record {
  lines = answered.0;
  text = answered.1;
  run = subst (λ s. Run (SeatLines r h) s answered.0 answered.1 left) entered
      (subst (λ s. Run (SeatLines r h) seat answered.0 answered.1 s) (sym given) answered.2);
  goes_on = subst (λ s. GoesOn s left) entered (subst (λ s. GoesOn seat s) (sym given) on);
}

-- what is covered, for the pass that the session began with and the pass that it returned
pub covered_for_pass : {State : Type 0} (Line : Answering State) (covers : State → Type 0) (ended : Type 0)
    (seat last pass left : State) (written contents : Option (List ℕ)) (read waiting : List ℕ) → seat ≡ pass
    → left ≡ last → IsCovered Line covers ended seat written read last contents waiting
    → IsCovered Line covers ended pass written read left contents waiting
covered_for_pass Line covers ended seat last pass left written contents read waiting entered given is =
    subst (λ s. IsCovered Line covers ended s written read left contents waiting) entered
    (subst (λ s. IsCovered Line covers ended seat written read s contents waiting) (sym given) is)
