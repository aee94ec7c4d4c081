use Rattle.std.proofs.Common.{Err, Ok, ap, sym, subst, ◌∙◌}
use Rattle.std.proofs.lemmas.Bool.{false≢true}
use Rattle.ps_lines.specs.Inside.Kept.{SaysAsked}
use Rattle.ps_lines.specs.declared.command.Command.TheVariants as commands
use Rattle.ps_lines.proofs.KeptLineLemmas.{other_replica, other_verb, says_asked}
use Rattle.ps_lines.proofs.kept_line.read_kept_line.Goals as goal
use Rattle.ps_lines.proofs.kept_line.read_kept_line.Goals.{After-read}

pub returns-then-not-may_be_kept-clause-says : goal.returns-then-not-may_be_kept-clause-says
returns-then-not-may_be_kept-clause-says c =
    other_verb c.args.line.now (sym c.may_be_kept.ensures ∙ c.if-not-may_be_kept.true)

-- what a kept file's line says, by the command that was read
said : (c : After-read) → SaysAsked c.args.line.now c.read.result
said c =
    says_asked c.args.line.now c.read.result (sym c.may_be_kept.ensures ∙ c.if-not-may_be_kept.false)
    c.read.ensures.read

pub returns-in-Ok-Push-clause-says : goal.returns-in-Ok-Push-clause-says
returns-in-Ok-Push-clause-says c =
    subst (SaysAsked c.args.line.now) (c.in-Ok-Push.is ∙ ap Ok c.in-Ok-Push.field-0-is)
    (said (goal.at.returns-in-Ok-Push-clause-says c).After-read)

pub returns-else-is_replica_line-clause-says : goal.returns-else-is_replica_line-clause-says
returns-else-is_replica_line-clause-says c =
    let told = c.in-Ok-Replica-Some in
    let said = subst (SaysAsked c.args.line.now)
    (told.is ∙ ap Ok (told.field-0-is ∙ ap commands.Replica told.field-0-0-is))
    (said (goal.at.returns-else-is_replica_line-clause-says c).After-read) in (
      other_replica c.args.line.now told.replica said.1
          (λ same. false≢true (sym c.if-is_replica_line.false ∙ c.is_replica_line.ensures.1 same)),
      said.0,
    )

pub returns-in-Ok-Replica-None-clause-says : goal.returns-in-Ok-Replica-None-clause-says
returns-in-Ok-Replica-None-clause-says c =
    let told = c.in-Ok-Replica-None in
    subst (SaysAsked c.args.line.now) (told.is ∙ ap Ok (told.field-0-is ∙ ap commands.Replica told.field-0-0-is))
    (said (goal.at.returns-in-Ok-Replica-None-clause-says c).After-read)

pub returns-in-Err-Command-clause-says : goal.returns-in-Err-Command-clause-says
returns-in-Err-Command-clause-says c =
    subst (SaysAsked c.args.line.now) (c.in-Err-Command.is ∙ ap Err c.in-Err-Command.field-0-is)
    (said (goal.at.returns-in-Err-Command-clause-says c).After-read)

pub returns-in-Err-Replica-clause-says : goal.returns-in-Err-Replica-clause-says
returns-in-Err-Replica-clause-says c =
    subst (SaysAsked c.args.line.now) (c.in-Err-Replica.is ∙ ap Err c.in-Err-Replica.field-0-is)
    (said (goal.at.returns-in-Err-Replica-clause-says c).After-read)

pub returns-in-Err-Delta-clause-no_delta : goal.returns-in-Err-Delta-clause-no_delta
returns-in-Err-Delta-clause-no_delta c = λ _.
    subst (SaysAsked c.args.line.now) (c.in-Err-Delta.is ∙ ap Err c.in-Err-Delta.field-0-is)
    (said (goal.at.returns-in-Err-Delta-clause-no_delta c).After-read)

pub returns-in-Err-Memory-clause-memory : goal.returns-in-Err-Memory-clause-memory
returns-in-Err-Memory-clause-memory c = λ _.
    subst (SaysAsked c.args.line.now) (c.in-Err-Memory.is ∙ ap Err c.in-Err-Memory.field-0-is)
    (said (goal.at.returns-in-Err-Memory-clause-memory c).After-read)
