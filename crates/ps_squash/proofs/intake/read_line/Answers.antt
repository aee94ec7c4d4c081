use Rattle.std.proofs.Common.{rules, subst, sym, ◌∙◌}
use Rattle.std.proofs.lemmas.Bool.{false≢true}
use Rattle.std.specs.Prelude.{MatchOption}
use Rattle.ps_lines.specs.KeptLines.{LineSays, LineSaysNothing}
use Rattle.ps_squash.proofs.LineLemmas.{kept_read, other_says, other_says_none, push_says_none, silent_says}
use Rattle.ps_squash.proofs.intake.read_line.Goals as goal

pub returns-then-is_silent-clause-read : goal.returns-then-is_silent-clause-read
returns-then-is_silent-clause-read c = silent_says c.args.line.now (c.is_silent.ensures.0 c.if-is_silent.true)

pub returns-in_ok-decode-in-None-clause-read : goal.returns-in_ok-decode-in-None-clause-read
returns-in_ok-decode-in-None-clause-read c =
    let line = c.args.line.now in
    let nothing : LineSaysNothing line =
    subst (λ f. MatchOption f (LineSaysNothing line) (LineSays line)) c.in-None.is c.in_ok-said.ensures.says in
    (nothing.0, other_says line c.in_ok-decode-in-None.field-0 nothing.1 c.in_ok-decode-in-None.ensures.line)

pub returns-in_err-decode-in-None-clause-faulty : goal.returns-in_err-decode-in-None-clause-faulty
returns-in_err-decode-in-None-clause-faulty c = λ is.
    let line = c.args.line.now in
    let nothing : LineSaysNothing line =
    subst (λ f. MatchOption f (LineSaysNothing line) (LineSays line)) c.in-None.is c.in_ok-said.ensures.says in
    other_says_none line (λ silent. false≢true (sym c.if-is_silent.false ∙ c.is_silent.ensures.1 silent)) nothing.1
    (λ d there. search (rules, is, c.in_err-decode-in-None.ensures.read d there))

pub returns-in_default-clause-read : goal.returns-in_default-clause-read
returns-in_default-clause-read c =
    kept_read c.args.line.now c.in_ok-said.said c.in_default.not-None c.in_ok-said.ensures.says

pub returns-in_err-said-clause-faulty : goal.returns-in_err-said-clause-faulty
returns-in_err-said-clause-faulty c = λ is.
    let none = c.in_err-said.ensures.no_delta (search (rules, is)) in
    push_says_none c.args.line.now none.0 none.1
