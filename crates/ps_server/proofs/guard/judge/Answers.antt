use Rattle.std.proofs.Common.{inl, subst, ◌∙◌, ◌≡◌, ◌∷◌, ◌++◌, Bool, Some, true≢false, ap, sym, rules, false, true}
use Rattle.ps_server.specs.Guards.{begins_command, is_request_line}
use Rattle.ps_lines.specs.Words.{first_part}
use Rattle.ps_lines.specs.Feeding.{HasNoFeed}
use Rattle.ps_server.proofs.GuardLemmas.{command_goes_on, command_no_request, first_free, first_goes_on, first_is}
use Rattle.ps_server.proofs.GuardLemmas.{first_same, has_feed, is_longer}
use Rattle.ps_server.proofs.guard.judge.Goals as goal

pub returns-in-Some-clause-ended : goal.returns-in-Some-clause-ended
returns-in-Some-clause-ended c = λ line more free is.
    ap Some (c.is_request_line.ensures
    ∙ ap is_request_line (c.split_part.ensures.part ∙ ap (first_part 10) is ∙ first_is line more free))

pub returns-in-Some-clause-cause : goal.returns-in-Some-clause-cause
returns-in-Some-clause-cause c = λ yes.
    let line = c.split_part.result.0.now in
    let free : HasNoFeed line = subst HasNoFeed (sym c.split_part.ensures.part) (first_free c.args.front.now) in
    let is : is_request_line line ≡ true =
    sym c.is_request_line.ensures ∙ unwrapped c.is_request_line.result true yes in
    inl (line, c.in-Some.field-0.now, free, is, rw c.in-Some.is at c.split_part.ensures.whole)
  where
    unwrapped : (a b : Bool) → Some a ≡ Some b → a ≡ b
    unwrapped a b e = search (rules, e)

pub returns-in-Some-clause-request : goal.returns-in-Some-clause-request
returns-in-Some-clause-request c = λ rest request no.
    let line = request.0 in
    let after = c.in-Some.field-0.now in
    let whole : c.args.front.now ≡ c.split_part.result.0.now ++ 10 ∷ after =
    rw c.in-Some.is at c.split_part.ensures.whole in
    let same : first_part 10 (c.args.front.now ++ rest) ≡ first_part 10 c.args.front.now =
    ap (λ b. first_part 10 (b ++ rest)) whole ∙ first_same c.split_part.result.0.now after rest
    ∙ ap (first_part 10) (sym whole) in
    let first : c.split_part.result.0.now ≡ line =
    c.split_part.ensures.part ∙ sym same ∙ ap (first_part 10) request.4 ∙ first_is line request.1 request.2 in
    let is : c.is_request_line.result ≡ true =
    c.is_request_line.ensures ∙ ap is_request_line first ∙ request.3 in
    true≢false (sym is ∙ unwrapped c.is_request_line.result false no)
  where
    unwrapped : (a b : Bool) → Some a ≡ Some b → a ≡ b
    unwrapped a b e = search (rules, e)

pub returns-in-Some-clause-command : goal.returns-in-Some-clause-command
returns-in-Some-clause-command c = λ command free.
    absurd (has_feed c.split_part.result.0.now c.in-Some.field-0.now
    (subst HasNoFeed (rw c.in-Some.is at c.split_part.ensures.whole) free))

pub returns-then-begins_command-clause-ended : goal.returns-then-begins_command-clause-ended
returns-then-begins_command-clause-ended c = λ line more free is.
    absurd (is_longer c.args.front.now line more
    ((rw c.in-None.is at c.split_part.ensures.whole) ∙ c.split_part.ensures.part ∙ ap (first_part 10) is
    ∙ first_is line more free) is)

pub returns-then-begins_command-clause-request : goal.returns-then-begins_command-clause-request
returns-then-begins_command-clause-request c = λ rest request no.
    let front = c.args.front.now in
    let line = request.0 in
    let same : front ≡ first_part 10 front
    = (rw c.in-None.is at c.split_part.ensures.whole) ∙ c.split_part.ensures.part in
    let free : HasNoFeed front = subst HasNoFeed (sym same) (first_free front) in
    let whole : line ≡ front ++ first_part 10 rest
    = sym (ap (first_part 10) request.4 ∙ first_is line request.1 request.2) ∙ first_goes_on front rest free in
    let begins : begins_command front ≡ true = sym c.begins_command.ensures ∙ c.if-begins_command.true in
    command_no_request line
    (subst (λ l. begins_command l ≡ true) (sym whole) (command_goes_on front (first_part 10 rest) begins)) request.3

pub returns-then-front-ge-FRONT_LIMIT-clause-ended : goal.returns-then-front-ge-FRONT_LIMIT-clause-ended
returns-then-front-ge-FRONT_LIMIT-clause-ended c = λ line more free is.
    absurd (is_longer c.args.front.now line more
    ((rw c.in-None.is at c.split_part.ensures.whole) ∙ c.split_part.ensures.part ∙ ap (first_part 10) is
    ∙ first_is line more free) is)

pub returns-clause-ended : goal.returns-clause-ended
returns-clause-ended c = λ line more free is.
    absurd (is_longer c.args.front.now line more
    ((rw c.in-None.is at c.split_part.ensures.whole) ∙ c.split_part.ensures.part ∙ ap (first_part 10) is
    ∙ first_is line more free) is)
