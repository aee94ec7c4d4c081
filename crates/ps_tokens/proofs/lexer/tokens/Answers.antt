use Rattle.std.proofs.Common.{sym, ap, ◌∙◌}
use Rattle.ps_tokens.specs.Text.{is_blank}
use Rattle.ps_tokens.proofs.OneSpelling.{token_at-shorter, turn_blank, turn_end, turn_none, turn_token}
use Rattle.ps_tokens.proofs.lexer.tokens.Goals as goal

pub tokens-preserved-then-is_blank : goal.tokens-preserved-then-is_blank
tokens-preserved-then-is_blank c =
    turn_blank _ _ c.tokens.rest.now _ (sym c.is_empty.ensures ∙ c.tokens-test.true)
    (sym (c.is_blank.ensures ∙ ap is_blank c.byte_at.ensures) ∙ c.if-is_blank.true) c.from-rest.ensures
    c.tokens.invariant

pub returns-in_default-clause-only : goal.returns-in_default-clause-only
returns-in_default-clause-only c = λ ts spelled apart.
    absurd (turn_none _ _ c.tokens.rest.now (sym c.is_empty.ensures ∙ c.tokens-test.true)
    (sym (c.is_blank.ensures ∙ ap is_blank c.byte_at.ensures) ∙ c.if-is_blank.false)
    (sym c.in_default.ensures) c.tokens.invariant ts spelled apart)

pub returns-in_default-clause-formula : goal.returns-in_default-clause-formula
returns-in_default-clause-formula c = λ _ ts spelled apart.
    turn_none _ _ c.tokens.rest.now (sym c.is_empty.ensures ∙ c.tokens-test.true)
    (sym (c.is_blank.ensures ∙ ap is_blank c.byte_at.ensures) ∙ c.if-is_blank.false)
    (sym c.in_default.ensures) c.tokens.invariant ts spelled apart

pub tokens-smaller : goal.tokens-smaller
tokens-smaller c = token_at-shorter c.tokens.rest.now _ _ (sym c.in-Some.ensures)

pub tokens-preserved : goal.tokens-preserved
tokens-preserved c =
    turn_token _ _ _ c.tokens.rest.now _ _
    (sym (c.is_blank.ensures ∙ ap is_blank c.byte_at.ensures) ∙ c.if-is_blank.false)
    (sym c.in-Some.ensures) c.in_ok-push.ensures.items c.tokens.invariant

pub returns-clause-spelled : goal.returns-clause-spelled
returns-clause-spelled
    c = (turn_end _ _ c.tokens.rest.now (sym c.is_empty.ensures ∙ c.tokens-test.false) c.tokens.invariant).0

pub returns-clause-only : goal.returns-clause-only
returns-clause-only
    c = (turn_end _ _ c.tokens.rest.now (sym c.is_empty.ensures ∙ c.tokens-test.false) c.tokens.invariant).1
