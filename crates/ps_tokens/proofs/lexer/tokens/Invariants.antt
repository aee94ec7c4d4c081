use Rattle.std.proofs.Common.{length}
use Rattle.ps_tokens.proofs.OneSpelling.{IsLeft}
use Rattle.ps_tokens.proofs.lexer.tokens.Given as goal

-- the tokens found and the rest of the text make up the whole
abbrev pub invariant-tokens : goal.invariant-tokens
invariant-tokens l = IsLeft l.text l.found.items l.rest

abbrev pub decreases-tokens : goal.decreases-tokens
decreases-tokens l = length l.rest
