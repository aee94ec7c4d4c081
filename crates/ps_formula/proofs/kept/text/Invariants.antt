use Rattle.std.proofs.Common.{◌≡◌, ◌∷◌, take}
use Rattle.ps_tokens.specs.Text.{tokens_text}
use Rattle.ps_formula.proofs.kept.text.Given as goal

abbrev pub invariant-tokens : goal.invariant-tokens
invariant-tokens l = l.text.items ≡ 61 ∷ tokens_text (take l.token-index l.tokens)
