use Rattle.std.proofs.Common.{◌∷◌, [], None, Some}
use Rattle.std.proofs.lemmas.Bool.Decides.{Decides-eqb}
use Rattle.std.proofs.lemmas.Slice.Eq.{strip_prefix_is}
use Rattle.ps_lines.proofs.WordLemmas.{after_space}
use Rattle.ps_lines.proofs.words.rest_after.Goals as goal

pub returns-in_err-strip_prefix : goal.returns-in_err-strip_prefix
returns-in_err-strip_prefix c =
    rw c.from_residual.ensures
    (λ rest. strip_prefix_is Decides-eqb c.args.text.now c.args.word.now None
    (rw c.as_bytes.ensures.value at c.in_err-strip_prefix.ensures.cases) (32 ∷ rest))

pub returns : goal.returns
returns c =
    after_space c.args.text.now c.args.word.now c.in_ok-strip_prefix.field-0.now c.strip_prefix-2.result
    (strip_prefix_is Decides-eqb c.args.text.now c.args.word.now (Some c.in_ok-strip_prefix.field-0)
    (rw c.as_bytes.ensures.value at c.in_ok-strip_prefix.ensures.cases))
    (strip_prefix_is Decides-eqb c.in_ok-strip_prefix.field-0.now (32 ∷ []) c.strip_prefix-2.result
    c.strip_prefix-2.ensures.cases)
