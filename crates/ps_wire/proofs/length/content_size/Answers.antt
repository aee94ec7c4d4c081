use Rattle.std.proofs.Common.{arith, ap, sym, ◌∙◌}
use Rattle.serde_json.specs.Data.{string}
use Rattle.ps_content.specs.Content.{canonical_text}
use Rattle.ps_wire.specs.Length.{size}
use Rattle.ps_wire.proofs.SizeLemmas.{size_of_choice, size_of_label, size_of_tally}
use Rattle.ps_wire.proofs.length.content_size.Goals as goal

pub returns-in-Text-clause-value : goal.returns-in-Text-clause-value
returns-in-Text-clause-value c =
    omega (
      arith,
      c.string_size-in-Text.ensures.value,
      ap (λ bytes. size (string bytes)) (c.bytes.ensures.bytes ∙ c.label.ensures),
      size_of_label c.in-Text.label,
      ap (λ content. size (string (canonical_text content))) c.in-Text.is,
    )

pub returns-in-Tally-clause-value : goal.returns-in-Tally-clause-value
returns-in-Tally-clause-value c =
    sym (ap (λ content. size (string (canonical_text content))) c.in-Tally.is ∙ size_of_tally)

pub returns-in-Choice-clause-value : goal.returns-in-Choice-clause-value
returns-in-Choice-clause-value c =
    sym (ap (λ content. size (string (canonical_text content))) c.in-Choice.is ∙ size_of_choice)
