use Rattle.std.proofs.Common.{◌∙◌}
use Rattle.ps_value.proofs.LabelLemmas.{is_ok-utf8}
use Rattle.ps_value.proofs.label.is_text.Goals as goal

pub returns : goal.returns
returns c = c.is_ok.ensures.value ∙ is_ok-utf8 _ _ c.args.bytes.now _ c.from_utf8.ensures.cases
