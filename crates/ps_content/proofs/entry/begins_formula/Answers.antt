use Rattle.std.proofs.Common.{sym, ◌∙◌}
use Rattle.ps_content.proofs.EntryLemmas.{begins_formula-short, begins_formula-long}
use Rattle.ps_content.proofs.entry.begins_formula.Goals as goal

pub returns-then-starts_with : goal.returns-then-starts_with
returns-then-starts_with c = c.if-starts_with.true ∙ sym (begins_formula-short _ (sym c.if-starts_with.ensures.value))

pub returns-else-starts_with : goal.returns-else-starts_with
returns-else-starts_with c =
    c.starts_with-else-starts_with.ensures.value ∙ sym (begins_formula-long _ (sym c.if-starts_with.ensures.value))
