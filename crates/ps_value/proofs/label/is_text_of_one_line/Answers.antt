use Rattle.std.proofs.Common.{rules}
use Rattle.ps_value.specs.Label.{is_label}
use Rattle.ps_value.proofs.label.is_text_of_one_line.Goals as goal

pub returns-then-is_all_printed : goal.returns-then-is_all_printed
unfolding is_label
returns-then-is_all_printed c = search rules

pub returns-else-is_all_printed : goal.returns-else-is_all_printed
unfolding is_label
returns-else-is_all_printed c = search rules
