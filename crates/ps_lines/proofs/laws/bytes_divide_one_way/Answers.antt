use Rattle.ps_lines.proofs.SplitLemmas.{divides_one_way}
use Rattle.ps_lines.proofs.laws.bytes_divide_one_way.Goals as goal

pub returns : goal.returns
returns c = divides_one_way
