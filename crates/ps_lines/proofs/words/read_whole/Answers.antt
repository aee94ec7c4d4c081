use Rattle.ps_lines.proofs.WordLemmas.{whole_number-read}
use Rattle.ps_lines.proofs.words.read_whole.Goals as goal

pub returns : goal.returns
returns c = whole_number-read c.args.word.now _ c.read_digits.ensures
