use Rattle.ps_lines.proofs.VerbLemmas.{all_verbs}
use Rattle.ps_lines.proofs.verb.Verb.all.Goals as goal

pub returns : goal.returns
returns c = all_verbs
