use Rattle.ps_session.proofs.ReplayLemmas.{transcript_is_decided}
use Rattle.ps_session.proofs.laws.transcript_is_decided.Goals as goal

pub returns : goal.returns
returns c = transcript_is_decided
