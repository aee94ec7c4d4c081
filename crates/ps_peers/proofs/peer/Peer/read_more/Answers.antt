use Rattle.std.proofs.Common.{refl}
use Rattle.ps_peers.proofs.ExchangeLemmas.{takes_none}
use Rattle.ps_peers.proofs.peer.Peer.read_more.Goals as goal

pub returns-then-not-self-clause-taken : goal.returns-then-not-self-clause-taken
returns-then-not-self-clause-taken g c = takes_none c.args.self.now.to_come c.args.self.now.to_come refl
