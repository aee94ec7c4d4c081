use Rattle.std.proofs.Common.{ap, refl, sym}
use Rattle.ps_peers.specs.Peers.{PeerView}
use Rattle.ps_peers.proofs.ExchangeLemmas.{takes_none}
use Rattle.ps_peers.proofs.peer.Peer.ask.Goals as goal

pub returns-then-not-self-clause-taken : goal.returns-then-not-self-clause-taken
returns-then-not-self-clause-taken g c = takes_none c.args.self.now.to_come c.args.self.now.to_come refl

pub returns-in-Err-clause-taken : goal.returns-in-Err-clause-taken
returns-in-Err-clause-taken g c = takes_none _ _ (ap (λ (v : PeerView). v.to_come) (sym c.self.view_is))
