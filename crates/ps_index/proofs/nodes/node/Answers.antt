use Rattle.ps_index.proofs.KeysOnTheWay.{node_by_digits}
use Rattle.ps_index.proofs.nodes.node.Goals as goal

pub returns : goal.returns
returns c = node_by_digits c.args.row c.args.level c.requires.row c.requires.level
