use Rattle.networks.proofs.Sets.{none_within}
use Rattle.networks.proofs.node_set.NodeSet.none.Goals as goal

pub returns : goal.returns
returns c = none_within 577
