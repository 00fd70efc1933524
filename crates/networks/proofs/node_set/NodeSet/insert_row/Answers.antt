use Rattle.tables.specs.declared.Variable.TheVariants.{V0, V1, V2, V3}
use Rattle.networks.proofs.node_set.NodeSet.insert_row.Goals as goal

pub insert-requires : goal.insert-requires
insert-requires c = c.requires V0

pub insert-requires-2 : goal.insert-requires-2
insert-requires-2 c = c.requires V1

pub insert-requires-3 : goal.insert-requires-3
insert-requires-3 c = c.requires V2

pub insert-requires-4 : goal.insert-requires-4
insert-requires-4 c = c.requires V3
