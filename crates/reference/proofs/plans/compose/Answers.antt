use Rattle.std.proofs.Common.{rules}
use Rattle.reference.proofs.Bits.{is_table}
use Rattle.reference.proofs.plans.compose.Goals as goal

pub returns : goal.returns
returns c = is_table _ _ c.table_of.type_inv (λ x h. search (rules, c.table_of.ensures))
