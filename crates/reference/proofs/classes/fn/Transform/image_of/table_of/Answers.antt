use Rattle.std.proofs.Common.{rules}
use Rattle.reference.proofs.Bits.{differ}
use Rattle.reference.proofs.classes.fn.Transform.image_of.table_of.Goals as goal

pub returns : goal.returns
returns c = search (rules, differ)
