-- The lists of the code are those that are computed.
use Rattle.std.proofs.Common.{sym, ap}
use Rattle.tables.specs.Bits.{bit, from_bits}
use Rattle.tables.specs.Tables.{value, table_of}
use Rattle.transforms.specs.Orders.{orders}
use Rattle.transforms.specs.Images.{image, images, transform_at}
use Rattle.classes.specs.declared.owned.NamedClass.{NamedClass}
use Rattle.classes.specs.Owned.{class_number}
use Rattle.classes.specs.Members.{tables_of}
use Rattle.classes.proofs.owned.NamedClass.tables.Goals as goal

pub returns-in-Conjunction : goal.returns-in-Conjunction
unfolding tables_of images transform_at orders image value table_of bit from_bits
returns-in-Conjunction c = ap (λ (k : NamedClass). tables_of (class_number k)) (sym c.in-Conjunction.is)

pub returns-in-ExclusiveOr : goal.returns-in-ExclusiveOr
unfolding tables_of images transform_at orders image value table_of bit from_bits
returns-in-ExclusiveOr c = ap (λ (k : NamedClass). tables_of (class_number k)) (sym c.in-ExclusiveOr.is)

pub returns-in-Majority : goal.returns-in-Majority
unfolding tables_of images transform_at orders image value table_of bit from_bits
returns-in-Majority c = ap (λ (k : NamedClass). tables_of (class_number k)) (sym c.in-Majority.is)
