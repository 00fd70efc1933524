use Rattle.std.proofs.Common.{refl}
use Rattle.tables.specs.Bits.{bit, from_bits}
use Rattle.tables.specs.Tables.{value, table_of, complement, cofactor, depends_on, flipped}
use Rattle.tables.specs.Swaps.{swapped, joined}
use Rattle.transforms.specs.Orders.{orders}
use Rattle.transforms.specs.Images.{image, images, transform_at, representative, chosen_transform}
use Rattle.rules.specs.Rules.{top_rule, xor_in, rule_without_parts, rule_with_parts}
use Rattle.plans.specs.Plans.{write, plan_of}
use Rattle.netlists.specs.Normal.{entered, grounded, unified, trimmed, ordered, all_grounded, all_unified, all_trimmed, all_ordered, reduced, settled, normal}
use Rattle.netlists.specs.Placing.{place_form, after_place}
use Rattle.worked.proofs.worked_cases.Goals as goal

pub returns : goal.returns
unfolding representative images transform_at orders image value table_of bit from_bits complement cofactor depends_on chosen_transform top_rule xor_in rule_without_parts rule_with_parts write plan_of flipped swapped joined entered grounded unified trimmed ordered all_grounded all_unified all_trimmed all_ordered reduced settled normal place_form after_place
returns c = record { conjunction = refl; exclusive = refl; majority = refl; exclusive_lines = refl; opposites = λ o places. refl; majority_lines = refl }
