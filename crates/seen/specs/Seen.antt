-- What the library answers, in the plain types of the reference.
use Rattle.std.specs.Prelude.{map}
use Rattle.tables.specs.declared.Variable.{Variable}
use Rattle.tables.specs.declared.Variable.TheVariants.{V0, V1, V2, V3}
use Rattle.tables.specs.Settings.{variables}
use Rattle.tables.specs.PerVariable.{at}
use Rattle.transforms.specs.Orders.{at as place}
use Rattle.transforms.specs.Images.{mask_at}
use Rattle.classifier.specs.declared.Class.{Class}
use Rattle.plan_lines.specs.declared.Line.{Line}
use Rattle.plan_lines.specs.declared.Literal.{Literal}
use Rattle.plan_lines.specs.declared.Source.{Source}
use Rattle.plan_lines.specs.declared.Source.TheVariants as source
use Rattle.classes.specs.declared.Ownership.{Ownership}
use Rattle.reference.specs.declared.classes.Class.{Class as PlainClass}
use Rattle.reference.specs.declared.classes.Owned.{Owned}
use Rattle.reference.specs.declared.plans.Line.{Line as PlainLine}
use Rattle.reference.specs.declared.plans.Literal.{Literal as PlainLiteral}
use Rattle.reference.specs.declared.plans.Source.{Source as PlainSource}
use Rattle.reference.specs.declared.plans.Source.TheVariants as plain
use Rattle.reference.specs.declared.tables.Variable.{Variable as PlainVariable}
use Rattle.reference.specs.declared.tables.Variable.TheVariants as named
use Rattle.reference.specs.Tables.{from_bits}

abbrev pub seen_variable : Variable → PlainVariable
seen_variable V0 = named.V0
seen_variable V1 = named.V1
seen_variable V2 = named.V2
seen_variable V3 = named.V3

-- the representative, and the transform: its output, its order and its mask
abbrev pub seen_class : Class → PlainClass
seen_class class = record {
  representative = class.representative;
  transform = record {
    output = class.transform.output;
    order = map (λ k. seen_variable (place class.transform.order k)) variables;
    mask = from_bits (map (mask_at class.transform.mask) variables);
  };
}

abbrev pub seen_source : Source → PlainSource
seen_source source.Constant = plain.False
seen_source (source.Input v) = plain.Signal (seen_variable v)
seen_source (source.Line n) = plain.Line n

abbrev pub seen_literal : Literal → PlainLiteral
seen_literal l = record { source = seen_source l.source; inverted = l.inverted }

-- the table, and a literal for each variable
abbrev pub seen_line : Line → PlainLine
seen_line l = record { table = l.table; literals = map (λ v. seen_literal (at l.literals v)) variables }

abbrev pub asked : Owned → Ownership
asked own = record { xor = own.xor; majority = own.majority; every = own.every }
