-- Literals and lines of a plan, and what they compute over the four signals.
use Rattle.std.specs.Prelude.{ℕ, ◌-◌, Bool, cond, List, [], ◌∷◌, map, Option, Some, None, slice_get}
use Rattle.std.specs.Option.{option_map}
use Rattle.reference.specs.declared.plans.Line.{Line}
use Rattle.reference.specs.declared.plans.Literal.{Literal}
use Rattle.reference.specs.declared.plans.Source.{Source}
use Rattle.reference.specs.declared.plans.Source.TheVariants.{False, Signal, Line as OfLine}
use Rattle.reference.specs.Classes.{inverted}
use Rattle.reference.specs.Tables.{bit, number, from_bits, table}

-- a literal, inverted once more where i is true
abbrev pub invert_if : Bool → Literal → Literal
invert_if i l = record { source = l.source; inverted = inverted i l.inverted }

-- ---- tables over the four signals, after the tables of some lines

-- constant false, the signal's own table, or the table of that line, if there is one
abbrev pub source_table : List ℕ → Source → Option ℕ
source_table answers False = Some 0
source_table answers (Signal v) = Some (table (λ x. bit x (number v)))
source_table answers (OfLine n) = slice_get answers n

abbrev pub literal_table : List ℕ → Literal → Option ℕ
literal_table answers l = option_map (λ f. cond l.inverted (65535 - f) f) (source_table answers l.source)

-- what is there, if each is
abbrev pub all_there : List (Option ℕ) → Option (List ℕ)
all_there [] = Some []
all_there (None ∷ rest) = None
all_there (Some f ∷ rest) = option_map (λ fs. f ∷ fs) (all_there rest)

-- at x, the value of a table at the setting of these tables' values at x
abbrev pub composed : ℕ → List ℕ → ℕ
composed f gs = table (λ x. bit f (from_bits (map (λ g. bit g x) gs)))

abbrev pub line_table : List ℕ → Line → Option ℕ
line_table answers line = option_map (composed line.table) (all_there (map (literal_table answers) line.literals))
