-- Lines, what they read and what they compute.
use Rattle.std.specs.Prelude.{ℕ, suc, ◌<◌, Bool, false, cond, List, [], ◌∷◌, ◌++◌, slice_index_or}
use Rattle.tables.specs.declared.Variable.{Variable}
use Rattle.tables.specs.declared.Variable.TheVariants.{V0, V1, V2, V3}
use Rattle.tables.specs.declared.per_variable.PerVariable.{PerVariable}
use Rattle.tables.specs.PerVariable.{at}
use Rattle.tables.specs.Bits.{inverted}
use Rattle.tables.specs.Settings.{Setting, get}
use Rattle.tables.specs.Tables.{value, depends_on}
use Rattle.plan_lines.specs.declared.Source.{Source}
use Rattle.plan_lines.specs.declared.Source.TheVariants as source
use Rattle.plan_lines.specs.declared.Literal.{Literal}
use Rattle.plan_lines.specs.declared.Line.{Line}

-- ---- literals

abbrev pub constant_false : Literal
constant_false = record { source = source.Constant; inverted = false }

-- the answer of line n
abbrev pub nth : ℕ → Literal
nth n = record { source = source.Line n; inverted = false }

-- a literal, inverted once more where i is true
abbrev pub invert_if : Bool → Literal → Literal
invert_if i l = record { source = l.source; inverted = inverted i l.inverted }

-- ---- the forms of lines

abbrev pub and_table : ℕ
and_table = 0x8888

abbrev pub or_table : ℕ
or_table = 0xEEEE

abbrev pub xor_table : ℕ
xor_table = 0x6666

abbrev pub two_of : ℕ → Literal → Literal → Line
two_of f p q = record { table = f; literals = record { a = p; b = q; c = constant_false; d = constant_false } }

abbrev pub and_of : Literal → Literal → Line
and_of = two_of and_table

abbrev pub or_of : Literal → Literal → Line
or_of = two_of or_table

abbrev pub xor_of : Literal → Literal → Line
xor_of = two_of xor_table

-- what v stands for, or constant false where the table does not depend on v
abbrev pub used : ℕ → PerVariable Literal → Variable → Literal
used h bs v = cond (depends_on h v) (at bs v) constant_false

abbrev pub whole_of : ℕ → PerVariable Literal → Line
whole_of h bs = record { table = h; literals = record { a = used h bs V0; b = used h bs V1; c = used h bs V2; d = used h bs V3 } }

-- ---- what a line reads

-- a constant, an input, or one of the first n lines
abbrev pub SourceBefore : ℕ → Source → Type 0
SourceBefore n source.Constant = Unit {0}
SourceBefore n (source.Input v) = Unit {0}
SourceBefore n (source.Line i) = i < n

abbrev pub ReadsBefore : ℕ → Literal → Type 0
ReadsBefore n l = SourceBefore n l.source

-- line number n reads no line of its own number or a higher one
pub record ReadsEarlier (n : ℕ) (l : Line) : Type 0 where
  pub a : ReadsBefore n l.literals.a
  pub b : ReadsBefore n l.literals.b
  pub c : ReadsBefore n l.literals.c
  pub d : ReadsBefore n l.literals.d

-- so it is with each of these lines, the first of which has number n
abbrev pub EachReadsEarlier : ℕ → List Line → Type 0
EachReadsEarlier n [] = Unit {0}
EachReadsEarlier n (l ∷ ls) = ReadsEarlier n l × EachReadsEarlier (suc n) ls

-- ---- values, at a setting of the four signals and the answers of the lines so far

abbrev pub source_value : Setting → List Bool → Source → Bool
source_value y vs source.Constant = false
source_value y vs (source.Input v) = get y v
source_value y vs (source.Line n) = slice_index_or vs n false

abbrev pub literal_value : Setting → List Bool → Literal → Bool
literal_value y vs l = inverted l.inverted (source_value y vs l.source)

-- the setting that literals give
abbrev pub setting_by : Setting → List Bool → PerVariable Literal → Setting
setting_by y vs bs = record {
  a = literal_value y vs bs.a;
  b = literal_value y vs bs.b;
  c = literal_value y vs bs.c;
  d = literal_value y vs bs.d;
}

-- the setting that a line's table is read at
abbrev pub line_setting : Setting → List Bool → Line → Setting
line_setting y vs l = setting_by y vs l.literals

abbrev pub line_value : Setting → List Bool → Line → Bool
line_value y vs l = value l.table (line_setting y vs l)

-- the answers so far, and then of each line in order
abbrev pub answers : Setting → List Bool → List Line → List Bool
answers y vs [] = vs
answers y vs (l ∷ ls) = answers y (vs ++ line_value y vs l ∷ []) ls

-- the setting of the variables that stand for these literals
abbrev pub standing : Setting → PerVariable Literal → Setting
standing y bs = setting_by y [] bs
