-- The four variables, and settings of them.
use Rattle.std.specs.Prelude.{ℕ, ◌+◌, Bool, true, false, cond, List, [], ◌∷◌}
use Rattle.tables.specs.declared.Variable.{Variable}
use Rattle.tables.specs.declared.Variable.TheVariants.{V0, V1, V2, V3}

-- a value for each of the variables 0 to 3
pub record Setting : Type 0 where
  pub a : Bool
  pub b : Bool
  pub c : Bool
  pub d : Bool

-- what x gives to v
abbrev pub get : Setting → Variable → Bool
get x V0 = x.a
get x V1 = x.b
get x V2 = x.c
get x V3 = x.d

-- x with v fixed at t
abbrev pub put : Setting → Variable → Bool → Setting
put x V0 t = record { a = t; b = x.b; c = x.c; d = x.d }
put x V1 t = record { a = x.a; b = t; c = x.c; d = x.d }
put x V2 t = record { a = x.a; b = x.b; c = t; d = x.d }
put x V3 t = record { a = x.a; b = x.b; c = x.c; d = t }

-- the index of a table's bit: bit k of the index is variable k
abbrev pub index : Setting → ℕ
index x = cond x.a 1 0 + cond x.b 2 0 + cond x.c 4 0 + cond x.d 8 0

abbrev pub setting : Bool → Bool → Bool → Bool → Setting
setting d c b a = record { a = a; b = b; c = c; d = d }

-- the sixteen settings, by their index
abbrev pub settings : List Setting
settings =
    setting false false false false ∷ setting false false false true ∷ setting false false true false ∷ setting false false true true ∷
    setting false true false false ∷ setting false true false true ∷ setting false true true false ∷ setting false true true true ∷
    setting true false false false ∷ setting true false false true ∷ setting true false true false ∷ setting true false true true ∷
    setting true true false false ∷ setting true true false true ∷ setting true true true false ∷ setting true true true true ∷ []

-- the four variables, the lowest first
abbrev pub variables : List Variable
variables = V0 ∷ V1 ∷ V2 ∷ V3 ∷ []

-- the number of a variable
abbrev pub variable_number : Variable → ℕ
variable_number V0 = 0
variable_number V1 = 1
variable_number V2 = 2
variable_number V3 = 3

-- how far apart the two indices are that differ in v alone
abbrev pub span_of : Variable → ℕ
span_of V0 = 1
span_of V1 = 2
span_of V2 = 4
span_of V3 = 8

abbrev pub same_variable : Variable → Variable → Bool
same_variable V0 V0 = true
same_variable V0 V1 = false
same_variable V0 V2 = false
same_variable V0 V3 = false
same_variable V1 V0 = false
same_variable V1 V1 = true
same_variable V1 V2 = false
same_variable V1 V3 = false
same_variable V2 V0 = false
same_variable V2 V1 = false
same_variable V2 V2 = true
same_variable V2 V3 = false
same_variable V3 V0 = false
same_variable V3 V1 = false
same_variable V3 V2 = false
same_variable V3 V3 = true
