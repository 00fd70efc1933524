-- One thing for each variable.
use Rattle.tables.specs.declared.Variable.{Variable}
use Rattle.tables.specs.declared.Variable.TheVariants.{V0, V1, V2, V3}
use Rattle.tables.specs.declared.per_variable.PerVariable.{PerVariable}

-- what stands for a variable
abbrev pub at : {T : Type 0} → PerVariable T → Variable → T
at x V0 = x.a
at x V1 = x.b
at x V2 = x.c
at x V3 = x.d

-- x, with y for one variable
abbrev pub put : {T : Type 0} → PerVariable T → Variable → T → PerVariable T
put x V0 y = record { a = y; b = x.b; c = x.c; d = x.d }
put x V1 y = record { a = x.a; b = y; c = x.c; d = x.d }
put x V2 y = record { a = x.a; b = x.b; c = y; d = x.d }
put x V3 y = record { a = x.a; b = x.b; c = x.c; d = y }
