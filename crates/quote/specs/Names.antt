-- Names of signals and of gates.
use Rattle.std.specs.Prelude.{ℕ, cond, ◌==◌}
use Rattle.tables.specs.declared.Variable.{Variable}
use Rattle.tables.specs.declared.Variable.TheVariants.{V0, V1, V2, V3}
use Rattle.quote.specs.declared.names.Operation.{Operation}
use Rattle.quote.specs.declared.names.Operation.TheVariants.{And, Or, Xor, Other}

-- the letters a to d
abbrev pub signal_name : Variable → ℕ
signal_name V0 = 97
signal_name V1 = 98
signal_name V2 = 99
signal_name V3 = 100

-- the operation of a table
abbrev pub operation_of : ℕ → Operation
operation_of f = cond (f == 0x8888) And (cond (f == 0xEEEE) Or (cond (f == 0x6666) Xor (Other f)))
