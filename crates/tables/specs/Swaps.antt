-- Tables with two of their variables exchanged, or read as one.
use Rattle.std.specs.Prelude.{ℕ}
use Rattle.tables.specs.declared.Variable.{Variable}
use Rattle.tables.specs.Settings.{Setting, get, put}
use Rattle.tables.specs.Tables.{value, table_of}

-- x with the values of j and k exchanged
abbrev pub exchanged : Setting → Variable → Variable → Setting
exchanged x j k = put (put x j (get x k)) k (get x j)

-- f with variables j and k exchanged
unfoldable pub swapped : ℕ → Variable → Variable → ℕ
swapped f j k = table_of (λ x. value f (exchanged x j k))

-- f with variable k read as variable j
unfoldable pub joined : ℕ → Variable → Variable → ℕ
joined f j k = table_of (λ x. value f (put x k (get x j)))
