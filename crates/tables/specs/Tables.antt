-- A table is a number below 65536: bit i is its value at the setting of index i.
use Rattle.std.specs.Prelude.{ℕ, ◌+◌, ◌*◌, ◌%◌, ◌^◌, Bool, true, false, cond, not, map, Option, ◌==◌}
use Rattle.std.specs.List.{find}
use Rattle.tables.specs.declared.Variable.{Variable}
use Rattle.tables.specs.declared.Variable.TheVariants.{V0, V1, V2, V3}
use Rattle.tables.specs.Bits.{bit, from_bits}
use Rattle.tables.specs.Settings.{Setting, get, put, index, settings, variables, span_of}

-- the value of f at a setting
unfoldable pub value : ℕ → Setting → Bool
value f x = bit f (index x)

-- the table of a function of the four variables
unfoldable pub table_of : (Setting → Bool) → ℕ
table_of g = from_bits (map g settings)

-- the table of variable v
unfoldable pub variable : Variable → ℕ
variable v = table_of (λ x. get x v)

-- f inverted
unfoldable pub complement : ℕ → ℕ
complement f = table_of (λ x. not (value f x))

-- h where z is true, and l elsewhere
unfoldable pub chosen : ℕ → ℕ → ℕ → ℕ
chosen z h l = table_of (λ x. cond (value z x) (value h x) (value l x))

-- f with v fixed at t
unfoldable pub cofactor : ℕ → Variable → Bool → ℕ
cofactor f v t = table_of (λ x. value f (put x v t))

-- v is in the support of f: the two cofactors differ
unfoldable pub depends_on : ℕ → Variable → Bool
depends_on f v = not (cofactor f v false == cofactor f v true)

-- the lowest variable of the support
abbrev pub lowest : ℕ → Option Variable
lowest f = find (depends_on f) variables

-- how many variables the support has
unfoldable pub support_size : ℕ → ℕ
support_size f = cond (depends_on f V0) 1 0 + cond (depends_on f V1) 1 0 + cond (depends_on f V2) 1 0 + cond (depends_on f V3) 1 0

-- f with v inverted
unfoldable pub flipped : ℕ → Variable → ℕ
flipped f v = table_of (λ x. value f (put x v (not (get x v))))

-- f with each value at the index a span of v higher
abbrev pub moved_up : ℕ → Variable → ℕ
moved_up f v = (f * 2 ^ span_of v) % 65536

-- the table that is b everywhere
abbrev pub constant : Bool → ℕ
constant b = cond b 65535 0

-- f at four tables in the place of its variables
unfoldable pub composed : ℕ → ℕ → ℕ → ℕ → ℕ → ℕ
composed f p q r s = table_of (λ x. value f (record { a = value p x; b = value q x; c = value r x; d = value s x }))
