-- Tables by their bits: bit x of a table is its value at setting x.
use Rattle.std.specs.Prelude.{ℕ, zero, suc, ◌+◌, ◌-◌, ◌*◌, ◌/◌, ◌%◌, ◌^◌, Bool, true, false, cond, not, List, [], ◌∷◌, ◌==◌}
use Rattle.reference.specs.declared.tables.Variable.{Variable}
use Rattle.reference.specs.declared.tables.Variable.TheVariants.{V0, V1, V2, V3}

-- bit i of n
abbrev pub bit : ℕ → ℕ → Bool
bit n i = (n / 2 ^ i) % 2 == 1

-- the number of a variable
abbrev pub number : Variable → ℕ
number V0 = 0
number V1 = 1
number V2 = 2
number V3 = 3

-- the number with these bits, the lowest first
abbrev pub from_bits : List Bool → ℕ
from_bits [] = 0
from_bits (b ∷ bs) = cond b 1 0 + 2 * from_bits bs

-- the number whose bits below n are g's values
unfoldable pub table_below : ℕ → (ℕ → Bool) → ℕ
table_below zero g = 0
table_below (suc n) g = cond (g n) 1 0 * 2 ^ n + table_below n g

-- the table with these values
abbrev pub table : (ℕ → Bool) → ℕ
table g = table_below 16 g

-- the setting x, with a variable's bit set to b
abbrev pub put : ℕ → Variable → Bool → ℕ
put x v b = x - cond (bit x (number v)) 1 0 * 2 ^ number v + cond b 1 0 * 2 ^ number v

-- f with a variable fixed at b
abbrev pub fixed : ℕ → Variable → Bool → ℕ
fixed f v b = table (λ x. bit f (put x v b))

-- f depends on a variable: fixed at false and at true it differs
abbrev pub depends_on : ℕ → Variable → Bool
depends_on f v = not (fixed f v false == fixed f v true)
