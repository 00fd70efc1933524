-- Bits of numbers.
use Rattle.std.specs.Prelude.{ℕ, ◌+◌, ◌*◌, ◌/◌, ◌%◌, ◌^◌, Bool, true, false, cond, not, List, [], ◌∷◌, ◌==◌}

-- bit i of n, counted from 0
unfoldable pub bit : ℕ → ℕ → Bool
bit n i = (n / 2 ^ i) % 2 == 1

-- the number whose bits these are, the lowest first
unfoldable pub from_bits : List Bool → ℕ
from_bits [] = 0
from_bits (b ∷ bs) = cond b 1 0 + 2 * from_bits bs

-- x, inverted where i is true
abbrev pub inverted : Bool → Bool → Bool
inverted true x = not x
inverted false x = x
