-- What a rule that is chosen says of the table that it writes: rules 2 to 6 are for two variables or more.
use Rattle.std.specs.Prelude.{◌≡◌, ℕ, ◌≤◌, true, false, not}
use Rattle.tables.specs.declared.Variable.{Variable}
use Rattle.tables.specs.Bits.{inverted}
use Rattle.tables.specs.Settings.{Setting, get}
use Rattle.tables.specs.Tables.{value, cofactor, complement, depends_on, support_size}
use Rattle.classes.specs.declared.Ownership.{Ownership}
use Rattle.classes.specs.Owned.{owns}
use Rattle.rules.specs.declared.Rule.{Rule}
use Rattle.rules.specs.declared.Rule.TheVariants.{Constant, Single, OneLine, Top, Xor, Shannon}
use Rattle.rules.specs.First.{constant_under}

-- v is in the support, and is not all of it
pub record Divides (h : ℕ) (v : Variable) : Type 0 where
  pub depends : depends_on h v ≡ true
  pub more : 2 ≤ support_size h

-- the table may be a line of its own, and has two variables at least
pub record Alone (own : Ownership) (h : ℕ) : Type 0 where
  pub owned : owns own h ≡ true
  pub more : 2 ≤ support_size h

abbrev pub Fits : Ownership → ℕ → Rule → Type 0
Fits own h (Constant b) = (x : Setting) → value h x ≡ b
Fits own h (Single v i) = (x : Setting) → value h x ≡ inverted i (get x v)
Fits own h (OneLine o) = Alone own h
Fits own h (Top g v s) = Divides h v × (cofactor h v (not s) ≡ constant_under g)
Fits own h (Xor v) = Divides h v × (cofactor h v false ≡ complement (cofactor h v true))
Fits own h (Shannon v) = Divides h v
