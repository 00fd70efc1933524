-- The tables of rows in normal form that kinds own: of the three classes, nine are such.
use Rattle.std.specs.Prelude.{◌≡◌, ℕ, Bool, true, false, cond, ◌||◌, Some, None, Option, ◌==◌}
use Rattle.tables.specs.declared.Variable.TheVariants.{V0, V1, V2, V3}
use Rattle.tables.specs.Settings.{setting}
use Rattle.tables.specs.Tables.{value, depends_on}
use Rattle.classes.specs.declared.Ownership.{Ownership}
use Rattle.classes.specs.declared.owned.NamedClass.{NamedClass}
use Rattle.classes.specs.declared.owned.NamedClass.TheVariants.{Conjunction, ExclusiveOr, Majority}

-- f is false at index 0, and its support is the first two, the first three or all four variables
pub record NormalTable (f : ℕ) : Type 0 where
  pub zero : value f (setting false false false false) ≡ false
  pub first : depends_on f V0 ≡ true
  pub second : depends_on f V1 ≡ true
  pub third : depends_on f V3 ≡ true → depends_on f V2 ≡ true

-- the AND of two variables, one of them inverted or none, or their OR
abbrev pub is_and : ℕ → Bool
is_and t = t == 0x8888 || t == 0x2222 || t == 0x4444 || t == 0xEEEE

-- the exclusive-or of two
abbrev pub is_xor : ℕ → Bool
is_xor t = t == 0x6666

-- the majority of three, one of them inverted or none
abbrev pub is_majority : ℕ → Bool
is_majority t = t == 0xE8E8 || t == 0xD4D4 || t == 0xB2B2 || t == 0x8E8E

-- the class of a table in normal form, if it has a name
abbrev pub normal_class : ℕ → Option NamedClass
normal_class f = cond (is_and f) (Some Conjunction) (cond (is_xor f) (Some ExclusiveOr) (cond (is_majority f) (Some Majority) None))

-- the class is owned
abbrev pub owns_named : Ownership → Option NamedClass → Bool
owns_named o (Some Conjunction) = true
owns_named o (Some ExclusiveOr) = o.every || o.xor
owns_named o (Some Majority) = o.every || o.majority
owns_named o None = o.every
