-- The classes that an ownership has: 15, which holds the AND of two variables, always; 4080, the exclusive-or of two; 831, the majority
-- of three; or all.
use Rattle.std.specs.Prelude.{ℕ, Bool, true, false, ◌&&◌, ◌||◌, ◌==◌}
use Rattle.transforms.specs.Images.{representative}
use Rattle.classes.specs.declared.Ownership.{Ownership}
use Rattle.classes.specs.declared.owned.NamedClass.{NamedClass}
use Rattle.classes.specs.declared.owned.NamedClass.TheVariants.{Conjunction, ExclusiveOr, Majority}

-- the representative of a class that has a name
abbrev pub class_number : NamedClass → ℕ
class_number Conjunction = 15
class_number ExclusiveOr = 4080
class_number Majority = 831

-- the class with this representative is owned
abbrev pub owns_class : Ownership → ℕ → Bool
owns_class o r = o.every || r == 15 || (o.xor && r == 4080) || (o.majority && r == 831)

-- the class of f is owned
unfoldable pub owns : Ownership → ℕ → Bool
owns o f = owns_class o (representative f)

-- ---- what each kind owns

abbrev pub and_ownership : Ownership
and_ownership = record { xor = false; majority = false; every = false }

abbrev pub and_xor_ownership : Ownership
and_xor_ownership = record { xor = true; majority = false; every = false }

abbrev pub majority_ownership : Ownership
majority_ownership = record { xor = false; majority = true; every = false }

abbrev pub table_ownership : Ownership
table_ownership = record { xor = true; majority = true; every = true }
