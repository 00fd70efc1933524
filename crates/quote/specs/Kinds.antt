-- The classes that a kind owns besides class 15.
use Rattle.std.specs.Prelude.{true, false}
use Rattle.classes.specs.declared.Ownership.{Ownership}
use Rattle.quote.specs.declared.kinds.Kind.{Kind}
use Rattle.quote.specs.declared.kinds.Kind.TheVariants as kind

abbrev pub owns_of : Kind → Ownership
owns_of kind.And = record { xor = false; majority = false; every = false }
owns_of kind.AndXor = record { xor = true; majority = false; every = false }
owns_of kind.Majority = record { xor = false; majority = true; every = false }
owns_of kind.Table = record { xor = false; majority = false; every = true }
