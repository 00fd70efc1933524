-- The codings keep their laws.
use Rattle.std.specs.Prelude.{◌≡◌, true, refl}
use Rattle.std.proofs.Common.{arith}
use Rattle.netlists.specs.declared.Row.{Row}
use Rattle.netlists.specs.Lawful.{LawfulRow}
use Rattle.classes.specs.Owned.{and_ownership, and_xor_ownership, majority_ownership, table_ownership}
use Rattle.codings.specs.Coders.{Lawful}
use Rattle.codings.specs.Codes.{and_tables, and_coder, and_xor_tables, and_xor_coder, majority_tables, majority_coder, every_coder}
use Rattle.codings.specs.Back.{near_lawful}
use Rattle.codings.specs.Owned.{and_owned, and_xor_owned, majority_owned}

pub and_lawful : Lawful 2 and_coder
and_lawful = near_lawful 2 and_tables (omega arith) (omega arith)

pub and_coded : (r : Row) → LawfulRow and_ownership 1024 r → and_coder.codes r ≡ true
and_coded = and_owned

pub and_xor_lawful : Lawful 2 and_xor_coder
and_xor_lawful = near_lawful 2 and_xor_tables (omega arith) (omega arith)

pub and_xor_coded : (r : Row) → LawfulRow and_xor_ownership 1024 r → and_xor_coder.codes r ≡ true
and_xor_coded = and_xor_owned

pub majority_lawful : Lawful 3 majority_coder
majority_lawful = near_lawful 3 majority_tables (omega arith) (omega arith)

pub majority_coded : (r : Row) → LawfulRow majority_ownership 1024 r → majority_coder.codes r ≡ true
majority_coded = majority_owned

pub every_lawful : Lawful 5 every_coder
every_lawful = record { least = omega arith; most = omega arith; wide = λ _. refl; back = λ _ _. refl }

pub every_coded : (r : Row) → LawfulRow table_ownership 1024 r → every_coder.codes r ≡ true
every_coded r l = refl
