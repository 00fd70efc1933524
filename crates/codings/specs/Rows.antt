-- The rows that a coding has to code, in whatever order their nodes stand.
use Rattle.std.specs.Prelude.{◌≡◌, ◌<◌, true, false, nat_lt}
use Rattle.tables.specs.declared.Variable.TheVariants.{V0, V1, V2, V3}
use Rattle.tables.specs.Settings.{setting}
use Rattle.tables.specs.Tables.{value, depends_on}
use Rattle.classes.specs.declared.Ownership.{Ownership}
use Rattle.classes.specs.Owned.{owns}
use Rattle.netlists.specs.declared.Row.{Row}
use Rattle.codings.specs.Coders.{Coder}

-- a row over two nodes or more, with all that it uses before those that it does not: its table depends on exactly those that it uses,
-- and is false at index 0
pub record Shaped (r : Row) : Type 0 where
  pub fits : r.table < 65536
  pub used_a : 0 < r.nodes.a.number
  pub used_b : 0 < r.nodes.b.number
  pub used_c : 0 < r.nodes.d.number → 0 < r.nodes.c.number
  pub exact_a : depends_on r.table V0 ≡ nat_lt 0 r.nodes.a.number
  pub exact_b : depends_on r.table V1 ≡ nat_lt 0 r.nodes.b.number
  pub exact_c : depends_on r.table V2 ≡ nat_lt 0 r.nodes.c.number
  pub exact_d : depends_on r.table V3 ≡ nat_lt 0 r.nodes.d.number
  pub zero : value r.table (setting false false false false) ≡ false

-- every node is below 1024
pub record Near (r : Row) : Type 0 where
  pub near_a : r.nodes.a.number < 1024
  pub near_b : r.nodes.b.number < 1024
  pub near_c : r.nodes.c.number < 1024
  pub near_d : r.nodes.d.number < 1024

-- a row whose table is of a class that a coding is for is coded
abbrev pub Codable : Ownership → Coder → Type 0
Codable o k = (r : Row) → Shaped r → Near r → owns o r.table ≡ true → k.codes r ≡ true
