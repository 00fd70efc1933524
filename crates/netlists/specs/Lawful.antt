-- The rules for rows, for normal forms, and for what a network holds at every time.
use Rattle.std.specs.Prelude.{◌≡◌, ℕ, ◌+◌, ◌<◌, ◌≤◌, true, false, length, get_or, nat_lt, slice_index_or}
use Rattle.tables.specs.declared.Variable.{Variable}
use Rattle.tables.specs.Tables.{value, depends_on}
use Rattle.tables.specs.Bits.{inverted}
use Rattle.classes.specs.declared.Ownership.{Ownership}
use Rattle.classes.specs.Owned.{owns}
use Rattle.netlists.specs.declared.Row.{Row}
use Rattle.tables.specs.declared.per_variable.PerVariable.{PerVariable}
use Rattle.netlists.specs.declared.Signal.{Signal}
use Rattle.netlists.specs.declared.Form.{Form}
use Rattle.netlists.specs.Netlists.{Netlist, Assignment, row_under, fanins_under}
use Rattle.netlists.specs.Normal.{node_at, at_zero}
use Rattle.netlists.specs.Placing.{is_there, no_row, no_signal}

-- y is used only after x, and is greater
abbrev pub Follows : ℕ → ℕ → Type 0
Follows x y = 0 < y → (0 < x) × (x < y)

-- a table over the nodes that it depends on, ascending, false at index 0; the places after them hold node 0
pub record Normal (r : Row) : Type 0 where
  pub fits : r.table < 65536
  pub ascending_b : Follows r.nodes.a.number r.nodes.b.number
  pub ascending_c : Follows r.nodes.b.number r.nodes.c.number
  pub ascending_d : Follows r.nodes.c.number r.nodes.d.number
  pub exact : (v : Variable) → depends_on r.table v ≡ nat_lt 0 (node_at r v).number
  pub zero : at_zero r.table ≡ false

-- the form is f as a function of the nodes that the signals name, node 0 being false
pub record Means (f : ℕ) (s : PerVariable Signal) (g : Form) : Type 0 where
  pub lawful : Normal g.row
  pub means : (φ : Assignment) → φ 0 ≡ false → inverted g.inverted (row_under φ g.row) ≡ value f (fanins_under φ s)

-- g is the one form that f over the signals has
pub record FormOf (f : ℕ) (s : PerVariable Signal) (g : Form) : Type 0 where
  pub is : Means f s g
  pub only : (h : Form) → Means f s h → h ≡ g

-- a row of two or more nodes, all before node n, whose table is owned
pub record LawfulRow (o : Ownership) (n : ℕ) (r : Row) : Type 0 where
  pub shape : Normal r
  pub two : 0 < r.nodes.b.number
  pub earlier : (v : Variable) → (node_at r v).number < n
  pub owned : owns o r.table ≡ true

-- what holds of a network at every time
pub record Lawful (o : Ownership) (places : ℕ) (n : Netlist) : Type 0 where
  pub few_places : places ≤ 544
  pub few_inputs : n.inputs ≤ 32
  pub few_outputs : length n.outputs ≤ 32
  pub room : length n.rows ≤ places
  pub rows_lawful : (k : ℕ) → k < length n.rows → LawfulRow o (n.inputs + 1 + k) (slice_index_or n.rows k no_row)
  pub no_two_alike : (j k : ℕ) → j < length n.rows → k < length n.rows → slice_index_or n.rows j no_row ≡ slice_index_or n.rows k no_row → j ≡ k
  pub outputs_there : (k : ℕ) → k < length n.outputs → is_there n (get_or n.outputs k no_signal).node ≡ true
