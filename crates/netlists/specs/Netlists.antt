-- Netlists and the values of their nodes.
use Rattle.std.specs.Prelude.{ℕ, Bool, false, List, [], ◌∷◌, ◌++◌, slice_index_or}
use Rattle.tables.specs.Bits.{inverted}
use Rattle.tables.specs.Settings.{Setting}
use Rattle.tables.specs.Tables.{value}
use Rattle.netlists.specs.declared.Signal.{Signal}
use Rattle.netlists.specs.declared.Row.{Row}
use Rattle.tables.specs.declared.per_variable.PerVariable.{PerVariable}

-- what a network holds
pub record Netlist : Type 0 where
  pub inputs : ℕ
  pub rows : List Row
  pub outputs : List Signal

-- ---- values under an assignment of a value to each node number; node 0 is false where that matters

abbrev pub Assignment : Type 0
Assignment = ℕ → Bool

abbrev pub signal_under : Assignment → Signal → Bool
signal_under φ s = inverted s.inverted (φ s.node.number)

-- the setting of a row's table at the values of its nodes
abbrev pub setting_under : Assignment → Row → Setting
setting_under φ r = record { a = φ r.nodes.a.number; b = φ r.nodes.b.number; c = φ r.nodes.c.number; d = φ r.nodes.d.number }

abbrev pub row_under : Assignment → Row → Bool
row_under φ r = value r.table (setting_under φ r)

-- the setting at the values of four signals
abbrev pub fanins_under : Assignment → PerVariable Signal → Setting
fanins_under φ s = record { a = signal_under φ s.a; b = signal_under φ s.b; c = signal_under φ s.c; d = signal_under φ s.d }

-- ---- values of a netlist's nodes, listed from node 0 on; a node that is not there counts as false

abbrev pub held : List Bool → Assignment
held vs n = slice_index_or vs n false

-- the values so far, and then of each row in order
abbrev pub values : List Bool → List Row → List Bool
values vs [] = vs
values vs (r ∷ rs) = values (vs ++ row_under (held vs) r ∷ []) rs

-- the values of all nodes where the inputs have the values xs
abbrev pub node_values : Netlist → List Bool → List Bool
node_values n xs = values (false ∷ xs) n.rows

abbrev pub signal_value : Netlist → List Bool → Signal → Bool
signal_value n xs s = signal_under (held (node_values n xs)) s
