-- What an accepted place call means for the values of a netlist.
use Rattle.std.specs.Prelude.{◌≡◌, ℕ, Bool, true, List, length}
use Rattle.tables.specs.Tables.{value}
use Rattle.classes.specs.declared.Ownership.{Ownership}
use Rattle.netlists.specs.declared.Node.{Node}
use Rattle.tables.specs.declared.per_variable.PerVariable.{PerVariable}
use Rattle.netlists.specs.declared.Signal.{Signal}
use Rattle.netlists.specs.Netlists.{Netlist, held, node_values, signal_value, fanins_under}
use Rattle.netlists.specs.Placing.{Placing, is_there}
use Rattle.netlists.specs.Lawful.{Lawful}

-- every node of n is in m too, and has the same value for every setting of the inputs
pub record Extends (n m : Netlist) : Type 0 where
  pub same_inputs : m.inputs ≡ n.inputs
  pub same_outputs : m.outputs ≡ n.outputs
  pub same_values : (xs : List Bool) → length xs ≡ n.inputs → (x : Node) → is_there n x ≡ true
      → (is_there m x ≡ true) × (held (node_values m xs) x.number ≡ held (node_values n xs) x.number)

-- table f over four signals was placed: for every setting the answered signal has the value of f at the values of the signals
pub record Placed (o : Ownership) (places : ℕ) (n : Netlist) (f : ℕ) (s : PerVariable Signal) (p : Placing) : Type 0 where
  pub lawful : Lawful o places p.netlist
  pub kept : Extends n p.netlist
  pub there : is_there p.netlist p.signal.node ≡ true
  pub means : (xs : List Bool) → length xs ≡ n.inputs → signal_value p.netlist xs p.signal ≡ value f (fanins_under (held (node_values n xs)) s)
