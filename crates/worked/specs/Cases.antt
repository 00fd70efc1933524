-- What the worked cases speak of.
use Rattle.std.specs.Prelude.{◌≡◌, ℕ, true, false, Ok}
use Rattle.classes.specs.declared.Ownership.{Ownership}
use Rattle.netlists.specs.declared.Node.{Node}
use Rattle.netlists.specs.Placing.{signal_of, no_signal, after_place, empty}

-- ---- a place call

abbrev node_a : Node
node_a = record { number = 1 }

abbrev node_b : Node
node_b = record { number = 2 }

-- the majority of a, not a and b is b, in every kind and with any places, and the network stays as it is
abbrev pub MajorityOfOpposites : Type 0
MajorityOfOpposites =
    (o : Ownership) (places : ℕ)
    → after_place o places (empty 2) 0xE8E8 (record { a = signal_of node_a false; b = signal_of node_a true; c = signal_of node_b false; d = no_signal })
    ≡ Ok (record { signal = signal_of node_b false; netlist = empty 2 })
