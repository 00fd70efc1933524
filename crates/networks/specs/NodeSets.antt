-- What is in a set of nodes.
use Rattle.std.specs.Prelude.{◌≡◌, ℕ, Bool, false, List, slice_index_or}
use Rattle.netlists.specs.Copies.{has}
use Rattle.networks.specs.declared.node_set.NodeSet.{NodeSet}

-- the node of this number is in the set
abbrev pub within : NodeSet → ℕ → Bool
within s n = slice_index_or s.marks n false

-- the set holds the nodes of a list
abbrev pub Holds : NodeSet → List ℕ → Type 0
Holds s ws = (n : ℕ) → within s n ≡ has n ws
