-- The normal form of a table over four signals: a table over the nodes that it depends on, ascending, false at index 0.
use Rattle.std.specs.Prelude.{ℕ, Bool, false, cond, ◌&&◌, ◌||◌, ◌==◌, nat_lt}
use Rattle.tables.specs.declared.Variable.{Variable}
use Rattle.tables.specs.declared.Variable.TheVariants.{V0, V1, V2, V3}
use Rattle.tables.specs.Settings.{setting}
use Rattle.tables.specs.PerVariable.{at, put}
use Rattle.tables.specs.Tables.{value, complement, cofactor, depends_on, flipped}
use Rattle.tables.specs.Swaps.{swapped, joined}
use Rattle.netlists.specs.declared.Node.{Node}
use Rattle.netlists.specs.declared.Row.{Row}
use Rattle.tables.specs.declared.per_variable.PerVariable.{PerVariable}
use Rattle.netlists.specs.declared.Signal.{Signal}
use Rattle.netlists.specs.declared.Form.{Form}

-- node 0, which also stands at the places that a row does not use
abbrev pub none : Node
none = record { number = 0 }

-- the node that is variable v of a row's table
abbrev pub node_at : Row → Variable → Node
node_at r v = at r.nodes v

abbrev pub with_node : Row → Variable → Node → Row
with_node r v n = record { table = r.table; nodes = put r.nodes v n }

abbrev pub with_table : Row → ℕ → Row
with_table r f = record { table = f; nodes = r.nodes }

-- ---- the steps, each of which keeps the function of the nodes; between them the nodes stand in any order

-- f with variable v inverted where i is true
abbrev pub turned : ℕ → Variable → Bool → ℕ
turned f v i = cond i (flipped f v) f

-- the inversions of the signals go into the table
unfoldable pub entered : ℕ → PerVariable Signal → Row
entered f s = record {
  table = turned (turned (turned (turned f V0 s.a.inverted) V1 s.b.inverted) V2 s.c.inverted) V3 s.d.inverted;
  nodes = record { a = s.a.node; b = s.b.node; c = s.c.node; d = s.d.node };
}

-- node 0 is false: where v is node 0, v is fixed at false
unfoldable pub grounded : Row → Variable → Row
grounded r v = with_table r (cond ((node_at r v).number == 0) (cofactor r.table v false) r.table)

-- where j and k are one node, k is read as j and no longer used
unfoldable pub unified : Row → Variable → Variable → Row
unified r j k =
    with_node (with_table r (cond ((node_at r j).number == (node_at r k).number) (joined r.table j k) r.table))
    k (cond ((node_at r j).number == (node_at r k).number) none (node_at r k))

-- a node that the table does not depend on is no longer used
unfoldable pub trimmed : Row → Variable → Row
trimmed r v = with_node r v (cond (depends_on r.table v) (node_at r v) none)

-- m stands before n: it is used, and n is not used or greater
abbrev pub precedes : Node → Node → Bool
precedes m n = nat_lt 0 m.number && (n.number == 0 || nat_lt m.number n.number)

abbrev pub first : Node → Node → Node
first m n = cond (precedes n m) n m

abbrev pub second : Node → Node → Node
second m n = cond (precedes n m) m n

-- the nodes of j and k are exchanged, with the variables, where they stand in the wrong order
unfoldable pub ordered : Row → Variable → Variable → Row
ordered r j k =
    with_node (with_node (with_table r (cond (precedes (node_at r k) (node_at r j)) (swapped r.table j k) r.table))
    j (first (node_at r j) (node_at r k))) k (second (node_at r j) (node_at r k))

-- ---- the whole

unfoldable pub all_grounded : Row → Row
all_grounded r = grounded (grounded (grounded (grounded r V0) V1) V2) V3

unfoldable pub all_unified : Row → Row
all_unified r = unified (unified (unified (unified (unified (unified r V0 V1) V0 V2) V0 V3) V1 V2) V1 V3) V2 V3

unfoldable pub all_trimmed : Row → Row
all_trimmed r = trimmed (trimmed (trimmed (trimmed r V0) V1) V2) V3

unfoldable pub all_ordered : Row → Row
all_ordered r = ordered (ordered (ordered (ordered (ordered r V0 V1) V2 V3) V0 V2) V1 V3) V1 V2

-- f over the signals as a table over the nodes that it depends on, ascending, and then node 0
unfoldable pub reduced : ℕ → PerVariable Signal → Row
reduced f s = all_ordered (all_trimmed (all_unified (all_grounded (entered f s))))

-- the value where every variable is false
abbrev pub at_zero : ℕ → Bool
at_zero f = value f (setting false false false false)

-- a table that is true at index 0 is inverted, and so is the form
unfoldable pub settled : Row → Form
settled r = record { row = with_table r (cond (at_zero r.table) (complement r.table) r.table); inverted = at_zero r.table }

unfoldable pub normal : ℕ → PerVariable Signal → Form
normal f s = settled (reduced f s)
