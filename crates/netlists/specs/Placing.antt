-- What the calls of a network do to its netlist, and when they are refused.
use Rattle.std.specs.Prelude.{ℕ, suc, ◌+◌, Bool, true, false, ◌&&◌, List, [], ◌∷◌, ◌++◌, length, Ok, Err, Result, ◌==◌, nat_le, nat_lt, slice_index_or}
use Rattle.classes.specs.declared.Ownership.{Ownership}
use Rattle.classes.specs.Owned.{owns}
use Rattle.netlists.specs.declared.Node.{Node}
use Rattle.netlists.specs.declared.Signal.{Signal}
use Rattle.netlists.specs.declared.Row.{Row}
use Rattle.tables.specs.declared.per_variable.PerVariable.{PerVariable}
use Rattle.netlists.specs.declared.Form.{Form}
use Rattle.netlists.specs.declared.Refusal.{Refusal}
use Rattle.netlists.specs.declared.Refusal.TheVariants.{NoSuchNode, NoSuchRow, NoSuchOutput, TooManyInputs, TooManyOutputs, NotOwned, NoPlace}
use Rattle.netlists.specs.Netlists.{Netlist}
use Rattle.netlists.specs.Normal.{none, normal}

-- ---- nodes and rows of a netlist

abbrev pub is_there : Netlist → Node → Bool
is_there n x = nat_le x.number (n.inputs + length n.rows)

abbrev pub all_there : Netlist → PerVariable Signal → Bool
all_there n s = is_there n s.a.node && is_there n s.b.node && is_there n s.c.node && is_there n s.d.node

-- the node of row k, counted from 0
abbrev pub row_node : Netlist → ℕ → Node
row_node n k = record { number = n.inputs + 1 + k }

abbrev pub no_row : Row
no_row = record { table = 0; nodes = record { a = none; b = none; c = none; d = none } }

abbrev pub no_signal : Signal
no_signal = record { node = none; inverted = false }

abbrev pub same_row : Row → Row → Bool
same_row r q =
    (r.table == q.table) && r.nodes.a.number == q.nodes.a.number && r.nodes.b.number == q.nodes.b.number
    && r.nodes.c.number == q.nodes.c.number && r.nodes.d.number == q.nodes.d.number

-- the place of the first row alike, or the number of rows where there is none
unfoldable pub first_alike : Row → List Row → ℕ
first_alike r [] = 0
first_alike r (x ∷ xs) = elim (same_row x r) [ true ↦ 0 | false ↦ suc (first_alike r xs) ]

-- ---- place

-- what an accepted place call answers, and the netlist after it
pub record Placing : Type 0 where
  pub signal : Signal
  pub netlist : Netlist

abbrev pub with_row : Netlist → Row → Netlist
with_row n r = record { inputs = n.inputs; rows = n.rows ++ r ∷ []; outputs = n.outputs }

abbrev pub signal_of : Node → Bool → Signal
signal_of x i = record { node = x; inverted = i }

-- the row alike, or a new last row where there is a place
unfoldable pub place_row : ℕ → Netlist → Row → Bool → Result Placing Refusal
place_row places n r i =
    elim (nat_lt (first_alike r n.rows) (length n.rows)) [
      | true ↦ Ok (record { signal = signal_of (row_node n (first_alike r n.rows)) i; netlist = n })
      | false ↦ elim (nat_lt (length n.rows) places) [
        | true ↦ Ok (record { signal = signal_of (row_node n (length n.rows)) i; netlist = with_row n r })
        | false ↦ Err NoPlace
      ]
    ]

-- a form over no node or one is a signal; any other has to be owned
unfoldable pub place_form : Ownership → ℕ → Netlist → Form → Result Placing Refusal
place_form o places n g =
    elim (g.row.nodes.b.number == 0) [
      | true ↦ Ok (record { signal = signal_of g.row.nodes.a g.inverted; netlist = n })
      | false ↦ elim (owns o g.row.table) [ true ↦ place_row places n g.row g.inverted | false ↦ Err NotOwned ]
    ]

-- table f over four signals, in a network with these places
unfoldable pub after_place : Ownership → ℕ → Netlist → ℕ → PerVariable Signal → Result Placing Refusal
after_place o places n f s = elim (all_there n s) [ true ↦ place_form o places n (normal f s) | false ↦ Err NoSuchNode ]

-- ---- start, output and the questions

abbrev pub empty : ℕ → Netlist
empty i = record { inputs = i; rows = []; outputs = [] }

unfoldable pub after_start : ℕ → Result Netlist Refusal
after_start i = elim (nat_le i 32) [ true ↦ Ok (empty i) | false ↦ Err TooManyInputs ]

abbrev pub with_output : Netlist → Signal → Netlist
with_output n s = record { inputs = n.inputs; rows = n.rows; outputs = n.outputs ++ s ∷ [] }

unfoldable pub after_output : Netlist → Signal → Result Netlist Refusal
after_output n s =
    elim (is_there n s.node) [
      | true ↦ elim (nat_lt (length n.outputs) 32) [ true ↦ Ok (with_output n s) | false ↦ Err TooManyOutputs ]
      | false ↦ Err NoSuchNode
    ]

unfoldable pub row_asked : Netlist → ℕ → Result Row Refusal
row_asked n k = elim (nat_lt k (length n.rows)) [ true ↦ Ok (slice_index_or n.rows k no_row) | false ↦ Err NoSuchRow ]

unfoldable pub output_asked : Netlist → ℕ → Result Signal Refusal
output_asked n k = elim (nat_lt k (length n.outputs)) [ true ↦ Ok (slice_index_or n.outputs k no_signal) | false ↦ Err NoSuchOutput ]
