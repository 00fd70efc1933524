-- Netlists placed row by row into another, and the sweep.
use Rattle.std.specs.Prelude.{◌≡◌, ℕ, zero, suc, ◌+◌, ◌<◌, Bool, true, false, cond, List, [], ◌∷◌, ◌++◌, map, length, get_or, Ok, Err, Result, slice_index_or}
use Rattle.std.specs.List.{range_with_len}
use Rattle.tables.specs.declared.Variable.{Variable}
use Rattle.tables.specs.Lists.{member}
use Rattle.tables.specs.Bits.{inverted}
use Rattle.classes.specs.declared.Ownership.{Ownership}
use Rattle.netlists.specs.declared.Node.{Node}
use Rattle.netlists.specs.declared.Signal.{Signal}
use Rattle.netlists.specs.declared.Row.{Row}
use Rattle.tables.specs.declared.per_variable.PerVariable.{PerVariable}
use Rattle.netlists.specs.declared.Refusal.{Refusal}
use Rattle.netlists.specs.Netlists.{Netlist, signal_value}
use Rattle.netlists.specs.Normal.{node_at}
use Rattle.netlists.specs.Placing.{no_row, no_signal, signal_of, Placing, after_place, empty, after_output}

-- a netlist under way, and the signal in it for each node of another, from node 0 on
pub record Copy : Type 0 where
  pub netlist : Netlist
  pub signals : List Signal

abbrev pub signal_in : List Signal → Node → Signal
signal_in ss x = slice_index_or ss x.number no_signal

abbrev pub fanins_in : List Signal → Row → PerVariable Signal
fanins_in ss r = record { a = signal_in ss r.nodes.a; b = signal_in ss r.nodes.b; c = signal_in ss r.nodes.c; d = signal_in ss r.nodes.d }

-- what follows an accepted call; a refusal stays
abbrev pub and_then : {A B : Type 0} → Result A Refusal → (A → Result B Refusal) → Result B Refusal
and_then (Ok x) f = f x
and_then (Err e) f = Err e

abbrev pub noted : Copy → Placing → Result Copy Refusal
noted c p = Ok (record { netlist = p.netlist; signals = c.signals ++ p.signal ∷ [] })

abbrev pub skipped : Copy → Copy
skipped c = record { netlist = c.netlist; signals = c.signals ++ no_signal ∷ [] }

-- the row of the next node is placed over the signals of its nodes
abbrev pub place_next : Ownership → ℕ → Row → Copy → Result Copy Refusal
place_next o places r c = and_then (after_place o places c.netlist r.table (fanins_in c.signals r)) (noted c)

-- and so it is where that node is kept; elsewhere the row is left out
unfoldable pub copy_row : Ownership → ℕ → (ℕ → Bool) → Row → Copy → Result Copy Refusal
copy_row o places keep r c =
    elim (keep (length c.signals)) [
      | true ↦ place_next o places r c
      | false ↦ Ok (skipped c)
    ]

-- the rows that are kept, in order
unfoldable pub copy_rows : Ownership → ℕ → (ℕ → Bool) → List Row → Copy → Result Copy Refusal
copy_rows o places keep [] c = Ok c
copy_rows o places keep (r ∷ rs) c = and_then (copy_row o places keep r c) (copy_rows o places keep rs)

-- a signal of the other netlist, as a signal of this one
abbrev pub through : List Signal → Signal → Signal
through ss s = signal_of (signal_in ss s.node).node (inverted s.inverted (signal_in ss s.node).inverted)

unfoldable pub copy_outputs : List Signal → Copy → Result Netlist Refusal
copy_outputs [] c = Ok c.netlist
copy_outputs (s ∷ ss) c = and_then (after_output c.netlist (through c.signals s)) (λ m. copy_outputs ss (record { netlist = m; signals = c.signals }))

-- an empty network with i inputs, for the nodes of another with as many
unfoldable pub fresh : ℕ → Copy
fresh i = record { netlist = empty i; signals = map (λ k. signal_of (record { number = k }) false) (range_with_len 0 (i + 1)) }

-- ---- the rows that some output reaches

-- an output reaches the node that it names, and what a row at a reached node reads
pub data Reaches (n : Netlist) : ℕ → Type 0 where
  named : (k : ℕ) → k < length n.outputs → Reaches n (get_or n.outputs k no_signal).node.number
  read : (k : ℕ) → k < length n.rows → Reaches n (n.inputs + 1 + k) → (v : Variable) → Reaches n (node_at (slice_index_or n.rows k no_row) v).number

abbrev pub has : ℕ → List ℕ → Bool
has = member

abbrev pub nodes_of : Row → List ℕ
nodes_of r = r.nodes.a.number ∷ r.nodes.b.number ∷ r.nodes.c.number ∷ r.nodes.d.number ∷ []

-- the nodes of a row at node k join those that are reached, where k is reached
unfoldable pub claim : ℕ → Row → List ℕ → List ℕ
claim k r ws = elim (has k ws) [ true ↦ nodes_of r ++ ws | false ↦ ws ]

-- from the last row to the first; k is the node of the first row
unfoldable pub claims : ℕ → List Row → List ℕ → List ℕ
claims k [] ws = ws
claims k (r ∷ rs) ws = claim k r (claims (suc k) rs ws)

unfoldable pub output_nodes : List Signal → List ℕ
output_nodes ss = map (λ s. s.node.number) ss

-- some output reaches the node of this number
unfoldable pub reached : Netlist → ℕ → Bool
reached n k = has k (claims (n.inputs + 1) n.rows (output_nodes n.outputs))

-- the nodes that are computed so are the ones that outputs reach
pub record ReachedExactly (n : Netlist) : Type 0 where
  pub sound : (m : ℕ) → reached n m ≡ true → Reaches n m
  pub complete : (m : ℕ) → Reaches n m → reached n m ≡ true

-- how many of the first k rows are kept, i inputs standing before them
abbrev pub kept_before : (ℕ → Bool) → ℕ → ℕ → ℕ
kept_before keep i zero = 0
kept_before keep i (suc k) = kept_before keep i k + cond (keep (i + 1 + k)) 1 0

-- ---- whole netlists

-- the rows of n that are kept, in order, into an empty network, and then the outputs
abbrev pub copy_kept : Ownership → ℕ → (ℕ → Bool) → Netlist → Result Netlist Refusal
copy_kept o places keep n = and_then (copy_rows o places keep n.rows (fresh n.inputs)) (copy_outputs n.outputs)

-- every row of n, in order, into an empty network
unfoldable pub copied : Ownership → ℕ → Netlist → Result Netlist Refusal
copied o places n = copy_kept o places (λ k. true) n

-- the rows of n that some output reaches, in order, into an empty network
unfoldable pub swept : Ownership → ℕ → Netlist → Result Netlist Refusal
swept o places n = copy_kept o places (reached n) n

-- how many rows some output reaches
abbrev pub reached_rows : Netlist → ℕ
reached_rows n = kept_before (reached n) n.inputs (length n.rows)

-- m has the outputs of n, with the same values for every setting of the inputs, and as many rows as outputs of n reach
pub record Swept (n m : Netlist) : Type 0 where
  pub same_inputs : m.inputs ≡ n.inputs
  pub same_outputs : length m.outputs ≡ length n.outputs
  pub same_values : (xs : List Bool) → length xs ≡ n.inputs → (k : ℕ) → k < length n.outputs
      → signal_value m xs (slice_index_or m.outputs k no_signal) ≡ signal_value n xs (slice_index_or n.outputs k no_signal)
  pub gates : length m.rows ≡ reached_rows n
