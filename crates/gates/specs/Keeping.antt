-- What becomes of a store when a row is placed.
use Rattle.std.specs.Prelude.{◌≡◌, ℕ, ◌*◌, ◌<◌, ◌≤◌, Bool, List, length, Ok, Err, slice_index}
use Rattle.netlists.specs.declared.Signal.{Signal}
use Rattle.netlists.specs.declared.Row.{Row}
use Rattle.netlists.specs.declared.Refusal.{Refusal}
use Rattle.netlists.specs.Netlists.{Netlist}
use Rattle.netlists.specs.Placing.{place_row, row_node, signal_of}
use Rattle.codings.specs.declared.coding.Coding.{Ghosts}
use Rattle.stores.specs.declared.store.Store.{Store}
use Rattle.stores.specs.Stores.{rows_of, words_of}

module _ {C : Type 0} {W : ℕ} {c : Ghosts C W} where
  -- a netlist of the rows of a store, with these inputs and outputs
  abbrev pub holding : Store C W c → ℕ → List Signal → Netlist
  holding s i os = record { inputs = i; rows = rows_of s; outputs = os }

  -- the same places and number of words, and the words past the last row stay
  pub record Kept (s t : Store C W c) : Type 0 where
    pub places : t.places ≡ s.places
    pub room : length (words_of t) ≡ length (words_of s)
    pub past : (m : ℕ) → W * length (rows_of t) ≤ m → slice_index (words_of t) m ≡ slice_index (words_of s) m

  -- row k of t is r, found or added
  pub record RowKept (s t : Store C W c) (r : Row) (k : ℕ) : Type 0 where
    pub kept : Kept s t
    pub inside : k < length (rows_of t)
    pub placing : (i : ℕ) (os : List Signal) (v : Bool)
        → place_row s.places (holding s i os) r v ≡ Ok (record { signal = signal_of (row_node (holding s i os) k) v; netlist = holding t i os })

  -- r is refused, and the store is as it was
  pub record RowRefused (s t : Store C W c) (r : Row) (e : Refusal) : Type 0 where
    pub same : t ≡ s
    pub refused : (i : ℕ) (os : List Signal) (v : Bool) → place_row s.places (holding s i os) r v ≡ Err e
