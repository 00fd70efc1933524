-- What a network of gates means, and what its calls leave as it was.
use Rattle.std.specs.Prelude.{ℕ}
use Rattle.netlists.specs.Netlists.{Netlist}
use Rattle.codings.specs.declared.coding.Coding.{Ghosts}
use Rattle.gates.specs.declared.gates.Gates.{Gates}
use Rattle.gates.specs.Keeping.{Kept}
use Rattle.gates.specs.Parts.{netlist_in}

module _ {C : Type 0} {W : ℕ} {c : Ghosts C W} where
  abbrev pub netlist_of : Gates C W c → Netlist
  netlist_of g = netlist_in g.store g.inputs g.outputs

  abbrev pub places_of : Gates C W c → ℕ
  places_of g = g.store.places

  -- places and words are kept, but for the words of new rows
  abbrev pub KeptIn : Gates C W c → Gates C W c → Type 0
  KeptIn g h = Kept g.store h.store
