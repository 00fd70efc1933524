-- The netlist that rows, inputs and outputs make.
use Rattle.std.specs.Prelude.{ℕ}
use Rattle.lists.specs.declared.fixed_list.FixedList.{FixedList}
use Rattle.lists.specs.Lists.{listed}
use Rattle.netlists.specs.declared.Signal.{Signal}
use Rattle.netlists.specs.Netlists.{Netlist}
use Rattle.netlists.specs.Lawful.{Lawful}
use Rattle.codings.specs.declared.coding.Coding.{Ghosts}
use Rattle.stores.specs.declared.store.Store.{Store}
use Rattle.gates.specs.Keeping.{holding}

module _ {C : Type 0} {W : ℕ} {c : Ghosts C W} {most : ℕ} where
  abbrev pub netlist_in : Store C W c → ℕ → FixedList Signal most → Netlist
  netlist_in s i o = holding s i (listed o)

  -- the netlist is lawful for the coding's classes and the store's places
  abbrev pub LawfulIn : Store C W c → ℕ → FixedList Signal most → Type 0
  LawfulIn s i o = Lawful c.ownership s.places (netlist_in s i o)
