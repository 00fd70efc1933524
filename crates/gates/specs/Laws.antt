-- A netlist that is lawful in some way is lawful.
use Rattle.std.proofs.Common.{◌≡◌, ℕ}
use mathlib.Core.Logic.{∥∥₁_prop}
use mathlib.Core.HLevel.{is_prop→PathP}
use Rattle.classes.specs.declared.Ownership.{Ownership}
use Rattle.netlists.specs.Netlists.{Netlist}
use Rattle.netlists.specs.Lawful.{Lawful}
use Rattle.netlists.proofs.Held.{lawful_held}
use Rattle.codings.specs.declared.coding.Coding.{Ghosts}
use Rattle.gates.specs.declared.gates.Gates.{Gates}
use Rattle.gates.specs.Parts.{LawfulIn}
use Rattle.gates.specs.Gates.{places_of, netlist_of}

pub out : (o : Ownership) (places : ℕ) (n : Netlist) → ∥ Lawful o places n ∥₁ → Lawful o places n
out = lawful_held

module _ {C : Type 0} {W : ℕ} {c : Ghosts C W} where
  -- at every time the netlist is lawful
  pub gates_lawful : (g : Gates C W c) → Lawful c.ownership (places_of g) (netlist_of g)
  gates_lawful g = out c.ownership (places_of g) (netlist_of g) g.lawful

  -- two networks of the same parts are the same
  pub gates_same : (g h : Gates C W c) → g.store ≡ h.store → g.inputs ≡ h.inputs → g.outputs ≡ h.outputs → g ≡ h
  gates_same g h es ei eo = λ k. record {
    store = es k;
    inputs = ei k;
    outputs = eo k;
    lawful = is_prop→PathP (λ j. ∥ LawfulIn (es j) (ei j) (eo j) ∥₁) (λ j. ∥∥₁_prop) g.lawful h.lawful k;
  }
