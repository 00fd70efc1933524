-- A struct may hold that it is lawful as a mere fact; the rules come out of it again.
use Rattle.std.proofs.Common.{◌≡◌, ℕ, ◌≤◌, Bool}
use mathlib.Core.Logic.{∥∥₁_elim}
use native.Mathlib.Bridge.{le_prop}
use base.Stored.{Coded-set, coded_ℕ, coded_bool}
use Rattle.classes.specs.declared.Ownership.{Ownership}
use Rattle.netlists.specs.Netlists.{Netlist}
use Rattle.netlists.specs.Lawful.{Lawful}

-- an order, or an equation of numbers or of truth values, that follows from what is held
module _ {P : Type 0} (h : ∥ P ∥₁) where
  order : {a b : ℕ} → (P → a ≤ b) → a ≤ b
  order f = ∥∥₁_elim h le_prop f

  number : {a b : ℕ} → (P → a ≡ b) → a ≡ b
  number {a} {b} f = ∥∥₁_elim h (Coded-set coded_ℕ a b) f

  truth : {a b : Bool} → (P → a ≡ b) → a ≡ b
  truth {a} {b} f = ∥∥₁_elim h (Coded-set coded_bool a b) f

pub lawful_held : (o : Ownership) (places : ℕ) (n : Netlist) → ∥ Lawful o places n ∥₁ → Lawful o places n
lawful_held o places n h = record {
  few_places = order h (λ l. l.few_places);
  few_inputs = order h (λ l. l.few_inputs);
  few_outputs = order h (λ l. l.few_outputs);
  room = order h (λ l. l.room);
  rows_lawful = λ k a. record {
    shape = record {
      fits = order h (λ l. (l.rows_lawful k a).shape.fits);
      ascending_b = λ p. (order h (λ l. ((l.rows_lawful k a).shape.ascending_b p).0), order h (λ l. ((l.rows_lawful k a).shape.ascending_b p).1));
      ascending_c = λ p. (order h (λ l. ((l.rows_lawful k a).shape.ascending_c p).0), order h (λ l. ((l.rows_lawful k a).shape.ascending_c p).1));
      ascending_d = λ p. (order h (λ l. ((l.rows_lawful k a).shape.ascending_d p).0), order h (λ l. ((l.rows_lawful k a).shape.ascending_d p).1));
      exact = λ v. truth h (λ l. (l.rows_lawful k a).shape.exact v);
      zero = truth h (λ l. (l.rows_lawful k a).shape.zero);
    };
    two = order h (λ l. (l.rows_lawful k a).two);
    earlier = λ v. order h (λ l. (l.rows_lawful k a).earlier v);
    owned = truth h (λ l. (l.rows_lawful k a).owned);
  };
  no_two_alike = λ j k a b e. number h (λ l. l.no_two_alike j k a b e);
  outputs_there = λ k a. truth h (λ l. l.outputs_there k a);
}
