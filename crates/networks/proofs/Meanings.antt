-- What the calls of a network mean for the values of its netlist.
use Rattle.std.proofs.Common.{◌≡◌, ℕ, ◌<◌, Ok, Err, Result, MatchResult}
use Rattle.classes.specs.declared.Ownership.{Ownership}
use Rattle.netlists.specs.declared.Signal.{Signal}
use Rattle.tables.specs.declared.per_variable.PerVariable.{PerVariable}
use Rattle.netlists.specs.declared.Refusal.{Refusal}
use Rattle.netlists.specs.Netlists.{Netlist}
use Rattle.netlists.specs.Placing.{after_place}
use Rattle.netlists.specs.Lawful.{Lawful}
use Rattle.netlists.specs.Meaning.{Placed}
use Rattle.netlists.proofs.Places.{place_placed}

pub place_means : (o : Ownership) (places : ℕ) (n m : Netlist) (f : ℕ) (s : PerVariable Signal) (r : Result Signal Refusal) (Same : Type 0) → Lawful o places n → f < 65536
    → MatchResult r (λ x. after_place o places n f s ≡ Ok (record { signal = x; netlist = m })) (λ e. (after_place o places n f s ≡ Err e) × Same)
    → MatchResult r (λ x. Placed o places n f s (record { signal = x; netlist = m })) (λ e. (after_place o places n f s ≡ Err e) × Same)
place_means o places n m f s (Ok x) Same law small h = place_placed o places n f s (record { signal = x; netlist = m }) law small h
place_means o places n m f s (Err e) Same law small h = h
