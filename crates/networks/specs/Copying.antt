-- How the code's copies stand to the defined ones.
use Rattle.std.specs.Prelude.{◌≡◌, ℕ, ◌<◌, Bool, List, Ok, Err, Result, MatchResult}
use Rattle.netlists.specs.declared.Signal.{Signal}
use Rattle.netlists.specs.declared.Refusal.{Refusal}
use Rattle.netlists.specs.Netlists.{Netlist}
use Rattle.netlists.specs.Copies.{Copy}
use Rattle.networks.specs.declared.TheConstants.{NODE_LIMIT}

-- a call answers as is due: accepted with the state x, or the refusal
abbrev pub Due : {A B : Type 0} → Result A Refusal → Result B Refusal → A → Type 0
Due due r x = MatchResult r (λ _. due ≡ Ok x) (λ e. due ≡ Err e)

-- a netlist under way, and the signals that stand for nodes of the other
abbrev pub under : Netlist → List Signal → Copy
under n ss = record { netlist = n; signals = ss }

-- what a test answers for the nodes that a network may have
abbrev pub Tells : (ℕ → Bool → Type 0) → (ℕ → Bool) → Type 0
Tells answers keep = (n : ℕ) (b : Bool) → n < NODE_LIMIT → answers n b → b ≡ keep n
