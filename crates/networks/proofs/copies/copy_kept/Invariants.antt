use Rattle.std.proofs.Common.{◌≡◌, ℕ, ◌+◌, Bool, drop, length}
use Rattle.netlists.specs.Copies.{and_then, copy_rows, copy_outputs, copy_kept}
use Rattle.networks.specs.Copying.{Tells, under}
use Rattle.networks.proofs.copies.copy_kept.Given as goal

-- what is left, from here, gives the whole
abbrev pub invariant-loop-k : goal.invariant-loop-k
invariant-loop-k g l =
    let n = g.N.Network.netlist l.from in
    let o = g.N.Network.ownership in
    let p = g.N.Network.places l.fn.to in
    record {
      places_same : g.N.Network.places l.to ≡ p;
      whole : (kept : ℕ → Bool) → Tells (goal.F-post g l.keep) kept
          → and_then (copy_rows o p kept (drop l.k n.rows) (under (g.N.Network.netlist l.to) l.signals)) (copy_outputs n.outputs) ≡ copy_kept o p kept n;
      room : length l.signals ≡ n.inputs + 1 + l.k;
    }

abbrev pub invariant-loop-j : goal.invariant-loop-j
invariant-loop-j g l =
    let n = g.N.Network.netlist l.from in
    let p = g.N.Network.places l.fn.to in
    record {
      places_same : g.N.Network.places l.to ≡ p;
      whole : (kept : ℕ → Bool) → Tells (goal.F-post g l.keep) kept
          → copy_outputs (drop l.j n.outputs) (under (g.N.Network.netlist l.to) l.signals) ≡ copy_kept g.N.Network.ownership p kept n;
    }
