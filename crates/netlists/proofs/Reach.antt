-- The computed marks of what outputs reach are exactly what outputs reach.
use Rattle.std.proofs.Common.{◌≡◌, ℕ, suc, ◌+◌, ◌<◌, Bool, true, false, ◌||◌, eqb, ◌⊎◌, List, [], ◌∷◌, ◌++◌, length, get_or, sym, refl, ap, ◌∙◌, subst, inl, inr, arith}
use Rattle.std.proofs.lemmas.Bool.{or_cases, eqb-true, false≢true}
use Rattle.tables.specs.declared.Variable.{Variable}
use Rattle.tables.specs.declared.Variable.TheVariants.{V0, V1, V2, V3}
use Rattle.classes.specs.declared.Ownership.{Ownership}
use Rattle.netlists.specs.declared.Signal.{Signal}
use Rattle.netlists.specs.declared.Row.{Row}
use Rattle.netlists.specs.Netlists.{Netlist}
use Rattle.netlists.specs.Normal.{node_at}
use Rattle.netlists.specs.Placing.{no_row, no_signal}
use Rattle.netlists.specs.Lawful.{Lawful}
use Rattle.netlists.specs.Copies.{has, nodes_of, claim, claims, output_nodes, reached, Reaches, named, read, ReachedExactly}
use Rattle.netlists.proofs.Sweeps.{claims_nodes, claims_keeps, output_has}

-- ---- what is marked is reached

module _ (n : Netlist) where
  four : (r : Row) (m : ℕ) (ws : List ℕ) → has m (nodes_of r ++ ws) ≡ true → ((v : Variable) × ((node_at r v).number ≡ m)) ⊎ (has m ws ≡ true)
  four r m ws e =
      let d = eqb m r.nodes.d.number || has m ws in
      let c = eqb m r.nodes.c.number || d in
      let b = eqb m r.nodes.b.number || c in
      elim (or_cases (eqb m r.nodes.a.number) b e) [
        | inl p ↦ inl (V0, sym (eqb-true m r.nodes.a.number p))
        | inr p ↦ elim (or_cases (eqb m r.nodes.b.number) c p) [
          | inl q ↦ inl (V1, sym (eqb-true m r.nodes.b.number q))
          | inr q ↦ elim (or_cases (eqb m r.nodes.c.number) d q) [
            | inl s ↦ inl (V2, sym (eqb-true m r.nodes.c.number s))
            | inr s ↦ elim (or_cases (eqb m r.nodes.d.number) (has m ws) s) [
              | inl t ↦ inl (V3, sym (eqb-true m r.nodes.d.number t))
              | inr t ↦ inr t
            ]
          ]
        ]
      ]

  claim_reaches : (k : ℕ) (r : Row) (ws : List ℕ) → ((m : ℕ) → has m ws ≡ true → Reaches n m) → (Reaches n k → (v : Variable) → Reaches n (node_at r v).number)
      → (m : ℕ) → has m (claim k r ws) ≡ true → Reaches n m
  unfolding claim
  claim_reaches k r ws h step m = go (has k ws) refl
    where
      go : (b : Bool) → has k ws ≡ b → has m (elim b [ true ↦ nodes_of r ++ ws | false ↦ ws ]) ≡ true → Reaches n m
      go true e p = elim (four r m ws p) [ inl q ↦ subst (Reaches n) q.1 (step (h k e) q.0) | inr q ↦ h m q ]
      go false e p = h m p

  claims_reach : (rs : List Row) (j b : ℕ) (ws : List ℕ) → b ≡ n.inputs + 1 + j → ((k : ℕ) → get_or rs k no_row ≡ get_or n.rows (j + k) no_row) → j + length rs ≡ length n.rows
      → ((m : ℕ) → has m ws ≡ true → Reaches n m) → (m : ℕ) → has m (claims b rs ws) ≡ true → Reaches n m
  unfolding claims
  claims_reach [] j b ws e at l h = h
  claims_reach (r ∷ rs) j b ws e at l h =
      let z : r ≡ get_or n.rows j no_row = at 0 ∙ ap (λ (x : ℕ). get_or n.rows x no_row) (omega arith) in
      let next = claims_reach rs (suc j) (suc b) ws (omega arith) (λ k. at (suc k) ∙ ap (λ (x : ℕ). get_or n.rows x no_row) (omega arith)) (omega arith) h in
      let inside : j < length n.rows = omega arith in
      claim_reaches b r (claims (suc b) rs ws) next
      (λ p v. subst (λ (x : Row). Reaches n (node_at x v).number) (sym z) (read j inside (subst (Reaches n) e p) v))

  outputs_reach : (ss : List Signal) (j : ℕ) → ((k : ℕ) → get_or ss k no_signal ≡ get_or n.outputs (j + k) no_signal) → j + length ss ≡ length n.outputs
      → (m : ℕ) → has m (output_nodes ss) ≡ true → Reaches n m
  unfolding output_nodes
  outputs_reach [] j at l m e = absurd (false≢true e)
  outputs_reach (s ∷ ss) j at l m e =
      elim (or_cases (eqb m s.node.number) (has m (output_nodes ss)) e) [
        | inl p ↦
            let z : s ≡ get_or n.outputs j no_signal = at 0 ∙ ap (λ (x : ℕ). get_or n.outputs x no_signal) (omega arith) in
            let inside : j < length n.outputs = omega arith in
            subst (Reaches n) (ap (λ (x : Signal). x.node.number) (sym z) ∙ sym (eqb-true m s.node.number p)) (named j inside)
        | inr p ↦ outputs_reach ss (suc j) (λ k. at (suc k) ∙ ap (λ (x : ℕ). get_or n.outputs x no_signal) (omega arith)) (omega arith) m p
      ]

  marked_reaches : (m : ℕ) → reached n m ≡ true → Reaches n m
  unfolding reached
  marked_reaches =
      claims_reach n.rows 0 (n.inputs + 1) (output_nodes n.outputs) (omega arith) (λ k. ap (λ (x : ℕ). get_or n.rows x no_row) (omega arith)) (omega arith)
      (outputs_reach n.outputs 0 (λ k. ap (λ (x : ℕ). get_or n.outputs x no_signal) (omega arith)) (omega arith))

-- ---- what is reached is marked

reaches_marked : (o : Ownership) (places : ℕ) (n : Netlist) → Lawful o places n → (m : ℕ) → Reaches n m → reached n m ≡ true
unfolding reached
reaches_marked o places n law m (named k h) =
    claims_keeps (get_or n.outputs k no_signal).node.number (n.inputs + 1) n.rows (output_nodes n.outputs) (output_has n.outputs k h)
reaches_marked o places n law m (read k h p v) =
    claims_nodes n.rows (n.inputs + 1) (output_nodes n.outputs) (λ j l. (law.rows_lawful j l).earlier) k h (reaches_marked o places n law (n.inputs + 1 + k) p) v

pub reached_exactly : (o : Ownership) (places : ℕ) (n : Netlist) → Lawful o places n → ReachedExactly n
reached_exactly o places n law = record { sound = marked_reaches n; complete = reaches_marked o places n law }
