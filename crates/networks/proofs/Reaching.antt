-- The nodes that outputs reach, in a set.
use Rattle.std.proofs.Common.{◌≡◌, ℕ, suc, ◌+◌, ◌<◌, ◌≤◌, Bool, true, false, ◌||◌, List, [], ◌∷◌, length, get_or, drop, Ok, sym, refl, ap, ◌∙◌, subst, arith}
use Rattle.std.specs.Prelude.{◌==◌}
use Rattle.std.proofs.lemmas.List.{drop_all, drop_more}
use Rattle.std.proofs.lemmas.Bool.{leb-true}
use Rattle.std.proofs.Math.Bool.{or-false}
use Rattle.tables.specs.declared.Variable.{Variable}
use Rattle.classes.specs.declared.Ownership.{Ownership}
use Rattle.netlists.specs.declared.Row.{Row}
use Rattle.netlists.specs.declared.Signal.{Signal}
use Rattle.netlists.specs.Netlists.{Netlist}
use Rattle.netlists.specs.Normal.{node_at}
use Rattle.netlists.specs.Placing.{no_row, no_signal, output_asked}
use Rattle.netlists.specs.Lawful.{Lawful}
use Rattle.netlists.specs.Copies.{has, claim, claims, output_nodes, reached}
use Rattle.netlists.proofs.Ways.{output_there}
use Rattle.networks.specs.declared.node_set.NodeSet.{NodeSet}
use Rattle.networks.specs.NodeSets.{within, Holds}

-- ---- outputs: what is in the set, and what is left to come

or_moved : (a b c : Bool) → ((a || b) || c) ≡ (b || (a || c))
or_moved true true c = refl
or_moved true false c = refl
or_moved false b c = refl

pub output_more : (s t : NodeSet) (x : Signal) (left rest all : List Signal) (k : ℕ) → left ≡ x ∷ rest → k ≡ x.node.number
    → ((n : ℕ) → (within s n || has n (output_nodes left)) ≡ has n (output_nodes all)) → ((n : ℕ) → within t n ≡ (n == k || within s n))
    → (n : ℕ) → (within t n || has n (output_nodes rest)) ≡ has n (output_nodes all)
unfolding output_nodes
output_more s t x left rest all k e p inv more n =
    ap (λ (b : Bool). b || has n (output_nodes rest)) (more n) ∙ or_moved (n == k) (within s n) (has n (output_nodes rest))
    ∙ ap (λ (y : ℕ). within s n || (n == y || has n (output_nodes rest))) p ∙ ap (λ (xs : List Signal). within s n || has n (output_nodes xs)) (sym e) ∙ inv n

pub outputs_all : (s : NodeSet) (left all : List Signal) → left ≡ [] → ((n : ℕ) → (within s n || has n (output_nodes left)) ≡ has n (output_nodes all)) → Holds s (output_nodes all)
unfolding output_nodes
outputs_all s left all e inv n = sym (ap (λ (xs : List Signal). within s n || has n (output_nodes xs)) e ∙ or-false (within s n)) ∙ inv n

pub output_small : (o : Ownership) (places : ℕ) (n : Netlist) → Lawful o places n → (k : ℕ) → k < length n.outputs → (x : Signal) → output_asked n k ≡ Ok x → x.node.number < 577
output_small o places n law k lt x h =
    let p = output_there n k lt in
    let e : get_or n.outputs k no_signal ≡ x = cc in
    let t = leb-true _ _ (law.outputs_there k lt) in
    subst (λ (y : Signal). y.node.number < 577) e (omega (arith, t, law.few_inputs, law.room, law.few_places))

-- ---- rows, from the last

pub rows_none : (set : NodeSet) (rows : List Row) (b k : ℕ) (ws : List ℕ) → length rows ≤ k → Holds set ws → Holds set (claims b (drop k rows) ws)
unfolding claims
rows_none set rows b k ws h m = subst (λ (rs : List Row). Holds set (claims b rs ws)) (sym (drop_all k rows h)) m

pub rows_claimed : (set : NodeSet) (rows : List Row) (first j k : ℕ) (r : Row) (ws : List ℕ) → j < length rows → k ≡ j + 1 → r ≡ get_or rows j no_row
    → Holds set (claim (first + j) r (claims (first + k) (drop k rows) ws)) → Holds set (claims (first + j) (drop j rows) ws)
unfolding claims
rows_claimed set rows first j k r ws h e p m =
    let num : first + k ≡ suc (first + j) = omega arith in
    subst (λ (rs : List Row). Holds set (claims (first + j) rs ws)) (sym (drop_more rows j no_row h))
    (subst (λ (x : Row). Holds set (claim (first + j) x (claims (suc (first + j)) (drop (j + 1) rows) ws))) p
    (subst (λ (x : ℕ). Holds set (claim (first + j) r (claims x (drop (j + 1) rows) ws))) num
    (subst (λ (x : ℕ). Holds set (claim (first + j) r (claims (first + k) (drop x rows) ws))) e m)))

pub rows_reached : (set : NodeSet) (n : Netlist) (first k : ℕ) → k ≡ 0 → first ≡ n.inputs + 1 → Holds set (claims (first + k) (drop k n.rows) (output_nodes n.outputs)) → (m : ℕ) → within set m ≡ reached n m
unfolding reached
rows_reached set n first k z e h =
    let b : first + k ≡ n.inputs + 1 = omega arith in
    subst (λ (x : ℕ). Holds set (claims x n.rows (output_nodes n.outputs))) b
    (subst (λ (x : ℕ). Holds set (claims (first + k) (drop x n.rows) (output_nodes n.outputs))) z h)

pub row_small : (o : Ownership) (places : ℕ) (n : Netlist) → Lawful o places n → (k : ℕ) → k < length n.rows → (r : Row) → r ≡ get_or n.rows k no_row → (v : Variable) → (node_at r v).number < 577
row_small o places n law k h r e v =
    let t = (law.rows_lawful k h).earlier v in
    let a = law.few_inputs in
    let b = law.room in
    let c = law.few_places in
    subst (λ (x : Row). (node_at x v).number < 577) (sym e) (omega (arith, t))
