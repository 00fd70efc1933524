-- The nodes of a normal form are nodes of the signals, or node 0.
use Rattle.std.proofs.Common.{ℕ, cond, eqb, sym, subst, inl, inr}
use Rattle.std.proofs.lemmas.Bool.{cond_both}
use Rattle.tables.specs.declared.Variable.{Variable}
use Rattle.tables.specs.Tables.{depends_on}
use Rattle.tables.specs.Swaps.{swapped, joined}
use Rattle.tables.proofs.Swaps.{every_variable_lem, same_or_differ}
use Rattle.netlists.specs.declared.Node.{Node}
use Rattle.netlists.specs.declared.Row.{Row}
use Rattle.tables.specs.declared.per_variable.PerVariable.{PerVariable}
use Rattle.netlists.specs.declared.Signal.{Signal}
use Rattle.netlists.specs.Normal.{none, node_at, with_node, with_table, entered, grounded, unified, trimmed, precedes, first, second, ordered, reduced, settled, normal}
use Rattle.netlists.proofs.Steps.{reduced_keeps}
use Rattle.netlists.proofs.Shapes.{node_at-with_node, node_at-with_node_other}

abbrev Nodes : (ℕ → Type 0) → Row → Type 0
Nodes P r = (v : Variable) → P (node_at r v).number

nodes_with_node : (P : ℕ → Type 0) (r : Row) (k : Variable) (n : Node) → P n.number → Nodes P r → Nodes P (with_node r k n)
nodes_with_node P r k n p h v =
    elim (same_or_differ v k) [
      | inl e ↦ subst (λ (u : Variable). P (node_at (with_node r k n) u).number) (sym e) (subst (λ (m : Node). P m.number) (sym (node_at-with_node r k n)) p)
      | inr d ↦ subst (λ (m : Node). P m.number) (sym (node_at-with_node_other r n k v d)) (h v)
    ]

grounded_nodes : (P : ℕ → Type 0) (r : Row) (v : Variable) → Nodes P r → Nodes P (grounded r v)
unfolding grounded
grounded_nodes P r v h = h

unified_nodes : (P : ℕ → Type 0) → P 0 → (r : Row) (j k : Variable) → Nodes P r → Nodes P (unified r j k)
unfolding unified
unified_nodes P z r j k h =
    let b = eqb (node_at r j).number (node_at r k).number in
    let f = cond b (joined r.table j k) r.table in
    nodes_with_node P (with_table r f) k (cond b none (node_at r k)) (cond_both b none (node_at r k) (λ n. P n.number) (λ e. z) (λ e. h k)) h

trimmed_nodes : (P : ℕ → Type 0) → P 0 → (r : Row) (v : Variable) → Nodes P r → Nodes P (trimmed r v)
unfolding trimmed
trimmed_nodes P z r v h =
    let b = depends_on r.table v in
    nodes_with_node P r v (cond b (node_at r v) none) (cond_both b (node_at r v) none (λ n. P n.number) (λ e. h v) (λ e. z)) h

ordered_nodes : (P : ℕ → Type 0) (r : Row) (j k : Variable) → Nodes P r → Nodes P (ordered r j k)
unfolding ordered
ordered_nodes P r j k h =
    let m = node_at r j in
    let n = node_at r k in
    let b = precedes n m in
    let q = with_table r (cond b (swapped r.table j k) r.table) in
    nodes_with_node P (with_node q j (first m n)) k (second m n) (cond_both b m n (λ x. P x.number) (λ e. h j) (λ e. h k))
    (nodes_with_node P q j (first m n) (cond_both b n m (λ x. P x.number) (λ e. h k) (λ e. h j)) h)

reduced_nodes : (P : ℕ → Type 0) → P 0 → (f : ℕ) (s : PerVariable Signal) → Nodes P (entered f s) → Nodes P (reduced f s)
reduced_nodes P z = reduced_keeps (Nodes P) (grounded_nodes P) (λ r j k d. unified_nodes P z r j k) (trimmed_nodes P z) (ordered_nodes P)

entered_nodes : (P : ℕ → Type 0) (f : ℕ) (s : PerVariable Signal) → P s.a.node.number → P s.b.node.number → P s.c.node.number → P s.d.node.number → Nodes P (entered f s)
unfolding entered
entered_nodes P f s a b c d = every_variable_lem (λ v. P (node_at (entered f s) v).number) a b c d

-- what holds of node 0 and of the signals' nodes holds of the nodes of the form
pub normal_nodes : (P : ℕ → Type 0) → P 0 → (f : ℕ) (s : PerVariable Signal) → P s.a.node.number → P s.b.node.number → P s.c.node.number → P s.d.node.number
    → (v : Variable) → P (node_at (normal f s).row v).number
unfolding normal settled
normal_nodes P z f s a b c d = reduced_nodes P z f s (entered_nodes P f s a b c d)
