-- Each step of the normal form, by the way that its test goes. The value of a table where every variable is false is its
-- lowest bit.
use Rattle.std.proofs.Common.{◌≡◌, ℕ, Bool, true, false, cond, sym, ap, ◌∙◌, subst, div-one}
use lib.Bits.{bit_and}
use Rattle.std.proofs.lemmas.Bool.{eq-eqb, ne_eqb}
use Rattle.tables.specs.declared.Variable.{Variable}
use Rattle.tables.specs.Tables.{value, complement, cofactor, depends_on}
use Rattle.tables.specs.Swaps.{swapped, joined}
use Rattle.tables.proofs.Laws.{leaf_true, leaf_false}
use Rattle.netlists.specs.declared.Node.{Node}
use Rattle.netlists.specs.declared.Row.{Row}
use Rattle.netlists.specs.declared.Form.{Form}
use Rattle.netlists.specs.Normal.{none, node_at, with_node, with_table, grounded, unified, trimmed, precedes, ordered, at_zero, settled}
use Rattle.netlists.proofs.Steps.{with_node_same, grounded_by, unified_by, trimmed_by, ordered_by, ordered_idle}

pub at_zero_true : (f : ℕ) → bit_and f 1 ≡ 1 → at_zero f ≡ true
unfolding value
at_zero_true f e = sym (leaf_true f 0 (subst (λ (g : ℕ). bit_and g 1 ≡ 1) (sym (div-one f)) e))

pub at_zero_false : (f : ℕ) → (bit_and f 1 ≡ 1 → ⊥) → at_zero f ≡ false
unfolding value
at_zero_false f e = sym (leaf_false f 0 (λ h. e (subst (λ (g : ℕ). bit_and g 1 ≡ 1) (div-one f) h)))

pub ground_hit : (r : Row) (v : Variable) → (node_at r v).number ≡ 0 → with_table r (cofactor r.table v false) ≡ grounded r v
unfolding grounded
ground_hit r v e = ap (grounded_by r v) (sym (eq-eqb (node_at r v).number 0 e))

pub ground_miss : (r : Row) (v : Variable) → ((node_at r v).number ≡ 0 → ⊥) → r ≡ grounded r v
unfolding grounded
ground_miss r v e = ap (grounded_by r v) (sym (ne_eqb (node_at r v).number 0 e))

pub unify_hit : (r : Row) (j k : Variable) → (node_at r j).number ≡ (node_at r k).number → with_node (with_table r (joined r.table j k)) k none ≡ unified r j k
unfolding unified
unify_hit r j k e = ap (unified_by r j k) (sym (eq-eqb (node_at r j).number (node_at r k).number e))

pub unify_miss : (r : Row) (j k : Variable) → ((node_at r j).number ≡ (node_at r k).number → ⊥) → r ≡ unified r j k
unfolding unified
unify_miss r j k e = sym (with_node_same r k) ∙ ap (unified_by r j k) (sym (ne_eqb (node_at r j).number (node_at r k).number e))

pub trim_hit : (r : Row) (v : Variable) → depends_on r.table v ≡ true → r ≡ trimmed r v
unfolding trimmed
trim_hit r v e = sym (with_node_same r v) ∙ ap (trimmed_by r v) (sym e)

pub trim_miss : (r : Row) (v : Variable) → depends_on r.table v ≡ false → with_node r v none ≡ trimmed r v
unfolding trimmed
trim_miss r v e = ap (trimmed_by r v) (sym e)

pub order_hit : (r : Row) (j k : Variable) → precedes (node_at r k) (node_at r j) ≡ true → with_node (with_node (with_table r (swapped r.table j k)) j (node_at r k)) k (node_at r j) ≡ ordered r j k
unfolding ordered
order_hit r j k e = ap (ordered_by r j k) (sym e)

pub order_miss : (r : Row) (j k : Variable) → precedes (node_at r k) (node_at r j) ≡ false → r ≡ ordered r j k
unfolding ordered
order_miss r j k e = sym (ordered_idle r j k) ∙ ap (ordered_by r j k) (sym e)

abbrev settled_by : Row → Bool → Form
settled_by r b = record { row = with_table r (cond b (complement r.table) r.table); inverted = b }

pub settle_hit : (r : Row) → bit_and r.table 1 ≡ 1 → record { row = with_table r (complement r.table); inverted = true } ≡ settled r
unfolding settled
settle_hit r e = ap (settled_by r) (sym (at_zero_true r.table e))

pub settle_miss : (r : Row) → (bit_and r.table 1 ≡ 1 → ⊥) → record { row = r; inverted = false } ≡ settled r
unfolding settled
settle_miss r e = ap (settled_by r) (sym (at_zero_false r.table e))

-- the node of number 0
pub node_none : (n : Node) → n.number ≡ 0 → n ≡ none
node_none n e = ap (λ (k : ℕ). record { number = k }) e

-- what the code has made, where the test holds
pub unify_made : (r : Row) (j k : Variable) (f : ℕ) (n : Node) (out : Row) → (node_at r j).number ≡ (node_at r k).number → f ≡ joined r.table j k → n.number ≡ 0 → out ≡ with_node (with_table r f) k n → out ≡ unified r j k
unify_made r j k f n out z e h o =
    o ∙ ap (λ (m : Node). with_node (with_table r f) k m) (node_none n h) ∙ ap (λ (g : ℕ). with_node (with_table r g) k none) e ∙ unify_hit r j k z

pub order_made : (r : Row) (j k : Variable) (m n : Node) (f : ℕ) (one two : Row) → m ≡ node_at r j → n ≡ node_at r k → precedes n m ≡ true → f ≡ swapped r.table j k
    → one ≡ with_node (with_table r f) j n → two ≡ with_node one k m → two ≡ ordered r j k
order_made r j k m n f one two a b z e p q =
    let y : precedes (node_at r k) (node_at r j) ≡ true = cc in
    let h = order_hit r j k y in
    cc
