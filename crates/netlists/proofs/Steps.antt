-- Each step to the normal form keeps the function of the nodes.
use Rattle.std.proofs.Common.{◌≡◌, ℕ, Bool, true, false, cond, T, eqb, sym, refl, ap, ◌∙◌, ap₂, arith}
use Rattle.std.proofs.lemmas.Bool.{eqb-true}
use Rattle.tables.specs.declared.Variable.{Variable}
use Rattle.tables.specs.declared.Variable.TheVariants.{V0, V1, V2, V3}
use Rattle.tables.specs.Bits.{inverted}
use Rattle.tables.specs.Settings.{Setting, get, put}
use Rattle.tables.specs.Tables.{value, complement, cofactor, depends_on}
use Rattle.tables.specs.Swaps.{exchanged, swapped, joined}
use Rattle.tables.proofs.Laws.{value-cofactor, value-flipped, value-complement}
use Rattle.tables.proofs.Swaps.{differ, put-get, value-swapped, value-joined, exchanged_twice, Free, depends_free, joined_own}
use Rattle.netlists.specs.declared.Node.{Node}
use Rattle.netlists.specs.declared.Row.{Row}
use Rattle.tables.specs.declared.per_variable.PerVariable.{PerVariable}
use Rattle.netlists.specs.declared.Signal.{Signal}
use Rattle.netlists.specs.Netlists.{Assignment, setting_under, row_under, fanins_under}
use Rattle.netlists.specs.Normal.{none, node_at, with_node, with_table, turned, entered, grounded, unified, trimmed, precedes, ordered, all_grounded, all_unified, all_trimmed, all_ordered, reduced, at_zero, settled, normal}

-- ---- rows with a node or a table replaced

pub get-setting : (φ : Assignment) (r : Row) (v : Variable) → get (setting_under φ r) v ≡ φ (node_at r v).number
get-setting φ r V0 = refl
get-setting φ r V1 = refl
get-setting φ r V2 = refl
get-setting φ r V3 = refl

setting-with_node : (φ : Assignment) (r : Row) (v : Variable) (n : Node) → setting_under φ (with_node r v n) ≡ put (setting_under φ r) v (φ n.number)
setting-with_node φ r V0 n = refl
setting-with_node φ r V1 n = refl
setting-with_node φ r V2 n = refl
setting-with_node φ r V3 n = refl

pub row_with_node : (φ : Assignment) (r : Row) (v : Variable) (n : Node) → row_under φ (with_node r v n) ≡ value r.table (put (setting_under φ r) v (φ n.number))
row_with_node φ r v n = ap (value r.table) (setting-with_node φ r v n)

pub table_with_node : (r : Row) (v : Variable) (n : Node) → (with_node r v n).table ≡ r.table
table_with_node r v n = refl

pub with_node_same : (r : Row) (v : Variable) → with_node r v (node_at r v) ≡ r
with_node_same r V0 = refl
with_node_same r V1 = refl
with_node_same r V2 = refl
with_node_same r V3 = refl

-- ---- the steps, by the test that each makes

abbrev pub grounded_by : Row → Variable → Bool → Row
grounded_by r v b = with_table r (cond b (cofactor r.table v false) r.table)

abbrev pub unified_by : Row → Variable → Variable → Bool → Row
unified_by r j k b = with_node (with_table r (cond b (joined r.table j k) r.table)) k (cond b none (node_at r k))

abbrev pub trimmed_by : Row → Variable → Bool → Row
trimmed_by r v b = with_node r v (cond b (node_at r v) none)

abbrev pub ordered_by : Row → Variable → Variable → Bool → Row
ordered_by r j k b =
    with_node (with_node (with_table r (cond b (swapped r.table j k) r.table)) j (cond b (node_at r k) (node_at r j))) k (cond b (node_at r j) (node_at r k))

pub ordered_idle : (r : Row) (j k : Variable) → ordered_by r j k false ≡ r
ordered_idle r j k = ap (λ (q : Row). with_node q k (node_at r k)) (with_node_same r j) ∙ with_node_same r k

-- ---- values

value-turned : (f : ℕ) (v : Variable) (i : Bool) (x : Setting) → value (turned f v i) x ≡ value f (put x v (inverted i (get x v)))
value-turned f v i x = grind (arith, value-flipped, put-get)

entered-value : (φ : Assignment) (f : ℕ) (s : PerVariable Signal) → row_under φ (entered f s) ≡ value f (fanins_under φ s)
unfolding entered
entered-value φ f s =
    let x = setting_under φ (entered f s) in
    let f0 = turned f V0 s.a.inverted in
    let f1 = turned f0 V1 s.b.inverted in
    let f2 = turned f1 V2 s.c.inverted in
    let x3 = put x V3 (inverted s.d.inverted (get x V3)) in
    let x2 = put x3 V2 (inverted s.c.inverted (get x3 V2)) in
    let x1 = put x2 V1 (inverted s.b.inverted (get x2 V1)) in
    value-turned f2 V3 s.d.inverted x ∙ value-turned f1 V2 s.c.inverted x3 ∙ value-turned f0 V1 s.b.inverted x2 ∙ value-turned f V0 s.a.inverted x1

grounded_by_value : (φ : Assignment) → φ 0 ≡ false → (r : Row) (v : Variable) (b : Bool) → (b ≡ true → (node_at r v).number ≡ 0) → row_under φ (grounded_by r v b) ≡ row_under φ r
grounded_by_value φ z r v true h =
    value-cofactor r.table v false (setting_under φ r)
    ∙ ap (λ (t : Bool). value r.table (put (setting_under φ r) v t)) (sym z ∙ ap φ (sym (h refl)) ∙ sym (get-setting φ r v))
    ∙ ap (value r.table) (put-get (setting_under φ r) v)
grounded_by_value φ z r v false h = refl

grounded-value : (φ : Assignment) → φ 0 ≡ false → (r : Row) (v : Variable) → row_under φ (grounded r v) ≡ row_under φ r
unfolding grounded
grounded-value φ z r v = grounded_by_value φ z r v (eqb (node_at r v).number 0) (eqb-true (node_at r v).number 0)

unified_by_value : (φ : Assignment) (r : Row) (j k : Variable) → T (differ k j) → (b : Bool) → (b ≡ true → (node_at r j).number ≡ (node_at r k).number) → row_under φ (unified_by r j k b) ≡ row_under φ r
unified_by_value φ r j k d true h =
    row_with_node φ (with_table r (joined r.table j k)) k none
    ∙ joined_own r.table j k d (setting_under φ r) (φ 0)
    ∙ value-joined r.table j k (setting_under φ r)
    ∙ ap (λ (t : Bool). value r.table (put (setting_under φ r) k t)) (get-setting φ r j ∙ ap φ (h refl) ∙ sym (get-setting φ r k))
    ∙ ap (value r.table) (put-get (setting_under φ r) k)
unified_by_value φ r j k d false h = ap (row_under φ) (with_node_same r k)

unified-value : (φ : Assignment) (r : Row) (j k : Variable) → T (differ k j) → row_under φ (unified r j k) ≡ row_under φ r
unfolding unified
unified-value φ r j k d =
    unified_by_value φ r j k d (eqb (node_at r j).number (node_at r k).number) (eqb-true (node_at r j).number (node_at r k).number)

trimmed_by_value : (φ : Assignment) (r : Row) (v : Variable) (b : Bool) → (b ≡ false → Free r.table v) → row_under φ (trimmed_by r v b) ≡ row_under φ r
trimmed_by_value φ r v true h = ap (row_under φ) (with_node_same r v)
trimmed_by_value φ r v false h = row_with_node φ r v none ∙ h refl (setting_under φ r) (φ 0)

trimmed-value : (φ : Assignment) (r : Row) (v : Variable) → row_under φ (trimmed r v) ≡ row_under φ r
unfolding trimmed
trimmed-value φ r v = trimmed_by_value φ r v (depends_on r.table v) (depends_free r.table v)

ordered_by_value : (φ : Assignment) (r : Row) (j k : Variable) (b : Bool) → row_under φ (ordered_by r j k b) ≡ row_under φ r
ordered_by_value φ r j k true =
    let q = with_table r (swapped r.table j k) in
    let x = setting_under φ r in
    row_with_node φ (with_node q j (node_at r k)) k (node_at r j)
    ∙ ap (λ (y : Setting). value q.table (put y k (φ (node_at r j).number))) (setting-with_node φ q j (node_at r k))
    ∙ ap₂ (λ (s t : Bool). value (swapped r.table j k) (put (put x j s) k t)) (sym (get-setting φ r k)) (sym (get-setting φ r j))
    ∙ value-swapped r.table j k (exchanged x j k)
    ∙ ap (value r.table) (exchanged_twice x j k)
ordered_by_value φ r j k false = ap (row_under φ) (ordered_idle r j k)

ordered-value : (φ : Assignment) (r : Row) (j k : Variable) → row_under φ (ordered r j k) ≡ row_under φ r
unfolding ordered
ordered-value φ r j k = ordered_by_value φ r j k (precedes (node_at r k) (node_at r j))

-- ---- the whole

-- what holds of the row that is entered, and is kept by each step, holds of the reduced row
pub reduced_keeps : (P : Row → Type 0) → ((r : Row) (v : Variable) → P r → P (grounded r v)) → ((r : Row) (j k : Variable) → T (differ k j) → P r → P (unified r j k))
    → ((r : Row) (v : Variable) → P r → P (trimmed r v)) → ((r : Row) (j k : Variable) → P r → P (ordered r j k)) → (f : ℕ) (s : PerVariable Signal) → P (entered f s) → P (reduced f s)
unfolding reduced all_grounded all_unified all_trimmed all_ordered
reduced_keeps P g u t o f s h =
    o _ V1 V2 (o _ V1 V3 (o _ V0 V2 (o _ V2 V3 (o _ V0 V1
    (t _ V3 (t _ V2 (t _ V1 (t _ V0
    (u _ V2 V3 tt (u _ V1 V3 tt (u _ V1 V2 tt (u _ V0 V3 tt (u _ V0 V2 tt (u _ V0 V1 tt
    (g _ V3 (g _ V2 (g _ V1 (g _ V0 h))))))))))))))))))

pub reduced-value : (φ : Assignment) → φ 0 ≡ false → (f : ℕ) (s : PerVariable Signal) → row_under φ (reduced f s) ≡ value f (fanins_under φ s)
reduced-value φ z f s =
    reduced_keeps (λ r. row_under φ r ≡ value f (fanins_under φ s)) (λ r v h. grounded-value φ z r v ∙ h) (λ r j k d h. unified-value φ r j k d ∙ h)
    (λ r v h. trimmed-value φ r v ∙ h) (λ r j k h. ordered-value φ r j k ∙ h) f s (entered-value φ f s)

settled_by : (f : ℕ) (x : Setting) (b : Bool) → inverted b (value (cond b (complement f) f) x) ≡ value f x
settled_by f x b = grind (arith, value-complement f x)

-- the form is f at the values of the signals
pub normal-value : (φ : Assignment) → φ 0 ≡ false → (f : ℕ) (s : PerVariable Signal) → inverted (normal f s).inverted (row_under φ (normal f s).row) ≡ value f (fanins_under φ s)
unfolding normal settled
normal-value φ z f s = settled_by (reduced f s).table (setting_under φ (reduced f s)) (at_zero (reduced f s).table) ∙ reduced-value φ z f s
