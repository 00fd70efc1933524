-- The shape of the normal form: the nodes that the table depends on, each once, ascending, and a table false at index 0.
use Rattle.std.proofs.Common.{◌≡◌, ℕ, ◌<◌, ◌≤◌, Bool, true, false, cond, T, eqb, ltb, ◌⊎◌, sym, refl, ap, ◌∙◌, subst, inl, inr, arith}
use Rattle.std.proofs.lemmas.Bool.{eqb-true, eqb-false, ltb-true, ltb-false, cond_both}
use Rattle.tables.specs.declared.Variable.{Variable}
use Rattle.tables.specs.declared.Variable.TheVariants.{V0, V1, V2, V3}
use Rattle.tables.specs.Tables.{complement, cofactor, depends_on}
use Rattle.tables.specs.Swaps.{swapped, joined}
use Rattle.tables.proofs.Laws.{value-complement}
use Rattle.tables.proofs.Swaps.{every_variable_lem, differ, same_or_differ, swap_variable, swap_twice, Free, free_depends, free_same, cofactor_own, cofactor_keeps, joined_own, joined_keeps, joined_idle, depends_swapped, depends_complement, swapped_lt, joined_lt, cofactor_lt, flipped_lt, complement_lt}
use Rattle.netlists.specs.declared.Node.{Node}
use Rattle.netlists.specs.declared.Row.{Row}
use Rattle.tables.specs.declared.per_variable.PerVariable.{PerVariable}
use Rattle.netlists.specs.declared.Signal.{Signal}
use Rattle.netlists.specs.Normal.{none, node_at, with_node, with_table, turned, entered, grounded, unified, trimmed, precedes, first, second, ordered, all_grounded, all_unified, all_trimmed, all_ordered, reduced, at_zero, settled, normal}
use Rattle.netlists.specs.Lawful.{Follows, Normal, Means}
use Rattle.netlists.proofs.Steps.{with_node_same, grounded_by, unified_by, ordered_by, ordered_idle, reduced_keeps, normal-value}

abbrev number_at : Row → Variable → ℕ
number_at r v = (node_at r v).number

pub node_at-with_table : (r : Row) (f : ℕ) (v : Variable) → node_at (with_table r f) v ≡ node_at r v
node_at-with_table r f v = refl

pub node_at-with_node : (r : Row) (v : Variable) (n : Node) → node_at (with_node r v n) v ≡ n
node_at-with_node r V0 n = refl
node_at-with_node r V1 n = refl
node_at-with_node r V2 n = refl
node_at-with_node r V3 n = refl

pub node_at-with_node_other : (r : Row) (n : Node) (v w : Variable) → T (differ w v) → node_at (with_node r v n) w ≡ node_at r w
node_at-with_node_other r n =
    every_variable_lem (λ v. (w : Variable) → T (differ w v) → node_at (with_node r v n) w ≡ node_at r w)
    (every_variable_lem _ (λ h. absurd h) (λ h. refl) (λ h. refl) (λ h. refl))
    (every_variable_lem _ (λ h. refl) (λ h. absurd h) (λ h. refl) (λ h. refl))
    (every_variable_lem _ (λ h. refl) (λ h. refl) (λ h. absurd h) (λ h. refl))
    (every_variable_lem _ (λ h. refl) (λ h. refl) (λ h. refl) (λ h. absurd h))

-- ---- nothing depends on an unused place

abbrev Unread : Row → Variable → Type 0
Unread r v = number_at r v ≡ 0 → Free r.table v

grounded_own : (r : Row) (v : Variable) (b : Bool) → (b ≡ false → number_at r v ≡ 0 → ⊥) → Unread (grounded_by r v b) v
grounded_own r v b h e = grind (arith, cofactor_own)

grounded_keeps : (r : Row) (v w : Variable) (b : Bool) → Unread r w → Unread (grounded_by r v b) w
grounded_keeps r v w b h e = grind (arith, cofactor_keeps)

own : (r : Row) (v : Variable) → Unread (grounded r v) v
unfolding grounded
own r v = grounded_own r v (eqb (number_at r v) 0) (eqb-false (number_at r v) 0)

keeps : (r : Row) (v w : Variable) → Unread r w → Unread (grounded r v) w
unfolding grounded
keeps r v w = grounded_keeps r v w (eqb (number_at r v) 0)

all_grounded_unread : (r : Row) (v : Variable) → Unread (all_grounded r) v
unfolding all_grounded
all_grounded_unread r =
    let r0 = grounded r V0 in
    let r1 = grounded r0 V1 in
    let r2 = grounded r1 V2 in
    every_variable_lem (Unread (grounded r2 V3))
    (keeps r2 V3 V0 (keeps r1 V2 V0 (keeps r0 V1 V0 (own r V0))))
    (keeps r2 V3 V1 (keeps r1 V2 V1 (own r0 V1)))
    (keeps r2 V3 V2 (own r1 V2))
    (own r2 V3)

unread_with_node : (r : Row) (k : Variable) (n : Node) → Free r.table k → ((w : Variable) → T (differ w k) → Unread r w) → (w : Variable) → Unread (with_node r k n) w
unread_with_node r k n own rest w e =
    elim (same_or_differ w k) [
      | inl p ↦ subst (Free r.table) (sym p) own
      | inr d ↦ rest w d (ap (λ (m : Node). m.number) (sym (node_at-with_node_other r n k w d)) ∙ e)
    ]

unified_unread : (r : Row) (j k : Variable) → T (differ k j) → (b : Bool) → (b ≡ true → number_at r j ≡ number_at r k) → ((v : Variable) → Unread r v) → (w : Variable) → Unread (unified_by r j k b) w
unified_unread r j k d true same h =
    let f = joined r.table j k in
    unread_with_node (with_table r f) k none (joined_own r.table j k d)
    (λ w o e.
    elim (same_or_differ w j) [
      | inl p ↦ free_same r.table f w (joined_idle r.table j k (h k (sym (same refl) ∙ subst (λ (u : Variable). number_at r u ≡ 0) p e))) (h w e)
      | inr q ↦ joined_keeps r.table j k w o q (h w e)
    ])
unified_unread r j k d false same h = subst (λ (q : Row). (w : Variable) → Unread q w) (sym (with_node_same r k)) h

unifies : (r : Row) (j k : Variable) → T (differ k j) → ((v : Variable) → Unread r v) → (w : Variable) → Unread (unified r j k) w
unfolding unified
unifies r j k d = unified_unread r j k d (eqb (number_at r j) (number_at r k)) (eqb-true (number_at r j) (number_at r k))

all_unified_unread : (r : Row) → ((v : Variable) → Unread r v) → (w : Variable) → Unread (all_unified r) w
unfolding all_unified
all_unified_unread r h =
    let r0 = unified r V0 V1 in
    let r1 = unified r0 V0 V2 in
    let r2 = unified r1 V0 V3 in
    let r3 = unified r2 V1 V2 in
    let r4 = unified r3 V1 V3 in
    unifies r4 V2 V3 tt (unifies r3 V1 V3 tt (unifies r2 V1 V2 tt (unifies r1 V0 V3 tt (unifies r0 V0 V2 tt (unifies r V0 V1 tt h)))))

-- ---- each node once

-- where j and k are one node, k is not used
abbrev Apart : Row → Variable → Variable → Type 0
Apart r j k = number_at r j ≡ number_at r k → number_at r k ≡ 0

-- each place is as it was, or no longer used
abbrev Shrinks : Row → Row → Type 0
Shrinks r q = (v : Variable) → (number_at q v ≡ number_at r v) ⊎ (number_at q v ≡ 0)

apart_shrinks : (r q : Row) (j k : Variable) → Shrinks r q → Apart r j k → Apart q j k
apart_shrinks r q j k s a e = grind arith

unified_shrinks : (r : Row) (j k : Variable) (b : Bool) → Shrinks r (unified_by r j k b)
unified_shrinks r j k true w =
    let q = with_table r (joined r.table j k) in
    elim (same_or_differ w k) [
      | inl p ↦ inr (subst (λ (u : Variable). number_at (with_node q k none) u ≡ 0) (sym p) (ap (λ (m : Node). m.number) (node_at-with_node q k none)))
      | inr d ↦ inl (ap (λ (m : Node). m.number) (node_at-with_node_other q none k w d))
    ]
unified_shrinks r j k false w = inl (ap (λ (q : Row). number_at q w) (with_node_same r k))

unified-apart : (r : Row) (j k : Variable) (b : Bool) → (b ≡ false → number_at r j ≡ number_at r k → ⊥) → Apart (unified_by r j k b) j k
unified-apart r j k true h e = ap (λ (m : Node). m.number) (node_at-with_node (with_table r (joined r.table j k)) k none)
unified-apart r j k false h e = absurd (h refl (subst (λ (q : Row). number_at q j ≡ number_at q k) (with_node_same r k) e))

shrinks : (r : Row) (j k : Variable) → Shrinks r (unified r j k)
unfolding unified
shrinks r j k = unified_shrinks r j k (eqb (number_at r j) (number_at r k))

apart : (r : Row) (j k : Variable) → Apart (unified r j k) j k
unfolding unified
apart r j k = unified-apart r j k (eqb (number_at r j) (number_at r k)) (eqb-false (number_at r j) (number_at r k))

still : (r : Row) (i l j k : Variable) → Apart r j k → Apart (unified r i l) j k
still r i l j k = apart_shrinks r (unified r i l) j k (shrinks r i l)

-- a node stands at one place only
abbrev Once : Row → Type 0
Once r = (v w : Variable) → number_at r v ≡ number_at r w → (v ≡ w) ⊎ (number_at r v ≡ 0)

once : (r : Row) → Apart r V0 V1 → Apart r V0 V2 → Apart r V0 V3 → Apart r V1 V2 → Apart r V1 V3 → Apart r V2 V3 → Once r
once r p01 p02 p03 p12 p13 p23 =
    every_variable_lem (λ v. (w : Variable) → number_at r v ≡ number_at r w → (v ≡ w) ⊎ (number_at r v ≡ 0))
    (every_variable_lem _ (λ e. inl refl) (λ e. inr (e ∙ p01 e)) (λ e. inr (e ∙ p02 e)) (λ e. inr (e ∙ p03 e)))
    (every_variable_lem _ (λ e. inr (p01 (sym e))) (λ e. inl refl) (λ e. inr (e ∙ p12 e)) (λ e. inr (e ∙ p13 e)))
    (every_variable_lem _ (λ e. inr (p02 (sym e))) (λ e. inr (p12 (sym e))) (λ e. inl refl) (λ e. inr (e ∙ p23 e)))
    (every_variable_lem _ (λ e. inr (p03 (sym e))) (λ e. inr (p13 (sym e))) (λ e. inr (p23 (sym e))) (λ e. inl refl))

all_unified_once : (r : Row) → Once (all_unified r)
unfolding all_unified
all_unified_once r =
    let r0 = unified r V0 V1 in
    let r1 = unified r0 V0 V2 in
    let r2 = unified r1 V0 V3 in
    let r3 = unified r2 V1 V2 in
    let r4 = unified r3 V1 V3 in
    once (unified r4 V2 V3)
    (still r4 V2 V3 V0 V1 (still r3 V1 V3 V0 V1 (still r2 V1 V2 V0 V1 (still r1 V0 V3 V0 V1 (still r0 V0 V2 V0 V1 (apart r V0 V1))))))
    (still r4 V2 V3 V0 V2 (still r3 V1 V3 V0 V2 (still r2 V1 V2 V0 V2 (still r1 V0 V3 V0 V2 (apart r0 V0 V2)))))
    (still r4 V2 V3 V0 V3 (still r3 V1 V3 V0 V3 (still r2 V1 V2 V0 V3 (apart r1 V0 V3))))
    (still r4 V2 V3 V1 V2 (still r3 V1 V3 V1 V2 (apart r2 V1 V2)))
    (still r4 V2 V3 V1 V3 (apart r3 V1 V3))
    (apart r4 V2 V3)

once_shrinks : (r q : Row) → Shrinks r q → Once r → Once q
once_shrinks r q s o v w e = grind (arith, s v, s w, o v w)

-- ---- trimming: the table depends on exactly the places that are used

abbrev Exact : Row → Type 0
Exact r = (v : Variable) → depends_on r.table v ≡ ltb 0 (number_at r v)

trim_exact : (f : ℕ) (v : Variable) (n : Node) (b : Bool) → depends_on f v ≡ b → (n.number ≡ 0 → Free f v) → depends_on f v ≡ ltb 0 (cond b n none).number
trim_exact f v n b e h = grind (arith, free_depends f v)

trim_shrinks : (n : Node) (b : Bool) → ((cond b n none).number ≡ n.number) ⊎ ((cond b n none).number ≡ 0)
trim_shrinks n b = grind arith

all_trimmed_exact : (r : Row) → ((v : Variable) → Unread r v) → Exact (all_trimmed r)
unfolding all_trimmed trimmed
all_trimmed_exact r h =
    every_variable_lem (λ v. depends_on (all_trimmed r).table v ≡ ltb 0 (number_at (all_trimmed r) v))
    (trim_exact r.table V0 r.nodes.a (depends_on r.table V0) refl (h V0))
    (trim_exact r.table V1 r.nodes.b (depends_on r.table V1) refl (h V1))
    (trim_exact r.table V2 r.nodes.c (depends_on r.table V2) refl (h V2))
    (trim_exact r.table V3 r.nodes.d (depends_on r.table V3) refl (h V3))

all_trimmed_shrinks : (r : Row) → Shrinks r (all_trimmed r)
unfolding all_trimmed trimmed
all_trimmed_shrinks r =
    every_variable_lem (λ v. (number_at (all_trimmed r) v ≡ number_at r v) ⊎ (number_at (all_trimmed r) v ≡ 0))
    (trim_shrinks r.nodes.a (depends_on r.table V0)) (trim_shrinks r.nodes.b (depends_on r.table V1))
    (trim_shrinks r.nodes.c (depends_on r.table V2)) (trim_shrinks r.nodes.d (depends_on r.table V3))

-- ---- ordering: the variables are exchanged with their nodes

node_at-exchanged : (r : Row) (f : ℕ) (j k v : Variable) → node_at (with_node (with_node (with_table r f) j (node_at r k)) k (node_at r j)) v ≡ node_at r (swap_variable j k v)
node_at-exchanged r f =
    every_variable_lem (λ j. (k v : Variable) → node_at (with_node (with_node (with_table r f) j (node_at r k)) k (node_at r j)) v ≡ node_at r (swap_variable j k v))
    (every_variable_lem (λ k. (v : Variable) → node_at (with_node (with_node (with_table r f) V0 (node_at r k)) k (node_at r V0)) v ≡ node_at r (swap_variable V0 k v))
    (every_variable_lem _ refl refl refl refl) (every_variable_lem _ refl refl refl refl) (every_variable_lem _ refl refl refl refl) (every_variable_lem _ refl refl refl refl))
    (every_variable_lem (λ k. (v : Variable) → node_at (with_node (with_node (with_table r f) V1 (node_at r k)) k (node_at r V1)) v ≡ node_at r (swap_variable V1 k v))
    (every_variable_lem _ refl refl refl refl) (every_variable_lem _ refl refl refl refl) (every_variable_lem _ refl refl refl refl) (every_variable_lem _ refl refl refl refl))
    (every_variable_lem (λ k. (v : Variable) → node_at (with_node (with_node (with_table r f) V2 (node_at r k)) k (node_at r V2)) v ≡ node_at r (swap_variable V2 k v))
    (every_variable_lem _ refl refl refl refl) (every_variable_lem _ refl refl refl refl) (every_variable_lem _ refl refl refl refl) (every_variable_lem _ refl refl refl refl))
    (every_variable_lem (λ k. (v : Variable) → node_at (with_node (with_node (with_table r f) V3 (node_at r k)) k (node_at r V3)) v ≡ node_at r (swap_variable V3 k v))
    (every_variable_lem _ refl refl refl refl) (every_variable_lem _ refl refl refl refl) (every_variable_lem _ refl refl refl refl) (every_variable_lem _ refl refl refl refl))

ordered_exact : (r : Row) (j k : Variable) (b : Bool) → Exact r → Exact (ordered_by r j k b)
ordered_exact r j k true h v =
    depends_swapped r.table j k v ∙ h (swap_variable j k v)
    ∙ ap (λ (n : Node). ltb 0 n.number) (sym (node_at-exchanged r (swapped r.table j k) j k v))
ordered_exact r j k false h v = subst Exact (sym (ordered_idle r j k)) h v

ordered_once : (r : Row) (j k : Variable) (b : Bool) → Once r → Once (ordered_by r j k b)
ordered_once r j k true o v w e =
    let at = λ (u : Variable). ap (λ (n : Node). n.number) (node_at-exchanged r (swapped r.table j k) j k u) in
    elim (o (swap_variable j k v) (swap_variable j k w) (sym (at v) ∙ e ∙ at w)) [
      | inl p ↦ inl (sym (swap_twice j k v) ∙ ap (swap_variable j k) p ∙ swap_twice j k w)
      | inr z ↦ inr (at v ∙ z)
    ]
ordered_once r j k false o v w e = subst Once (sym (ordered_idle r j k)) o v w e

-- exact, and each node once
abbrev Sound : Row → Type 0
Sound r = Exact r × Once r

orders : (r : Row) (j k : Variable) → Sound r → Sound (ordered r j k)
unfolding ordered
orders r j k h = (ordered_exact r j k (precedes (node_at r k) (node_at r j)) h.0, ordered_once r j k (precedes (node_at r k) (node_at r j)) h.1)

all_ordered_sound : (r : Row) → Sound r → Sound (all_ordered r)
unfolding all_ordered
all_ordered_sound r h =
    let r0 = ordered r V0 V1 in
    let r1 = ordered r0 V2 V3 in
    let r2 = ordered r1 V0 V2 in
    let r3 = ordered r2 V1 V3 in
    orders r3 V1 V2 (orders r2 V1 V3 (orders r1 V0 V2 (orders r0 V2 V3 (orders r V0 V1 h))))

-- ---- five comparisons sort four nodes

-- y is used only after x, and is not smaller
abbrev After : Node → Node → Type 0
After x y = 0 < y.number → (0 < x.number) × (x.number ≤ y.number)

after_same : (x : Node) → After x x
after_same x h = (h, omega arith)

after_trans : (x y z : Node) → After x y → After y z → After x z
after_trans x y z p q h = grind arith

precedes_true : (m n : Node) → precedes m n ≡ true → After m n
precedes_true m n e h = grind (arith, ltb-true, eqb-true)

precedes_false : (m n : Node) → precedes m n ≡ false → After n m
precedes_false m n e h = grind (arith, ltb-false, eqb-false)

-- the order of two, and what lies before or after both

pair : (m n : Node) → After (first m n) (second m n)
pair m n = go (precedes n m) (precedes_true n m) (precedes_false n m)
  where
    go : (b : Bool) → (b ≡ true → After n m) → (b ≡ false → After m n) → After (cond b n m) (cond b m n)
    go true p q = p refl
    go false p q = q refl

first_after : (z m n : Node) → After z m → After z n → After z (first m n)
first_after z m n p q = cond_both (precedes n m) n m (After z) (λ e. q) (λ e. p)

second_before : (z m n : Node) → After m z → After n z → After (second m n) z
second_before z m n p q = cond_both (precedes n m) m n (λ x. After x z) (λ e. p) (λ e. q)

first_left : (m n : Node) → After (first m n) m
first_left m n = cond_both (precedes n m) n m (λ x. After x m) (precedes_true n m) (λ e. after_same m)

first_right : (m n : Node) → After (first m n) n
first_right m n = cond_both (precedes n m) n m (λ x. After x n) (λ e. after_same n) (precedes_false n m)

second_left : (m n : Node) → After m (second m n)
second_left m n = cond_both (precedes n m) m n (After m) (λ e. after_same m) (precedes_false n m)

second_right : (m n : Node) → After n (second m n)
second_right m n = cond_both (precedes n m) m n (After n) (precedes_true n m) (λ e. after_same n)

module _ (p q s t : Node) where
  abbrev low_left : Node
  low_left = first p q

  abbrev high_left : Node
  high_left = second p q

  abbrev low_right : Node
  low_right = first s t

  abbrev high_right : Node
  high_right = second s t

  abbrev least : Node
  least = first low_left low_right

  abbrev greatest : Node
  greatest = second high_left high_right

  abbrev low : Node
  low = first high_left high_right

  abbrev high : Node
  high = second low_left low_right

  least_low : After least low
  least_low =
      first_after least high_left high_right
      (after_trans least low_left high_left (first_left low_left low_right) (pair p q))
      (after_trans least low_right high_right (first_right low_left low_right) (pair s t))

  high_greatest : After high greatest
  high_greatest =
      second_before greatest low_left low_right
      (after_trans low_left high_left greatest (pair p q) (second_left high_left high_right))
      (after_trans low_right high_right greatest (pair s t) (second_right high_left high_right))

  sorted : After least (first low high) × After (first low high) (second low high) × After (second low high) greatest
  sorted = (
    first_after least low high least_low (pair low_left low_right),
    pair low high,
    second_before greatest low high (pair high_left high_right) high_greatest,
  )

abbrev Sorted : Row → Type 0
Sorted r = After r.nodes.a r.nodes.b × After r.nodes.b r.nodes.c × After r.nodes.c r.nodes.d

all_ordered_sorted : (r : Row) → Sorted (all_ordered r)
unfolding all_ordered ordered
all_ordered_sorted r = sorted r.nodes.a r.nodes.b r.nodes.c r.nodes.d

abbrev index : Variable → ℕ
index V0 = 0
index V1 = 1
index V2 = 2
index V3 = 3

-- two places in order whose nodes differ
follows : (r : Row) (v w : Variable) → Once r → (index v ≡ index w → ⊥) → After (node_at r v) (node_at r w) → Follows (number_at r v) (number_at r w)
follows r v w o d h l = grind (arith, h, o v w)

-- ---- tables stay tables

abbrev Small : Row → Type 0
Small r = r.table < 65536

turned_lt : (f : ℕ) (v : Variable) (i : Bool) → f < 65536 → turned f v i < 65536
turned_lt f v true h = flipped_lt f v
turned_lt f v false h = h

entered_lt : (f : ℕ) (s : PerVariable Signal) → f < 65536 → Small (entered f s)
unfolding entered
entered_lt f s h =
    let f0 = turned f V0 s.a.inverted in
    let f1 = turned f0 V1 s.b.inverted in
    let f2 = turned f1 V2 s.c.inverted in
    turned_lt f2 V3 s.d.inverted (turned_lt f1 V2 s.c.inverted (turned_lt f0 V1 s.b.inverted (turned_lt f V0 s.a.inverted h)))

grounded_lt : (r : Row) (v : Variable) → Small r → Small (grounded r v)
unfolding grounded
grounded_lt r v h = cond_both (eqb (number_at r v) 0) (cofactor r.table v false) r.table (λ f. f < 65536) (λ e. cofactor_lt r.table v false) (λ e. h)

unified_lt : (r : Row) (j k : Variable) → Small r → Small (unified r j k)
unfolding unified
unified_lt r j k h =
    cond_both (eqb (number_at r j) (number_at r k)) (joined r.table j k) r.table (λ t. t < 65536) (λ e. joined_lt r.table j k) (λ e. h)

ordered_lt : (r : Row) (j k : Variable) → Small r → Small (ordered r j k)
unfolding ordered
ordered_lt r j k h =
    cond_both (precedes (node_at r k) (node_at r j)) (swapped r.table j k) r.table (λ t. t < 65536) (λ e. swapped_lt r.table j k) (λ e. h)

reduced_lt : (f : ℕ) (s : PerVariable Signal) → f < 65536 → Small (reduced f s)
unfolding trimmed
reduced_lt f s h = reduced_keeps Small grounded_lt (λ r j k d. unified_lt r j k) (λ r v q. q) ordered_lt f s (entered_lt f s h)

-- ---- the whole

reduced_sound : (f : ℕ) (s : PerVariable Signal) → Sound (reduced f s)
unfolding reduced
reduced_sound f s =
    let g = all_grounded (entered f s) in
    let u = all_unified g in
    all_ordered_sound (all_trimmed u)
    (all_trimmed_exact u (all_unified_unread g (all_grounded_unread (entered f s))), once_shrinks u (all_trimmed u) (all_trimmed_shrinks u) (all_unified_once g))

reduced_sorted : (f : ℕ) (s : PerVariable Signal) → Sorted (reduced f s)
unfolding reduced
reduced_sorted f s = all_ordered_sorted (all_trimmed (all_unified (all_grounded (entered f s))))

settled_by_zero : (f : ℕ) (b : Bool) → at_zero f ≡ b → at_zero (cond b (complement f) f) ≡ false
settled_by_zero f b e = grind (arith, value-complement)

settled_by_depends : (f : ℕ) (v : Variable) (b : Bool) → depends_on (cond b (complement f) f) v ≡ depends_on f v
settled_by_depends f v b = grind (arith, depends_complement)

-- the normal form of a table over four signals is in normal form
pub normal_shape : (f : ℕ) (s : PerVariable Signal) → f < 65536 → Normal (normal f s).row
unfolding normal settled
normal_shape f s h =
    let r = reduced f s in
    let b = at_zero r.table in
    let o = reduced_sorted f s in
    record {
      fits = cond_both b (complement r.table) r.table (λ t. t < 65536) (λ e. complement_lt r.table) (λ e. reduced_lt f s h);
      ascending_b = follows r V0 V1 (reduced_sound f s).1 (λ e. omega arith) o.0;
      ascending_c = follows r V1 V2 (reduced_sound f s).1 (λ e. omega arith) o.1;
      ascending_d = follows r V2 V3 (reduced_sound f s).1 (λ e. omega arith) o.2;
      exact = λ v. settled_by_depends r.table v b ∙ (reduced_sound f s).0 v;
      zero = settled_by_zero r.table b refl;
    }

-- and it is the table as a function of the nodes that the signals name
pub normal_means : (f : ℕ) (s : PerVariable Signal) → f < 65536 → Means f s (normal f s)
normal_means f s h = record { lawful = normal_shape f s h; means = λ φ z. normal-value φ z f s }
