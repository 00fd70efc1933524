-- Tables are known by their bits.
use Rattle.std.proofs.Common.{◌≡◌, ℕ, zero, suc, ◌+◌, ◌-◌, ◌*◌, ◌/◌, ◌%◌, ◌^◌, ◌<◌, ◌≤◌, Bool, true, false, cond, not, eqb, refl, sym, ap, subst, ◌∙◌, arith, lit<, mod-eq_of_lt, bit_or, bit_and, bit_xor, ltb, pow-add, ⊎_elim}
use mathlib.Core.Bool.{beq}
use mir.Val.{bool_byte}
use Rattle.std.proofs.lemmas.Nat.{or_comm, or_shifted, pow_below}
use Rattle.std.proofs.lemmas.Nat.Bits.{bit_at_cat_low, bit_at_cat_high, bit_at-lt, same_from_bits_below}
use Rattle.std.specs.List.{list_any, range_with_len}
use Rattle.std.proofs.lemmas.Bool.{cases_lt, eqb-true, eq-eqb, ltb-true, not-false, or_parts, or_from, agree_below, agree_below_at}
use Rattle.reference.specs.declared.tables.Variable.{Variable}
use Rattle.reference.specs.declared.tables.Variable.TheVariants.{V0, V1, V2, V3}
use Rattle.reference.specs.Tables.{bit, number, table_below, table, put, fixed, depends_on}
use Rattle.reference.specs.declared.classes.TheConstants.{ORDERS}
use Rattle.reference.specs.Classes.{inverted, orders}

-- ---- one bit more, above the n bits that are there

shifted : (n : ℕ) (b : Bool) → n < 16 → bool_byte b * 2 ^ n % 65536 ≡ cond b 1 0 * 2 ^ n
shifted n true h = let p : 2 ^ n < 65536 = pow_below n 16 h in mod-eq_of_lt (omega arith)
shifted n false h = let e : 0 * 2 ^ n ≡ 0 = omega arith in ap (λ x. x % 65536) e ∙ sym e

pub one_more : (f n : ℕ) (b : Bool) → f < 2 ^ n → n < 16 → bit_or f (bool_byte b * 2 ^ n % 65536) ≡ cond b 1 0 * 2 ^ n + f
one_more f n b low h = ap (bit_or f) (shifted n b h) ∙ or_comm f (cond b 1 0 * 2 ^ n) ∙ or_shifted (cond b 1 0) n f low

one_more_lt : (f n : ℕ) (b : Bool) → f < 2 ^ n → cond b 1 0 * 2 ^ n + f < 2 ^ (n + 1)
one_more_lt f n true low = let p : 2 ^ (n + 1) ≡ 2 ^ n * 2 = pow-add 2 n 1 in omega arith
one_more_lt f n false low = let p : 2 ^ (n + 1) ≡ 2 ^ n * 2 = pow-add 2 n 1 in omega arith

pub bit_below : (f n : ℕ) (b : Bool) (i : ℕ) → i < n → bit (cond b 1 0 * 2 ^ n + f) i ≡ bit f i
bit_below f n b i h = ap (λ x. eqb x 1) (bit_at_cat_low (cond b 1 0) n f i h)

own_bit : (b : Bool) → eqb (cond b 1 0 / 2 ^ 0 % 2) 1 ≡ b
own_bit true = refl
own_bit false = refl

pub bit_new : (f n : ℕ) (b : Bool) → f < 2 ^ n → bit (cond b 1 0 * 2 ^ n + f) n ≡ b
bit_new f n b low =
    let none : n - n ≡ 0 = omega arith in
    ap (λ x. eqb x 1) (bit_at_cat_high (cond b 1 0) n f n low (omega arith)) ∙ ap (λ i. eqb (cond b 1 0 / 2 ^ i % 2) 1) none ∙ own_bit b

-- what holds of each bit, and of one more
pub each_bit : (P : ℕ → Bool → Type 0) (f n : ℕ) (b : Bool) (d : ℕ) → d ≡ bool_byte b → f < 2 ^ n → n < 16
    → ((x : ℕ) → x < n → P x (bit f x)) → P n b
    → (bit_or f (d * 2 ^ n % 65536) < 2 ^ (n + 1)) × ((x : ℕ) → x < n + 1 → P x (bit (bit_or f (d * 2 ^ n % 65536)) x))
each_bit P f n b d is low h old new =
    subst (λ g. (g < 2 ^ (n + 1)) × ((x : ℕ) → x < n + 1 → P x (bit g x))) (sym (ap (λ k. bit_or f (k * 2 ^ n % 65536)) is ∙ one_more f n b low h))
    (one_more_lt f n b low, λ x l. ⊎_elim (λ under. subst (P x) (sym (bit_below f n b x under)) (old x under)) (λ over. at x l over) (cases_lt x n))
  where
    at : (x : ℕ) → x < n + 1 → n ≤ x → P x (bit (cond b 1 0 * 2 ^ n + f) x)
    at x l over = let e : n ≡ x = omega arith in subst (λ y. P y (bit (cond b 1 0 * 2 ^ n + f) y)) e (subst (P n) (sym (bit_new f n b low)) new)

-- ---- the table of a function

table_below_lt : (n : ℕ) (g : ℕ → Bool) → table_below n g < 2 ^ n
unfolding table_below
table_below_lt zero g = lit< tt
table_below_lt (suc n) g = let e : n + 1 ≡ suc n = omega arith in subst (λ k. cond (g n) 1 0 * 2 ^ n + table_below n g < 2 ^ k) e (one_more_lt (table_below n g) n (g n) (table_below_lt n g))

bit-table_below : (n : ℕ) (g : ℕ → Bool) (i : ℕ) → i < n → bit (table_below n g) i ≡ g i
unfolding table_below
bit-table_below zero g i h = absurd (omega arith)
bit-table_below (suc n) g i h = ⊎_elim
    (λ under. bit_below (table_below n g) n (g n) i under ∙ bit-table_below n g i under)
    (λ over. let e : n ≡ i = omega arith in subst (λ k. bit (cond (g n) 1 0 * 2 ^ n + table_below n g) k ≡ g k) e (bit_new (table_below n g) n (g n) (table_below_lt n g)))
    (cases_lt i n)

-- a table with the values of g is the table of g
pub is_table : (f : ℕ) (g : ℕ → Bool) → f < 65536 → ((x : ℕ) → x < 16 → bit f x ≡ g x) → f ≡ table g
is_table f g h e = same_from_bits_below 16 f (table g) h (table_below_lt 16 g) (λ i l. same_digit (bit_at-lt f i) (bit_at-lt (table g) i) (e i l ∙ sym (bit-table_below 16 g i l)))
  where
    same_digit : {x y : ℕ} → x < 2 → y < 2 → eqb x 1 ≡ eqb y 1 → x ≡ y
    same_digit {x} {y} hx hy e = go x y hx hy e
      where
        go : (x y : ℕ) → x < 2 → y < 2 → eqb x 1 ≡ eqb y 1 → x ≡ y
        go zero zero a b e = refl
        go zero (suc zero) a b e = cc
        go (suc zero) zero a b e = cc
        go (suc zero) (suc zero) a b e = refl
        go (suc (suc x)) y a b e = absurd (omega arith)
        go zero (suc (suc y)) a b e = absurd (omega arith)
        go (suc zero) (suc (suc y)) a b e = absurd (omega arith)

-- ---- a variable's bit set

-- a number that passes a test at each number below 16
passes : (p : ℕ → Bool) (x : ℕ) → agree_below p (λ y. true) 16 ≡ true → x < 16 → p x ≡ true
passes p x e h = agree_below_at p (λ y. true) 16 x e h

pub put_true : (x : ℕ) (v : Variable) → x < 16 → bit_or x (2 ^ number v) ≡ put x v true
put_true x V0 h = eqb-true _ _ (passes (λ y. eqb (bit_or y (2 ^ 0)) (put y V0 true)) x refl h)
put_true x V1 h = eqb-true _ _ (passes (λ y. eqb (bit_or y (2 ^ 1)) (put y V1 true)) x refl h)
put_true x V2 h = eqb-true _ _ (passes (λ y. eqb (bit_or y (2 ^ 2)) (put y V2 true)) x refl h)
put_true x V3 h = eqb-true _ _ (passes (λ y. eqb (bit_or y (2 ^ 3)) (put y V3 true)) x refl h)

pub put_false : (x : ℕ) (v : Variable) → x < 16 → bit_and x (65535 - 2 ^ number v) ≡ put x v false
put_false x V0 h = eqb-true _ _ (passes (λ y. eqb (bit_and y (65535 - 2 ^ 0)) (put y V0 false)) x refl h)
put_false x V1 h = eqb-true _ _ (passes (λ y. eqb (bit_and y (65535 - 2 ^ 1)) (put y V1 false)) x refl h)
put_false x V2 h = eqb-true _ _ (passes (λ y. eqb (bit_and y (65535 - 2 ^ 2)) (put y V2 false)) x refl h)
put_false x V3 h = eqb-true _ _ (passes (λ y. eqb (bit_and y (65535 - 2 ^ 3)) (put y V3 false)) x refl h)

pub put_lt : (x : ℕ) (v : Variable) (b : Bool) → x < 16 → put x v b < 16
put_lt x V0 true h = ltb-true _ _ (passes (λ y. ltb (put y V0 true) 16) x refl h)
put_lt x V1 true h = ltb-true _ _ (passes (λ y. ltb (put y V1 true) 16) x refl h)
put_lt x V2 true h = ltb-true _ _ (passes (λ y. ltb (put y V2 true) 16) x refl h)
put_lt x V3 true h = ltb-true _ _ (passes (λ y. ltb (put y V3 true) 16) x refl h)
put_lt x V0 false h = ltb-true _ _ (passes (λ y. ltb (put y V0 false) 16) x refl h)
put_lt x V1 false h = ltb-true _ _ (passes (λ y. ltb (put y V1 false) 16) x refl h)
put_lt x V2 false h = ltb-true _ _ (passes (λ y. ltb (put y V2 false) 16) x refl h)
put_lt x V3 false h = ltb-true _ _ (passes (λ y. ltb (put y V3 false) 16) x refl h)

-- ---- whether a table depends on a variable

-- a setting is the one with the variable's own value put, and with its bit inverted the one with the other value
put_own : (x : ℕ) (v : Variable) → x < 16 → x % 16 ≡ put x v (bit x (number v))
put_own x V0 h = eqb-true _ _ (passes (λ y. eqb (y % 16) (put y V0 (bit y 0))) x refl h)
put_own x V1 h = eqb-true _ _ (passes (λ y. eqb (y % 16) (put y V1 (bit y 1))) x refl h)
put_own x V2 h = eqb-true _ _ (passes (λ y. eqb (y % 16) (put y V2 (bit y 2))) x refl h)
put_own x V3 h = eqb-true _ _ (passes (λ y. eqb (y % 16) (put y V3 (bit y 3))) x refl h)

put_other : (x : ℕ) (v : Variable) → x < 16 → bit_xor x (2 ^ number v) % 16 ≡ put x v (not (bit x (number v)))
put_other x V0 h = eqb-true _ _ (passes (λ y. eqb (bit_xor y (2 ^ 0) % 16) (put y V0 (not (bit y 0)))) x refl h)
put_other x V1 h = eqb-true _ _ (passes (λ y. eqb (bit_xor y (2 ^ 1) % 16) (put y V1 (not (bit y 1)))) x refl h)
put_other x V2 h = eqb-true _ _ (passes (λ y. eqb (bit_xor y (2 ^ 2) % 16) (put y V2 (not (bit y 2)))) x refl h)
put_other x V3 h = eqb-true _ _ (passes (λ y. eqb (bit_xor y (2 ^ 3) % 16) (put y V3 (not (bit y 3)))) x refl h)

-- f differs between x and x with the variable inverted
abbrev pub differs : ℕ → Variable → ℕ → Bool
differs f v x = not (beq (bit f (x % 16)) (bit f (bit_xor x (2 ^ number v) % 16)))

-- that is, between x with the variable at false and at true
differs_put : (f : ℕ) (v : Variable) (x : ℕ) → x < 16 → differs f v x ≡ not (beq (bit f (put x v false)) (bit f (put x v true)))
differs_put f v x h = ap (λ k. not (beq (bit f k) (bit f (bit_xor x (2 ^ number v) % 16)))) (put_own x v h)
    ∙ ap (λ k. not (beq (bit f (put x v (bit x (number v)))) (bit f k))) (put_other x v h)
    ∙ in_turn (λ b. bit f (put x v b)) (bit x (number v))
  where
    swapped : (a b : Bool) → not (beq a b) ≡ not (beq b a)
    swapped true true = refl
    swapped true false = refl
    swapped false true = refl
    swapped false false = refl

    in_turn : (g : Bool → Bool) (b : Bool) → not (beq (g b) (g (not b))) ≡ not (beq (g false) (g true))
    in_turn g true = swapped (g true) (g false)
    in_turn g false = refl

same_from : (a b : Bool) → not (beq a b) ≡ false → a ≡ b
same_from true true e = refl
same_from true false e = cc
same_from false true e = cc
same_from false false e = refl

from_same : (a b : Bool) → a ≡ b → not (beq a b) ≡ false
from_same true true e = refl
from_same true false e = cc
from_same false true e = cc
from_same false false e = refl

-- where f differs nowhere, it does not depend on the variable, and the other way round
unused : (f : ℕ) (v : Variable) → ((x : ℕ) → x < 16 → differs f v x ≡ false) → depends_on f v ≡ false
unused f v none = ap not (eq-eqb (fixed f v false) (fixed f v true) (is_table _ _ (table_below_lt 16 _)
    (λ x h. bit-table_below 16 _ x h ∙ same_from _ _ (sym (differs_put f v x h) ∙ none x h))))

none_differs : (f : ℕ) (v : Variable) → depends_on f v ≡ false → (x : ℕ) → x < 16 → differs f v x ≡ false
none_differs f v e x h =
    let tables : fixed f v false ≡ fixed f v true = eqb-true _ _ (not-false _ e) in
    let at : (b : Bool) → bit (fixed f v b) x ≡ bit f (put x v b) = λ b. bit-table_below 16 (λ y. bit f (put y v b)) x h in
    differs_put f v x h ∙ from_same _ _ (sym (at false) ∙ ap (λ t. bit t x) tables ∙ at true)

-- f depends on the variable if it differs at any of the sixteen settings
pub used : (f : ℕ) (v : Variable) → list_any (differs f v) (range_with_len 0 16) ≡ depends_on f v
used f v = same (list_any (differs f v) (range_with_len 0 16)) (depends_on f v)
    (λ e. unused f v (λ x h. each (differs f v) 0 16 e x (omega arith) (omega arith)))
    (λ e. none (differs f v) 0 16 (λ x h. none_differs f v e x (omega arith)))
  where
    same : (s t : Bool) → (s ≡ false → t ≡ false) → (t ≡ false → s ≡ false) → s ≡ t
    same false t f g = sym (f refl)
    same true false f g = g refl
    same true true f g = refl

    each : (p : ℕ → Bool) (a n : ℕ) → list_any p (range_with_len a n) ≡ false → (x : ℕ) → a ≤ x → x < a + n → p x ≡ false
    each p a zero e x l h = absurd (omega arith)
    each p a (suc n) e x l h = ⊎_elim
        (λ over. each p (a + 1) n (or_parts _ _ e).1 x (omega arith) (omega arith))
        (λ here. let q : a ≡ x = omega arith in subst (λ k. p k ≡ false) q (or_parts _ _ e).0)
        (cases_lt a x)

    none : (p : ℕ → Bool) (a n : ℕ) → ((x : ℕ) → x < a + n → p x ≡ false) → list_any p (range_with_len a n) ≡ false
    none p a zero h = refl
    none p a (suc n) h = or_from _ _ (h a (omega arith)) (none p (a + 1) n (λ x l. h x (omega arith)))

-- ---- images

pub differ : (i b : Bool) → not (beq b i) ≡ inverted i b
differ true true = refl
differ true false = refl
differ false true = refl
differ false false = refl

pub orders_are : ORDERS ≡ orders
unfolding orders
orders_are = refl
