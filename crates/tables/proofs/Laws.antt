-- The laws of tables that proofs use: a table is determined by its values, and every function of four variables has one.
use Rattle.std.proofs.Common.{◌≡◌, ℕ, ◌+◌, ◌-◌, ◌*◌, ◌/◌, ◌%◌, ◌^◌, ◌<◌, Bool, true, false, cond, not, ◌&&◌, ◌||◌, eqb, List, [], ◌∷◌, map, get_or, sym, refl, ap, ◌∙◌, ap₂, add-zero, mod-eq_of_lt, div-one, arith, lit<}
use lib.Bits.{bit_and, bit_or, or_lt, and_lt, and_mask}
use Rattle.std.specs.List.{slice_index}
use Rattle.std.proofs.lemmas.Bool.{ne_eqb}
use Rattle.std.proofs.lemmas.Bool.Decides.{nat_tests}
use Rattle.tables.specs.declared.Variable.{Variable}
use Rattle.tables.specs.declared.Variable.TheVariants.{V0, V1, V2, V3}
use Rattle.tables.specs.Bits.{bit, from_bits}
use Rattle.tables.specs.Settings.{Setting, get, put, index, setting, settings, span_of}
use Rattle.tables.specs.Tables.{value, table_of, variable, complement, chosen, cofactor, flipped, constant, composed}
use Rattle.tables.proofs.Bitwise.{bit-and, bit-or, bit_shr, bit_shl, bit_not, shifted, bit-from_bits, from_bits_lt, from_bits_bits}

-- a claim about all settings, at each of the sixteen
pub every_setting : (P : Setting → Type 0)
    → P (setting false false false false) → P (setting false false false true) → P (setting false false true false) → P (setting false false true true)
    → P (setting false true false false) → P (setting false true false true) → P (setting false true true false) → P (setting false true true true)
    → P (setting true false false false) → P (setting true false false true) → P (setting true false true false) → P (setting true false true true)
    → P (setting true true false false) → P (setting true true false true) → P (setting true true true false) → P (setting true true true true)
    → (x : Setting) → P x
every_setting P p0 p1 p2 p3 p4 p5 p6 p7 p8 p9 p10 p11 p12 p13 p14 p15 x = go x.d x.c x.b x.a
  where
    go : (d c b a : Bool) → P (setting d c b a)
    go false false false false = p0
    go false false false true = p1
    go false false true false = p2
    go false false true true = p3
    go false true false false = p4
    go false true false true = p5
    go false true true false = p6
    go false true true true = p7
    go true false false false = p8
    go true false false true = p9
    go true false true false = p10
    go true false true true = p11
    go true true false false = p12
    go true true false true = p13
    go true true true false = p14
    go true true true true = p15

-- ---- values and tables

pub value-table_of : (g : Setting → Bool) (x : Setting) → value (table_of g) x ≡ g x
unfolding value table_of
value-table_of g x =
    bit-from_bits (map g settings) (index x)
    ∙ every_setting (λ y. get_or (map g settings) (index y) false ≡ g y) refl refl refl refl refl refl refl refl refl refl refl refl refl refl refl refl x

pub table_of_lt : (g : Setting → Bool) → table_of g < 65536
unfolding table_of
table_of_lt g = from_bits_lt (map g settings)

pub table_of-value : (f : ℕ) → f < 65536 → table_of (value f) ≡ f
unfolding table_of value
table_of-value f h = from_bits_bits 16 f 0 ∙ ap (λ (x : ℕ). x % 65536) (div-one f) ∙ mod-eq_of_lt h

map_same : (g h : Setting → Bool) → ((x : Setting) → g x ≡ h x) → (xs : List Setting) → map g xs ≡ map h xs
map_same g h e [] = refl
map_same g h e (x ∷ xs) = ap₂ (λ (y : Bool) (ys : List Bool). y ∷ ys) (e x) (map_same g h e xs)

pub table_of_same : (g h : Setting → Bool) → ((x : Setting) → g x ≡ h x) → table_of g ≡ table_of h
unfolding table_of
table_of_same g h e = ap from_bits (map_same g h e settings)

-- two tables with the same values are one
pub same_values : (f h : ℕ) → f < 65536 → h < 65536 → ((x : Setting) → value f x ≡ value h x) → f ≡ h
same_values f h a b e = sym (table_of-value f a) ∙ table_of_same (value f) (value h) e ∙ table_of-value h b

-- a table with the values of g is the table of g
pub is_table_of : (f : ℕ) (g : Setting → Bool) → f < 65536 → ((x : Setting) → value f x ≡ g x) → f ≡ table_of g
is_table_of f g a e = sym (table_of-value f a) ∙ table_of_same (value f) g e

-- ---- the values of the operators of the code

pub index_lt : (x : Setting) → index x < 16
index_lt = every_setting (λ x. index x < 16) (lit< tt) (lit< tt) (lit< tt) (lit< tt) (lit< tt) (lit< tt) (lit< tt) (lit< tt) (lit< tt) (lit< tt) (lit< tt) (lit< tt) (lit< tt) (lit< tt) (lit< tt) (lit< tt)

pub value-and : (f h : ℕ) (x : Setting) → value (bit_and f h) x ≡ (value f x && value h x)
unfolding value
value-and f h x = bit-and f h (index x)

pub value-or : (f h : ℕ) (x : Setting) → value (bit_or f h) x ≡ (value f x || value h x)
unfolding value
value-or f h x = bit-or f h (index x)

pub value_not : (f : ℕ) (x : Setting) → f < 65536 → value (65535 - f) x ≡ not (value f x)
unfolding value
value_not f x h = bit_not 16 f (index x) h (index_lt x)

-- f or h by the bits of a mask, whose complement is n
picked : (f h : Bool) (s : Bool) → ((f && s) || (h && not s)) ≡ cond s f h
picked true true true = refl
picked true true false = refl
picked true false true = refl
picked true false false = refl
picked false true true = refl
picked false true false = refl
picked false false true = refl
picked false false false = refl

pub masked : (f h m n i : ℕ) → bit n i ≡ not (bit m i) → bit (bit_or (bit_and f m) (bit_and h n)) i ≡ cond (bit m i) (bit f i) (bit h i)
masked f h m n i e =
    bit-or (bit_and f m) (bit_and h n) i ∙ ap₂ ◌||◌ (bit-and f m i) (bit-and h n i)
    ∙ ap (λ (b : Bool). (bit f i && bit m i) || (bit h i && b)) e ∙ picked (bit f i) (bit h i) (bit m i)

pub chosen_code : (z h l : ℕ) → z < 65536 → h < 65536 → l < 65536 → bit_or (bit_and h z) (bit_and l (65535 - z)) ≡ chosen z h l
unfolding chosen value
chosen_code z h l a b c =
    is_table_of (bit_or (bit_and h z) (bit_and l (65535 - z))) (λ x. cond (bit z (index x)) (bit h (index x)) (bit l (index x)))
    (or_lt 16 (bit_and h z) (bit_and l (65535 - z)) (and_lt 16 h z b a) (and_lt 16 l (65535 - z) c (omega arith)))
    (λ x. masked h l z (65535 - z) (index x) (bit_not 16 z (index x) a (index_lt x)))

pub value-chosen : (z h l : ℕ) (x : Setting) → value (chosen z h l) x ≡ cond (value z x) (value h x) (value l x)
unfolding chosen
value-chosen z h l x = value-table_of (λ y. cond (value z y) (value h y) (value l y)) x

pub value-variable : (v : Variable) (x : Setting) → value (variable v) x ≡ get x v
unfolding variable
value-variable v x = value-table_of (λ y. get y v) x

pub value-cofactor : (f : ℕ) (v : Variable) (t : Bool) (x : Setting) → value (cofactor f v t) x ≡ value f (put x v t)
unfolding cofactor
value-cofactor f v t x = value-table_of (λ y. value f (put y v t)) x

pub value-flipped : (f : ℕ) (v : Variable) (x : Setting) → value (flipped f v) x ≡ value f (put x v (not (get x v)))
unfolding flipped
value-flipped f v x = value-table_of (λ y. value f (put y v (not (get y v)))) x

pub value-complement : (f : ℕ) (x : Setting) → value (complement f) x ≡ not (value f x)
unfolding complement
value-complement f x = value-table_of (λ y. not (value f y)) x

-- ---- the code's shifts: what lies a span away has the other value of the variable

low_shift : (f : ℕ) (v : Variable) (x : Setting) → cond (get x v) (shifted f (span_of v) (index x)) (bit f (index x)) ≡ bit f (index (put x v false))
low_shift f V0 = every_setting (λ x. cond (get x V0) (shifted f 1 (index x)) (bit f (index x)) ≡ bit f (index (put x V0 false))) refl refl refl refl refl refl refl refl refl refl refl refl refl refl refl refl
low_shift f V1 = every_setting (λ x. cond (get x V1) (shifted f 2 (index x)) (bit f (index x)) ≡ bit f (index (put x V1 false))) refl refl refl refl refl refl refl refl refl refl refl refl refl refl refl refl
low_shift f V2 = every_setting (λ x. cond (get x V2) (shifted f 4 (index x)) (bit f (index x)) ≡ bit f (index (put x V2 false))) refl refl refl refl refl refl refl refl refl refl refl refl refl refl refl refl
low_shift f V3 = every_setting (λ x. cond (get x V3) (shifted f 8 (index x)) (bit f (index x)) ≡ bit f (index (put x V3 false))) refl refl refl refl refl refl refl refl refl refl refl refl refl refl refl refl

high_shift : (f : ℕ) (v : Variable) (x : Setting) → cond (get x v) (bit f (index x)) (bit f (span_of v + index x)) ≡ bit f (index (put x v true))
high_shift f V0 = every_setting (λ x. cond (get x V0) (bit f (index x)) (bit f (1 + index x)) ≡ bit f (index (put x V0 true))) refl refl refl refl refl refl refl refl refl refl refl refl refl refl refl refl
high_shift f V1 = every_setting (λ x. cond (get x V1) (bit f (index x)) (bit f (2 + index x)) ≡ bit f (index (put x V1 true))) refl refl refl refl refl refl refl refl refl refl refl refl refl refl refl refl
high_shift f V2 = every_setting (λ x. cond (get x V2) (bit f (index x)) (bit f (4 + index x)) ≡ bit f (index (put x V2 true))) refl refl refl refl refl refl refl refl refl refl refl refl refl refl refl refl
high_shift f V3 = every_setting (λ x. cond (get x V3) (bit f (index x)) (bit f (8 + index x)) ≡ bit f (index (put x V3 true))) refl refl refl refl refl refl refl refl refl refl refl refl refl refl refl refl

both_shifts : (f : ℕ) (v : Variable) (x : Setting) → cond (get x v) (shifted f (span_of v) (index x)) (bit f (span_of v + index x)) ≡ bit f (index (put x v (not (get x v))))
both_shifts f V0 = every_setting (λ x. cond (get x V0) (shifted f 1 (index x)) (bit f (1 + index x)) ≡ bit f (index (put x V0 (not (get x V0))))) refl refl refl refl refl refl refl refl refl refl refl refl refl refl refl refl
both_shifts f V1 = every_setting (λ x. cond (get x V1) (shifted f 2 (index x)) (bit f (2 + index x)) ≡ bit f (index (put x V1 (not (get x V1))))) refl refl refl refl refl refl refl refl refl refl refl refl refl refl refl refl
both_shifts f V2 = every_setting (λ x. cond (get x V2) (shifted f 4 (index x)) (bit f (4 + index x)) ≡ bit f (index (put x V2 (not (get x V2))))) refl refl refl refl refl refl refl refl refl refl refl refl refl refl refl refl
both_shifts f V3 = every_setting (λ x. cond (get x V3) (shifted f 8 (index x)) (bit f (8 + index x)) ≡ bit f (index (put x V3 (not (get x V3))))) refl refl refl refl refl refl refl refl refl refl refl refl refl refl refl refl

shl : (f k : ℕ) (x : Setting) → value ((f * 2 ^ k) % 65536) x ≡ shifted f k (index x)
unfolding value
shl f k x = bit_shl f k 16 (index x) (index_lt x)

shr : (f k : ℕ) (x : Setting) → value (f / 2 ^ k) x ≡ bit f (k + index x)
unfolding value
shr f k x = bit_shr f k (index x)

plain : (f : ℕ) (x : Setting) → value f x ≡ bit f (index x)
unfolding value
plain f x = refl

-- a choice by variable v, from the values of both ways
by_variable : (v : Variable) (h l : ℕ) (a b : Setting → Bool) (g : Setting → Bool) → ((x : Setting) → value h x ≡ a x) → ((x : Setting) → value l x ≡ b x)
    → ((x : Setting) → cond (get x v) (a x) (b x) ≡ g x) → chosen (variable v) h l ≡ table_of g
unfolding chosen
by_variable v h l a b g p q e =
    table_of_same (λ x. cond (value (variable v) x) (value h x) (value l x)) g
    (λ x. ap (λ (t : Bool). cond t (value h x) (value l x)) (value-variable v x) ∙ ap₂ (λ (s t : Bool). cond (get x v) s t) (p x) (q x) ∙ e x)

pub low_code : (f : ℕ) (v : Variable) → chosen (variable v) ((f * 2 ^ span_of v) % 65536) f ≡ cofactor f v false
unfolding cofactor value
low_code f v = by_variable v ((f * 2 ^ span_of v) % 65536) f (λ x. shifted f (span_of v) (index x)) (λ x. bit f (index x)) (λ x. bit f (index (put x v false))) (shl f (span_of v)) (plain f) (low_shift f v)

pub high_code : (f : ℕ) (v : Variable) → chosen (variable v) f (f / 2 ^ span_of v) ≡ cofactor f v true
unfolding cofactor value
high_code f v = by_variable v f (f / 2 ^ span_of v) (λ x. bit f (index x)) (λ x. bit f (span_of v + index x)) (λ x. bit f (index (put x v true))) (plain f) (shr f (span_of v)) (high_shift f v)

pub flip_code : (f : ℕ) (v : Variable) → chosen (variable v) ((f * 2 ^ span_of v) % 65536) (f / 2 ^ span_of v) ≡ flipped f v
unfolding flipped value
flip_code f v = by_variable v ((f * 2 ^ span_of v) % 65536) (f / 2 ^ span_of v) (λ x. shifted f (span_of v) (index x)) (λ x. bit f (span_of v + index x)) (λ x. bit f (index (put x v (not (get x v))))) (shl f (span_of v)) (shr f (span_of v)) (both_shifts f v)

pub complement_code : (f : ℕ) → f < 65536 → 65535 - f ≡ complement f
unfolding complement
complement_code f h = is_table_of (65535 - f) (λ x. not (value f x)) (omega arith) (λ x. value_not f x h)

-- ---- the constants, and a composition bit by bit

pub value_true : (x : Setting) → value 65535 x ≡ true
unfolding value bit
value_true = every_setting (λ x. bit 65535 (index x) ≡ true) refl refl refl refl refl refl refl refl refl refl refl refl refl refl refl refl

pub value_false : (x : Setting) → value 0 x ≡ false
unfolding value bit
value_false = every_setting (λ x. bit 0 (index x) ≡ false) refl refl refl refl refl refl refl refl refl refl refl refl refl refl refl refl

-- a choice from two neighbours in a list of tables
pub value-neighbours : (z r k : ℕ) (parts : List ℕ) (x : Setting) → r ≡ chosen z (slice_index parts (2 * k + 1)) (slice_index parts (2 * k))
    → value r x ≡ value (slice_index parts (2 * k + cond (value z x) 1 0)) x
value-neighbours z r k parts x e =
    ap (λ (t : ℕ). value t x) e ∙ value-chosen z (slice_index parts (2 * k + 1)) (slice_index parts (2 * k)) x ∙ by (value z x)
  where
    by : (b : Bool) → cond b (value (slice_index parts (2 * k + 1)) x) (value (slice_index parts (2 * k)) x) ≡ value (slice_index parts (2 * k + cond b 1 0)) x
    by true = refl
    by false = ap (λ (j : ℕ). value (slice_index parts j) x) (sym (add-zero (2 * k)))

pub value-constant : (b : Bool) (x : Setting) → value (constant b) x ≡ b
value-constant true x = value_true x
value-constant false x = value_false x

-- two neighbours of a list that is twice as long
pub neighbour_lt : (k n : ℕ) (b : Bool) → k < n → 2 * k + cond b 1 0 < 2 * n
neighbour_lt k n true h = omega arith
neighbour_lt k n false h = omega arith

pub leaf_true : (f i : ℕ) → bit_and (f / 2 ^ i) 1 ≡ 1 → true ≡ bit f i
unfolding bit
leaf_true f i e = ap (λ (t : ℕ). eqb t 1) (sym e ∙ and_mask (f / 2 ^ i) 1)

pub leaf_false : (f i : ℕ) → (bit_and (f / 2 ^ i) 1 ≡ 1 → ⊥) → false ≡ bit f i
unfolding bit
leaf_false f i h = sym (ne_eqb ((f / 2 ^ i) % 2) 1 (λ e. h (and_mask (f / 2 ^ i) 1 ∙ e)))

placed : (a b c d : Bool) → 2 * (2 * (2 * (2 * 0 + cond d 1 0) + cond c 1 0) + cond b 1 0) + cond a 1 0 ≡ cond a 1 0 + cond b 2 0 + cond c 4 0 + cond d 8 0
placed a b c d = grind (arith, nat_tests)

-- the table of f at four tables, by its values
pub composed_code : (f p q r s t : ℕ) → t < 65536
    → ((x : Setting) → value t x ≡ bit f (2 * (2 * (2 * (2 * 0 + cond (value s x) 1 0) + cond (value r x) 1 0) + cond (value q x) 1 0) + cond (value p x) 1 0))
    → t ≡ composed f p q r s
unfolding composed
composed_code f p q r s t h e =
    is_table_of t (λ x. value f (record { a = value p x; b = value q x; c = value r x; d = value s x })) h (λ x.
    e x ∙ ap (bit f) (placed (value p x) (value q x) (value r x) (value s x))
    ∙ sym (plain f (record { a = value p x; b = value q x; c = value r x; d = value s x })))

pub value-composed : (f p q r s : ℕ) (x : Setting) → value (composed f p q r s) x ≡ value f (record { a = value p x; b = value q x; c = value r x; d = value s x })
unfolding composed
value-composed f p q r s x = value-table_of (λ y. value f (record { a = value p y; b = value q y; c = value r y; d = value s y })) x

pub composed_lt : (f p q r s : ℕ) → composed f p q r s < 65536
unfolding composed
composed_lt f p q r s = table_of_lt (λ y. value f (record { a = value p y; b = value q y; c = value r y; d = value s y }))

pub complement_lt : (f : ℕ) → complement f < 65536
unfolding complement
complement_lt f = table_of_lt (λ y. not (value f y))

pub flipped_lt : (f : ℕ) (v : Variable) → flipped f v < 65536
unfolding flipped
flipped_lt f v = table_of_lt (λ y. value f (put y v (not (get y v))))

pub cofactor_lt : (f : ℕ) (v : Variable) (t : Bool) → cofactor f v t < 65536
unfolding cofactor
cofactor_lt f v t = table_of_lt (λ y. value f (put y v t))
