-- Images of images, and back: the transforms are a group.
use Rattle.std.proofs.Common.{◌≡◌, ℕ, zero, suc, ◌+◌, ◌*◌, ◌/◌, ◌%◌, ◌<◌, ◌≤◌, Bool, true, false, cond, not, T, leb, List, [], ◌∷◌, length, get_or, sym, refl, ap, ◌∙◌, subst, ap₂, le_of_suc-le-suc, not-suc-le-zero, add-zero, add-suc, suc-add, zero-add, arith}
use Rattle.std.proofs.lemmas.Bool.{le-leb, lt-leb}
use Rattle.tables.specs.declared.Variable.{Variable}
use Rattle.tables.specs.declared.Variable.TheVariants.{V0, V1, V2, V3}
use Rattle.tables.specs.Bits.{bit, from_bits, inverted}
use Rattle.tables.specs.Settings.{Setting, get, put, same_variable}
use Rattle.tables.specs.Tables.{value, flipped, complement, composed}
use Rattle.tables.proofs.Bitwise.{bit-from_bits, from_bits_lt}
use Rattle.tables.proofs.Laws.{value-table_of, table_of_lt, value-flipped, value-complement, value-composed, flipped_lt, complement_lt, composed_lt, same_values}
use Rattle.transforms.specs.declared.Order.{Order}
use Rattle.transforms.specs.declared.Transform.{Transform}
use Rattle.transforms.specs.Orders.{at, IsOrder, position_in, order_at, orders}
use Rattle.transforms.specs.Images.{mask_at, read_from, read_at, given_to, read_back, image, transform_at}
use Rattle.transforms.proofs.Variables.{get-put, same_settings, same_variable_lem, twice, joined}
use Rattle.transforms.proofs.Orderings.{Listed, at_order_by, following, following_listed, backwards, backwards_listed, distinct, order_lawful, position_at}

pub value-image : (t : Transform) (f : ℕ) (x : Setting) → value (image t f) x ≡ inverted t.output (value f (read_at t x))
unfolding image
value-image t f x = value-table_of (λ y. inverted t.output (value f (read_at t y))) x

pub image_lt : (t : Transform) (f : ℕ) → image t f < 65536
unfolding image
image_lt t f = table_of_lt (λ y. inverted t.output (value f (read_at t y)))

pub is_image : (t : Transform) (f g : ℕ) → g < 65536 → ((x : Setting) → value g x ≡ inverted t.output (value f (read_at t x))) → g ≡ image t f
is_image t f g h e = same_values g (image t f) h (image_lt t f) (λ x. e x ∙ sym (value-image t f x))

pub get-read_at : (t : Transform) (x : Setting) (k : Variable) → get (read_at t x) k ≡ read_from t x k
get-read_at t x V0 = refl
get-read_at t x V1 = refl
get-read_at t x V2 = refl
get-read_at t x V3 = refl

pub get-read_back : (t : Transform) (y : Setting) (v : Variable) → get (read_back t y) v ≡ given_to t y v
get-read_back t y V0 = refl
get-read_back t y V1 = refl
get-read_back t y V2 = refl
get-read_back t y V3 = refl

-- ---- lawful transforms: one of the 24 orders, and a mask of four bits

pub record Lawful (t : Transform) : Type 0 where
  pub order : Listed t.order
  pub mask : t.mask < 16

pub lawful_order : (t : Transform) → Lawful t → IsOrder t.order
lawful_order t l = subst (λ (p : Order). IsOrder p) (sym l.order.is) (order_lawful l.order.number l.order.small)

number_at : Bool → ℕ → ℕ → ℕ
number_at o q m = cond o 384 0 + (16 * q + m)

at_number : (o : Bool) (q m : ℕ) → q < 24 → m < 16 → transform_at (cond o 384 0 + (16 * q + m)) ≡ record { output = o; order = order_at q; mask = m }
unfolding transform_at
at_number true q m h l =
    let a : leb 384 (384 + (16 * q + m)) ≡ true = le-leb 384 (384 + (16 * q + m)) (omega arith) in
    let b : (384 + (16 * q + m)) % 384 / 16 ≡ q = omega arith in
    let c : (384 + (16 * q + m)) % 16 ≡ m = omega arith in
    λ i. record { output = a i; order = order_at (b i); mask = c i }
at_number false q m h l =
    let a : leb 384 (0 + (16 * q + m)) ≡ false = lt-leb 384 (0 + (16 * q + m)) (omega arith) in
    let b : (0 + (16 * q + m)) % 384 / 16 ≡ q = omega arith in
    let c : (0 + (16 * q + m)) % 16 ≡ m = omega arith in
    λ i. record { output = a i; order = order_at (b i); mask = c i }

-- a lawful transform has a number
pub record Numbered (t : Transform) : Type 0 where
  pub number : ℕ
  pub small : number < 768
  pub is : t ≡ transform_at number

pub number_of : (t : Transform) → Lawful t → Numbered t
number_of t l =
    let q : ℕ = l.order.number in
    let n : ℕ = cond t.output 384 0 + (16 * q + t.mask) in
    let c : cond t.output 384 0 ≤ 384 = elim t.output as (λ b. cond b 384 0 ≤ 384) [ true ↦ omega arith | false ↦ omega arith ] in
    let h = l.order.small in
    let k = l.mask in
    let e : t ≡ record { output = t.output; order = order_at q; mask = t.mask } = λ i. record { output = t.output; order = l.order.is i; mask = t.mask } in
    record { number = n; small = omega arith; is = e ∙ sym (at_number t.output q t.mask h k) }

pub transform_lawful : (n : ℕ) → n < 768 → Lawful (transform_at n)
unfolding transform_at
transform_lawful n h = record { order = record { number = n % 384 / 16; small = omega arith; is = refl }; mask = omega arith }

-- ---- one transform after another

abbrev mask_by : (Variable → Bool) → ℕ
mask_by g = from_bits (g V0 ∷ g V1 ∷ g V2 ∷ g V3 ∷ [])

mask_by_lem : (g : Variable → Bool) (k : Variable) → mask_at (mask_by g) k ≡ g k
mask_by_lem g V0 = bit-from_bits (g V0 ∷ g V1 ∷ g V2 ∷ g V3 ∷ []) 0
mask_by_lem g V1 = bit-from_bits (g V0 ∷ g V1 ∷ g V2 ∷ g V3 ∷ []) 1
mask_by_lem g V2 = bit-from_bits (g V0 ∷ g V1 ∷ g V2 ∷ g V3 ∷ []) 2
mask_by_lem g V3 = bit-from_bits (g V0 ∷ g V1 ∷ g V2 ∷ g V3 ∷ []) 3

mask_by_lt : (g : Variable → Bool) → mask_by g < 16
mask_by_lt g = from_bits_lt (g V0 ∷ g V1 ∷ g V2 ∷ g V3 ∷ [])

-- first t, then s
abbrev then_mask : Transform → Transform → Variable → Bool
then_mask t s k = inverted (mask_at t.mask k) (mask_at s.mask (at t.order k))

abbrev pub composite : Transform → Transform → Transform
composite t s = record { output = inverted s.output t.output; order = following s.order t.order; mask = mask_by (then_mask t s) }

read_composite : (t s : Transform) (x : Setting) (k : Variable) → read_from t (read_at s x) k ≡ read_from (composite t s) x k
read_composite t s x k =
    ap (inverted (mask_at t.mask k)) (get-read_at s x (at t.order k))
    ∙ joined (mask_at t.mask k) (mask_at s.mask (at t.order k)) (get x (at s.order (at t.order k)))
    ∙ ap₂ (λ (b : Bool) (v : Variable). inverted b (get x v)) (sym (mask_by_lem (then_mask t s) k)) (sym (at_order_by (λ j. at s.order (at t.order j)) k))

pub image-image : (t s : Transform) (f : ℕ) → image s (image t f) ≡ image (composite t s) f
image-image t s f =
    is_image (composite t s) f (image s (image t f)) (image_lt s (image t f)) (λ x.
    value-image s (image t f) x
    ∙ ap (inverted s.output) (value-image t f (read_at s x))
    ∙ joined s.output t.output (value f (read_at t (read_at s x)))
    ∙ ap (λ (y : Setting). inverted (inverted s.output t.output) (value f y))
    (same_settings (read_at t (read_at s x)) (read_at (composite t s) x)
    (λ k. get-read_at t (read_at s x) k ∙ read_composite t s x k ∙ sym (get-read_at (composite t s) x k))))

pub composite_lawful : (t s : Transform) → Lawful t → Lawful s → Lawful (composite t s)
composite_lawful t s a b =
    let e : following s.order t.order ≡ following (order_at b.order.number) (order_at a.order.number) = ap₂ following b.order.is a.order.is in
    let l = following_listed b.order.number a.order.number b.order.small a.order.small in
    record { order = record { number = l.number; small = l.small; is = e ∙ l.is }; mask = mask_by_lt (then_mask t s) }

-- ---- and back

pub read_back_lem : (q : ℕ) → q < 24 → (t : Transform) → t.order ≡ order_at q → (y : Setting) → read_at t (read_back t y) ≡ y
read_back_lem q h t e y =
    same_settings (read_at t (read_back t y)) y (λ k.
    let p : position_in t.order (at t.order k) ≡ k = ap (λ (o : Order). position_in o (at o k)) e ∙ position_at q h k in
    get-read_at t (read_back t y) k
    ∙ ap (inverted (mask_at t.mask k)) (get-read_back t y (at t.order k))
    ∙ ap (λ (j : Variable). inverted (mask_at t.mask k) (inverted (mask_at t.mask j) (get y j))) p
    ∙ twice (mask_at t.mask k) (get y k))

-- the table through its image: as plans use it
pub recovered : (t : Transform) → Lawful t → (f : ℕ) (y : Setting) → value f y ≡ inverted t.output (value (image t f) (read_back t y))
recovered t l f y =
    sym (ap (inverted t.output) (value-image t f (read_back t y))
    ∙ twice t.output (value f (read_at t (read_back t y)))
    ∙ ap (value f) (read_back_lem l.order.number l.order.small t l.order.is y))

abbrev back_mask : Transform → Variable → Bool
back_mask t v = mask_at t.mask (position_in t.order v)

abbrev pub inverse : Transform → Transform
inverse t = record { output = t.output; order = backwards t.order; mask = mask_by (back_mask t) }

read_inverse : (t : Transform) (y : Setting) → read_at (inverse t) y ≡ read_back t y
read_inverse t y =
    same_settings (read_at (inverse t) y) (read_back t y) (λ v.
    get-read_at (inverse t) y v
    ∙ ap₂ (λ (b : Bool) (w : Variable). inverted b (get y w)) (mask_by_lem (back_mask t) v) (at_order_by (λ w. position_in t.order w) v)
    ∙ sym (get-read_back t y v))

pub image_inverse : (t : Transform) → Lawful t → (f : ℕ) → f < 65536 → f ≡ image (inverse t) (image t f)
image_inverse t l f h =
    is_image (inverse t) (image t f) f h (λ y. recovered t l f y ∙ ap (λ (x : Setting). inverted t.output (value (image t f) x)) (sym (read_inverse t y)))

pub inverse_lawful : (t : Transform) → Lawful t → Lawful (inverse t)
inverse_lawful t l =
    let b = backwards_listed l.order.number l.order.small in
    record { order = record { number = b.number; small = b.small; is = ap backwards l.order.is ∙ b.is }; mask = mask_by_lt (back_mask t) }

-- ---- what the search uses

-- two masks that differ at k alone
abbrev pub Toggled : ℕ → ℕ → Variable → Type 0
Toggled m n k = (j : Variable) → mask_at n j ≡ inverted (same_variable k j) (mask_at m j)

toggle : (b s : Bool) (y z : Bool) → (s ≡ true → z ≡ y) → inverted (inverted s b) y ≡ inverted b (cond s (not z) y)
toggle true true y z h = sym (ap (λ (w : Bool). not (not w)) (h refl) ∙ twice true y)
toggle true false y z h = refl
toggle false true y z h = ap not (sym (h refl))
toggle false false y z h = refl

-- an image read with one input the other way has that bit of its mask the other way
pub flip_mask : (o : Bool) (q m n : ℕ) (k : Variable) (f : ℕ) → q < 24 → Toggled m n k
    → flipped (image (record { output = o; order = order_at q; mask = m }) f) (at (order_at q) k) ≡ image (record { output = o; order = order_at q; mask = n }) f
flip_mask o q m n k f h e =
    let s : Transform = record { output = o; order = order_at q; mask = m } in
    let t : Transform = record { output = o; order = order_at q; mask = n } in
    let v : Variable = at (order_at q) k in
    is_image t f (flipped (image s f) v) (flipped_lt (image s f) v) (λ x.
    let y : Setting = put x v (not (get x v)) in
    value-flipped (image s f) v x ∙ value-image s f y
    ∙ ap (λ (z : Setting). inverted o (value f z))
    (same_settings (read_at s y) (read_at t x) (λ j.
    get-read_at s y j
    ∙ ap (inverted (mask_at m j)) (get-put x v (at (order_at q) j) (not (get x v)))
    ∙ ap (λ (b : Bool). inverted (mask_at m j) (cond b (not (get x v)) (get x (at (order_at q) j)))) (distinct q h k j)
    ∙ sym (toggle (mask_at m j) (same_variable k j) (get x (at (order_at q) j)) (get x v) (λ w. ap (λ (u : Variable). get x (at (order_at q) u)) (same_variable_lem k j (subst T (sym w) tt))))
    ∙ ap (λ (b : Bool). inverted b (get x (at (order_at q) j))) (sym (e j))
    ∙ sym (get-read_at t x j))))

-- ---- the code's steps

-- a composition with the four inputs as the transform gives them
pub image-composed : (t : Transform) (f p q r s : ℕ)
    → ((x : Setting) → value p x ≡ read_from t x V0) → ((x : Setting) → value q x ≡ read_from t x V1)
    → ((x : Setting) → value r x ≡ read_from t x V2) → ((x : Setting) → value s x ≡ read_from t x V3)
    → (x : Setting) → inverted t.output (value (composed f p q r s) x) ≡ value (image t f) x
image-composed t f p q r s a b c d x =
    ap (inverted t.output) (value-composed f p q r s x
    ∙ ap (value f) (same_settings (record { a = value p x; b = value q x; c = value r x; d = value s x }) (read_at t x) (inputs x)))
    ∙ sym (value-image t f x)
  where
    inputs : (x : Setting) (k : Variable) → get (record { a = value p x; b = value q x; c = value r x; d = value s x }) k ≡ get (read_at t x) k
    inputs x V0 = a x
    inputs x V1 = b x
    inputs x V2 = c x
    inputs x V3 = d x

pub image_code : (t : Transform) (f p q r s g : ℕ) → g < 65536
    → ((x : Setting) → value p x ≡ read_from t x V0) → ((x : Setting) → value q x ≡ read_from t x V1)
    → ((x : Setting) → value r x ≡ read_from t x V2) → ((x : Setting) → value s x ≡ read_from t x V3)
    → ((x : Setting) → value g x ≡ inverted t.output (value (composed f p q r s) x)) → g ≡ image t f
image_code t f p q r s g h a b c d e = same_values g (image t f) h (image_lt t f) (λ x. e x ∙ image-composed t f p q r s a b c d x)

pub image_plain : (t : Transform) (f p q r s : ℕ) → t.output ≡ false
    → ((x : Setting) → value p x ≡ read_from t x V0) → ((x : Setting) → value q x ≡ read_from t x V1)
    → ((x : Setting) → value r x ≡ read_from t x V2) → ((x : Setting) → value s x ≡ read_from t x V3)
    → composed f p q r s ≡ image t f
image_plain t f p q r s o a b c d =
    same_values (composed f p q r s) (image t f) (composed_lt f p q r s) (image_lt t f)
    (λ x. ap (λ (i : Bool). inverted i (value (composed f p q r s) x)) (sym o) ∙ image-composed t f p q r s a b c d x)

pub image-inverted : (t : Transform) (f p q r s : ℕ) → t.output ≡ true
    → ((x : Setting) → value p x ≡ read_from t x V0) → ((x : Setting) → value q x ≡ read_from t x V1)
    → ((x : Setting) → value r x ≡ read_from t x V2) → ((x : Setting) → value s x ≡ read_from t x V3)
    → complement (composed f p q r s) ≡ image t f
image-inverted t f p q r s o a b c d =
    same_values (complement (composed f p q r s)) (image t f) (complement_lt (composed f p q r s)) (image_lt t f)
    (λ x. value-complement (composed f p q r s) x ∙ ap (λ (i : Bool). inverted i (value (composed f p q r s) x)) (sym o) ∙ image-composed t f p q r s a b c d x)

halves : (n : ℕ) → n < 384 → (f : ℕ) (x : Setting) → inverted (transform_at (384 + n)).output (value f (read_at (transform_at (384 + n)) x)) ≡ not (inverted (transform_at n).output (value f (read_at (transform_at n) x)))
unfolding transform_at
halves n h f x =
    let a : leb 384 (384 + n) ≡ true = le-leb 384 (384 + n) (omega arith) in
    let b : leb 384 n ≡ false = lt-leb 384 n (omega arith) in
    let c : (384 + n) % 384 / 16 ≡ n % 384 / 16 = omega arith in
    let d : (384 + n) % 16 ≡ n % 16 = omega arith in
    let s : Transform = record { output = leb 384 (384 + n); order = order_at ((384 + n) % 384 / 16); mask = (384 + n) % 16 } in
    let t : Transform = record { output = leb 384 n; order = order_at (n % 384 / 16); mask = n % 16 } in
    let e : read_at s x ≡ read_at t x = ap₂ (λ (q m : ℕ). read_at (record { output = true; order = order_at q; mask = m }) x) c d in
    ap₂ (λ (o : Bool) (y : Setting). inverted o (value f y)) a e ∙ ap (λ (o : Bool). not (inverted o (value f (read_at t x)))) (sym b)

-- the images by the second half of the transforms are the inverted ones of the first
pub image-complement : (n : ℕ) → n < 384 → (f : ℕ) → image (transform_at (384 + n)) f ≡ complement (image (transform_at n) f)
image-complement n h f =
    same_values (image (transform_at (384 + n)) f) (complement (image (transform_at n) f)) (image_lt (transform_at (384 + n)) f) (complement_lt (image (transform_at n) f))
    (λ x. value-image (transform_at (384 + n)) f x ∙ halves n h f x ∙ ap not (sym (value-image (transform_at n) f x)) ∙ sym (value-complement (image (transform_at n) f) x))

-- the first transform changes nothing
pub image-first : (f : ℕ) → f < 65536 → image (transform_at 0) f ≡ f
unfolding transform_at orders bit
image-first f h = sym (is_image (transform_at 0) f f h (λ x. refl))

-- the number of a transform with order q and mask m and no inversion
pub plain_number : (q m : ℕ) → q < 24 → m < 16 → transform_at (16 * q + m) ≡ record { output = false; order = order_at q; mask = m }
plain_number q m h l = ap transform_at (sym (zero-add (16 * q + m))) ∙ at_number false q m h l

-- a flip, as the code has it
pub flipped_to : (r s f q m n : ℕ) (k v : Variable) → q < 24 → r ≡ image (record { output = false; order = order_at q; mask = m }) f → v ≡ at (order_at q) k → s ≡ flipped r v
    → Toggled m n k → s ≡ image (record { output = false; order = order_at q; mask = n }) f
flipped_to r s f q m n k v h a b c t = c ∙ ap₂ flipped a b ∙ flip_mask false q m n k f h t

-- each element of a list is g at its place, counted from j
abbrev pub AllFrom : (ℕ → ℕ) → ℕ → List ℕ → Type 0
AllFrom g j [] = Unit {0}
AllFrom g j (x ∷ xs) = (x ≡ g j) × AllFrom g (suc j) xs

from : (g : ℕ → ℕ) (j : ℕ) (xs : List ℕ) → AllFrom g j xs → (m : ℕ) → m < length xs → get_or xs m 0 ≡ g (j + m)
from g j [] a m h = absurd (not-suc-le-zero h)
from g j (x ∷ xs) a zero h = a.0 ∙ ap g (sym (add-zero j))
from g j (x ∷ xs) a (suc m) h = from g (suc j) xs a.1 m (le_of_suc-le-suc h) ∙ ap g (suc-add j m ∙ sym (add-suc j m))

pub at-index_from : (g : ℕ → ℕ) (xs : List ℕ) → AllFrom g 0 xs → (m : ℕ) → m < length xs → get_or xs m 0 ≡ g m
at-index_from g xs a m h = from g 0 xs a m h ∙ ap g (zero-add m)
