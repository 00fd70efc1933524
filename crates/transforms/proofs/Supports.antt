-- An image has no larger support than its table: the variables are only moved and inverted.
use Rattle.std.proofs.Common.{◌≡◌, ℕ, zero, suc, ◌+◌, ◌<◌, ◌≤◌, Bool, true, false, cond, T, List, [], ◌∷◌, length, get_or, sym, refl, ap, ◌∙◌, subst, le_of_suc-le-suc, not-suc-le-zero, arith}
use Rattle.tables.specs.declared.Variable.{Variable}
use Rattle.tables.specs.declared.Variable.TheVariants.{V0, V1, V2, V3}
use Rattle.tables.specs.Bits.{inverted}
use Rattle.tables.specs.Settings.{Setting, get, put, same_variable}
use Rattle.tables.specs.Tables.{value, depends_on, support_size}
use Rattle.tables.proofs.Support.{Ignores, ignores, ignored}
use Rattle.transforms.specs.declared.Order.{Order}
use Rattle.transforms.specs.declared.Transform.{Transform}
use Rattle.transforms.specs.Orders.{at, orders, order_at}
use Rattle.transforms.specs.Images.{mask_at, read_from, read_at, image, representative, chosen_transform}
use Rattle.transforms.proofs.Variables.{get-put, same_settings, same_variable_lem}
use Rattle.transforms.proofs.Orderings.{distinct}
use Rattle.transforms.proofs.Transforms.{Lawful, value-image, get-read_at}
use Rattle.transforms.proofs.Least.{chosen_lawful, chosen-image}

-- ---- a sum over the variables, in any order

abbrev AllOf : (Order → Type 0) → List Order → Type 0
AllOf P [] = Unit {0}
AllOf P (p ∷ ps) = P p × AllOf P ps

all_at : (P : Order → Type 0) (ps : List Order) → AllOf P ps → (i : ℕ) (d : Order) → i < length ps → P (get_or ps i d)
all_at P [] a i d h = absurd (not-suc-le-zero h)
all_at P (p ∷ ps) a zero d h = a.0
all_at P (p ∷ ps) a (suc i) d h = all_at P ps a.1 i d (le_of_suc-le-suc h)

abbrev SameSum : Order → Type 0
SameSum p = (d : Variable → ℕ) → d V0 + d V1 + d V2 + d V3 ≡ d (at p V0) + d (at p V1) + d (at p V2) + d (at p V3)

same_sum : (q : ℕ) → q < 24 → SameSum (order_at q)
unfolding orders
same_sum q h = all_at SameSum orders (λ d. omega arith, (λ d. omega arith, (λ d. omega arith, (λ d. omega arith, (λ d. omega arith, (λ d. omega arith, (λ d. omega arith, (λ d. omega arith, (λ d. omega arith, (λ d. omega arith, (λ d. omega arith, (λ d. omega arith, (λ d. omega arith, (λ d. omega arith, (λ d. omega arith, (λ d. omega arith, (λ d. omega arith, (λ d. omega arith, (λ d. omega arith, (λ d. omega arith, (λ d. omega arith, (λ d. omega arith, (λ d. omega arith, (λ d. omega arith, tt)))))))))))))))))))))))) q _ h

-- ---- what a table ignores, its image ignores where the order puts it

moved : (t : Transform) (x : Setting) (s : Bool) (k j : Variable) (b : Bool) → same_variable k j ≡ b
    → inverted (mask_at t.mask j) (cond b s (get x (at t.order j))) ≡ cond b (inverted (mask_at t.mask k) s) (read_from t x j)
moved t x s k j true e = ap (λ (v : Variable). inverted (mask_at t.mask v) s) (sym (same_variable_lem k j (subst T (sym e) tt)))
moved t x s k j false e = refl

put_read : (q : ℕ) → q < 24 → (t : Transform) → t.order ≡ order_at q → (x : Setting) (k : Variable) (s : Bool)
    → read_at t (put x (at t.order k) s) ≡ put (read_at t x) k (inverted (mask_at t.mask k) s)
put_read q h t e x k s =
    same_settings (read_at t (put x (at t.order k) s)) (put (read_at t x) k (inverted (mask_at t.mask k) s)) (λ j.
    let d : same_variable (at t.order k) (at t.order j) ≡ same_variable k j = ap (λ (o : Order). same_variable (at o k) (at o j)) e ∙ distinct q h k j in
    get-read_at t (put x (at t.order k) s) j
    ∙ ap (inverted (mask_at t.mask j)) (get-put x (at t.order k) (at t.order j) s ∙ ap (λ (b : Bool). cond b s (get x (at t.order j))) d)
    ∙ moved t x s k j (same_variable k j) refl
    ∙ ap (cond (same_variable k j) (inverted (mask_at t.mask k) s)) (sym (get-read_at t x j))
    ∙ sym (get-put (read_at t x) k j (inverted (mask_at t.mask k) s)))

image_ignores : (t : Transform) → Lawful t → (f : ℕ) (k : Variable) → Ignores f k → Ignores (image t f) (at t.order k)
image_ignores t l f k h x s =
    value-image t f (put x (at t.order k) s)
    ∙ ap (λ (y : Setting). inverted t.output (value f y)) (put_read l.order.number l.order.small t l.order.is x k s)
    ∙ ap (inverted t.output) (h (read_at t x) (inverted (mask_at t.mask k) s))
    ∙ sym (value-image t f x)

one_le : (a b : Bool) → (b ≡ false → a ≡ false) → cond {A = ℕ} a 1 0 ≤ cond b 1 0
one_le true true h = omega arith
one_le true false h = let e : ◌≡◌ {A = ℕ} 1 0 = ap (λ (t : Bool). cond {A = ℕ} t 1 0) (h refl) in omega arith
one_le false true h = omega arith
one_le false false h = omega arith

pub support_image : (t : Transform) → Lawful t → (f : ℕ) → support_size (image t f) ≤ support_size f
unfolding support_size
support_image t l f =
    let d : Variable → ℕ = λ v. cond (depends_on (image t f) v) 1 0 in
    let each : (k : Variable) → d (at t.order k) ≤ cond (depends_on f k) 1 0 = λ k.
    one_le (depends_on (image t f) (at t.order k)) (depends_on f k) (λ e. ignored (image t f) (at t.order k) (image_ignores t l f k (ignores f k e))) in
    let sum : d V0 + d V1 + d V2 + d V3 ≡ d (at t.order V0) + d (at t.order V1) + d (at t.order V2) + d (at t.order V3) =
    subst (λ (o : Order). d V0 + d V1 + d V2 + d V3 ≡ d (at o V0) + d (at o V1) + d (at o V2) + d (at o V3)) (sym l.order.is) (same_sum l.order.number l.order.small d) in
    let a = each V0 in let b = each V1 in let c = each V2 in let e = each V3 in
    omega arith

pub support_representative : (f : ℕ) → support_size (representative f) ≤ support_size f
support_representative f = subst (λ (g : ℕ). support_size g ≤ support_size f) (chosen-image f) (support_image (chosen_transform f) (chosen_lawful f) f)
