-- The tables of a class are the images of its representative.
use Rattle.std.proofs.Common.{◌≡◌, ℕ, zero, suc, ◌<◌, Bool, true, false, ◌||◌, T, eqb, ltb, List, [], ◌∷◌, length, get_or, Decides, sym, refl, ap, ◌∙◌, subst, suc-le-suc, le_of_suc-le-suc, not-suc-le-zero, zero-lt-suc, lit<}
use Rattle.std.specs.List.{ContainsAt as Has}
use Rattle.std.proofs.lemmas.List.{get_or_default}
use Rattle.std.proofs.lemmas.Bool.{eq-eqb, ne_eqb, eqb-true, eqb-false, or_left, or_right, both_ways}
use Rattle.tables.proofs.Every.{both, both_left, both_right}
use Rattle.tables.specs.Lists.{member}
use Rattle.tables.specs.Bits.{bit, from_bits}
use Rattle.tables.specs.Tables.{value, table_of}
use Rattle.transforms.specs.Orders.{orders}
use Rattle.transforms.specs.Images.{image, images, transform_at, representative, IsImage}
use Rattle.transforms.proofs.Variables.{truth}
use Rattle.transforms.proofs.Least.{image_same, same_image, at-images, length-images}
use Rattle.classes.specs.declared.owned.NamedClass.{NamedClass}
use Rattle.classes.specs.declared.owned.NamedClass.TheVariants.{Conjunction, ExclusiveOr, Majority}
use Rattle.classes.specs.Owned.{class_number}
use Rattle.classes.specs.Members.{insert, ascending, tables_of}

-- ---- where a member stands

pub record Index (f : ℕ) (xs : List ℕ) : Type 0 where
  pub at : ℕ
  pub inside : at < length xs
  pub is : get_or xs at 0 ≡ f

first-or_later : (f x : ℕ) (xs : List ℕ) (b : Bool) → eqb f x ≡ b → (b || member f xs) ≡ true → (member f xs ≡ true → Index f xs) → Index f (x ∷ xs)
first-or_later f x xs true t e p = record { at = 0; inside = zero-lt-suc (length xs); is = sym (eqb-true f x t) }
first-or_later f x xs false t e p = let q = p e in record { at = suc q.at; inside = suc-le-suc q.inside; is = q.is }

index_of : (f : ℕ) (xs : List ℕ) → member f xs ≡ true → Index f xs
index_of f [] e = absurd (both_ways false refl e)
index_of f (x ∷ xs) e = first-or_later f x xs (eqb f x) refl e (λ m. index_of f xs m)

member-at : (xs : List ℕ) (k : ℕ) → k < length xs → member (get_or xs k 0) xs ≡ true
member-at [] k h = absurd (not-suc-le-zero h)
member-at (x ∷ xs) zero h = or_left (eqb x x) (member x xs) (eq-eqb x x refl)
member-at (x ∷ xs) (suc k) h = or_right (eqb (get_or xs k 0) x) (member (get_or xs k 0) xs) (member-at xs k (le_of_suc-le-suc h))

-- the answer of a search through a list
pub contained : (xs : List ℕ) (f : ℕ) (b : Bool) → Decides b (Has xs f) → b ≡ member f xs
contained xs f b d = decide b (member f xs) refl refl
  where
    decide : (a m : Bool) → b ≡ a → member f xs ≡ m → a ≡ m
    decide true true p q = refl
    decide true false p q =
        let k = d.0 p in
        sym (subst (λ (g : ℕ). member g xs ≡ true) (k.2 0) (member-at xs k.0 k.1)) ∙ q
    decide false true p q =
        let i = index_of f xs q in
        sym p ∙ d.1 (i.at, i.inside, λ e. get_or_default xs i.at e 0 i.inside ∙ i.is)
    decide false false p q = refl

-- a search is right here, or in what is left
pub member_here : (f g : ℕ) (xs : List ℕ) → g ≡ f → true ≡ member f (g ∷ xs)
member_here f g xs e = ap (λ (b : Bool). b || member f xs) (sym (eq-eqb f g (sym e)))

pub member_past : (f g : ℕ) (xs : List ℕ) → (g ≡ f → ⊥) → member f (g ∷ xs) ≡ member f xs
member_past f g xs e = ap (λ (b : Bool). b || member f xs) (ne_eqb f g (λ p. e (sym p)))

pub member-none : (f : ℕ) → member f [] ≡ false
member-none f = refl

-- ---- an ascending list has the same members

or_again : (a b : Bool) → (a || b) ≡ (a || (a || b))
or_again true b = refl
or_again false b = refl

or_swap : (a b c : Bool) → (a || (b || c)) ≡ (b || (a || c))
or_swap true true c = refl
or_swap true false c = refl
or_swap false true c = refl
or_swap false false c = refl

member-insert : (f x : ℕ) (ys : List ℕ) → member f (insert x ys) ≡ (eqb f x || member f ys)
member-insert f x [] = refl
member-insert f x (y ∷ ys) = by (ltb x y) (eqb x y) refl (member-insert f x ys)
  where
    by : (a b : Bool) → eqb x y ≡ b → member f (insert x ys) ≡ (eqb f x || member f ys)
        → member f (elim a [ true ↦ x ∷ y ∷ ys | false ↦ elim b [ true ↦ y ∷ ys | false ↦ y ∷ insert x ys ] ]) ≡ (eqb f x || (eqb f y || member f ys))
    by true b e m = refl
    by false true e m =
        or_again (eqb f y) (member f ys) ∙ ap (λ (z : ℕ). eqb f z || (eqb f y || member f ys)) (sym (eqb-true x y e))
    by false false e m = ap (λ (t : Bool). eqb f y || t) m ∙ or_swap (eqb f y) (eqb f x) (member f ys)

member-ascending : (f : ℕ) (xs : List ℕ) → member f (ascending xs) ≡ member f xs
member-ascending f [] = refl
member-ascending f (x ∷ xs) = member-insert f x (ascending xs) ∙ ap (λ (m : Bool). eqb f x || m) (member-ascending f xs)

-- ---- a table is among the images of r exactly where it has the representative of r

from_images : (r f : ℕ) → member f (images r) ≡ true → IsImage f r
from_images r f e =
    let q = index_of f (images r) e in
    let h : q.at < 768 = subst (λ (m : ℕ). q.at < m) (length-images r) q.inside in
    (q.at, h, sym q.is ∙ at-images r q.at h)

to_images : (r f : ℕ) → IsImage f r → member f (images r) ≡ true
to_images r f a =
    let h : a.0 < length (images r) = subst (λ (m : ℕ). a.0 < m) (sym (length-images r)) a.1 in
    subst (λ (g : ℕ). member g (images r) ≡ true) (at-images r a.0 a.1 ∙ sym a.2) (member-at (images r) a.0 h)

-- the tables of the class with representative r
in_class : (r f : ℕ) → r < 65536 → representative r ≡ r → f < 65536 → member f (tables_of r) ≡ eqb (representative f) r
unfolding tables_of
in_class r f h e l = member-ascending f (images r) ∙ decide (member f (images r)) (eqb (representative f) r) refl refl
  where
    decide : (m b : Bool) → member f (images r) ≡ m → eqb (representative f) r ≡ b → m ≡ b
    decide true true p a = refl
    decide true false p a = absurd (eqb-false (representative f) r a (image_same r f h (from_images r f p) ∙ e))
    decide false true p a = sym p ∙ to_images r f (same_image r f l (eqb-true (representative f) r a ∙ sym e))
    decide false false p a = refl

-- ---- a list with the images of r, and no others, is the class of r

-- every table of the first list is in the second
abbrev pub within : List ℕ → List ℕ → Bool
within [] ys = true
within (x ∷ xs) ys = both (member x ys) (within xs ys)

first-or_rest : (f x : ℕ) (xs ys : List ℕ) (b : Bool) → eqb f x ≡ b → (b || member f xs) ≡ true → member x ys ≡ true → (member f xs ≡ true → member f ys ≡ true) → member f ys ≡ true
first-or_rest f x xs ys true a m here rest = subst (λ (g : ℕ). member g ys ≡ true) (sym (eqb-true f x a)) here
first-or_rest f x xs ys false a m here rest = rest m

within-at : (f : ℕ) (xs ys : List ℕ) → T (within xs ys) → member f xs ≡ true → member f ys ≡ true
within-at f [] ys t e = absurd (both_ways false refl e)
within-at f (x ∷ xs) ys t e =
    first-or_rest f x xs ys (eqb f x) refl e (truth _ (both_left (member x ys) _ t)) (within-at f xs ys (both_right (member x ys) _ t))

pub class_list : (r : ℕ) (xs : List ℕ) (b : Bool) (f : ℕ) → b ≡ member f xs → r < 65536 → representative r ≡ r → T (within (images r) xs) → T (within xs (images r)) → f < 65536 → b ≡ eqb (representative f) r
class_list r xs b f d h e s t l =
    d ∙ decide (member f xs) (member f (images r)) refl refl ∙ sym (member-ascending f (images r)) ∙ unfold tables_of in in_class r f h e l
  where
    decide : (m i : Bool) → member f xs ≡ m → member f (images r) ≡ i → m ≡ i
    decide true true p q = refl
    decide true false p q = sym (within-at f xs (images r) t p) ∙ q
    decide false true p q = sym p ∙ within-at f (images r) xs s q
    decide false false p q = refl

-- ---- the three classes

pub conjunctions : (f : ℕ) → f < 65536 → member f (tables_of 15) ≡ eqb (representative f) 15
conjunctions f = in_class 15 f (lit< tt) (unfold representative images transform_at orders image value table_of bit from_bits in refl)

pub exclusive_ors_lem : (f : ℕ) → f < 65536 → member f (tables_of 4080) ≡ eqb (representative f) 4080
exclusive_ors_lem f = in_class 4080 f (lit< tt) (unfold representative images transform_at orders image value table_of bit from_bits in refl)

pub majorities : (f : ℕ) → f < 65536 → member f (tables_of 831) ≡ eqb (representative f) 831
majorities f = in_class 831 f (lit< tt) (unfold representative images transform_at orders image value table_of bit from_bits in refl)

pub members : (k : NamedClass) (f : ℕ) → f < 65536 → member f (tables_of (class_number k)) ≡ eqb (representative f) (class_number k)
members Conjunction = conjunctions
members ExclusiveOr = exclusive_ors_lem
members Majority = majorities
