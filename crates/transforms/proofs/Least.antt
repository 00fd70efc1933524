-- The least of a list, where it stands first, and what that says of representatives.
use Rattle.std.proofs.Common.{◌≡◌, ℕ, zero, suc, ◌+◌, ◌<◌, ◌≤◌, Bool, true, false, eqb, List, [], ◌∷◌, map, length, get_or, sym, refl, ap, ◌∙◌, subst, inl, inr, suc-le-suc, le_trans, le_of_suc-le-suc, not-suc-le-zero, zero-lt-suc, le_antisymm, arith, lit<}
use native.Mathlib.Nat.{min-le_left, min-le_right, le-min, min-eq_left, min-eq_right}
use Rattle.std.specs.List.{range_with_len}
use Rattle.std.proofs.lemmas.List.FromFn.{length-map-range_with_len, get_or-map-range_with_len}
use Rattle.std.proofs.lemmas.Bool.{eq-eqb, ne_eqb, eqb-true, eqb-false, cases_lt}
use Rattle.tables.specs.Bits.{inverted}
use Rattle.tables.specs.Tables.{value}
use Rattle.transforms.specs.declared.Transform.{Transform}
use Rattle.transforms.specs.Images.{least, counted, index_of, image, images, transform_at, representative, chosen_transform, IsImage, read_back, LeastImage, FirstTo, NamesClass, Recovers}
use Rattle.transforms.proofs.Transforms.{Lawful, number_of, transform_lawful, image_lt, image-image, image_inverse, composite, composite_lawful, inverse, inverse_lawful, recovered}

-- ---- lists

least_le : (xs : List ℕ) (k : ℕ) → k < length xs → least xs ≤ get_or xs k 0
least_le [] k h = absurd (not-suc-le-zero h)
least_le (x ∷ xs) zero h = min-le_left x (least xs)
least_le (x ∷ xs) (suc k) h = le_trans (min-le_right x (least xs)) (least_le xs k (le_of_suc-le-suc h))

le_least : (r : ℕ) (xs : List ℕ) → r ≤ 65535 → ((k : ℕ) → k < length xs → r ≤ get_or xs k 0) → r ≤ least xs
le_least r [] b h = b
le_least r (x ∷ xs) b h = le-min (h 0 (zero-lt-suc (length xs))) (le_least r xs b (λ k l. h (suc k) (suc-le-suc l)))

record Found (r : ℕ) (xs : List ℕ) : Type 0 where
  at : ℕ
  inside : at < length xs
  is : get_or xs at 0 ≡ r

least_found : (x : ℕ) (xs : List ℕ) → x ≤ 65535 → ((k : ℕ) → k < length xs → get_or xs k 0 ≤ 65535) → Found (least (x ∷ xs)) (x ∷ xs)
least_found x [] b h = record { at = 0; inside = zero-lt-suc 0; is = sym (min-eq_left b) }
least_found x (y ∷ ys) b h =
    let f = least_found y ys (h 0 (zero-lt-suc (length ys))) (λ k l. h (suc k) (suc-le-suc l)) in
    elim (cases_lt (least (y ∷ ys)) x) [
      | inl l ↦ record { at = suc f.at; inside = suc-le-suc f.inside; is = f.is ∙ sym (min-eq_right (omega arith)) }
      | inr l ↦ record { at = 0; inside = zero-lt-suc (length (y ∷ ys)); is = sym (min-eq_left l) }
    ]

-- no place before that of the first r holds r
before_test : (r x : ℕ) (xs : List ℕ) (b : Bool) → eqb x r ≡ b → ((k : ℕ) → k < index_of r xs → get_or xs k 0 ≡ r → ⊥) → (k : ℕ) → k < counted b (index_of r xs) → get_or (x ∷ xs) k 0 ≡ r → ⊥
before_test r x xs true t f k h e = not-suc-le-zero h
before_test r x xs false t f zero h e = eqb-false x r t e
before_test r x xs false t f (suc k) h e = f k (le_of_suc-le-suc h) e

place_before : (r : ℕ) (xs : List ℕ) (k : ℕ) → k < index_of r xs → get_or xs k 0 ≡ r → ⊥
place_before r [] k h e = not-suc-le-zero h
place_before r (x ∷ xs) k h e = before_test r x xs (eqb x r) refl (place_before r xs) k h e

-- the first of the places that hold r
pub place_is : (r : ℕ) (xs : List ℕ) (n : ℕ) → n < length xs → get_or xs n 0 ≡ r → ((k : ℕ) → k < n → get_or xs k 0 ≡ r → ⊥) → index_of r xs ≡ n
place_is r [] n h e f = absurd (not-suc-le-zero h)
place_is r (x ∷ xs) zero h e f = ap (λ (b : Bool). counted b (index_of r xs)) (eq-eqb x r e)
place_is r (x ∷ xs) (suc n) h e f =
    ap (λ (b : Bool). counted b (index_of r xs)) (ne_eqb x r (f 0 (zero-lt-suc n)))
    ∙ ap suc (place_is r xs n (le_of_suc-le-suc h) e (λ k l. f (suc k) (suc-le-suc l)))

abbrev AtPlace : ℕ → List ℕ → ℕ → Type 0
AtPlace r xs m = (m < length xs) × (get_or xs m 0 ≡ r)

found_test : (r x : ℕ) (xs : List ℕ) (b : Bool) → eqb x r ≡ b → (n : ℕ) → AtPlace r (x ∷ xs) n → ((m : ℕ) → AtPlace r xs m → AtPlace r xs (index_of r xs)) → AtPlace r (x ∷ xs) (counted b (index_of r xs))
found_test r x xs true t n a f = (zero-lt-suc (length xs), eqb-true x r t)
found_test r x xs false t zero a f = absurd (eqb-false x r t a.1)
found_test r x xs false t (suc n) a f = let p = f n (le_of_suc-le-suc a.0, a.1) in (suc-le-suc p.0, p.1)

place_found : (r : ℕ) (xs : List ℕ) (n : ℕ) → AtPlace r xs n → AtPlace r xs (index_of r xs)
place_found r [] n a = absurd (not-suc-le-zero a.0)
place_found r (x ∷ xs) n a = found_test r x xs (eqb x r) refl n a (λ m b. place_found r xs m b)

-- ---- images

pub length-images : (f : ℕ) → length (images f) ≡ 768
unfolding images
length-images f = length-map-range_with_len (λ n. image (transform_at n) f) 0 768

pub at-images : (f n : ℕ) → n < 768 → get_or (images f) n 0 ≡ image (transform_at n) f
unfolding images
at-images f n h = get_or-map-range_with_len (λ k. image (transform_at k) f) 0 768 n n 0 h (omega arith)

inside : (f n : ℕ) → n < 768 → n < length (images f)
inside f n h = subst (λ (m : ℕ). n < m) (sym (length-images f)) h

image_le : (t : Transform) (f : ℕ) → image t f ≤ 65535
image_le t f = le_of_suc-le-suc (image_lt t f)

-- no image is smaller than the representative
pub representative-least : (f n : ℕ) → n < 768 → representative f ≤ image (transform_at n) f
unfolding representative
representative-least f n h = subst (λ (m : ℕ). least (images f) ≤ m) (at-images f n h) (least_le (images f) n (inside f n h))

pub representative_lt : (f : ℕ) → representative f < 65536
representative_lt f = le_lt (representative-least f 0 (lit< tt)) (image_lt (transform_at 0) f)
  where
    le_lt : {a b c : ℕ} → a ≤ b → b < c → a < c
    le_lt h l = omega arith

images-first : (f : ℕ) → Found (representative f) (images f)
unfolding images representative
images-first f =
    least_found (image (transform_at 0) f) (map (λ n. image (transform_at n) f) (range_with_len 1 767)) (image_le (transform_at 0) f)
    (λ k h. subst (λ (m : ℕ). m ≤ 65535) (sym (get_or-map-range_with_len (λ n. image (transform_at n) f) 1 767 k (1 + k) 0 (subst (λ (m : ℕ). k < m) (length-map-range_with_len (λ n. image (transform_at n) f) 1 767) h) refl)) (image_le (transform_at (1 + k)) f))

chosen_at : (f : ℕ) → AtPlace (representative f) (images f) (index_of (representative f) (images f))
chosen_at f = let a = images-first f in place_found (representative f) (images f) a.at (a.inside, a.is)

chosen-small : (f : ℕ) → index_of (representative f) (images f) < 768
chosen-small f = subst (λ (m : ℕ). index_of (representative f) (images f) < m) (length-images f) (chosen_at f).0

-- the chosen transform is one of the 768, and reaches the representative
pub chosen_lawful : (f : ℕ) → Lawful (chosen_transform f)
unfolding chosen_transform
chosen_lawful f = transform_lawful (index_of (representative f) (images f)) (chosen-small f)

pub chosen-image : (f : ℕ) → image (chosen_transform f) f ≡ representative f
unfolding chosen_transform
chosen-image f = sym (at-images f (index_of (representative f) (images f)) (chosen-small f)) ∙ (chosen_at f).1

-- the representative is an image
pub representative-image : (f : ℕ) → IsImage (representative f) f
unfolding chosen_transform
representative-image f = (index_of (representative f) (images f), chosen-small f, sym (chosen-image f))

-- ---- classes

lawful_image : (f g : ℕ) (t : Transform) → Lawful t → g ≡ image t f → IsImage g f
lawful_image f g t l e = let n = number_of t l in (n.number, n.small, e ∙ ap (λ (s : Transform). image s f) n.is)

pub image_of_image : (f g h : ℕ) → IsImage g f → IsImage h g → IsImage h f
image_of_image f g h a b =
    let s : Transform = transform_at a.0 in
    let t : Transform = transform_at b.0 in
    lawful_image f h (composite s t) (composite_lawful s t (transform_lawful a.0 a.1) (transform_lawful b.0 b.1))
    (b.2 ∙ ap (image t) a.2 ∙ image-image s t f)

pub image_back : (f g : ℕ) → f < 65536 → IsImage g f → IsImage f g
image_back f g h a =
    let s : Transform = transform_at a.0 in
    let l = transform_lawful a.0 a.1 in
    lawful_image g f (inverse s) (inverse_lawful s l) (image_inverse s l f h ∙ ap (image (inverse s)) (sym a.2))

below_representative : (f g : ℕ) → IsImage g f → representative f ≤ g
below_representative f g a = subst (λ (m : ℕ). representative f ≤ m) (sym a.2) (representative-least f a.0 a.1)

-- an image has the same representative
pub image_same : (f g : ℕ) → f < 65536 → IsImage g f → representative g ≡ representative f
image_same f g h a =
    le_antisymm (below_representative g (representative f) (image_of_image g f (representative f) (image_back f g h a) (representative-image f)))
    (below_representative f (representative g) (image_of_image f g (representative g) a (representative-image g)))

-- two tables with one representative are images of each other
pub same_image : (f g : ℕ) → g < 65536 → representative g ≡ representative f → IsImage g f
same_image f g h e =
    image_of_image f (representative g) g (subst (λ (r : ℕ). IsImage r f) (sym e) (representative-image f)) (image_back g (representative g) h (representative-image g))

-- ---- the least image, first reached by transform n, is the class

pub answer : (f r n : ℕ) → n < 768 → image (transform_at n) f ≡ r → ((k : ℕ) → k < 768 → r ≤ image (transform_at k) f) → ((k : ℕ) → k < n → r < image (transform_at k) f)
    → (r ≡ representative f) × (transform_at n ≡ chosen_transform f)
unfolding representative chosen_transform
answer f r n h e b l =
    let b0 : r ≤ 65535 = subst (λ (m : ℕ). m ≤ 65535) e (image_le (transform_at n) f) in
    let low : least (images f) ≤ r = subst (λ (m : ℕ). least (images f) ≤ m) (at-images f n h ∙ e) (least_le (images f) n (inside f n h)) in
    let high : r ≤ least (images f) = le_least r (images f) b0 (λ k i. subst (λ (m : ℕ). r ≤ m) (sym (at-images f k (subst (λ (m : ℕ). k < m) (length-images f) i))) (b k (subst (λ (m : ℕ). k < m) (length-images f) i))) in
    let is : r ≡ least (images f) = le_antisymm high low in
    let at : index_of r (images f) ≡ n = place_is r (images f) n (inside f n h) (at-images f n h ∙ e) (λ k i u.
    let s : k < 768 = omega arith in
    let lt = l k i in
    let eq : image (transform_at k) f ≡ r = sym (at-images f k s) ∙ u in
    omega arith) in
    (is, ap transform_at (sym at ∙ ap (λ (m : ℕ). index_of m (images f)) is))

-- ---- what the representative and the chosen transform are

first_to : (f : ℕ) → FirstTo f (representative f) (chosen_transform f)
unfolding chosen_transform
first_to f = (
  index_of (representative f) (images f),
  chosen-small f,
  refl,
  chosen-image f,
  λ k h e. let l = chosen-small f in place_before (representative f) (images f) k h (at-images f k (omega arith) ∙ e),
)

pub record Promises (f r : ℕ) (t : Transform) : Type 0 where
  pub least : LeastImage f r
  pub first : FirstTo f r t
  pub names : NamesClass f r
  pub recovers : Recovers f r t

pub promises_of : (f : ℕ) → f < 65536 → Promises f (representative f) (chosen_transform f)
promises_of f h = record {
  least = (representative-image f, representative-least f);
  first = first_to f;
  names = λ g l. (same_image f g l, image_same f g h);
  recovers = λ y. recovered (chosen_transform f) (chosen_lawful f) f y ∙ ap (λ (r : ℕ). inverted (chosen_transform f).output (value r (read_back (chosen_transform f) y))) (chosen-image f);
}
