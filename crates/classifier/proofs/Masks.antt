-- The sixteen masks: each from the fourth on is an earlier one with one input more.
use Rattle.std.proofs.Common.{◌≡◌, ℕ, zero, suc, ◌+◌, ◌*◌, ◌-◌, ◌<◌, ◌≤◌, Bool, false, T, List, sym, ap, ◌∙◌, inl, inr, add-zero, not-suc-le-zero, le_of_suc-le-suc, arith, lit<}
use Rattle.std.specs.List.{slice_index}
use Rattle.std.proofs.lemmas.Bool.{cases_lt}
use Rattle.tables.specs.declared.Variable.{Variable}
use Rattle.tables.specs.declared.Variable.TheVariants.{V0, V1, V2, V3}
use Rattle.tables.specs.Bits.{bit, inverted}
use Rattle.tables.specs.Settings.{same_variable, span_of}
use Rattle.tables.specs.Tables.{flipped}
use Rattle.tables.proofs.Every.{every}
use Rattle.tables.proofs.Every as all
use Rattle.transforms.specs.declared.Transform.{Transform}
use Rattle.transforms.specs.Orders.{at, order_at}
use Rattle.transforms.specs.Images.{image, mask_at, transform_at}
use Rattle.transforms.proofs.Variables.{same_bool, same_bool_lem, every_variable, at-variable}
use Rattle.transforms.proofs.Transforms.{Toggled, flipped_to, plain_number}
use Rattle.classifier.specs.Extremes.{AreImages}

same_but : Variable → ℕ → Variable → Bool
same_but k m j = same_bool (mask_at (span_of k + m) j) (inverted (same_variable k j) (mask_at m j))

toggles : Variable → ℕ → Bool
toggles k m = every_variable (same_but k m)

all_toggle : (k : Variable) → T (every (toggles k) 0 (span_of k))
unfolding toggles same_but bit
all_toggle V0 = tt
all_toggle V1 = tt
all_toggle V2 = tt
all_toggle V3 = tt

-- with input k inverted, mask m is the one that lies a span of k higher
toggled : (k : Variable) (m : ℕ) → m < span_of k → Toggled m (span_of k + m) k
unfolding toggles same_but
toggled k m h j =
    same_bool_lem (mask_at (span_of k + m) j) (inverted (same_variable k j) (mask_at m j))
    (at-variable (same_but k m) (all.at (toggles k) (span_of k) (all_toggle k) m h) j)

span_le : (k : Variable) → span_of k ≤ 8
span_le V0 = omega arith
span_le V1 = omega arith
span_le V2 = omega arith
span_le V3 = omega arith

-- the images of the masks without input k, and then of those with it
pub twice_as_many : (f q : ℕ) (k v : Variable) (xs ys : List ℕ) → q < 24 → v ≡ at (order_at q) k → AreImages f q (span_of k) xs
    → ((m : ℕ) → m < span_of k → slice_index ys m ≡ slice_index xs m)
    → ((m : ℕ) → m < span_of k → slice_index ys (span_of k + m) ≡ flipped (slice_index xs m) v)
    → AreImages f q (span_of k + span_of k) ys
twice_as_many f q k v xs ys h e a kept more = record { each = λ m l. elim (cases_lt m (span_of k)) [ inl i ↦ kept m i ∙ a.each m i | inr i ↦ later m l i ] }
  where
    g : ℕ → ℕ
    g n = image (record { output = false; order = order_at q; mask = n }) f

    number : (m : ℕ) → m < 16 → image (transform_at (16 * q + m)) f ≡ g m
    number m l = ap (λ (t : Transform). image t f) (plain_number q m h l)

    later : (m : ℕ) → m < span_of k + span_of k → span_of k ≤ m → slice_index ys m ≡ image (transform_at (16 * q + m)) f
    later m l i =
        let s = span_le k in
        let n : ℕ = m - span_of k in
        let p : n < span_of k = omega arith in
        let r : span_of k + n ≡ m = omega arith in
        let b : slice_index xs n ≡ g n = a.each n p ∙ number n (omega arith) in
        let d : slice_index ys (span_of k + n) ≡ g (span_of k + n) = flipped_to (slice_index xs n) (slice_index ys (span_of k + n)) f q n (span_of k + n) k v h b e (more n p) (toggled k n p) in
        ap (slice_index ys) (sym r) ∙ d ∙ ap g r ∙ sym (number m (omega arith))

-- the image of mask 0 alone
pub first_alone : (f q : ℕ) (xs : List ℕ) → slice_index xs 0 ≡ image (transform_at (16 * q)) f → AreImages f q 1 xs
first_alone f q xs e = record { each = each }
  where
    each : (m : ℕ) → m < 1 → slice_index xs m ≡ image (transform_at (16 * q + m)) f
    each zero h = e ∙ ap (λ (n : ℕ). image (transform_at n) f) (sym (add-zero (16 * q)))
    each (suc m) h = absurd (not-suc-le-zero (le_of_suc-le-suc h))

pub order_numbered : (q : ℕ) → q < 24 → (transform_at (16 * q)).order ≡ order_at q
order_numbered q h = ap (λ (t : Transform). t.order) (ap transform_at (sym (add-zero (16 * q))) ∙ plain_number q 0 h (lit< tt))
