-- The class from the least and the greatest of the images that are not inverted.
use Rattle.std.proofs.Common.{◌≡◌, ℕ, ◌+◌, ◌-◌, ◌<◌, ◌≤◌, sym, refl, ap, ◌∙◌, subst, inl, inr, not-suc-le-zero, arith, lit<}
use Rattle.std.proofs.lemmas.Bool.{cases_lt}
use Rattle.tables.specs.Tables.{complement}
use Rattle.tables.proofs.Laws.{complement_code}
use Rattle.transforms.specs.Images.{image, transform_at, chosen_transform}
use Rattle.transforms.proofs.Transforms.{lawful_order, image_lt, image-complement, image-first}
use Rattle.transforms.proofs.Least.{answer, chosen_lawful, promises_of}
use Rattle.classifier.specs.Extremes.{Highest, Seen, class_of, IsClass, IsReached}
use Rattle.classifier.specs.declared.Reached.{Reached}
use Rattle.classifier.specs.declared.Extremes.{Extremes}

-- the inverted images are at least the inverted greatest
inverted_is : (f k : ℕ) → 384 ≤ k → k < 768 → image (transform_at k) f ≡ 65535 - image (transform_at (k - 384)) f
inverted_is f k h l =
    let e : 384 + (k - 384) ≡ k = omega arith in
    ap (λ (n : ℕ). image (transform_at n) f) (sym e) ∙ image-complement (k - 384) (omega arith) f ∙ sym (complement_code (image (transform_at (k - 384)) f) (image_lt (transform_at (k - 384)) f))

upper : (f : ℕ) (high : Reached) (low inverse : ℕ) → Highest f 384 high → inverse ≡ complement high.image → high.image < 65536 → low ≤ inverse
    → (k : ℕ) → 384 ≤ k → k < 768 → low ≤ image (transform_at k) f
upper f high low inverse b e s h k i l =
    let c = inverted_is f k i l in
    let d = b.bound (k - 384) (omega arith) in
    let g : inverse ≡ 65535 - high.image = e ∙ sym (complement_code high.image s) in
    omega arith

high_lt : (f : ℕ) (high : Reached) → Highest f 384 high → high.image < 65536
high_lt f high b = subst (λ (m : ℕ). m < 65536) b.reached (image_lt (transform_at high.at) f)

pub low_class : (f : ℕ) (s : Extremes) → Seen f 384 s → s.low.image ≤ complement s.high.image → IsReached f s.low.image s.low.at
low_class f s b h =
    let inverse : ℕ = complement s.high.image in
    let e : inverse ≡ complement s.high.image = refl in
    let l : s.high.image < 65536 = high_lt f s.high b.high in
    let m = b.low.small in
    answer f s.low.image s.low.at (omega arith) b.low.reached
    (λ k i. elim (cases_lt k 384) [ inl j ↦ b.low.bound k j | inr j ↦ upper f s.high s.low.image inverse b.high e l h k j i ]) b.low.first

pub high_class : (f : ℕ) (s : Extremes) → Seen f 384 s → complement s.high.image < s.low.image → IsReached f (complement s.high.image) (384 + s.high.at)
high_class f s b h =
    let high : ℕ = s.high.image in
    let at : ℕ = s.high.at in
    let inverse : ℕ = complement high in
    let e : inverse ≡ complement high = refl in
    let d : high < 65536 = high_lt f s.high b.high in
    let m = b.high.small in
    let g : inverse ≡ 65535 - high = e ∙ sym (complement_code high d) in
    let r : image (transform_at (384 + at)) f ≡ inverse =
    image-complement at m f ∙ sym (complement_code (image (transform_at at) f) (image_lt (transform_at at) f)) ∙ ap (λ (n : ℕ). 65535 - n) b.high.reached ∙ sym g in
    answer f inverse (384 + at) (omega arith) r
    (λ k l. elim (cases_lt k 384) [ inl i ↦ (let q = b.low.bound k i in omega arith) | inr i ↦ upper f s.high inverse inverse b.high e d (omega arith) k i l ])
    (λ k l. elim (cases_lt k 384) [ inl i ↦ (let q = b.low.bound k i in omega arith) | inr i ↦ (let q = b.high.first (k - 384) (omega arith) in let c = inverted_is f k i (omega arith) in omega arith) ])

-- before any image is seen, the table itself is the first
pub none_seen : (f : ℕ) → f < 65536 → Seen f 0 (record { low = record { image = f; at = 0 }; high = record { image = f; at = 0 } })
none_seen f h = record {
  low = record { small = lit< tt; reached = image-first f h; bound = λ k l. absurd (not-suc-le-zero l); first = λ k l. absurd (not-suc-le-zero l) };
  high = record { small = lit< tt; reached = image-first f h; bound = λ k l. absurd (not-suc-le-zero l); first = λ k l. absurd (not-suc-le-zero l) };
}

-- ---- what a class has

pub class_law : (f : ℕ) → f < 65536 → IsClass f (class_of f)
class_law f h =
    let p = promises_of f h in
    record { least = p.least; first = p.first; names = p.names; recovers = p.recovers; order = lawful_order (chosen_transform f) (chosen_lawful f) }
