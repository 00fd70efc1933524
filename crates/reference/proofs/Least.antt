-- The least of the images so far.
use Rattle.std.proofs.Common.{◌≡◌, ℕ, ◌+◌, ◌*◌, ◌/◌, ◌%◌, ◌<◌, ◌≤◌, ◌⊎◌, Bool, nat_le, slice_index_or, [], sym, ap, subst, ◌∙◌, arith, lit<, not-suc-le-zero, inl, inr}
use Rattle.std.proofs.lemmas.Nat.{div-mul-add, mod-mul-add}
use Rattle.std.proofs.lemmas.Bool.{cases_lt, le-leb, lt-leb}
use Rattle.reference.specs.declared.classes.Transform.{Transform}
use Rattle.reference.specs.declared.classes.Class.{Class}
use Rattle.reference.specs.Classes.{image, orders, transform_at, IsFirstLeast}

-- what is at most each of n numbers, and at most one more
at_most : (g : ℕ → ℕ) (n x : ℕ) → x ≤ g n → ((m : ℕ) → m < n → x ≤ g m) → (m : ℕ) → m < n + 1 → x ≤ g m
at_most g n x here below m l = elim (cases_lt m n) [ inl under ↦ below m under | inr over ↦ (let e : n ≡ m = omega arith in subst (λ k. x ≤ g k) e here) ]

-- the image of transform number n
image_at : ℕ → ℕ → ℕ
image_at f n = image (transform_at n) f

is_image_at : (f n : ℕ) (d : Class) → d.transform ≡ transform_at n → d.representative ≡ image d.transform f → d.representative ≡ image_at f n
unfolding image_at
is_image_at f n d t r = r ∙ ap (λ (u : Transform). image u f) t

pub less : (f n : ℕ) (c d : Class) → n < 768 → d.transform ≡ transform_at n → d.representative ≡ image d.transform f
    → d.representative < c.representative → IsFirstLeast f n c → IsFirstLeast f (n + 1) d
unfolding image_at
less f n c d s t r h b =
    let e : d.representative ≡ image_at f n = is_image_at f n d t r in
    let under : (m : ℕ) → m < n → d.representative < image_at f m = λ m l. (let q = b.bound m l in omega arith) in
    record {
      number = n;
      small = s;
      named = t;
      reached = r;
      bound = at_most (image_at f) n d.representative (omega arith) (λ m l. (let q = under m l in omega arith));
      first = under;
    }

pub kept : (f n : ℕ) (c d : Class) → d.transform ≡ transform_at n → d.representative ≡ image d.transform f
    → c.representative ≤ d.representative → IsFirstLeast f n c → IsFirstLeast f (n + 1) c
unfolding image_at
kept f n c d t r h b =
    let e : d.representative ≡ image_at f n = is_image_at f n d t r in
    record {
      number = b.number;
      small = b.small;
      named = b.named;
      reached = b.reached;
      bound = at_most (image_at f) n c.representative (omega arith) b.bound;
      first = b.first;
    }

-- one more
pub next : (f n : ℕ) (c d k : Class) → n < 768 → d.transform ≡ transform_at n → d.representative ≡ image d.transform f
    → (d.representative < c.representative → k ≡ d) → (c.representative ≤ d.representative → k ≡ c) → IsFirstLeast f n c → IsFirstLeast f (n + 1) k
next f n c d k s t r as_less as_kept b =
    elim (cases_lt d.representative c.representative) [
      | inl h ↦ subst (IsFirstLeast f (n + 1)) (sym (as_less h)) (less f n c d s t r h b)
      | inr h ↦ subst (IsFirstLeast f (n + 1)) (sym (as_kept h)) (kept f n c d t r h b)
    ]

-- ---- the transforms of a block, by their masks

abbrev made : Bool → ℕ → ℕ → Transform
made o q m = record { output = o; order = slice_index_or orders (q % 24) []; mask = m }

alike : {o p : Bool} {q r m n : ℕ} → o ≡ p → q ≡ r → m ≡ n → made o q m ≡ made p r n
alike {o} {p} {q} {r} {m} {n} a b c = ap (λ x. made x q m) a ∙ ap (λ x. made p x m) b ∙ ap (made p r) c

with_mask : (b m : ℕ) → m < 16 → made (nat_le 384 (b * 16)) (b * 16 / 16) m ≡ transform_at (b * 16 + m)
with_mask b m l = alike (outputs (cases_lt b 24)) quotient (sym (mod-mul-add b 16 m l))
  where
    outputs : (b < 24) ⊎ (24 ≤ b) → nat_le 384 (b * 16) ≡ nat_le 384 (b * 16 + m)
    outputs (inl h) = lt-leb 384 (b * 16) (omega arith) ∙ sym (lt-leb 384 (b * 16 + m) (omega arith))
    outputs (inr h) = le-leb 384 (b * 16) (omega arith) ∙ sym (le-leb 384 (b * 16 + m) (omega arith))

    quotient : b * 16 / 16 ≡ (b * 16 + m) / 16
    quotient = let e : b * 16 ≡ b * 16 + 0 = omega arith in ap (λ n. n / 16) e ∙ div-mul-add b 16 0 (lit< tt) ∙ sym (div-mul-add b 16 m l)

pub masked : (b m : ℕ) (t : Transform) → m < 16 → t ≡ transform_at (b * 16) → record t { mask = m } ≡ transform_at (b * 16 + m)
masked b m t l e = ap (λ (u : Transform). record u { mask = m }) e ∙ with_mask b m l
