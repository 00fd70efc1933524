-- The blocks of a list of words: how many, which, and what one more leaves.
use Rattle.std.proofs.Common.{◌≡◌, ℕ, zero, suc, ◌+◌, ◌-◌, ◌*◌, ◌/◌, ◌<◌, ◌≤◌, List, [], ◌∷◌, ◌++◌, length, get_or, take, drop, sym, refl, ap, ◌∙◌, ap₂, mul-zero, add-one, mul_comm, mul-add, mul-le-mul_left, div-mul-le_self, arith}
use native.Mathlib.Nat.{min-le_left, min-le_right}
use Rattle.std.proofs.lemmas.List.{take-take, drop-drop, drop-take, get_or-take, get_or-drop}
use Rattle.std.specs.List.{slice_range}
use Rattle.std.specs.Simd.{first_chunks}
use Rattle.stores.specs.Blocks.{places_in}

-- ---- places

pub block_fits : (width l i : ℕ) → i < places_in width l → width * i + width ≤ l
unfolding places_in
block_fits width l i h =
    let m = min-le_left (l / width) 544 in
    let k : i + 1 ≤ l / width = omega arith in
    let a = mul-le-mul_left width k in
    let b = div-mul-le_self l width in
    let c = mul_comm (l / width) width in
    let d = mul-add width i 1 in
    omega arith

pub blocks_apart : (width i n : ℕ) → i < n → width * i + width ≤ width * n
blocks_apart width i n h =
    let k : i + 1 ≤ n = omega arith in
    let a = mul-le-mul_left width k in
    let d = mul-add width i 1 in
    omega arith

pub blocks_fit : (width l n : ℕ) → n ≤ places_in width l → width * n ≤ l
unfolding places_in
blocks_fit width l n h =
    let m = min-le_left (l / width) 544 in
    let k : n ≤ l / width = omega arith in
    let a = mul-le-mul_left width k in
    let b = div-mul-le_self l width in
    let c = mul_comm (l / width) width in
    omega arith

pub few_blocks : (width l n : ℕ) → n ≤ places_in width l → n ≤ l / width
unfolding places_in
few_blocks width l n h = let m = min-le_left (l / width) 544 in omega arith

pub places_most : (width l : ℕ) → places_in width l ≤ 544
unfolding places_in
places_most width l = min-le_right (l / width) 544

-- ---- blocks

pub chunks_length : (w n : ℕ) (ws : List ℕ) → length (first_chunks w n ws) ≡ n
chunks_length w zero ws = refl
chunks_length w (suc n) ws = ap suc (chunks_length w n (drop w ws))

pub chunks_take : (w n m : ℕ) (ws : List ℕ) → n ≤ m → take n (first_chunks w m ws) ≡ first_chunks w n ws
chunks_take w zero m ws h = refl
chunks_take w (suc n) zero ws h = let k : ⊥ = omega arith in absurd k
chunks_take w (suc n) (suc m) ws h = ap (λ (xs : List (List ℕ)). take w ws ∷ xs) (chunks_take w n m (drop w ws) (omega arith))

next : (w n : ℕ) → w * suc n ≡ w + w * n
next w n = let a = mul-add w n 1 in ap (λ (k : ℕ). w * k) (sym (add-one n)) ∙ omega arith

-- the words from there on do not matter
chunks_front : (w n m : ℕ) (ws : List ℕ) → w * n ≤ m → first_chunks w n (take m ws) ≡ first_chunks w n ws
chunks_front w zero m ws h = refl
chunks_front w (suc n) m ws h =
    let s = next w n in
    let e : m ≡ w + (m - w) = omega arith in
    ap₂ (λ (x : List ℕ) (xs : List (List ℕ)). x ∷ xs) (take-take w m ws (omega arith))
    (ap (first_chunks w n) (ap (λ (k : ℕ). drop w (take k ws)) e ∙ drop-take w (m - w) ws) ∙ chunks_front w n (m - w) (drop w ws) (omega arith))

chunks_push : (w n : ℕ) (ws : List ℕ) → first_chunks w (suc n) ws ≡ first_chunks w n ws ++ take w (drop (w * n) ws) ∷ []
chunks_push w zero ws = ap (λ (k : ℕ). take w (drop k ws) ∷ []) (sym (mul-zero w))
chunks_push w (suc n) ws =
    ap (λ (xs : List (List ℕ)). take w ws ∷ xs)
    (chunks_push w n (drop w ws) ∙ ap (λ (xs : List ℕ). first_chunks w n (drop w ws) ++ take w xs ∷ []) (drop-drop (w * n) w ws ∙ ap (λ (k : ℕ). drop k ws) (sym (next w n))))

pub record Wrote (w n : ℕ) (ws vs b : List ℕ) : Type 0 where
  pub room : length vs ≡ length ws
  pub blocks : first_chunks w (n + 1) vs ≡ first_chunks w n ws ++ b ∷ []
  pub below : (m : ℕ) → m < w * n → get_or vs m 0 ≡ get_or ws m 0
  pub past : (m : ℕ) → w * (n + 1) ≤ m → get_or vs m 0 ≡ get_or ws m 0

pub wrote : (w n : ℕ) (ws vs b : List ℕ) → length vs ≡ length ws → w * n + w ≤ length ws
    → take (w * n) vs ≡ take (w * n) ws → slice_range vs (w * n) (w * n + w) ≡ b → drop (w * n + w) vs ≡ drop (w * n + w) ws → Wrote w n ws vs b
wrote w n ws vs b el h before here after =
    let e : w * (n + 1) ≡ w * n + w = let m = mul-add w n 1 in omega arith in
    record {
      room = el;
      blocks = rw add-one (chunks_push w n vs
          ∙ ap₂ (λ (xs : List (List ℕ)) (x : List ℕ). xs ++ x ∷ [])
          (sym (chunks_front w n (w * n) vs (omega arith)) ∙ ap (first_chunks w n) before ∙ chunks_front w n (w * n) ws (omega arith))
          (ap (λ (j : ℕ). take j (drop (w * n) vs)) (omega arith) ∙ here));
      below = λ i p. sym (get_or-take (w * n) vs i 0 p) ∙ ap (λ (xs : List ℕ). get_or xs i 0) before ∙ get_or-take (w * n) ws i 0 p;
      past = λ i p.
          let k : w * n + w + (i - (w * n + w)) ≡ i = omega arith in
          ap (λ (j : ℕ). get_or vs j 0) (sym k) ∙ sym (get_or-drop (w * n + w) vs (i - (w * n + w)) 0) ∙ ap (λ (xs : List ℕ). get_or xs (i - (w * n + w)) 0) after
          ∙ get_or-drop (w * n + w) ws (i - (w * n + w)) 0 ∙ ap (λ (j : ℕ). get_or ws j 0) k;
    }
