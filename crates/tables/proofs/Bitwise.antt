-- The bits of what the operators of the code give.
use Rattle.std.proofs.Common.{◌≡◌, ℕ, zero, suc, ◌+◌, ◌-◌, ◌*◌, ◌/◌, ◌%◌, ◌^◌, ◌<◌, ◌≤◌, Bool, true, false, cond, not, ◌&&◌, ◌||◌, eqb, ltb, List, [], ◌∷◌, map, length, get_or, sym, refl, ap, ◌∙◌, ap₂, suc-le-suc, le_of_suc-le-suc, not-suc-le-zero, mod-lt, zero-lt-suc, mul_assoc, pow-suc, div-add-mod', div-one, one-add, arith, lit<, pow-add}
use native.Mathlib.Nat.{mod-one, mul-mod_left}
use lib.Arith.{lt-one}
use lib.Bits.{bit_and, bit_or, and_shr, or_shr, and_mod, or_mod}
use lib.Pow.{field, mod-mod-pow, mod-pow-add}
use Rattle.std.specs.List.{range_with_len}
use Rattle.std.proofs.lemmas.Nat.{shr-shr, shl-shr}
use Rattle.std.proofs.lemmas.Bool.{ltb-true, ltb-false, eqb-true, eqb-false, cond_both}
use Rattle.tables.specs.Bits.{bit, from_bits}

two_pos : zero < 2
two_pos = zero-lt-suc 1

not_digit {ℓ} : {A : Type ℓ} {x : ℕ} → suc (suc x) < 2 → A
not_digit h = absurd (not-suc-le-zero (le_of_suc-le-suc (le_of_suc-le-suc h)))

-- an operation that works digit by digit, as op on two digits, works bit by bit
bit_op : (op : ℕ → ℕ → ℕ) (on : Bool → Bool → Bool)
    → ((a b k : ℕ) → op a b / 2 ^ k ≡ op (a / 2 ^ k) (b / 2 ^ k))
    → ((a b k : ℕ) → op a b % 2 ^ k ≡ op (a % 2 ^ k) (b % 2 ^ k))
    → ((x y : ℕ) → x < 2 → y < 2 → eqb (op x y) 1 ≡ on (eqb x 1) (eqb y 1))
    → (a b i : ℕ) → bit (op a b) i ≡ on (bit a i) (bit b i)
unfolding bit
bit_op op on shr rest digit a b i =
    ap (λ (x : ℕ). eqb (x % 2) 1) (shr a b i) ∙ ap (λ (x : ℕ). eqb x 1) (rest (a / 2 ^ i) (b / 2 ^ i) 1)
    ∙ digit ((a / 2 ^ i) % 2) ((b / 2 ^ i) % 2) (mod-lt (a / 2 ^ i) two_pos) (mod-lt (b / 2 ^ i) two_pos)

and_digit : (x y : ℕ) → x < 2 → y < 2 → eqb (bit_and x y) 1 ≡ (eqb x 1 && eqb y 1)
and_digit zero y hx hy = refl
and_digit (suc zero) zero hx hy = refl
and_digit (suc zero) (suc zero) hx hy = refl
and_digit (suc zero) (suc (suc y)) hx hy = not_digit hy
and_digit (suc (suc x)) y hx hy = not_digit hx

or_digit : (x y : ℕ) → x < 2 → y < 2 → eqb (bit_or x y) 1 ≡ (eqb x 1 || eqb y 1)
or_digit zero zero hx hy = refl
or_digit zero (suc zero) hx hy = refl
or_digit zero (suc (suc y)) hx hy = not_digit hy
or_digit (suc zero) zero hx hy = refl
or_digit (suc zero) (suc zero) hx hy = refl
or_digit (suc zero) (suc (suc y)) hx hy = not_digit hy
or_digit (suc (suc x)) y hx hy = not_digit hx

pub bit-and : (a b i : ℕ) → bit (bit_and a b) i ≡ (bit a i && bit b i)
bit-and = bit_op bit_and ◌&&◌ and_shr and_mod and_digit

pub bit-or : (a b i : ℕ) → bit (bit_or a b) i ≡ (bit a i || bit b i)
bit-or = bit_op bit_or ◌||◌ or_shr or_mod or_digit

pub bit_shr : (n k i : ℕ) → bit (n / 2 ^ k) i ≡ bit n (k + i)
unfolding bit
bit_shr n k i = ap (λ (x : ℕ). eqb (x % 2) 1) (shr-shr n k i)

-- bit i of n % 2 ^ w, below w, is that of n
pub bit_mod : (n w i : ℕ) → i < w → bit (n % 2 ^ w) i ≡ bit n i
unfolding bit
bit_mod n w i h =
    let r : ℕ = w - suc i in
    let e : suc r + i ≡ w = omega arith in
    let s : 1 + r ≡ suc r = omega arith in
    ap (λ (x : ℕ). eqb (n % 2 ^ x / 2 ^ i % 2) 1) (sym e)
    ∙ ap (λ (x : ℕ). eqb (x % 2) 1) (field n (suc r) i)
    ∙ ap (λ (x : ℕ). eqb (n / 2 ^ i % 2 ^ x % 2) 1) (omega arith)
    ∙ ap (λ (x : ℕ). eqb x 1) (mod-mod-pow (n / 2 ^ i) r 1)

-- bit i of n shifted left by k
abbrev pub shifted : ℕ → ℕ → ℕ → Bool
shifted n k i = cond (ltb i k) false (bit n (i - k))

even : (n k i : ℕ) → i < k → bit (n * 2 ^ k) i ≡ false
unfolding bit
even n k i h =
    let r : ℕ = k - suc i in
    let e : suc r + i ≡ k = omega arith in
    ap (λ (x : ℕ). eqb (n * 2 ^ x / 2 ^ i % 2) 1) (sym e)
    ∙ ap (λ (x : ℕ). eqb (n * x / 2 ^ i % 2) 1) (pow-add 2 (suc r) i)
    ∙ ap (λ (x : ℕ). eqb (x / 2 ^ i % 2) 1) (sym (mul_assoc n (2 ^ suc r) (2 ^ i)))
    ∙ ap (λ (x : ℕ). eqb (x % 2) 1) (shl-shr (n * 2 ^ suc r) i)
    ∙ ap (λ (x : ℕ). eqb (n * x % 2) 1) (pow-suc 2 r)
    ∙ ap (λ (x : ℕ). eqb (x % 2) 1) (sym (mul_assoc n (2 ^ r) 2))
    ∙ ap (λ (x : ℕ). eqb x 1) (mul-mod_left (n * 2 ^ r) 2)

above : (n k i : ℕ) → k ≤ i → bit (n * 2 ^ k) i ≡ bit n (i - k)
unfolding bit
above n k i h =
    let e : k + (i - k) ≡ i = omega arith in
    ap (λ (x : ℕ). eqb (n * 2 ^ k / 2 ^ x % 2) 1) (sym e)
    ∙ ap (λ (x : ℕ). eqb (x % 2) 1) (sym (shr-shr (n * 2 ^ k) k (i - k)))
    ∙ ap (λ (x : ℕ). eqb (x / 2 ^ (i - k) % 2) 1) (shl-shr n k)

-- `n << k` at w bits
pub bit_shl : (n k w i : ℕ) → i < w → bit ((n * 2 ^ k) % 2 ^ w) i ≡ shifted n k i
bit_shl n k w i h =
    bit_mod (n * 2 ^ k) w i h
    ∙ sym (cond_both (ltb i k) false (bit n (i - k)) (λ b. b ≡ bit (n * 2 ^ k) i) (λ t. sym (even n k i (ltb-true i k t))) (λ t. sym (above n k i (ltb-false i k t))))

-- ---- numbers and lists of bits

half : (b : Bool) (n : ℕ) → (cond b 1 0 + 2 * n) / 2 ≡ n
half true n = omega arith
half false n = omega arith

odd : (b : Bool) (n : ℕ) → eqb ((cond b 1 0 + 2 * n) % 2) 1 ≡ b
odd true n = let e : (1 + 2 * n) % 2 ≡ 1 = omega arith in ap (λ (x : ℕ). eqb x 1) e
odd false n = let e : (0 + 2 * n) % 2 ≡ 0 = omega arith in ap (λ (x : ℕ). eqb x 1) e

bit_suc : (n i : ℕ) → bit n (suc i) ≡ bit (n / 2) i
bit_suc n i = ap (bit n) (sym (one-add i)) ∙ sym (bit_shr n 1 i)

bit_zero : (n : ℕ) → bit n 0 ≡ eqb (n % 2) 1
unfolding bit
bit_zero n = ap (λ (x : ℕ). eqb (x % 2) 1) (div-one n)

bit-none : (i : ℕ) → bit 0 i ≡ false
bit-none zero = bit_zero 0
bit-none (suc i) = bit_suc 0 i ∙ bit-none i

pub bit-from_bits : (bs : List Bool) (i : ℕ) → bit (from_bits bs) i ≡ get_or bs i false
unfolding from_bits
bit-from_bits [] i = bit-none i
bit-from_bits (b ∷ bs) zero = bit_zero (cond b 1 0 + 2 * from_bits bs) ∙ odd b (from_bits bs)
bit-from_bits (b ∷ bs) (suc i) =
    bit_suc (cond b 1 0 + 2 * from_bits bs) i ∙ ap (λ (x : ℕ). bit x i) (half b (from_bits bs)) ∙ bit-from_bits bs i

pub from_bits_lt : (bs : List Bool) → from_bits bs < 2 ^ length bs
unfolding from_bits
from_bits_lt [] = lit< tt
from_bits_lt (b ∷ bs) =
    let e : 2 ^ length (b ∷ bs) ≡ 2 ^ length bs * 2 = pow-suc 2 (length bs) in
    let h = from_bits_lt bs in
    let c : cond b 1 0 < 2 = elim b as (λ v. cond v 1 0 < 2) [ true ↦ lit< tt | false ↦ lit< tt ] in
    omega (arith, e, h, c)

below_two : (x : ℕ) → x < 2 → (x ≡ 1 → ⊥) → 0 ≡ x
below_two zero l h = refl
below_two (suc zero) l h = absurd (h refl)
below_two (suc (suc x)) l h = not_digit l

digit_of_lem : (n : ℕ) → cond (eqb (n % 2) 1) 1 0 ≡ n % 2
digit_of_lem n = cond_both (eqb (n % 2) 1) 1 0 (λ x. x ≡ n % 2) (λ e. sym (eqb-true (n % 2) 1 e)) (λ e. let h = eqb-false (n % 2) 1 e in let l = mod-lt n two_pos in below_two (n % 2) l h)

-- k bits of n, from bit j on
pub from_bits_bits : (k n j : ℕ) → from_bits (map (bit n) (range_with_len j k)) ≡ (n / 2 ^ j) % 2 ^ k
unfolding from_bits
from_bits_bits zero n j = sym (mod-one (n / 2 ^ j))
from_bits_bits (suc k) n j =
    let e = from_bits_bits k n (j + 1) in
    let d = digit_of_lem (n / 2 ^ j) in
    let q : n / 2 ^ (j + 1) ≡ n / 2 ^ j / 2 = sym (shr-shr n j 1) in
    let s : (n / 2 ^ j) % 2 ^ (k + 1) ≡ ((n / 2 ^ j / 2) % 2 ^ k) * 2 + (n / 2 ^ j) % 2 = mod-pow-add (n / 2 ^ j) k 1 in
    let t : (n / 2 ^ j) % 2 ^ suc k ≡ (n / 2 ^ j) % 2 ^ (k + 1) = ap (λ (x : ℕ). (n / 2 ^ j) % 2 ^ x) (omega arith) in
    let u : from_bits (map (bit n) (range_with_len (j + 1) k)) ≡ (n / 2 ^ j / 2) % 2 ^ k = e ∙ ap (λ (x : ℕ). x % 2 ^ k) q in
    let v : cond (bit n j) 1 0 ≡ (n / 2 ^ j) % 2 = unfold bit in d in
    omega (arith, s, t, u, v)

-- two numbers of k bits with the same bits are one
pub same_bits : (k a b : ℕ) → a < 2 ^ k → b < 2 ^ k → ((i : ℕ) → i < k → bit a i ≡ bit b i) → a ≡ b
same_bits zero a b h l e = lt-one h ∙ sym (lt-one l)
same_bits (suc k) a b h l e =
    let p : 2 ^ suc k ≡ 2 ^ k * 2 = pow-suc 2 k in
    let q : a / 2 < 2 ^ k = omega (arith, p) in
    let r : b / 2 < 2 ^ k = omega (arith, p) in
    let s : a / 2 ≡ b / 2 = same_bits k (a / 2) (b / 2) q r (λ i m. sym (bit_suc a i) ∙ e (suc i) (suc-le-suc m) ∙ bit_suc b i) in
    let u : eqb (a % 2) 1 ≡ eqb (b % 2) 1 = sym (bit_zero a) ∙ e 0 (zero-lt-suc k) ∙ bit_zero b in
    let t : a % 2 ≡ b % 2 = sym (digit_of_lem a) ∙ ap (λ (x : Bool). cond x 1 0) u ∙ digit_of_lem b in
    sym (div-add-mod' a 2) ∙ ap₂ (λ (x y : ℕ). x * 2 + y) s t ∙ div-add-mod' b 2

other : (x : ℕ) → x < 2 → eqb (1 - x) 1 ≡ not (eqb x 1)
other zero h = refl
other (suc zero) h = refl
other (suc (suc x)) h = not_digit h

-- `!n` at k bits
pub bit_not : (k n i : ℕ) → n < 2 ^ k → i < k → bit (2 ^ k - 1 - n) i ≡ not (bit n i)
bit_not zero n i h l = absurd (not-suc-le-zero l)
bit_not (suc k) n zero h l =
    let p : 2 ^ suc k ≡ 2 ^ k * 2 = pow-suc 2 k in
    let e : (2 ^ suc k - 1 - n) % 2 ≡ 1 - n % 2 = omega (arith, p, mod-lt n two_pos, div-add-mod' n 2) in
    bit_zero (2 ^ suc k - 1 - n) ∙ ap (λ (x : ℕ). eqb x 1) e ∙ other (n % 2) (mod-lt n two_pos) ∙ ap not (sym (bit_zero n))
bit_not (suc k) n (suc i) h l =
    let p : 2 ^ suc k ≡ 2 ^ k * 2 = pow-suc 2 k in
    let e : (2 ^ suc k - 1 - n) / 2 ≡ 2 ^ k - 1 - n / 2 = omega (arith, p) in
    bit_suc (2 ^ suc k - 1 - n) i ∙ ap (λ (x : ℕ). bit x i) e ∙ bit_not k (n / 2) i (omega (arith, p)) (le_of_suc-le-suc l) ∙ ap not (sym (bit_suc n i))
