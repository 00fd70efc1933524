-- What is known of a numeral of which some digits are read. Assumes nothing.
use Rattle.std.proofs.Common.{◌≡◌, ℕ, suc, ◌+◌, ◌*◌, ◌^◌, ◌<◌, ◌≤◌, true, false, cond, eqb, ltb, List, [], ◌∷◌, length, get_or, drop, is_some, Some, Ok, Err, Option, unwrap_or, sym, refl, ap, ◌∙◌, pow-suc, arith, drop_of_length-le, drop-cons, le-ltb}
use native.Mathlib.Nat.{pow-le-pow_right}
use Rattle.quote.specs.declared.parse.ParseFault.TheVariants.{NotHex}
use Rattle.quote.specs.Hex.{digit_of, all_digits, worth, number_of}

-- the first i of the digits are digits, and worth v
pub record Sofar (bs : List ℕ) (i v : ℕ) : Type 0 where
  pub digits : all_digits bs ≡ all_digits (drop i bs)
  pub value : worth 0 bs ≡ worth v (drop i bs)
  pub low : v < 16 ^ i

pub start : (bs : List ℕ) → Sofar bs 0 0
start bs = record { digits = refl; value = refl; low = omega arith }

-- one digit more
module _ (bs : List ℕ) (i v : ℕ) (o : Option ℕ) (h : i < length bs) (is : o ≡ digit_of (get_or bs i 0)) (old : Sofar bs i v) where
  rest : drop i bs ≡ get_or bs i 0 ∷ drop (i + 1) bs
  rest = let e : suc i ≡ i + 1 = omega arith in drop-cons bs i 0 h ∙ ap (λ k. get_or bs i 0 ∷ drop k bs) e

  pub wrong : is_some o ≡ false → all_digits bs ≡ false
  wrong none = old.digits ∙ ap all_digits rest ∙ ap (λ b. cond b (all_digits (drop (i + 1) bs)) false) (ap is_some (sym is) ∙ none)

  pub more : (d : ℕ) → o ≡ Some d → d < 16 → Sofar bs (i + 1) (16 * v + d)
  more d some small =
      let power : 16 ^ (i + 1) ≡ 16 ^ i * 16 = (let e : i + 1 ≡ suc i = omega arith in ap (λ k. 16 ^ k) e ∙ pow-suc 16 i) in
      record {
        digits = old.digits ∙ ap all_digits rest ∙ ap (λ b. cond b (all_digits (drop (i + 1) bs)) false) (ap is_some (sym is ∙ some));
        value = old.value ∙ ap (worth v) rest ∙ ap (λ u. worth (16 * v + unwrap_or u 0) (drop (i + 1) bs)) (sym is ∙ some);
        low = omega (arith, power, old.low, small);
      }

-- four digits or fewer fit
pub fits : (bs : List ℕ) (i v : ℕ) → i ≤ 3 → Sofar bs i v → v < 4096
fits bs i v h s = omega (arith, s.low, pow-le-pow_right {n = 16} (omega arith) {i = i} {j = 3} h)

-- ---- the answer, where the length is right

module _ (bs : List ℕ) (some : false ≡ eqb (length bs) 0) (few : length bs ≤ 4) where
  by_digits : number_of bs ≡ cond (all_digits bs) (Ok (worth 0 bs)) (Err NotHex)
  by_digits =
      let short : ltb 4 (length bs) ≡ false = le-ltb 4 (length bs) few in
      rw (sym some, short) refl

  pub whole : (i v : ℕ) → length bs ≤ i → Sofar bs i v → Ok v ≡ number_of bs
  whole i v done s =
      let none : drop i bs ≡ [] = drop_of_length-le bs done in
      let all : all_digits bs ≡ true = s.digits ∙ ap all_digits none in
      sym (by_digits ∙ ap (λ b. cond b (Ok (worth 0 bs)) (Err NotHex)) all ∙ ap Ok (s.value ∙ ap (worth v) none))
