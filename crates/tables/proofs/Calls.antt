-- Arrays made by calls of a closure that no call changes: what holds of each call holds of each element.
use Rattle.std.proofs.Common.{◌≡◌, ℕ, zero, suc, ◌+◌, ◌<◌, List, slice_index_or, sym, refl, subst, add-zero, zero-add, not-suc-le-zero, le_of_suc-le-suc, arith}
use denote.Param.Members.{Mut, Called}
use Rattle.std.specs.Array.{IsFromFnResultFrom, IsFromFnResult}

module _ {F B : Type 0} (g : Mut F (ℕ × Unit {0}) B) (P : ℕ → B → Type 0) (f : F) (h : (i : ℕ) (y : B) (q : F) → Called g f (i, tt) y q → P i y × (q ≡ f)) (ys : List B) (e : B) where
  from : (n i k : ℕ) (p : F) → p ≡ f → IsFromFnResultFrom g p ys i n → k < n → P (i + k) (slice_index_or ys (i + k) e)
  from zero i k p s t l = absurd (not-suc-le-zero l)
  from (suc n) i zero p s t l =
      let one = h i t.1 t.0 (subst (λ (r : F). Called g r (i, tt) t.1 t.0) s t.3) in
      subst (λ (j : ℕ). P j (slice_index_or ys j e)) (sym (add-zero i)) (subst (P i) (sym (t.2.1 e)) one.0)
  from (suc n) i (suc k) p s t l =
      let one = h i t.1 t.0 (subst (λ (r : F). Called g r (i, tt) t.1 t.0) s t.3) in
      let j : i + 1 + k ≡ i + suc k = omega arith in
      subst (λ (j : ℕ). P j (slice_index_or ys j e)) j (from n (i + 1) k t.0 one.1 t.4 (le_of_suc-le-suc l))

pub from_fn_at : {F B : Type 0} {g : Mut F (ℕ × Unit {0}) B} {f : F} {ys : List B} {n : ℕ} (P : ℕ → B → Type 0) → IsFromFnResult g f ys n
    → ((i : ℕ) (y : B) (q : F) → Called g f (i, tt) y q → P i y × (q ≡ f)) → (k : ℕ) (e : B) → k < n → P k (slice_index_or ys k e)
from_fn_at {g = g} {f = f} {ys = ys} {n = n} P t h k e l = subst (λ (j : ℕ). P j (slice_index_or ys j e)) (zero-add k) (from g P f h ys e n 0 k f refl t.each l)
