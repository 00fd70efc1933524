-- The first row alike.
use Rattle.std.proofs.Common.{◌≡◌, ℕ, zero, suc, ◌<◌, ◌≤◌, Bool, true, false, List, [], ◌∷◌, length, get_or, refl, subst, le_of_suc-le-suc, not-suc-le-zero, arith}
use Rattle.std.proofs.lemmas.Bool.{eqb-true, eq-eqb, and_parts, and_from, both_ways}
use Rattle.netlists.specs.declared.Row.{Row}
use Rattle.netlists.specs.Placing.{no_row, same_row, first_alike}

pub made : (r q : Row) → r.table ≡ q.table → r.nodes.a.number ≡ q.nodes.a.number → r.nodes.b.number ≡ q.nodes.b.number → r.nodes.c.number ≡ q.nodes.c.number → r.nodes.d.number ≡ q.nodes.d.number → r ≡ q
made r q t a b c d = grind arith

pub same_row_lem : (r q : Row) → same_row r q ≡ true → r ≡ q
same_row_lem r q e = grind (arith, eqb-true, and_parts, made)

same_self : (r : Row) → same_row r r ≡ true
same_self r = search (arith, eq-eqb, and_from)

pub row_same : (r q : Row) → r ≡ q → same_row r q ≡ true
row_same r q e = subst (λ (x : Row). same_row r x ≡ true) e (same_self r)

abbrev step : Bool → ℕ → ℕ
step b n = elim b [ true ↦ 0 | false ↦ suc n ]

step_le : (b : Bool) (n k : ℕ) → n ≤ k → step b n ≤ suc k
step_le b n k h = grind arith

pub alike_le : (r : Row) (rs : List Row) → first_alike r rs ≤ length rs
unfolding first_alike
alike_le r [] = omega arith
alike_le r (x ∷ xs) = step_le (same_row x r) (first_alike r xs) (length xs) (alike_le r xs)

-- the row found is alike
pub alike_found : (r : Row) (rs : List Row) → first_alike r rs < length rs → get_or rs (first_alike r rs) no_row ≡ r
unfolding first_alike
alike_found r [] h = absurd (not-suc-le-zero h)
alike_found r (x ∷ xs) h = go (same_row x r) refl h (alike_found r xs)
  where
    go : (b : Bool) → same_row x r ≡ b → step b (first_alike r xs) < suc (length xs) → (first_alike r xs < length xs → get_or xs (first_alike r xs) no_row ≡ r) → get_or (x ∷ xs) (step b (first_alike r xs)) no_row ≡ r
    go true e l f = same_row_lem x r e
    go false e l f = f (le_of_suc-le-suc l)

-- none before it is
pub alike_first : (r : Row) (rs : List Row) (k : ℕ) → k < first_alike r rs → get_or rs k no_row ≡ r → ⊥
unfolding first_alike
alike_first r [] k h e = not-suc-le-zero h
alike_first r (x ∷ xs) k h e = go (same_row x r) refl k h e (alike_first r xs)
  where
    go : (b : Bool) → same_row x r ≡ b → (k : ℕ) → k < step b (first_alike r xs) → get_or (x ∷ xs) k no_row ≡ r → ((j : ℕ) → j < first_alike r xs → get_or xs j no_row ≡ r → ⊥) → ⊥
    go true t k l q f = not-suc-le-zero l
    go false t zero l q f = both_ways (same_row x r) t (row_same x r q)
    go false t (suc k) l q f = f k (le_of_suc-le-suc l) q

-- a place that is alike, with none before it, is the one found
pub alike_is : (r : Row) (rs : List Row) (k : ℕ) → k < length rs → get_or rs k no_row ≡ r → ((j : ℕ) → j < k → get_or rs j no_row ≡ r → ⊥) → first_alike r rs ≡ k
alike_is r rs k h e none = grind (arith, alike_found r rs, alike_first r rs k, none (first_alike r rs))

-- where no row is alike, the number of rows is answered
pub alike_none : (r : Row) (rs : List Row) → ((j : ℕ) → j < length rs → get_or rs j no_row ≡ r → ⊥) → first_alike r rs ≡ length rs
alike_none r rs none = let l = alike_le r rs in grind (arith, alike_found r rs, none (first_alike r rs))
