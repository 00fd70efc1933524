-- A test of every number of a list, computed once, and what it says of each.
use Rattle.std.proofs.Common.{◌≡◌, ℕ, Bool, true, false, T, eqb, List, [], ◌∷◌, sym, refl, subst, ⊎_elim}
use Rattle.std.proofs.lemmas.Bool.{or_cases, both_ways, eqb-true}
use Rattle.tables.specs.Lists.{member}
use Rattle.tables.proofs.Every.{both, both_left, both_right}

abbrev pub every_of : (ℕ → Bool) → List ℕ → Bool
every_of g [] = true
every_of g (x ∷ xs) = both (g x) (every_of g xs)

pub of_member : (g : ℕ → Bool) (xs : List ℕ) → T (every_of g xs) → (f : ℕ) → member f xs ≡ true → T (g f)
of_member g [] t f e = absurd (both_ways false refl e)
of_member g (x ∷ xs) t f e =
    ⊎_elim (λ (h : eqb f x ≡ true). subst (λ (y : ℕ). T (g y)) (sym (eqb-true f x h)) (both_left (g x) _ t))
    (λ (h : member f xs ≡ true). of_member g xs (both_right (g x) _ t) f h) (or_cases (eqb f x) (member f xs) e)
