-- Sets of nodes, as the lists of what is in them.
use Rattle.std.proofs.Common.{◌≡◌, ℕ, zero, suc, Bool, true, false, ◌||◌, List, [], ◌∷◌, ◌++◌, get_or, replicate, sym, refl, ap, ◌∙◌}
use Rattle.std.specs.Prelude.{◌==◌}
use Rattle.std.proofs.Math.Bool.{or_assoc}
use Rattle.netlists.specs.declared.Row.{Row}
use Rattle.netlists.specs.Copies.{has, nodes_of, claim}
use Rattle.netlists.proofs.Ways.{taken, passed}

-- nothing is in it at first
pub none_within : (size n : ℕ) → get_or (replicate size false) n false ≡ false
none_within zero n = refl
none_within (suc size) zero = refl
none_within (suc size) (suc n) = none_within size n

has-append : (n : ℕ) (xs ys : List ℕ) → has n (xs ++ ys) ≡ (has n xs || has n ys)
has-append n [] ys = refl
has-append n (x ∷ xs) ys = ap (λ (b : Bool). n == x || b) (has-append n xs ys) ∙ sym (or_assoc (n == x) (has n xs) (has n ys))

pub claim_hit : (n k : ℕ) (r : Row) (ws : List ℕ) → has k ws ≡ true → has n (claim k r ws) ≡ (has n (nodes_of r) || has n ws)
unfolding claim
claim_hit n k r ws e = ap (has n) (taken (has k ws) _ _ e) ∙ has-append n (nodes_of r) ws

pub claim_miss : (n k : ℕ) (r : Row) (ws : List ℕ) → has k ws ≡ false → has n (claim k r ws) ≡ has n ws
unfolding claim
claim_miss n k r ws e = ap (has n) (passed (has k ws) _ _ e)
