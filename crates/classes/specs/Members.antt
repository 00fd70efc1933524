-- The tables of a class, ascending.
use Rattle.std.specs.Prelude.{ℕ, true, false, List, [], ◌∷◌, ◌==◌, nat_lt}
use Rattle.transforms.specs.Images.{images}

-- x among ascending numbers, once
abbrev pub insert : ℕ → List ℕ → List ℕ
insert x [] = x ∷ []
insert x (y ∷ ys) = elim (nat_lt x y) [ true ↦ x ∷ y ∷ ys | false ↦ elim (x == y) [ true ↦ y ∷ ys | false ↦ y ∷ insert x ys ] ]

-- some numbers ascending, each once
abbrev pub ascending : List ℕ → List ℕ
ascending [] = []
ascending (x ∷ xs) = insert x (ascending xs)

-- the tables of the class of r: its images
unfoldable pub tables_of : ℕ → List ℕ
tables_of r = ascending (images r)
