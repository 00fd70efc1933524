-- How rows are written as words: what a coding has to say of itself, and the laws that it keeps.
use Rattle.std.specs.Prelude.{◌≡◌, ℕ, ◌≤◌, Bool, true, List, length}
use Rattle.netlists.specs.declared.Row.{Row}

pub record Coder : Type 0 where
  -- the rows that come back as they were
  pub codes : Row → Bool
  -- the words of a row
  pub encode : Row → List ℕ
  pub decode : List ℕ → Row

-- of a coder that writes each row as so many words
pub record Lawful (width : ℕ) (k : Coder) : Type 0 where
  pub least : 2 ≤ width
  pub most : width ≤ 5
  pub wide : (r : Row) → length (k.encode r) ≡ width
  -- a row that it codes comes back
  pub back : (r : Row) → k.codes r ≡ true → k.decode (k.encode r) ≡ r
