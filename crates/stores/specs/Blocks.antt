-- Rows in a list of words: row i has the words from width * i on.
use Rattle.std.specs.Prelude.{ℕ, ◌/◌, min, List, map}
use Rattle.std.specs.Simd.{first_chunks}
use Rattle.netlists.specs.declared.Row.{Row}
use Rattle.codings.specs.Coders.{Coder}

-- how many rows find a place in so many words
unfoldable pub places_in : ℕ → ℕ → ℕ
places_in width words = min (words / width) 544

-- the words of each of the first n rows
unfoldable pub blocks : ℕ → List ℕ → ℕ → List (List ℕ)
blocks width ws n = first_chunks width n ws

-- the first n rows
abbrev pub rows_in : Coder → ℕ → List ℕ → ℕ → List Row
rows_in k width ws n = map k.decode (blocks width ws n)
