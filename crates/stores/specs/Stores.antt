-- What a store holds, and what a call does to it.
use Rattle.std.specs.Prelude.{◌≡◌, ℕ, ◌*◌, ◌<◌, ◌≤◌, List, [], ◌∷◌, ◌++◌, length, Some, vec_items, ◌≢◌, slice_index}
use Rattle.std.specs.List.{slice_get}
use Rattle.netlists.specs.declared.Row.{Row}
use Rattle.codings.specs.declared.coding.Coding.{Ghosts}
use Rattle.stores.specs.declared.store.Store.{Store}
use Rattle.stores.specs.Blocks.{rows_in}

-- none of the first n rows is r
abbrev pub Absent : List Row → ℕ → Row → Type 0
Absent rs n r = (k : ℕ) → k < n → slice_get rs k ≢ Some r

-- row i is r, and none before it is
pub record First (rs : List Row) (r : Row) (i : ℕ) : Type 0 where
  pub inside : i < length rs
  pub here : slice_get rs i ≡ Some r
  pub before : Absent rs i r

module _ {C : Type 0} {W : ℕ} {c : Ghosts C W} where
  -- all its words, used or not
  abbrev pub words_of : Store C W c → List ℕ
  words_of s = vec_items s.words

  -- its rows, in order
  abbrev pub rows_of : Store C W c → List Row
  rows_of s = rows_in c.coder W (vec_items s.words) s.count

  -- the same places and number of words
  pub record Alike (s t : Store C W c) : Type 0 where
    pub places : t.places ≡ s.places
    pub room : length (words_of t) ≡ length (words_of s)

  -- t is s with one more row, and its words outside that row's are those of s
  pub record Pushed (s t : Store C W c) (r : Row) : Type 0 where
    pub alike : Alike s t
    pub rows : rows_of t ≡ rows_of s ++ r ∷ []
    pub below : (m : ℕ) → m < W * length (rows_of s) → slice_index (words_of t) m ≡ slice_index (words_of s) m
    pub past : (m : ℕ) → W * length (rows_of t) ≤ m → slice_index (words_of t) m ≡ slice_index (words_of s) m
