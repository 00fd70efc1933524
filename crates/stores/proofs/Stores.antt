-- Laws of stores, for the calls and for what is built on them.
use Rattle.std.proofs.Common.{◌≡◌, ℕ, ◌+◌, ◌*◌, ◌/◌, ◌<◌, ◌≤◌, true, ◌&&◌, List, [], ◌∷◌, ◌++◌, length, get_or, map, take, drop, Some, None, vec_len, Option, sym, refl, ap, ◌∙◌, ap₂, subst, arith, MatchOption}
use Rattle.std.specs.List.{slice_get, slice_range, list_all, AllWithin, HoldsAt}
use Rattle.std.specs.Option.{option_map}
use Rattle.std.specs.Simd.{first_chunks}
use Rattle.std.proofs.lemmas.Bool.{and_from}
use Rattle.std.proofs.lemmas.List.{length-map, map_push, take_at}
use Rattle.std.proofs.lemmas.List.Folds.{list_all-append}
use Rattle.std.proofs.lemmas.Option.{slice_get-map, slice_get-get_or, get_or_from_slice_get}
use Rattle.netlists.specs.declared.Row.{Row}
use Rattle.codings.specs.Coders.{Lawful}
use Rattle.codings.specs.declared.coding.Coding.{Ghosts}
use Rattle.stores.specs.declared.store.Store.{Store}
use Rattle.stores.specs.Blocks.{places_in, blocks, rows_in}
use Rattle.stores.specs.Stores.{words_of, rows_of, Absent, First, Pushed}
use Rattle.stores.proofs.Chunks.{block_fits, places_most, few_blocks, chunks_length, chunks_take, Wrote, wrote}

-- ---- the search, by a default, where a list of rows is read with one

pub absent_get_or : (rs : List Row) (n : ℕ) (r d : Row) → Absent rs n r → (k : ℕ) → k < n → k < length rs → get_or rs k d ≡ r → ⊥
absent_get_or rs n r d a k h l e = a k h (slice_get-get_or rs k d l ∙ ap Some e)

pub first-get_or : (rs : List Row) (r d : Row) (i : ℕ) → First rs r i → get_or rs i d ≡ r
first-get_or rs r d i f = get_or_from_slice_get rs i r d f.here

module _ {C : Type 0} {W : ℕ} {c : Ghosts C W} where
  -- ---- room

  pub row_fits : (s : Store C W c) (i : ℕ) → i < s.places → W * i + W ≤ vec_len s.words
  row_fits s i h =
      let r = s.room in
      block_fits W (vec_len s.words) i (omega arith)

  pub places_few : (s : Store C W c) → s.places ≤ 544
  places_few s = let r = s.room in let m = places_most W (vec_len s.words) in omega arith

  -- ---- rows

  pub blocks_length : (s : Store C W c) (n : ℕ) → length (blocks W (words_of s) n) ≡ n
  unfolding blocks
  blocks_length s n = chunks_length W n (words_of s)

  pub blocks_count : (s : Store C W c) → length (blocks W (words_of s) s.count) ≡ s.count
  blocks_count s = blocks_length s s.count

  pub rows_count : (s : Store C W c) → length (rows_of s) ≡ s.count
  rows_count s = length-map (blocks W (words_of s) s.count) c.coder.decode ∙ blocks_count s

  -- there are no more rows than places
  pub rows_most : (s : Store C W c) → length (rows_of s) ≤ s.places
  rows_most s = let n = rows_count s in let w = s.within in omega arith

  pub blocks_taken : (s : Store C W c) (n : ℕ) → n ≤ s.places → take n (first_chunks W (length (words_of s) / W) (words_of s)) ≡ blocks W (words_of s) n
  unfolding blocks
  blocks_taken s n h =
      let r = s.room in
      let v = s.words.ok.0 in
      chunks_take W n (length (words_of s) / W) (words_of s) (few_blocks W (length (words_of s)) n (subst (λ (l : ℕ). n ≤ places_in W l) v (omega arith)))

  -- ---- the search

  -- the words of row j
  block_of_row : (s : Store C W c) (j : ℕ) (r : Row) → slice_get (rows_of s) j ≡ Some r → slice_get (blocks W (words_of s) s.count) j ≡ Some (c.coder.encode r)
  block_of_row s j r e = ap (λ (bs : List (List ℕ)). slice_get bs j) (sym s.written) ∙ slice_get-map c.coder.encode (rows_of s) j ∙ ap (option_map c.coder.encode) e

  row_of_block : (s : Store C W c) (j : ℕ) (b : List ℕ) → slice_get (blocks W (words_of s) s.count) j ≡ Some b → slice_get (rows_of s) j ≡ Some (c.coder.decode b)
  row_of_block s j b e = slice_get-map c.coder.decode (blocks W (words_of s) s.count) j ∙ ap (option_map c.coder.decode) e

  abbrev Finding : Store C W c → Option ℕ → List ℕ → Type 0
  Finding s o key =
      MatchOption o (AllWithin (λ b. b ≡ key → ⊥) (blocks W (words_of s) s.count) 0 (length (blocks W (words_of s) s.count)))
      (λ i. (i < length (blocks W (words_of s) s.count)) × HoldsAt (λ b. b ≡ key) (blocks W (words_of s) s.count) i × AllWithin (λ b. b ≡ key → ⊥) (blocks W (words_of s) s.count) 0 i)

  pub absent : (s : Store C W c) (r : Row) (n : ℕ) → AllWithin (λ b. b ≡ c.coder.encode r → ⊥) (blocks W (words_of s) s.count) 0 n → Absent (rows_of s) n r
  absent s r n f j h e = f j [] (omega arith) h (get_or_from_slice_get (blocks W (words_of s) s.count) j (c.coder.encode r) [] (block_of_row s j r e))

  pub found : (s : Store C W c) (o : Option ℕ) (r : Row) → Lawful W c.coder → c.coder.codes r ≡ true → Finding s o (c.coder.encode r)
      → MatchOption o (Absent (rows_of s) (length (rows_of s)) r) (λ i. First (rows_of s) r i)
  found s None r law h f = subst (λ (n : ℕ). Absent (rows_of s) n r) (blocks_count s ∙ sym (rows_count s)) (absent s r (length (blocks W (words_of s) s.count)) f)
  found s (Some i) r law h f =
      let n = rows_count s in
      let m = blocks_count s in
      record {
        inside = let l = f.0 in omega arith;
        here = row_of_block s i (c.coder.encode r) (slice_get-get_or (blocks W (words_of s) s.count) i [] f.0 ∙ ap Some (f.1 [])) ∙ ap Some (law.back r h);
        before = absent s r i f.2;
      }

  -- ---- one more row

  pub put_block : (s : Store C W c) (r : Row) → Lawful W c.coder → s.count < s.places → (ws vs b : List ℕ) → ws ≡ words_of s → b ≡ c.coder.encode r → length vs ≡ length ws
      → take (W * s.count) vs ≡ take (W * s.count) ws → slice_range vs (W * s.count) (W * s.count + length b) ≡ b
      → drop (W * s.count + length b) vs ≡ drop (W * s.count + length b) ws → (us : List ℕ) → us ≡ take (vec_len s.words) (vs ++ drop (length vs) (words_of s)) → Wrote W s.count (words_of s) us (c.coder.encode r)
  put_block s r law h ws vs b ew eb el before here after us eu =
      let k : length b ≡ W = ap length eb ∙ law.wide r in
      let f = row_fits s s.count h in
      let v = s.words.ok.0 in
      let e : us ≡ vs = eu ∙ take_at vs (drop (length vs) (words_of s)) (vec_len s.words) (el ∙ ap length ew ∙ sym v) in
      subst (λ (xs : List ℕ). Wrote W s.count (words_of s) xs (c.coder.encode r)) (sym e)
      (wrote W s.count (words_of s) vs (c.coder.encode r) (el ∙ ap length ew) (omega arith) (before ∙ ap (take (W * s.count)) ew)
      (ap (λ (j : ℕ). slice_range vs (W * s.count) (W * s.count + j)) (sym k) ∙ here ∙ eb)
      (ap (λ (j : ℕ). drop (W * s.count + j) vs) (sym k) ∙ after ∙ ap₂ (λ (j : ℕ) (xs : List ℕ). drop (W * s.count + j) xs) k ew))

  module _ (s : Store C W c) (r : Row) (law : Lawful W c.coder) (codes : c.coder.codes r ≡ true) (vs : List ℕ) (w : Wrote W s.count (words_of s) vs (c.coder.encode r)) where
    pushed_blocks : blocks W vs (s.count + 1) ≡ blocks W (words_of s) s.count ++ c.coder.encode r ∷ []
    unfolding blocks
    pushed_blocks = w.blocks

    pub pushed_rows : rows_in c.coder W vs (s.count + 1) ≡ rows_of s ++ r ∷ []
    pushed_rows =
        ap (map c.coder.decode) pushed_blocks ∙ map_push c.coder.decode (blocks W (words_of s) s.count) (c.coder.encode r)
        ∙ ap (λ (x : Row). rows_of s ++ x ∷ []) (law.back r codes)

    pub pushed_codes : list_all c.coder.codes (rows_in c.coder W vs (s.count + 1)) ≡ true
    pushed_codes =
        ap (list_all c.coder.codes) pushed_rows ∙ list_all-append c.coder.codes (rows_of s) (r ∷ [])
        ∙ and_from (list_all c.coder.codes (rows_of s)) (c.coder.codes r && true) s.coded (and_from (c.coder.codes r) true codes refl)

    pub pushed_written : map c.coder.encode (rows_in c.coder W vs (s.count + 1)) ≡ blocks W vs (s.count + 1)
    pushed_written =
        ap (map c.coder.encode) pushed_rows ∙ map_push c.coder.encode (rows_of s) r ∙ ap (λ (bs : List (List ℕ)). bs ++ c.coder.encode r ∷ []) s.written ∙ sym pushed_blocks

    pub pushed : (t : Store C W c) → t.count ≡ s.count + 1 → t.places ≡ s.places → words_of t ≡ vs → Pushed s t r
    pushed t en ep ev =
        let n = rows_count s in
        let m = rows_count t in
        let start = ap (λ (x : ℕ). W * x) n in
        let end = ap (λ (x : ℕ). W * x) (m ∙ en) in
        record {
          alike = record { places = ep; room = ap length ev ∙ w.room };
          rows = ap₂ (λ (xs : List ℕ) (k : ℕ). rows_in c.coder W xs k) ev en ∙ pushed_rows;
          below = λ k l. ap (λ (xs : List ℕ). get_or xs k 0) ev ∙ w.below k (omega arith);
          past = λ k l. ap (λ (xs : List ℕ). get_or xs k 0) ev ∙ w.past k (omega arith);
        }
