-- The steps of a copy, over plain lists.
use Rattle.std.proofs.Common.{◌≡◌, ℕ, ◌+◌, ◌<◌, ◌≤◌, Bool, true, false, List, [], ◌∷◌, ◌++◌, map, length, get_or, take, drop, Ok, Err, Result, sym, refl, ap, ◌∙◌, subst, ap₂, arith}
use Rattle.std.specs.List.{range_with_len, slice_get}
use Rattle.std.specs.Option.{unwrap_or}
use Rattle.std.specs.Result.{IsErrAnd}
use Rattle.std.proofs.lemmas.Result.{err_from_is_err_and}
use Rattle.std.proofs.lemmas.Option.{unwrap_or-slice_get}
use Rattle.std.proofs.lemmas.List.{drop_more, length_push, get_or_past, length-take-le}
use Rattle.std.proofs.lemmas.List.FromFn.{map-range_with_len_more, length-map-range_with_len}
use Rattle.classes.specs.declared.Ownership.{Ownership}
use Rattle.netlists.specs.declared.Node.{Node}
use Rattle.netlists.specs.declared.Signal.{Signal}
use Rattle.netlists.specs.declared.Row.{Row}
use Rattle.tables.specs.declared.per_variable.PerVariable.{PerVariable}
use Rattle.netlists.specs.declared.Refusal.{Refusal}
use Rattle.netlists.specs.Netlists.{Netlist}
use Rattle.netlists.specs.Placing.{no_row, row_asked, output_asked, no_signal, signal_of, Placing, after_place, after_output, empty, after_start}
use Rattle.netlists.specs.Copies.{Copy, fanins_in, and_then, noted, skipped, place_next, copy_row, copy_rows, through, copy_outputs, copy_kept, fresh}
use Rattle.netlists.proofs.Ways.{taken, passed, start_few, row_there, output_there}
use Rattle.networks.specs.Copying.{Due, Tells, under}

-- ---- the signals that stand for nodes

abbrev pub plain : ℕ → Signal
plain n = signal_of (record { number = n }) false

pub is_plain : (s : Signal) (n : Node) (k : ℕ) → s.node ≡ n → n.number ≡ k → s.inverted ≡ false → s ≡ plain k
is_plain s n k a b c =
    ap₂ (λ (x : Node) (i : Bool). record { node = x; inverted = i }) (a ∙ ap (λ (m : ℕ). record { number = m }) b) c

pub is_no_signal : (s : Signal) (n : Node) → s.node ≡ n → n.number ≡ 0 → s.inverted ≡ false → s ≡ no_signal
is_no_signal s n a b c = is_plain s n 0 a b c

pub signal_past : (ss : List Signal) (made k : ℕ) → made ≤ length ss → made ≤ k → get_or (take made ss) k no_signal ≡ no_signal
signal_past ss made k h l = get_or_past (take made ss) k no_signal (subst (λ (x : ℕ). x ≤ k) (sym (length-take-le made ss h)) l)

pub found : (ss : List Signal) (k : ℕ) → unwrap_or (slice_get ss k) no_signal ≡ get_or ss k no_signal
found ss k = unwrap_or-slice_get ss k no_signal

pub plain_length : (n : ℕ) → length (map plain (range_with_len 0 n)) ≡ n
plain_length n = length-map-range_with_len plain 0 n

pub plain_more : (n : ℕ) → map plain (range_with_len 0 (n + 1)) ≡ map plain (range_with_len 0 n) ++ plain n ∷ []
plain_more n = map-range_with_len_more plain 0 n n (omega arith)

pub plain_all : (i : ℕ) → (fresh i).signals ≡ map plain (range_with_len 0 (i + 1))
unfolding fresh
plain_all i = refl

-- ---- the next row

module _ (o : Ownership) (places : ℕ) (keep : ℕ → Bool) (r : Row) (n : Netlist) (ss : List Signal) where
  pub row_left : (s : Signal) (ts : List Signal) → keep (length ss) ≡ false → s ≡ no_signal → ts ≡ ss ++ s ∷ [] → copy_row o places keep r (under n ss) ≡ Ok (under n ts)
  unfolding copy_row
  row_left s ts h z e =
      passed (keep (length ss)) _ _ h ∙ ap (λ (x : Signal). Ok (under n (ss ++ x ∷ []))) (sym z) ∙ ap (λ (xs : List Signal). Ok (under n xs)) (sym e)

  row_kept : (f : PerVariable Signal) → keep (length ss) ≡ true → f ≡ fanins_in ss r → copy_row o places keep r (under n ss) ≡ and_then (after_place o places n r.table f) (noted (under n ss))
  unfolding copy_row
  row_kept f h e =
      taken (keep (length ss)) _ _ h
      ∙ ap (λ (x : PerVariable Signal). and_then (after_place o places n r.table x) (noted (under n ss))) (sym e)

  pub row_refused : (f : PerVariable Signal) (e : Refusal) → keep (length ss) ≡ true → f ≡ fanins_in ss r → after_place o places n r.table f ≡ Err e → copy_row o places keep r (under n ss) ≡ Err e
  row_refused f e h p q = row_kept f h p ∙ ap (λ (x : Result Placing Refusal). and_then x (noted (under n ss))) q

  pub row_placed : (f : PerVariable Signal) (s : Signal) (m : Netlist) (ts : List Signal) → keep (length ss) ≡ true → f ≡ fanins_in ss r
      → after_place o places n r.table f ≡ Ok (record { signal = s; netlist = m }) → ts ≡ ss ++ s ∷ [] → copy_row o places keep r (under n ss) ≡ Ok (under m ts)
  row_placed f s m ts h p q e =
      row_kept f h p ∙ ap (λ (x : Result Placing Refusal). and_then x (noted (under n ss))) q ∙ ap (λ (xs : List Signal). Ok (under m xs)) (sym e)

-- ---- calls that answer as is due

pub never {ℓ} : {A : Type 0} {C : Type ℓ} (x : A) (e : Refusal) (r : Result A Refusal) → r ≡ Ok x → r ≡ Err e → C
never x e r p q = let z : ◌≡◌ {A = ℕ} 0 1 = cc in absurd (omega arith)

pub due_same : {A B : Type 0} (x y : Result A Refusal) (r : Result B Refusal) (z : A) → x ≡ y → Due y r z → Due x r z
due_same x y (Ok u) z e h = e ∙ h
due_same x y (Err u) z e h = e ∙ h

-- the exit of a `?`
pub err_due : {A B : Type 0} (due : Result A Refusal) (r : Result B Refusal) (x : A) (e : Refusal) → IsErrAnd r (λ y. y ≡ e) → due ≡ Err e → Due due r x
err_due due r x e h q = let p = err_from_is_err_and r h in subst (λ (s : Result _ Refusal). Due due s x) (sym (p.1 ∙ ap Err p.2)) q

-- what a test told of the next node
pub told : (post : ℕ → Bool → Type 0) (keep : ℕ → Bool) (n m : ℕ) (b : Bool) → Tells post keep → m < 577 → m ≡ n → post m b → keep n ≡ b
told post keep n m b tells h e p = sym (ap keep e) ∙ sym (tells m b h p)

-- ---- the loop over the rows: what is left, after the next row, gives the whole

-- a row that was answered is there
pub asked_there : (n : Netlist) (k : ℕ) (r : Row) → row_asked n k ≡ Ok r → k < length n.rows → r ≡ get_or n.rows k no_row
asked_there n k r e h = let p = row_there n k h in cc

pub row_next : (n : Netlist) (k : ℕ) (r : Row) → k < length n.rows → row_asked n k ≡ Ok r → drop k n.rows ≡ r ∷ drop (k + 1) n.rows
row_next n k r lt h = drop_more n.rows k no_row lt ∙ ap (λ (x : Row). x ∷ drop (k + 1) n.rows) (sym (asked_there n k r h lt))

module _ (o : Ownership) (places q : ℕ) (keep : ℕ → Bool) (r : Row) (left rest : List Row) (c : Copy) (end : Copy → Result Netlist Refusal) (total : Result Netlist Refusal)
    (same : q ≡ places) (next : left ≡ r ∷ rest) (whole : and_then (copy_rows o places keep left c) end ≡ total) where
  abbrev then_rest : Result Copy Refusal → Result Netlist Refusal
  then_rest x = and_then (and_then x (copy_rows o places keep rest)) end

  rows_next : then_rest (copy_row o q keep r c) ≡ total
  unfolding copy_rows
  rows_next =
      ap (λ (p : ℕ). then_rest (copy_row o p keep r c)) same
      ∙ ap (λ (rs : List Row). and_then (copy_rows o places keep rs c) end) (sym next) ∙ whole

  pub rows_err : (e : Refusal) → copy_row o q keep r c ≡ Err e → total ≡ Err e
  rows_err e h = sym rows_next ∙ ap then_rest h

  pub rows_more : (d : Copy) → copy_row o q keep r c ≡ Ok d → and_then (copy_rows o places keep rest d) end ≡ total
  rows_more d h = ap then_rest (sym h) ∙ rows_next

pub rows_end : (o : Ownership) (places : ℕ) (keep : ℕ → Bool) (left : List Row) (c : Copy) (end : Copy → Result Netlist Refusal) (total : Result Netlist Refusal) → left ≡ []
    → and_then (copy_rows o places keep left c) end ≡ total → end c ≡ total
unfolding copy_rows
rows_end o places keep left c end total e whole = ap (λ (rs : List Row). and_then (copy_rows o places keep rs c) end) (sym e) ∙ whole

pub row_longer : (o : Ownership) (places : ℕ) (keep : ℕ → Bool) (r : Row) (c d : Copy) → copy_row o places keep r c ≡ Ok d → length d.signals ≡ length c.signals + 1
unfolding copy_row
row_longer o places keep r c d e = go (keep (length c.signals)) e
  where
    noted_longer : (x : Result Placing Refusal) → and_then x (noted c) ≡ Ok d → length d.signals ≡ length c.signals + 1
    noted_longer (Ok p) h = let q : noted c p ≡ Ok d = h in let s : c.signals ++ p.signal ∷ [] ≡ d.signals = cc in ap length (sym s) ∙ length_push c.signals p.signal
    noted_longer (Err x) h = never d x (Err x) h refl

    go : (b : Bool) → ◌≡◌ {A = Result Copy Refusal} (elim b [ true ↦ place_next o places r c | false ↦ Ok (skipped c) ]) (Ok d) → length d.signals ≡ length c.signals + 1
    go true h = noted_longer (after_place o places c.netlist r.table (fanins_in c.signals r)) h
    go false h = let s : c.signals ++ no_signal ∷ [] ≡ d.signals = cc in ap length (sym s) ∙ length_push c.signals no_signal

-- ---- the loop over the outputs, in the same way

pub output_next : (n : Netlist) (k : ℕ) (x : Signal) → k < length n.outputs → output_asked n k ≡ Ok x → drop k n.outputs ≡ x ∷ drop (k + 1) n.outputs
output_next n k x lt h =
    let p = output_there n k lt in
    let e : get_or n.outputs k no_signal ≡ x = cc in
    drop_more n.outputs k no_signal lt ∙ ap (λ (y : Signal). y ∷ drop (k + 1) n.outputs) e

module _ (s t : Signal) (left rest : List Signal) (n : Netlist) (ss : List Signal) (total : Result Netlist Refusal) (next : left ≡ s ∷ rest) (new : t ≡ through ss s)
    (whole : copy_outputs left (under n ss) ≡ total) where
  outputs_next : and_then (after_output n t) (λ m. copy_outputs rest (under m ss)) ≡ total
  unfolding copy_outputs
  outputs_next =
      ap (λ (x : Signal). and_then (after_output n x) (λ m. copy_outputs rest (under m ss))) new
      ∙ ap (λ (xs : List Signal). copy_outputs xs (under n ss)) (sym next) ∙ whole

  pub outputs_err : (e : Refusal) → after_output n t ≡ Err e → total ≡ Err e
  outputs_err e q = sym outputs_next ∙ ap (λ (x : Result Netlist Refusal). and_then x (λ m. copy_outputs rest (under m ss))) q

  pub outputs_more : (m : Netlist) → after_output n t ≡ Ok m → copy_outputs rest (under m ss) ≡ total
  outputs_more m q = ap (λ (x : Result Netlist Refusal). and_then x (λ m. copy_outputs rest (under m ss))) (sym q) ∙ outputs_next

pub outputs_end : (left : List Signal) (n : Netlist) (ss : List Signal) (total : Result Netlist Refusal) → left ≡ [] → copy_outputs left (under n ss) ≡ total → total ≡ Ok n
unfolding copy_outputs
outputs_end left n ss total e whole = sym whole ∙ ap (λ (xs : List Signal). copy_outputs xs (under n ss)) e

-- ---- rows and outputs

-- all the rows and then the outputs, from the start, give the copy
pub begun : (o : Ownership) (places : ℕ) (keep : ℕ → Bool) (n m : Netlist) (i : ℕ) (ss : List Signal) → i ≤ 32 → i ≡ n.inputs → after_start i ≡ Ok m → ss ≡ (fresh i).signals
    → and_then (copy_rows o places keep n.rows (under m ss)) (copy_outputs n.outputs) ≡ copy_kept o places keep n
unfolding fresh
begun o places keep n m i ss few same start first =
    let s = start_few i few in
    let e : m ≡ empty i = cc in
    ap (λ (c : Copy). and_then (copy_rows o places keep n.rows c) (copy_outputs n.outputs))
    (ap₂ (λ (x : Netlist) (xs : List Signal). under x xs) e first ∙ ap fresh same)

pub fresh_length : (i : ℕ) → length (fresh i).signals ≡ i + 1
unfolding fresh
fresh_length i = length-map-range_with_len plain 0 (i + 1)
