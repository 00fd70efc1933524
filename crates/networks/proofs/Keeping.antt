-- A copy depends on which nodes are kept, and not on how that is told. Copies and sweeps of whole netlists, and how many
-- rows they keep.
use Rattle.std.proofs.Common.{◌≡◌, ℕ, zero, suc, ◌+◌, ◌<◌, ◌≤◌, Bool, true, false, cond, List, [], ◌∷◌, map, length, Ok, Err, Result, sym, refl, ap, ◌∙◌, subst, ap₂, add-zero, add-one, arith, MatchResult}
use Rattle.std.specs.List.{range_with_len, count_by, sum_by}
use Rattle.std.proofs.lemmas.List.{map-id}
use Rattle.std.proofs.lemmas.List.FromFn.{sum_by-map-range_with_len_more}
use Rattle.classes.specs.declared.Ownership.{Ownership}
use Rattle.netlists.specs.declared.Row.{Row}
use Rattle.netlists.specs.declared.Refusal.{Refusal}
use Rattle.netlists.specs.Netlists.{Netlist}
use Rattle.netlists.specs.Lawful.{Lawful}
use Rattle.netlists.specs.Copies.{Copy, and_then, skipped, place_next, copy_row, copy_rows, copy_outputs, fresh, kept_before, copy_kept, copied, swept, reached, Swept}
use Rattle.netlists.proofs.Sweeps.{copy_itself, sweep_swept}
use Rattle.networks.specs.declared.node_set.NodeSet.{NodeSet}
use Rattle.networks.specs.declared.TheConstants.{NODE_LIMIT}
use Rattle.networks.specs.NodeSets.{within}
use Rattle.networks.specs.Copying.{Due}
use Rattle.networks.proofs.Copying.{never, row_longer, fresh_length}

-- ---- two tests that answer alike keep the same rows

then_same : {A B : Type 0} (x : Result A Refusal) (f g : A → Result B Refusal) → ((d : A) → x ≡ Ok d → f d ≡ g d) → and_then x f ≡ and_then x g
then_same (Ok d) f g h = h d refl
then_same (Err e) f g h = refl

rows_same : (o : Ownership) (places bound : ℕ) (keep kept : ℕ → Bool) → ((m : ℕ) → m < bound → keep m ≡ kept m) → (rs : List Row) (c : Copy) → length c.signals + length rs ≤ bound
    → copy_rows o places keep rs c ≡ copy_rows o places kept rs c
unfolding copy_rows copy_row
rows_same o places bound keep kept h [] c l = refl
rows_same o places bound keep kept h (r ∷ rs) c l =
    ap (λ (b : Bool). and_then (elim b [ true ↦ place_next o places r c | false ↦ Ok (skipped c) ]) (copy_rows o places keep rs)) (h (length c.signals) (omega arith))
    ∙ then_same (copy_row o places kept r c) (copy_rows o places keep rs) (copy_rows o places kept rs)
    (λ d e. let g = row_longer o places kept r c d e in rows_same o places bound keep kept h rs d (omega (arith, g)))

pub kept_same : (o : Ownership) (places bound : ℕ) (keep kept : ℕ → Bool) (n : Netlist) → ((m : ℕ) → m < bound → keep m ≡ kept m) → n.inputs + 1 + length n.rows ≤ bound
    → copy_kept o places keep n ≡ copy_kept o places kept n
kept_same o places bound keep kept n h l =
    let e = fresh_length n.inputs in
    ap (λ (x : Result Copy Refusal). and_then x (copy_outputs n.outputs)) (rows_same o places bound keep kept h n.rows (fresh n.inputs) (omega arith))

-- ---- whole netlists

-- a due call that is accepted
accepted : {A B : Type 0} (due : Result A Refusal) (r : Result B Refusal) (x y : A) (Q : Refusal → Type 0) → due ≡ Ok y → Due due r x → MatchResult r (λ _. x ≡ y) Q
accepted due (Ok u) x y Q p h = let e : x ≡ y = cc in e
accepted due (Err e) x y Q p h = never y e due p h

-- every row is kept
pub whole_copy : {B : Type 0} (o : Ownership) (places size : ℕ) (n : Netlist) (keep : ℕ → Bool) (r : Result B Refusal) (x : Netlist) (Q : Refusal → Type 0)
    → Lawful o size n → length n.rows ≤ places → ((m : ℕ) → m < NODE_LIMIT → keep m ≡ true) → Due (copy_kept o places keep n) r x → MatchResult r (λ _. x ≡ n) Q
unfolding copied
whole_copy o places size n keep r x Q law room all h =
    let p = law.few_inputs in
    let q = law.room in
    let s = law.few_places in
    accepted (copy_kept o places keep n) r x n Q
    (kept_same o places NODE_LIMIT keep (λ k. true) n all (omega arith) ∙ copy_itself o places size n law room) h

-- ---- the rows that outputs reach

pub before_same : (keep kept : ℕ → Bool) → ((m : ℕ) → keep m ≡ kept m) → (i k : ℕ) → kept_before keep i k ≡ kept_before kept i k
before_same keep kept h i zero = refl
before_same keep kept h i (suc k) = ap₂ (λ (x : ℕ) (b : Bool). x + cond b 1 0) (before_same keep kept h i k) (h (i + 1 + k))

pub before_hit : (keep : ℕ → Bool) (i a k : ℕ) → a ≡ i + 1 + k → keep a ≡ true → kept_before keep i (k + 1) ≡ kept_before keep i k + 1
before_hit keep i a k e h = ap (kept_before keep i) (add-one k) ∙ ap (λ (b : Bool). kept_before keep i k + cond b 1 0) (ap keep (sym e) ∙ h)

pub before_miss : (keep : ℕ → Bool) (i a k : ℕ) → a ≡ i + 1 + k → keep a ≡ false → kept_before keep i (k + 1) ≡ kept_before keep i k
before_miss keep i a k e h = ap (kept_before keep i) (add-one k) ∙ ap (λ (b : Bool). kept_before keep i k + cond b 1 0) (ap keep (sym e) ∙ h) ∙ add-zero (kept_before keep i k)

-- the rows that are kept, counted over their nodes
pub before_counts : (keep : ℕ → Bool) (i k : ℕ) → count_by keep (range_with_len (i + 1) k) ≡ kept_before keep i k
before_counts keep i k = ap (sum_by one) (sym (map-id (range_with_len (i + 1) k))) ∙ counted k
  where
    one : ℕ → ℕ
    one n = cond (keep n) 1 0

    counted : (k : ℕ) → sum_by one (map (λ (n : ℕ). n) (range_with_len (i + 1) k)) ≡ kept_before keep i k
    counted zero = refl
    counted (suc k) =
        ap (λ (m : ℕ). sum_by one (map (λ (n : ℕ). n) (range_with_len (i + 1) m))) (sym (add-one k))
        ∙ sum_by-map-range_with_len_more one (λ n. n) (i + 1) k (i + 1 + k) refl ∙ ap (λ (x : ℕ). x + one (i + 1 + k)) (counted k)

chosen : {B : Type 0} (o : Ownership) (places : ℕ) (n : Netlist) (r : Result B Refusal) (x y : Netlist) (Q : Refusal → Type 0)
    → swept o places n ≡ Ok y → Swept n y → Due (swept o places n) r x → MatchResult r (λ _. (swept o places n ≡ Ok x) × Swept n x) Q
chosen o places n (Ok u) x y Q e s h = let w : y ≡ x = cc in (h, subst (Swept n) w s)
chosen o places n (Err d) x y Q e s h = never y d (swept o places n) e h

pub swept_copy : {B : Type 0} (o : Ownership) (places size : ℕ) (n : Netlist) (keep : NodeSet) (r : Result B Refusal) (x : Netlist) (Q : Refusal → Type 0)
    → Lawful o size n → kept_before (within keep) n.inputs (length n.rows) ≤ places → ((m : ℕ) → within keep m ≡ reached n m) → Due (copy_kept o places (reached n) n) r x
    → MatchResult r (λ _. (swept o places n ≡ Ok x) × Swept n x) Q
unfolding swept
swept_copy o places size n keep r x Q law room all h =
    let c = before_same (within keep) (reached n) all n.inputs (length n.rows) in
    let s = sweep_swept o places size n law (omega arith) in
    chosen o places n r x s.0 Q s.1 s.2 h
