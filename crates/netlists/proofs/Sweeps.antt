-- A netlist placed row by row into an empty network comes out as itself, and the sweep keeps every output's value.
use Rattle.std.proofs.Common.{◌≡◌, ℕ, zero, suc, ◌+◌, ◌<◌, ◌≤◌, Bool, true, false, eqb, List, [], ◌∷◌, ◌++◌, map, length, get_or, Ok, Result, sym, refl, ap, ◌∙◌, subst, ap₂, inl, inr, le_of_suc-le-suc, not-suc-le-zero, arith}
use Rattle.std.proofs.lemmas.List.{append-nil, append_assoc, length_push, length-map, get_or-map, ext_get_or}
use Rattle.std.proofs.lemmas.Bool.{le-leb, leb-true, cases_lt, or_left, or_right, eq-eqb}
use Rattle.tables.specs.declared.Variable.{Variable}
use Rattle.tables.specs.declared.Variable.TheVariants.{V0, V1, V2, V3}
use Rattle.tables.specs.Bits.{inverted}
use Rattle.tables.specs.Tables.{value}
use Rattle.tables.proofs.Swaps.{every_variable_lem}
use Rattle.classes.specs.declared.Ownership.{Ownership}
use Rattle.netlists.specs.declared.Signal.{Signal}
use Rattle.netlists.specs.declared.Row.{Row}
use Rattle.netlists.specs.declared.Refusal.{Refusal}
use Rattle.netlists.specs.Netlists.{Netlist, Assignment, row_under, held, node_values, signal_value}
use Rattle.netlists.specs.Normal.{node_at}
use Rattle.netlists.specs.Placing.{no_row, no_signal, signal_of, with_output, after_output}
use Rattle.netlists.specs.Lawful.{Lawful}
use Rattle.netlists.specs.Copies.{Copy, and_then, copy_rows, through, copy_outputs, fresh, has, nodes_of, claim, claims, output_nodes, reached, kept_before, copied, swept, reached_rows, Swept}
use Rattle.netlists.proofs.Values.{values_prefix, row_value}
use Rattle.netlists.proofs.Alike.{made as alike}
use Rattle.netlists.proofs.Ways.{output_few}
use Rattle.netlists.proofs.Renumber.{rank_lt, renumber, Open, of_input, of_row, order_kept, relabel}
use Rattle.netlists.proofs.Copies.{plain, Along, whole}

-- ---- values

module _ (o : Ownership) (size : ℕ) (n : Netlist) (law : Lawful o size n) (keep : ℕ → Bool)
    (closed : (k : ℕ) → k < length n.rows → keep (n.inputs + 1 + k) ≡ true → (v : Variable) → Open keep n.inputs (node_at (get_or n.rows k no_row) v).number)
    (c : Copy) (done : Along keep n (length n.rows) c) (xs : List Bool) (l : length xs ≡ n.inputs) where
  abbrev i : ℕ
  i = n.inputs

  abbrev row : ℕ → Row
  row k = get_or n.rows k no_row

  abbrev old : Assignment
  old = held (node_values n xs)

  abbrev now : Assignment
  now = held (node_values c.netlist xs)

  input_value : (m : ℕ) → m ≤ i → now (renumber keep i m) ≡ old m
  input_value m h =
      let b : m < length (false ∷ xs) = omega arith in
      ap now (of_input keep i m h) ∙ values_prefix (false ∷ xs) c.netlist.rows m b ∙ sym (values_prefix (false ∷ xs) n.rows m b)

  -- a row's value, from the values of the nodes before it
  next_value : (k : ℕ) → k < length n.rows → keep (i + 1 + k) ≡ true → ((m : ℕ) → m < i + 1 + k → Open keep i m → now (renumber keep i m) ≡ old m)
      → now (i + 1 + kept_before keep i k) ≡ old (i + 1 + k)
  next_value k h kept before =
      let r = kept_before keep i k in
      let earlier = (law.rows_lawful k h).earlier in
      let opens = closed k h kept in
      let e = done.rows_at k h kept in
      let q = done.count in
      let lt = rank_lt keep i k (length n.rows) h kept in
      let p : length (false ∷ xs) + r ≡ i + 1 + r = omega arith in
      let p2 : length (false ∷ xs) + k ≡ i + 1 + k = omega arith in
      let one = λ (v : Variable). before (node_at (row k) v).number (earlier v) (opens v) in
      let below : (v : Variable) → (node_at (relabel keep i (row k)) v).number < length (false ∷ xs) + r = every_variable_lem (λ v. (node_at (relabel keep i (row k)) v).number < length (false ∷ xs) + r)
      (small (row k).nodes.a.number k (earlier V0) (opens V0) p) (small (row k).nodes.b.number k (earlier V1) (opens V1) p)
      (small (row k).nodes.c.number k (earlier V2) (opens V2) p) (small (row k).nodes.d.number k (earlier V3) (opens V3) p) in
      ap now (sym p)
      ∙ row_value (false ∷ xs) c.netlist.rows r (omega arith) (subst (λ (x : Row). (v : Variable) → (node_at x v).number < length (false ∷ xs) + r) (sym e) below)
      ∙ ap (row_under now) e
      ∙ ap₂ (λ (a b : Bool). value (row k).table (record { a = a; b = b; c = now (renumber keep i (row k).nodes.c.number); d = now (renumber keep i (row k).nodes.d.number) })) (one V0) (one V1)
      ∙ ap₂ (λ (a b : Bool). value (row k).table (record { a = old (row k).nodes.a.number; b = old (row k).nodes.b.number; c = a; d = b })) (one V2) (one V3)
      ∙ sym (row_value (false ∷ xs) n.rows k h (λ v. let g = earlier v in omega (arith, g, p2)))
      ∙ ap old p2
    where
      small : (m k : ℕ) → m < i + 1 + k → Open keep i m → length (false ∷ xs) + kept_before keep i k ≡ i + 1 + kept_before keep i k → renumber keep i m < length (false ∷ xs) + kept_before keep i k
      small m k h op p = let a = order_kept keep i m (i + 1 + k) h op in let b = of_row keep i k in omega (arith, a, b, p)

  value_upto : (k : ℕ) → k ≤ length n.rows → (m : ℕ) → m < i + 1 + k → Open keep i m → now (renumber keep i m) ≡ old m
  value_upto zero h m b op = input_value m (omega arith)
  value_upto (suc k) h m b op =
      elim (cases_lt m (i + 1 + k)) [
        | inl a ↦ value_upto k (omega arith) m a op
        | inr a ↦
            let e : m ≡ i + 1 + k = omega arith in
            elim op [
              | inl z ↦ input_value m z
              | inr kept ↦ ap now (ap (renumber keep i) e ∙ of_row keep i k) ∙ next_value k (omega arith) (ap keep (sym e) ∙ kept) (value_upto k (omega arith)) ∙ ap old (sym e)
            ]
      ]

  -- every node that is kept has its value
  pub copy_value : (m : ℕ) → m ≤ i + length n.rows → Open keep i m → now (renumber keep i m) ≡ old m
  copy_value m h op = value_upto (length n.rows) (omega arith) m (omega arith) op

-- ---- outputs

abbrev relabel_signal : (ℕ → ℕ) → Signal → Signal
relabel_signal ρ s = signal_of (record { number = ρ s.node.number }) s.inverted

abbrev with_outputs : Netlist → List Signal → Netlist
with_outputs m ss = record { inputs = m.inputs; rows = m.rows; outputs = ss }

inverted_plain : (b : Bool) → inverted b false ≡ b
inverted_plain b = grind arith

through_is : (sig : List Signal) (ρ : ℕ → ℕ) (s : Signal) → get_or sig s.node.number no_signal ≡ plain (ρ s.node.number) → through sig s ≡ relabel_signal ρ s
through_is sig ρ s e =
    ap (λ (t : Signal). signal_of t.node (inverted s.inverted t.inverted)) e
    ∙ ap (signal_of (record { number = ρ s.node.number })) (inverted_plain s.inverted)

outs : (sig : List Signal) (ρ : ℕ → ℕ) (ss : List Signal) (m : Netlist)
    → ((k : ℕ) → k < length ss → (get_or sig (get_or ss k no_signal).node.number no_signal ≡ plain (ρ (get_or ss k no_signal).node.number)) × (ρ (get_or ss k no_signal).node.number ≤ m.inputs + length m.rows))
    → length m.outputs + length ss ≤ 32
    → copy_outputs ss (record { netlist = m; signals = sig }) ≡ Ok (with_outputs m (m.outputs ++ map (relabel_signal ρ) ss))
unfolding copy_outputs
outs sig ρ [] m h few = ap (λ (os : List Signal). Ok (with_outputs m os)) (sym (append-nil m.outputs))
outs sig ρ (s ∷ ss) m h few =
    let t = relabel_signal ρ s in
    let p = h 0 (omega arith) in
    let room : length m.outputs < 32 = omega arith in
    let e = length_push m.outputs t in
    ap (λ (x : Signal). and_then (after_output m x) (λ y. copy_outputs ss (record { netlist = y; signals = sig }))) (through_is sig ρ s p.0)
    ∙ ap (λ (x : Result Netlist Refusal). and_then x (λ y. copy_outputs ss (record { netlist = y; signals = sig }))) (output_few m t (le-leb (ρ s.node.number) (m.inputs + length m.rows) p.1) room)
    ∙ outs sig ρ ss (with_output m t) (λ k l. h (suc k) (omega arith)) (omega arith)
    ∙ ap (λ (os : List Signal). Ok (with_outputs m os)) (append_assoc m.outputs (t ∷ []) (map (relabel_signal ρ) ss))

-- ---- a copy of rows and outputs

module _ (o : Ownership) (places size : ℕ) (n : Netlist) (law : Lawful o size n) (keep : ℕ → Bool)
    (closed : (k : ℕ) → k < length n.rows → keep (n.inputs + 1 + k) ≡ true → (v : Variable) → Open keep n.inputs (node_at (get_or n.rows k no_row) v).number)
    (outer : (k : ℕ) → k < length n.outputs → Open keep n.inputs (get_or n.outputs k no_signal).node.number)
    (room : kept_before keep n.inputs (length n.rows) ≤ places) where
  abbrev ρ : ℕ → ℕ
  ρ = renumber keep n.inputs

  abbrev made : Copy
  made = (whole o places size n law keep closed room).0

  rows_made : copy_rows o places keep n.rows (fresh n.inputs) ≡ Ok made
  rows_made = (whole o places size n law keep closed room).1

  done : Along keep n (length n.rows) made
  done = (whole o places size n law keep closed room).2

  abbrev result : Netlist
  result = record { inputs = n.inputs; rows = made.netlist.rows; outputs = map (relabel_signal ρ) n.outputs }

  there : (k : ℕ) → k < length n.outputs → (get_or n.outputs k no_signal).node.number ≤ n.inputs + length n.rows
  there k h = leb-true (get_or n.outputs k no_signal).node.number (n.inputs + length n.rows) (law.outputs_there k h)

  outputs_made : copy_outputs n.outputs made ≡ Ok result
  outputs_made =
      let i = n.inputs in
      let s = done.same_inputs in
      let q = done.count in
      let z = done.no_outputs in
      let few : length made.netlist.outputs + length n.outputs ≤ 32 = subst (λ (os : List Signal). length os + length n.outputs ≤ 32) (sym z) (let f = law.few_outputs in omega arith) in
      outs made.signals ρ n.outputs made.netlist
      (λ k h.
      let m = (get_or n.outputs k no_signal).node.number in
      let t = there k h in
      let b : m < i + 1 + length n.rows = omega arith in
      let l = order_kept keep i m (i + 1 + length n.rows) b (outer k h) in
      let e = of_row keep i (length n.rows) in
      (done.signals_at m b (outer k h), omega (arith, l, e, s, q)))
      few
      ∙ ap₂ (λ (x : ℕ) (os : List Signal). Ok (record { inputs = x; rows = made.netlist.rows; outputs = os ++ map (relabel_signal ρ) n.outputs })) s z

  all_made : and_then (copy_rows o places keep n.rows (fresh n.inputs)) (copy_outputs n.outputs) ≡ Ok result
  all_made = ap (λ (x : Result Copy Refusal). and_then x (copy_outputs n.outputs)) rows_made ∙ outputs_made

  output_value : (xs : List Bool) → length xs ≡ n.inputs → (k : ℕ) → k < length n.outputs
      → signal_value result xs (get_or result.outputs k no_signal) ≡ signal_value n xs (get_or n.outputs k no_signal)
  output_value xs l k h =
      let s = get_or n.outputs k no_signal in
      ap (signal_value result xs) (get_or-map (relabel_signal ρ) n.outputs k no_signal no_signal h)
      ∙ ap (inverted s.inverted) (copy_value o size n law keep closed made done xs l s.node.number (there k h) (outer k h))

-- ---- reached rows have reached nodes

claim_keeps : (m k : ℕ) (r : Row) (ws : List ℕ) → has m ws ≡ true → has m (claim k r ws) ≡ true
unfolding claim
claim_keeps m k r ws h = grind arith

claim_new : (m k : ℕ) (r : Row) (ws : List ℕ) → ((v : Variable) → (node_at r v).number < m) → has m (claim k r ws) ≡ true → has m ws ≡ true
unfolding claim
claim_new m k r ws early h = go (has k ws) h
  where
    go : (b : Bool) → has m (elim b [ true ↦ nodes_of r ++ ws | false ↦ ws ]) ≡ true → has m ws ≡ true
    go true e = grind (arith, early V0, early V1, early V2, early V3)
    go false e = e

claim_nodes : (k : ℕ) (r : Row) (ws : List ℕ) → has k ws ≡ true → (v : Variable) → has (node_at r v).number (claim k r ws) ≡ true
unfolding claim
claim_nodes k r ws h v = subst (λ (b : Bool). has (node_at r v).number (elim b [ true ↦ nodes_of r ++ ws | false ↦ ws ]) ≡ true) (sym h) (go v)
  where
    go : (v : Variable) → has (node_at r v).number (nodes_of r ++ ws) ≡ true
    go V0 = grind (arith, eq-eqb)
    go V1 = grind (arith, eq-eqb)
    go V2 = grind (arith, eq-eqb)
    go V3 = grind (arith, eq-eqb)

pub claims_keeps : (m b : ℕ) (rs : List Row) (ws : List ℕ) → has m ws ≡ true → has m (claims b rs ws) ≡ true
unfolding claims
claims_keeps m b [] ws h = h
claims_keeps m b (r ∷ rs) ws h = claim_keeps m b r (claims (suc b) rs ws) (claims_keeps m (suc b) rs ws h)

pub claims_nodes : (rs : List Row) (b : ℕ) (ws : List ℕ) → ((k : ℕ) → k < length rs → (v : Variable) → (node_at (get_or rs k no_row) v).number < b + k)
    → (k : ℕ) → k < length rs → has (b + k) (claims b rs ws) ≡ true → (v : Variable) → has (node_at (get_or rs k no_row) v).number (claims b rs ws) ≡ true
unfolding claims
claims_nodes [] b ws early k h e v = absurd (not-suc-le-zero h)
claims_nodes (r ∷ rs) b ws early zero h e v =
    let w = claims (suc b) rs ws in
    let z : b + 0 ≡ b = omega arith in
    let f = early 0 h in
    claim_nodes b r w (claim_new b b r w (λ u. subst (λ (x : ℕ). (node_at r u).number < x) z (f u)) (subst (λ (x : ℕ). has x (claim b r w) ≡ true) z e)) v
claims_nodes (r ∷ rs) b ws early (suc k) h e v =
    let w = claims (suc b) rs ws in
    let z : b + suc k ≡ suc b + k = omega arith in
    let f = early 0 (omega arith) in
    claim_keeps (node_at (get_or rs k no_row) v).number b r w
    (claims_nodes rs (suc b) ws (λ j l u. let g = early (suc j) (omega arith) u in omega (arith, g)) k (le_of_suc-le-suc h)
    (claim_new (suc b + k) b r w (λ u. let g = f u in omega (arith, g)) (subst (λ (x : ℕ). has x (claim b r w) ≡ true) z e)) v)

pub output_has : (ss : List Signal) (k : ℕ) → k < length ss → has (get_or ss k no_signal).node.number (output_nodes ss) ≡ true
unfolding output_nodes
output_has [] k h = absurd (not-suc-le-zero h)
output_has (s ∷ ss) zero h = or_left (eqb s.node.number s.node.number) _ (eq-eqb s.node.number s.node.number refl)
output_has (s ∷ ss) (suc k) h = or_right (eqb (get_or ss k no_signal).node.number s.node.number) _ (output_has ss k (le_of_suc-le-suc h))

reached_closed : (o : Ownership) (size : ℕ) (n : Netlist) → Lawful o size n → (k : ℕ) → k < length n.rows → reached n (n.inputs + 1 + k) ≡ true → (v : Variable)
    → Open (reached n) n.inputs (node_at (get_or n.rows k no_row) v).number
unfolding reached
reached_closed o size n law k h e v = inr (claims_nodes n.rows (n.inputs + 1) (output_nodes n.outputs) (λ j l. (law.rows_lawful j l).earlier) k h e v)

reached_outer : (n : Netlist) (k : ℕ) → k < length n.outputs → Open (reached n) n.inputs (get_or n.outputs k no_signal).node.number
unfolding reached
reached_outer n k h =
    inr (claims_keeps (get_or n.outputs k no_signal).node.number (n.inputs + 1) n.rows (output_nodes n.outputs) (output_has n.outputs k h))

-- ---- the sweep, and the copy of a whole netlist

-- the sweep of a lawful netlist is accepted, keeps every output's value and has as many rows as were reached
pub sweep_swept : (o : Ownership) (places size : ℕ) (n : Netlist) → Lawful o size n → reached_rows n ≤ places → (m : Netlist) × (swept o places n ≡ Ok m) × Swept n m
unfolding swept
sweep_swept o places size n law room =
    let closed = reached_closed o size n law in
    let outer = reached_outer n in (
      result o places size n law (reached n) closed outer room,
      all_made o places size n law (reached n) closed outer room,
      record {
        same_inputs = refl;
        same_outputs = length-map n.outputs (relabel_signal (renumber (reached n) n.inputs));
        same_values = output_value o places size n law (reached n) closed outer room;
        gates = (done o places size n law (reached n) closed outer room).count;
      },
    )

-- ---- where every row is kept, the numbers stay

abbrev every : ℕ → Bool
every k = true

rank_every : (i k : ℕ) → kept_before every i k ≡ k
rank_every i zero = refl
rank_every i (suc k) = let e = rank_every i k in omega arith

renumber_every : (i m : ℕ) → renumber every i m ≡ m
renumber_every i m = grind (arith, rank_every, of_input)

relabel_every : (i : ℕ) (r : Row) → relabel every i r ≡ r
relabel_every i r = grind (arith, renumber_every, alike)

signals_every : (i : ℕ) (ss : List Signal) → map (relabel_signal (renumber every i)) ss ≡ ss
signals_every i [] = refl
signals_every i (s ∷ ss) =
    ap₂ (λ (x : Signal) (xs : List Signal). x ∷ xs) (ap (λ (k : ℕ). signal_of (record { number = k }) s.inverted) (renumber_every i s.node.number)) (signals_every i ss)

module _ (o : Ownership) (places size : ℕ) (n : Netlist) (law : Lawful o size n) (room : length n.rows ≤ places) where
  closed : (k : ℕ) → k < length n.rows → every (n.inputs + 1 + k) ≡ true → (v : Variable) → Open every n.inputs (node_at (get_or n.rows k no_row) v).number
  closed k h e v = inr refl

  outer : (k : ℕ) → k < length n.outputs → Open every n.inputs (get_or n.outputs k no_signal).node.number
  outer k h = inr refl

  fits : kept_before every n.inputs (length n.rows) ≤ places
  fits = let e = rank_every n.inputs (length n.rows) in omega arith

  abbrev copy : Netlist
  copy = result o places size n law every closed outer fits

  finished : Along every n (length n.rows) (made o places size n law every closed outer fits)
  finished = done o places size n law every closed outer fits

  same_rows : copy.rows ≡ n.rows
  same_rows =
      ext_get_or no_row copy.rows n.rows (finished.count ∙ rank_every n.inputs (length n.rows))
      (λ k h.
      let q = finished.count in
      let e = rank_every n.inputs (length n.rows) in
      let l : k < length n.rows = omega arith in
      ap (λ (x : ℕ). get_or copy.rows x no_row) (sym (rank_every n.inputs k)) ∙ finished.rows_at k l refl ∙ relabel_every n.inputs (get_or n.rows k no_row))

  -- a netlist placed row by row into an empty network comes out as itself
  pub copy_itself : copied o places n ≡ Ok n
  unfolding copied
  copy_itself =
      all_made o places size n law every closed outer fits
      ∙ ap₂ (λ (rs : List Row) (os : List Signal). Ok (record { inputs = n.inputs; rows = rs; outputs = os })) same_rows (signals_every n.inputs n.outputs)
