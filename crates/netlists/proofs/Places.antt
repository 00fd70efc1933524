-- What place, start and output mean for a netlist: values are kept, rows stay lawful, and the answer has the value of the table.
use Rattle.std.proofs.Common.{◌≡◌, ℕ, ◌+◌, ◌<◌, ◌≤◌, Bool, true, false, eqb, ltb, leb, List, [], ◌∷◌, ◌++◌, length, get_or, Ok, Err, Result, sym, refl, ap, ◌∙◌, subst, inl, inr, not-suc-le-zero, arith}
use Rattle.std.proofs.lemmas.List.{get_or_append_left, get_or_push, length_push}
use Rattle.std.proofs.lemmas.Bool.{eqb-true, eqb-false, ltb-true, ltb-false, leb-true, le-leb, and_parts, cases_lt}
use Rattle.tables.specs.declared.Variable.{Variable}
use Rattle.tables.specs.declared.Variable.TheVariants.{V0}
use Rattle.tables.specs.Bits.{inverted}
use Rattle.tables.specs.Tables.{value}
use Rattle.classes.specs.declared.Ownership.{Ownership}
use Rattle.classes.specs.Owned.{owns}
use Rattle.netlists.specs.declared.Node.{Node}
use Rattle.netlists.specs.declared.Signal.{Signal}
use Rattle.netlists.specs.declared.Row.{Row}
use Rattle.tables.specs.declared.per_variable.PerVariable.{PerVariable}
use Rattle.netlists.specs.declared.Form.{Form}
use Rattle.netlists.specs.declared.Refusal.{Refusal}
use Rattle.netlists.specs.declared.Refusal.TheVariants.{NoSuchNode, TooManyInputs, TooManyOutputs, NotOwned, NoPlace}
use Rattle.netlists.specs.Netlists.{Netlist, row_under, fanins_under, held, values, node_values, signal_value}
use Rattle.netlists.specs.Normal.{node_at, normal}
use Rattle.netlists.specs.Placing.{is_there, all_there, row_node, no_row, no_signal, first_alike, Placing, with_row, signal_of, place_row, place_form, after_place, empty, after_start, with_output, after_output}
use Rattle.netlists.specs.Lawful.{LawfulRow, Lawful}
use Rattle.netlists.specs.Meaning.{Extends, Placed}
use Rattle.netlists.proofs.Shapes.{normal_means}
use Rattle.netlists.proofs.Values.{values_length, values_prefix, values-append, row_value, node_zero, lone_value}
use Rattle.netlists.proofs.Alike.{alike_found, alike_first}
use Rattle.netlists.proofs.Nodes.{normal_nodes}

positive : (k : ℕ) → (k ≡ 0 → ⊥) → 0 < k
positive k h = omega (arith, h)

-- ---- nodes that are there

there : (n : Netlist) (x : Node) → is_there n x ≡ true → x.number ≤ n.inputs + length n.rows
there n x e = leb-true x.number (n.inputs + length n.rows) e

all_there_lem : (n : Netlist) (s : PerVariable Signal) → all_there n s ≡ true
    → (is_there n s.a.node ≡ true) × (is_there n s.b.node ≡ true) × (is_there n s.c.node ≡ true) × (is_there n s.d.node ≡ true)
all_there_lem n s e = search (arith, and_parts)

-- ---- a netlist with one more row keeps the values

same_extends : (n : Netlist) → Extends n n
same_extends n = record { same_inputs = refl; same_outputs = refl; same_values = λ xs l x t. (t, refl) }

added_extends : (n : Netlist) (r : Row) → Extends n (with_row n r)
added_extends n r = record {
  same_inputs = refl;
  same_outputs = refl;
  same_values = λ xs l x t.
      let h = there n x t in
      let e = length_push n.rows r in
      let k = values_length (false ∷ xs) n.rows in
      let lt : x.number < length (values (false ∷ xs) n.rows) = omega (arith, h, k, l) in
      let le : x.number ≤ n.inputs + length (n.rows ++ r ∷ []) = omega (arith, h, e) in (
        le-leb x.number (n.inputs + length (n.rows ++ r ∷ [])) le,
        ap (λ (vs : List Bool). held vs x.number) (values-append (false ∷ xs) n.rows (r ∷ [])) ∙ values_prefix (values (false ∷ xs) n.rows) (r ∷ []) x.number lt,
      );
}

fanins_same : (n m : Netlist) (s : PerVariable Signal) → Extends n m → all_there n s ≡ true → (xs : List Bool) → length xs ≡ n.inputs
    → fanins_under (held (node_values m xs)) s ≡ fanins_under (held (node_values n xs)) s
fanins_same n m s k t xs l =
    let p = all_there_lem n s t in
    let at = λ (x : Signal) (h : is_there n x.node ≡ true). (k.same_values xs l x.node h).1 in
    grind (arith, at s.a p.0, at s.b p.1, at s.c p.2, at s.d p.3)

-- the signal of row k has the row's value
row_signal : (m : Netlist) (k : ℕ) (i : Bool) → k < length m.rows → ((v : Variable) → (node_at (get_or m.rows k no_row) v).number < m.inputs + 1 + k)
    → (xs : List Bool) → length xs ≡ m.inputs → signal_value m xs (signal_of (row_node m k) i) ≡ inverted i (row_under (held (node_values m xs)) (get_or m.rows k no_row))
row_signal m k i h e xs l =
    let q : length (false ∷ xs) + k ≡ m.inputs + 1 + k = omega (arith, l) in
    ap (inverted i)
    (subst (λ (x : ℕ). held (node_values m xs) x ≡ row_under (held (node_values m xs)) (get_or m.rows k no_row)) q
    (row_value (false ∷ xs) m.rows k h (λ v. omega (arith, q, e v))))

-- ---- place

module _ (o : Ownership) (places : ℕ) (n : Netlist) (law : Lawful o places n) (f : ℕ) (small : f < 65536) (s : PerVariable Signal) (all : all_there n s ≡ true) where
  -- an accepted answer is as it should be
  abbrev Good : Result Placing Refusal → Type 0
  Good (Ok p) = Placed o places n f s p
  Good (Err e) = Unit {0}

  abbrev form : Form
  form = normal f s

  -- the form's row stands at place k of m
  row_means : (m : Netlist) (k : ℕ) → Extends n m → k < length m.rows → get_or m.rows k no_row ≡ form.row
      → ((v : Variable) → (node_at form.row v).number < m.inputs + 1 + k)
      → (xs : List Bool) → length xs ≡ n.inputs → signal_value m xs (signal_of (row_node m k) form.inverted) ≡ value f (fanins_under (held (node_values n xs)) s)
  row_means m k ext h e early xs l =
      let φ = held (node_values m xs) in
      row_signal m k form.inverted h (subst (λ (r : Row). (v : Variable) → (node_at r v).number < m.inputs + 1 + k) (sym e) early) xs (l ∙ sym ext.same_inputs)
      ∙ ap (λ (r : Row). inverted form.inverted (row_under φ r)) e
      ∙ (normal_means f s small).means φ (node_zero m xs)
      ∙ ap (value f) (fanins_same n m s ext all xs l)

  early : (v : Variable) → (node_at form.row v).number < n.inputs + 1 + length n.rows
  early =
      let p = all_there_lem n s all in
      let at = λ (x : Signal) (h : is_there n x.node ≡ true). let l = there n x.node h in below x.node.number l in
      normal_nodes (λ k. k < n.inputs + 1 + length n.rows) (omega arith) f s (at s.a p.0) (at s.b p.1) (at s.c p.2) (at s.d p.3)
    where
      below : (k : ℕ) → k ≤ n.inputs + length n.rows → k < n.inputs + 1 + length n.rows
      below k h = omega arith

  found : first_alike form.row n.rows < length n.rows → Placed o places n f s (record { signal = signal_of (row_node n (first_alike form.row n.rows)) form.inverted; netlist = n })
  found h =
      let k = first_alike form.row n.rows in
      let e = alike_found form.row n.rows h in
      let le : n.inputs + 1 + k ≤ n.inputs + length n.rows = omega arith in
      record {
        lawful = law;
        kept = same_extends n;
        there = le-leb (n.inputs + 1 + k) (n.inputs + length n.rows) le;
        means = row_means n k (same_extends n) h e (subst (λ (r : Row). (v : Variable) → (node_at r v).number < n.inputs + 1 + k) e (law.rows_lawful k h).earlier);
      }

  -- the rows with one more, none of them alike
  added_rows : 0 < form.row.nodes.b.number → owns o form.row.table ≡ true → (k : ℕ) → k < length (n.rows ++ form.row ∷ []) → LawfulRow o (n.inputs + 1 + k) (get_or (n.rows ++ form.row ∷ []) k no_row)
  added_rows two own k h =
      let e = length_push n.rows form.row in
      elim (cases_lt k (length n.rows)) [
        | inl l ↦ subst (LawfulRow o (n.inputs + 1 + k)) (sym (get_or_append_left n.rows (form.row ∷ []) no_row k l)) (law.rows_lawful k l)
        | inr l ↦
            let q : length n.rows ≡ k = omega arith in
            subst (LawfulRow o (n.inputs + 1 + k)) (sym (get_or_push n.rows form.row no_row k q))
            (record { shape = (normal_means f s small).lawful; two = two; earlier = λ v. subst (λ (x : ℕ). (node_at form.row v).number < n.inputs + 1 + x) q (early v); owned = own })
      ]

  alone : length n.rows ≤ first_alike form.row n.rows → (j k : ℕ) → j < length (n.rows ++ form.row ∷ []) → k < length (n.rows ++ form.row ∷ [])
      → get_or (n.rows ++ form.row ∷ []) j no_row ≡ get_or (n.rows ++ form.row ∷ []) k no_row → j ≡ k
  alone none j k hj hk e = grind (arith, length_push, get_or_append_left, get_or_push, alike_first, law.no_two_alike)

  added : length n.rows ≤ first_alike form.row n.rows → length n.rows < places → 0 < form.row.nodes.b.number → owns o form.row.table ≡ true
      → Placed o places n f s (record { signal = signal_of (row_node n (length n.rows)) form.inverted; netlist = with_row n form.row })
  added none room two own =
      let g = length_push n.rows form.row in
      let ext = added_extends n form.row in
      let inside : length n.rows < length (n.rows ++ form.row ∷ []) = omega arith in
      let le : n.inputs + 1 + length n.rows ≤ n.inputs + length (n.rows ++ form.row ∷ []) = omega arith in
      record {
        lawful = record {
          few_places = law.few_places;
          few_inputs = law.few_inputs;
          few_outputs = law.few_outputs;
          room = omega arith;
          rows_lawful = added_rows two own;
          no_two_alike = alone none;
          outputs_there = λ k h.
              let t = there n (get_or n.outputs k no_signal).node (law.outputs_there k h) in
              let l : (get_or n.outputs k no_signal).node.number ≤ n.inputs + length (n.rows ++ form.row ∷ []) = omega arith in
              le-leb (get_or n.outputs k no_signal).node.number (n.inputs + length (n.rows ++ form.row ∷ [])) l;
        };
        kept = ext;
        there = le-leb (n.inputs + 1 + length n.rows) (n.inputs + length (n.rows ++ form.row ∷ [])) le;
        means = row_means (with_row n form.row) (length n.rows) ext inside (get_or_push n.rows form.row no_row (length n.rows) refl) early;
      }

  row_good : 0 < form.row.nodes.b.number → owns o form.row.table ≡ true → Good (place_row places n form.row form.inverted)
  unfolding place_row
  row_good two own = go (ltb k (length n.rows)) (ltb-true k (length n.rows)) (ltb-false k (length n.rows)) (ltb (length n.rows) places) (ltb-true (length n.rows) places)
    where
      k : ℕ
      k = first_alike form.row n.rows

      go : (b : Bool) → (b ≡ true → k < length n.rows) → (b ≡ false → length n.rows ≤ k) → (c : Bool) → (c ≡ true → length n.rows < places)
          → Good (elim b [
            | true ↦ Ok (record { signal = signal_of (row_node n k) form.inverted; netlist = n })
            | false ↦ elim c [
              | true ↦ Ok (record { signal = signal_of (row_node n (length n.rows)) form.inverted; netlist = with_row n form.row })
              | false ↦ Err NoPlace
            ]
          ])
      go true p q c r = found (p refl)
      go false p q true r = added (q refl) (r refl) two own
      go false p q false r = tt

  lone : form.row.nodes.b.number ≡ 0 → Placed o places n f s (record { signal = signal_of form.row.nodes.a form.inverted; netlist = n })
  lone z =
      let p = all_there_lem n s all in
      let a = normal_nodes (λ k. leb k (n.inputs + length n.rows) ≡ true) (le-leb 0 (n.inputs + length n.rows) (omega arith)) f s p.0 p.1 p.2 p.3 in
      record {
        lawful = law;
        kept = same_extends n;
        there = a V0;
        means = λ xs l.
            let φ = held (node_values n xs) in
            ap (inverted form.inverted) (sym (lone_value φ (node_zero n xs) form.row (normal_means f s small).lawful z)) ∙ (normal_means f s small).means φ (node_zero n xs);
      }

  form_good : Good (place_form o places n form)
  unfolding place_form
  form_good = go (eqb form.row.nodes.b.number 0) (eqb-true form.row.nodes.b.number 0) (eqb-false form.row.nodes.b.number 0) (owns o form.row.table) refl
    where
      go : (b : Bool) → (b ≡ true → form.row.nodes.b.number ≡ 0) → (b ≡ false → form.row.nodes.b.number ≡ 0 → ⊥) → (c : Bool) → owns o form.row.table ≡ c
          → Good (elim b [
            | true ↦ Ok (record { signal = signal_of form.row.nodes.a form.inverted; netlist = n })
            | false ↦ elim c [ true ↦ place_row places n form.row form.inverted | false ↦ Err NotOwned ]
          ])
      go true p q c r = lone (p refl)
      go false p q true r = row_good (positive form.row.nodes.b.number (q refl)) r
      go false p q false r = tt

-- ---- what an accepted call gives

abbrev Answered : Ownership → ℕ → Netlist → ℕ → PerVariable Signal → Result Placing Refusal → Type 0
Answered o places n f s (Ok p) = Placed o places n f s p
Answered o places n f s (Err e) = Unit {0}

place_good : (o : Ownership) (places : ℕ) (n : Netlist) → Lawful o places n → (f : ℕ) → f < 65536 → (s : PerVariable Signal) → Answered o places n f s (after_place o places n f s)
unfolding after_place
place_good o places n law f small s = go (all_there n s) refl
  where
    same : (all : all_there n s ≡ true) (r : Result Placing Refusal) → Good o places n law f small s all r → Answered o places n f s r
    same all (Ok p) g = g
    same all (Err e) g = tt

    go : (b : Bool) → all_there n s ≡ b → Answered o places n f s (elim b [ true ↦ place_form o places n (normal f s) | false ↦ Err NoSuchNode ])
    go true e = same e (place_form o places n (normal f s)) (form_good o places n law f small s e)
    go false e = tt

-- table f over four signals, where the call is accepted
pub place_placed : (o : Ownership) (places : ℕ) (n : Netlist) (f : ℕ) (s : PerVariable Signal) (p : Placing) → Lawful o places n → f < 65536 → after_place o places n f s ≡ Ok p → Placed o places n f s p
place_placed o places n f s p law small e = subst (Answered o places n f s) e (place_good o places n law f small s)

-- an empty network is lawful
pub empty_lawful : (o : Ownership) (places i : ℕ) → places ≤ 544 → i ≤ 32 → Lawful o places (empty i)
empty_lawful o places i p h = record {
  few_places = p;
  few_inputs = h;
  few_outputs = omega arith;
  room = omega arith;
  rows_lawful = λ k l. absurd (not-suc-le-zero l);
  no_two_alike = λ j k l m e. absurd (not-suc-le-zero l);
  outputs_there = λ k l. absurd (not-suc-le-zero l);
}

abbrev LawfulAfter : Ownership → ℕ → Result Netlist Refusal → Type 0
LawfulAfter o places (Ok n) = Lawful o places n
LawfulAfter o places (Err e) = Unit {0}

pub start_lawful : (o : Ownership) (places i : ℕ) (n : Netlist) → places ≤ 544 → after_start i ≡ Ok n → Lawful o places n
unfolding after_start
start_lawful o places i n p e = subst (LawfulAfter o places) e (good (leb i 32) (leb-true i 32))
  where
    good : (b : Bool) → (b ≡ true → i ≤ 32) → LawfulAfter o places (elim b [ true ↦ Ok (empty i) | false ↦ Err TooManyInputs ])
    good true h = empty_lawful o places i p (h refl)
    good false h = tt

added_output : (o : Ownership) (places : ℕ) (n : Netlist) (s : Signal) → Lawful o places n → is_there n s.node ≡ true → length n.outputs < 32 → Lawful o places (with_output n s)
added_output o places n s law t l =
    let e = length_push n.outputs s in
    record {
      few_places = law.few_places;
      few_inputs = law.few_inputs;
      few_outputs = omega arith;
      room = law.room;
      rows_lawful = law.rows_lawful;
      no_two_alike = law.no_two_alike;
      outputs_there = λ k h.
          elim (cases_lt k (length n.outputs)) [
            | inl a ↦ subst (λ (x : Signal). is_there n x.node ≡ true) (sym (get_or_append_left n.outputs (s ∷ []) no_signal k a)) (law.outputs_there k a)
            | inr a ↦
                let q : length n.outputs ≡ k = omega arith in
                subst (λ (x : Signal). is_there n x.node ≡ true) (sym (get_or_push n.outputs s no_signal k q)) t
          ];
    }

pub output_lawful : (o : Ownership) (places : ℕ) (n : Netlist) (s : Signal) (m : Netlist) → Lawful o places n → after_output n s ≡ Ok m → Lawful o places m
unfolding after_output
output_lawful o places n s m law e = subst (LawfulAfter o places) e (good (is_there n s.node) refl (ltb (length n.outputs) 32) (ltb-true (length n.outputs) 32))
  where
    good : (b : Bool) → is_there n s.node ≡ b → (c : Bool) → (c ≡ true → length n.outputs < 32)
        → LawfulAfter o places (elim b [ true ↦ elim c [ true ↦ Ok (with_output n s) | false ↦ Err TooManyOutputs ] | false ↦ Err NoSuchNode ])
    good true p true q = added_output o places n s law p (q refl)
    good true p false q = tt
    good false p c q = tt
