-- Rows placed in order into an empty network come out as they were, over new numbers.
use Rattle.std.proofs.Common.{◌≡◌, ℕ, suc, ◌+◌, ◌<◌, ◌≤◌, Bool, true, false, List, [], ◌∷◌, ◌++◌, length, get_or, Ok, Result, sym, refl, ap, ◌∙◌, subst, inl, inr, not-suc-le-zero, arith}
use Rattle.std.proofs.lemmas.List.FromFn.{length-map-range_with_len, get_or-map-range_with_len}
use Rattle.std.proofs.lemmas.List.{get_or_append_left, get_or_push, length_push}
use Rattle.std.proofs.lemmas.Bool.{le-leb, cases_lt, cases_Bool, and_from, true≢false}
use Rattle.tables.specs.declared.Variable.{Variable}
use Rattle.tables.specs.declared.Variable.TheVariants.{V0, V1, V2, V3}
use Rattle.classes.specs.declared.Ownership.{Ownership}
use Rattle.netlists.specs.declared.Signal.{Signal}
use Rattle.netlists.specs.declared.Row.{Row}
use Rattle.tables.specs.declared.per_variable.PerVariable.{PerVariable}
use Rattle.netlists.specs.declared.Form.{Form}
use Rattle.netlists.specs.declared.Refusal.{Refusal}
use Rattle.netlists.specs.Netlists.{Netlist, signal_under}
use Rattle.netlists.specs.Normal.{node_at, normal}
use Rattle.netlists.specs.Placing.{is_there, all_there, row_node, no_row, no_signal, signal_of, with_row, Placing}
use Rattle.netlists.specs.Lawful.{Means, Lawful}
use Rattle.netlists.specs.Copies.{Copy, fanins_in, and_then, noted, skipped, copy_row, copy_rows, fresh, kept_before}
use Rattle.netlists.proofs.Shapes.{normal_means}
use Rattle.netlists.proofs.Unique.{unique_form}
use Rattle.netlists.proofs.Ways.{taken, passed, row_added, place_owned}
use Rattle.netlists.proofs.Renumber.{rank_kept, rank_skipped, rank_lt, rank_onto, renumber, Open, of_input, of_row, of_used, order_kept, relabel, relabel_normal, relabel_one}

-- a signal of a plain node
abbrev pub plain : ℕ → Signal
plain m = signal_of (record { number = m }) false

-- the copy after the first k rows of n
pub record Along (keep : ℕ → Bool) (n : Netlist) (k : ℕ) (c : Copy) : Type 0 where
  pub same_inputs : c.netlist.inputs ≡ n.inputs
  pub no_outputs : c.netlist.outputs ≡ []
  pub count : length c.netlist.rows ≡ kept_before keep n.inputs k
  pub rows_at : (j : ℕ) → j < k → keep (n.inputs + 1 + j) ≡ true → get_or c.netlist.rows (kept_before keep n.inputs j) no_row ≡ relabel keep n.inputs (get_or n.rows j no_row)
  pub nodes : length c.signals ≡ n.inputs + 1 + k
  pub signals_at : (m : ℕ) → m < n.inputs + 1 + k → Open keep n.inputs m → get_or c.signals m no_signal ≡ plain (renumber keep n.inputs m)

-- ---- one row

module _ (o : Ownership) (places : ℕ) (size : ℕ) (n : Netlist) (law : Lawful o size n) (keep : ℕ → Bool)
    (closed : (k : ℕ) → k < length n.rows → keep (n.inputs + 1 + k) ≡ true → (v : Variable) → Open keep n.inputs (node_at (get_or n.rows k no_row) v).number) where
  abbrev i : ℕ
  i = n.inputs

  abbrev row : ℕ → Row
  row k = get_or n.rows k no_row

  abbrev new : ℕ → Row
  new k = relabel keep i (row k)

  module _ (k : ℕ) (inside : k < length n.rows) (c : Copy) (here : Along keep n k c) where
    -- ---- the row is kept

    module _ (kept : keep (i + 1 + k) ≡ true) where
      opens : (v : Variable) → Open keep i (node_at (row k) v).number
      opens = closed k inside kept

      signal_is : (v : Variable) → get_or c.signals (node_at (row k) v).number no_signal ≡ plain (renumber keep i (node_at (row k) v).number)
      signal_is v = here.signals_at (node_at (row k) v).number ((law.rows_lawful k inside).earlier v) (opens v)

      abbrev fanins : PerVariable Signal
      fanins = fanins_in c.signals (row k)

      abbrev form : Form
      form = record { row = new k; inverted = false }

      form_means : Means (row k).table fanins form
      form_means = record {
        lawful = relabel_normal keep i (row k) opens (law.rows_lawful k inside).shape;
        means = λ φ z. let one = λ (v : Variable). ap (signal_under φ) (signal_is v) in grind (arith, one V0, one V1, one V2, one V3);
      }

      form_is : form ≡ normal (row k).table fanins
      form_is = unique_form (row k).table fanins form (normal (row k).table fanins) form_means (normal_means (row k).table fanins (law.rows_lawful k inside).shape.fits)

      node_there : (v : Variable) → is_there c.netlist (get_or c.signals (node_at (row k) v).number no_signal).node ≡ true
      node_there v =
          let m = (node_at (row k) v).number in
          let l = order_kept keep i m (i + 1 + k) ((law.rows_lawful k inside).earlier v) (opens v) in
          let e = of_row keep i k in
          let s = here.same_inputs in
          let q = here.count in
          let le : renumber keep i m ≤ c.netlist.inputs + length c.netlist.rows = omega (arith, l, e, s, q) in
          subst (λ (x : Signal). is_there c.netlist x.node ≡ true) (sym (signal_is v)) (le-leb (renumber keep i m) (c.netlist.inputs + length c.netlist.rows) le)

      all_there_lem : all_there c.netlist fanins ≡ true
      all_there_lem = search (and_from, node_there V0, node_there V1, node_there V2, node_there V3)

      none_alike : (x : ℕ) → x < length c.netlist.rows → get_or c.netlist.rows x no_row ≡ new k → ⊥
      none_alike x h e =
          let q = here.count in
          let f = rank_onto keep i k x (omega arith) in
          let j = f.0 in
          let l : j < length n.rows = omega (arith, f.1) in
          let same : new j ≡ new k = sym (here.rows_at j f.1 f.2) ∙ ap (λ (y : ℕ). get_or c.netlist.rows y no_row) f.3 ∙ e in
          let eq = law.no_two_alike j k l inside (relabel_one keep i (row j) (row k) (closed j l f.2) opens same) in
          omega (arith, eq, f.1)

      positive : (new k).nodes.b.number ≡ 0 → ⊥
      positive e =
          let t = (law.rows_lawful k inside).two in
          let z = of_used keep i (row k).nodes.b.number t in
          omega arith

      abbrev after : Copy
      after = record { netlist = with_row c.netlist (new k); signals = c.signals ++ signal_of (row_node c.netlist (length c.netlist.rows)) false ∷ [] }

      placed : kept_before keep i (length n.rows) ≤ places → copy_row o places keep (row k) c ≡ Ok after
      unfolding copy_row
      placed room =
          let q = here.count in
          let l = rank_lt keep i k (length n.rows) inside kept in
          let free : length c.netlist.rows < places = omega arith in
          taken (keep (length c.signals)) _ _ (ap keep here.nodes ∙ kept)
          ∙ ap (λ (p : Result Placing Refusal). and_then p (noted c))
          (place_owned o places c.netlist (row k).table fanins form form_is all_there_lem positive (law.rows_lawful k inside).owned
          ∙ row_added places c.netlist (new k) false none_alike free)

      along_kept : Along keep n (suc k) after
      along_kept = record {
        same_inputs = here.same_inputs;
        no_outputs = here.no_outputs;
        count = length_push c.netlist.rows (new k) ∙ ap (λ (x : ℕ). x + 1) here.count ∙ sym (rank_kept keep i k kept);
        rows_at = λ j h e.
            elim (cases_lt j k) [
              | inl l ↦
                  let q = here.count in
                  let lt = rank_lt keep i j k l e in
                  let in' : kept_before keep i j < length c.netlist.rows = omega arith in
                  get_or_append_left c.netlist.rows (new k ∷ []) no_row (kept_before keep i j) in' ∙ here.rows_at j l e
              | inr l ↦
                  let s : k ≡ j = omega arith in
                  subst (λ (x : ℕ). get_or (c.netlist.rows ++ new k ∷ []) (kept_before keep i x) no_row ≡ new x) s (get_or_push c.netlist.rows (new k) no_row (kept_before keep i k) here.count)
            ];
        nodes = let p = length_push c.signals (signal_of (row_node c.netlist (length c.netlist.rows)) false) in let q = here.nodes in omega arith;
        signals_at = λ m h op.
            let s = signal_of (row_node c.netlist (length c.netlist.rows)) false in
            elim (cases_lt m (i + 1 + k)) [
              | inl l ↦ let q = here.nodes in get_or_append_left c.signals (s ∷ []) no_signal m (omega arith) ∙ here.signals_at m l op
              | inr l ↦
                  let e : i + 1 + k ≡ m = omega arith in
                  let t = here.same_inputs in
                  let q = here.count in
                  let w = of_row keep i k in
                  let num : c.netlist.inputs + 1 + length c.netlist.rows ≡ renumber keep i (i + 1 + k) = omega (arith, t, q, w) in
                  get_or_push c.signals s no_signal m (here.nodes ∙ e) ∙ ap plain num ∙ ap (λ (x : ℕ). plain (renumber keep i x)) e
            ];
      }

    -- ---- the row is left out

    module _ (left : keep (i + 1 + k) ≡ false) where
      skips : copy_row o places keep (row k) c ≡ Ok (skipped c)
      unfolding copy_row
      skips = passed (keep (length c.signals)) _ _ (ap keep here.nodes ∙ left)

      along_skipped : Along keep n (suc k) (skipped c)
      along_skipped = record {
        same_inputs = here.same_inputs;
        no_outputs = here.no_outputs;
        count = here.count ∙ sym (rank_skipped keep i k left);
        rows_at = λ j h e.
            elim (cases_lt j k) [
              | inl l ↦ here.rows_at j l e
              | inr l ↦ let s : k ≡ j = omega arith in absurd (true≢false (sym e ∙ ap (λ (x : ℕ). keep (i + 1 + x)) (sym s) ∙ left))
            ];
        nodes = let p = length_push c.signals no_signal in let q = here.nodes in omega arith;
        signals_at = λ m h op.
            elim (cases_lt m (i + 1 + k)) [
              | inl l ↦ let q = here.nodes in get_or_append_left c.signals (no_signal ∷ []) no_signal m (omega arith) ∙ here.signals_at m l op
              | inr l ↦
                  let s : i + 1 + k ≡ m = omega arith in
                  elim op [ inl a ↦ absurd (omega arith) | inr e ↦ absurd (true≢false (sym e ∙ ap keep (sym s) ∙ left)) ]
            ];
      }

  step : kept_before keep i (length n.rows) ≤ places → (k : ℕ) → k < length n.rows → (c : Copy) → Along keep n k c
      → (d : Copy) × (copy_row o places keep (row k) c ≡ Ok d) × Along keep n (suc k) d
  step room k inside c here =
      elim (cases_Bool (keep (i + 1 + k))) [
        | inl kept ↦ (after k inside c here kept, placed k inside c here kept room, along_kept k inside c here kept)
        | inr left ↦ (skipped c, skips k inside c here left, along_skipped k inside c here left)
      ]

  -- ---- the rows from k on

  pub walk : kept_before keep i (length n.rows) ≤ places → (rs : List Row) (k : ℕ) (c : Copy) → ((j : ℕ) → get_or rs j no_row ≡ row (k + j)) → k + length rs ≡ length n.rows → Along keep n k c
      → (d : Copy) × (copy_rows o places keep rs c ≡ Ok d) × Along keep n (length n.rows) d
  unfolding copy_rows
  walk room [] k c at e here = (c, refl, subst (λ (x : ℕ). Along keep n x c) (omega arith) here)
  walk room (r ∷ rs) k c at e here =
      let inside : k < length n.rows = omega arith in
      let zero-at : r ≡ row k = at 0 ∙ ap row (omega arith) in
      let s = step room k inside c here in
      let w = walk room rs (suc k) s.0 (λ j. at (suc j) ∙ ap row (omega arith)) (omega arith) s.2 in
      (w.0, ap (λ (x : Row). and_then (copy_row o places keep x c) (copy_rows o places keep rs)) zero-at ∙ ap (λ (x : Result Copy Refusal). and_then x (copy_rows o places keep rs)) s.1 ∙ w.1, w.2)

  begin : Along keep n 0 (fresh i)
  unfolding fresh
  begin = record {
    same_inputs = refl;
    no_outputs = refl;
    count = refl;
    rows_at = λ j h e. absurd (not-suc-le-zero h);
    nodes = length-map-range_with_len plain 0 (i + 1) ∙ omega arith;
    signals_at = λ m h op.
        get_or-map-range_with_len plain 0 (i + 1) m m no_signal (omega arith) (omega arith) ∙ ap plain (sym (of_input keep i m (omega arith)));
  }

  -- all rows that are kept, from an empty network
  pub whole : kept_before keep i (length n.rows) ≤ places → (d : Copy) × (copy_rows o places keep n.rows (fresh i) ≡ Ok d) × Along keep n (length n.rows) d
  whole room = walk room n.rows 0 (fresh i) (λ j. ap row (omega arith)) (omega arith) begin
