-- What keeping a row gives, by the way that it goes; and that a normal form that is owned can be kept.
use Rattle.std.proofs.Common.{◌≡◌, ℕ, ◌+◌, ◌<◌, ◌≤◌, Bool, true, length, get_or, Ok, Err, Result, sym, refl, ap, ◌∙◌, subst, arith, MatchResult}
use Rattle.std.proofs.lemmas.List.{length_push}
use Rattle.std.proofs.lemmas.Bool.{leb-true, and_parts}
use Rattle.tables.specs.declared.Variable.{Variable}
use Rattle.classes.specs.declared.Ownership.{Ownership}
use Rattle.classes.specs.Owned.{owns}
use Rattle.classes.specs.Normal.{NormalTable}
use Rattle.lists.specs.declared.Full.{Full}
use Rattle.netlists.specs.declared.Signal.{Signal}
use Rattle.netlists.specs.declared.Row.{Row}
use Rattle.tables.specs.declared.per_variable.PerVariable.{PerVariable}
use Rattle.netlists.specs.declared.Form.{Form}
use Rattle.netlists.specs.declared.Refusal.{Refusal}
use Rattle.netlists.specs.declared.Refusal.TheVariants.{NoPlace}
use Rattle.netlists.specs.Netlists.{Netlist}
use Rattle.netlists.specs.Normal.{node_at, normal}
use Rattle.netlists.specs.Placing.{is_there, all_there, no_row}
use Rattle.netlists.specs.Lawful.{FormOf, LawfulRow}
use Rattle.netlists.proofs.Nodes.{normal_nodes}
use Rattle.netlists.proofs.Ways.{row_found, row_added, row_full}
use Rattle.codings.specs.Owned.{normal_table}
use Rattle.codings.specs.declared.coding.Coding.{Ghosts}
use Rattle.stores.specs.declared.store.Store.{Store}
use Rattle.stores.specs.Stores.{rows_of, Absent, First, Pushed}
use Rattle.stores.proofs.Stores.{rows_most, absent_get_or, first-get_or}
use Rattle.gates.specs.Keeping.{holding, Kept, RowKept, RowRefused}

module _ {C : Type 0} {W : ℕ} {c : Ghosts C W} where
  pub same_kept : (s : Store C W c) → Kept s s
  same_kept s = record { places = refl; room = refl; past = λ m h. refl }

  -- ---- a row, by the way that it goes

  pub kept_found : (s : Store C W c) (r : Row) (k : ℕ) → First (rows_of s) r k → RowKept s s r k
  kept_found s r k f = record {
    kept = same_kept s;
    inside = f.inside;
    placing = λ i os v.
        row_found s.places (holding s i os) r v k f.inside (first-get_or (rows_of s) r no_row k f)
        (λ j h e. let l = f.inside in absent_get_or (rows_of s) k r no_row f.before j h (omega arith) e);
  }

  nowhere : (s : Store C W c) (r : Row) → Absent (rows_of s) (length (rows_of s)) r → (j : ℕ) → j < length (rows_of s) → get_or (rows_of s) j no_row ≡ r → ⊥
  nowhere s r a j h e = absent_get_or (rows_of s) (length (rows_of s)) r no_row a j h h e

  pub kept_added : (s t : Store C W c) (r : Row) (k : ℕ) → Absent (rows_of s) (length (rows_of s)) r → k ≡ length (rows_of s) → Pushed s t r → RowKept s t r k
  kept_added s t r k a e p =
      let m = rows_most t in
      let g = p.alike.places in
      let n : length (rows_of t) ≡ length (rows_of s) + 1 = ap length p.rows ∙ length_push (rows_of s) r in
      let room : length (rows_of s) < s.places = omega arith in
      record {
        kept = record { places = p.alike.places; room = p.alike.room; past = p.past };
        inside = omega arith;
        placing = λ i os v.
            let b = row_added s.places (holding s i os) r v (nowhere s r a) room in
            let rows = p.rows in
            cc;
      }

  pub kept_refused : (s t : Store C W c) (r : Row) → Absent (rows_of s) (length (rows_of s)) r → length (rows_of s) ≡ s.places → t ≡ s → RowRefused s t r NoPlace
  kept_refused s t r a e q = record { same = q; refused = λ i os v. row_full s.places (holding s i os) r v (nowhere s r a) (omega arith) }

  -- a new row, where `Full` is answered as a refusal
  pub kept_pushed : (s t : Store C W c) (r : Row) (x : Result ℕ Full) (y : Result ℕ Refusal) → Absent (rows_of s) (length (rows_of s)) r
      → MatchResult x (λ n. (n ≡ length (rows_of s)) × Pushed s t r) (λ _. (length (rows_of s) ≡ s.places) × (t ≡ s))
      → MatchResult x (λ n. y ≡ Ok n) (λ _. y ≡ Err NoPlace) → MatchResult y (λ k. RowKept s t r k) (λ e. RowRefused s t r e)
  kept_pushed s t r (Ok n) y a p e = subst (λ (z : Result ℕ Refusal). MatchResult z (λ k. RowKept s t r k) (λ e. RowRefused s t r e)) (sym e) (kept_added s t r n a p.0 p.1)
  kept_pushed s t r (Err f) y a p e = subst (λ (z : Result ℕ Refusal). MatchResult z (λ k. RowKept s t r k) (λ e. RowRefused s t r e)) (sym e) (kept_refused s t r a p.0 p.1)

-- ---- a form that is owned can be kept

-- whether it is owned, by a look at its table
pub owned_is : (o p : Ownership) (f : ℕ) (s : PerVariable Signal) (g : Form) (b : Bool) → p ≡ o → FormOf f s g → (g.row.nodes.b.number ≡ 0 → ⊥)
    → (NormalTable g.row.table → b ≡ owns p g.row.table) → owns o g.row.table ≡ b
owned_is o p f s g b e form two h = sym (h (normal_table g.row form.is.lawful (omega (arith, two))) ∙ ap (λ (x : Ownership). owns x g.row.table) e)

near : (n : Netlist) (f : ℕ) (s : PerVariable Signal) → n.inputs ≤ 32 → length n.rows ≤ 544 → all_there n s ≡ true → (v : Variable) → (node_at (normal f s).row v).number < 1024
near n f s hi hr all =
    let p = and_parts _ (is_there n s.d.node) all in
    let q = and_parts _ (is_there n s.c.node) p.0 in
    let t = and_parts (is_there n s.a.node) (is_there n s.b.node) q.0 in
    normal_nodes (λ k. k < 1024) (omega arith) f s (below s.a t.0) (below s.b t.1) (below s.c q.1) (below s.d p.1)
  where
    below : (x : Signal) → is_there n x.node ≡ true → x.node.number < 1024
    below x e = let l = leb-true x.node.number (n.inputs + length n.rows) e in omega arith

pub can_keep : (o : Ownership) (n : Netlist) (f : ℕ) (s : PerVariable Signal) (g : Form) → n.inputs ≤ 32 → length n.rows ≤ 544 → all_there n s ≡ true
    → g ≡ normal f s → FormOf f s g → (g.row.nodes.b.number ≡ 0 → ⊥) → owns o g.row.table ≡ true → LawfulRow o 1024 g.row
can_keep o n f s g hi hr all e form two own = record {
  shape = form.is.lawful;
  two = omega (arith, two);
  earlier = subst (λ (x : Form). (v : Variable) → (node_at x.row v).number < 1024) (sym e) (near n f s hi hr all);
  owned = own;
}
