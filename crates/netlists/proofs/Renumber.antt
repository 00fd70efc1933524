-- The rows that are kept of a netlist, numbered anew: the order of their nodes stays.
use Rattle.std.proofs.Common.{◌≡◌, ℕ, zero, suc, ◌+◌, ◌-◌, ◌<◌, ◌≤◌, Bool, true, false, cond, ltb, leb, ◌⊎◌, sym, ap, ◌∙◌, subst, inl, inr, not-suc-le-zero, arith}
use Rattle.std.proofs.lemmas.Bool.{cases_lt, cases_Bool}
use Rattle.tables.specs.declared.Variable.{Variable}
use Rattle.tables.specs.declared.Variable.TheVariants.{V0, V1, V2, V3}
use Rattle.tables.specs.Tables.{depends_on}
use Rattle.tables.proofs.Swaps.{every_variable_lem}
use Rattle.netlists.specs.declared.Row.{Row}
use Rattle.netlists.specs.Normal.{node_at}
use Rattle.netlists.specs.Lawful.{Follows, Normal}
use Rattle.netlists.specs.Copies.{kept_before}
use Rattle.netlists.proofs.Alike.{made}

module _ (keep : ℕ → Bool) (i : ℕ) where
  abbrev pub rank : ℕ → ℕ
  rank k = kept_before keep i k

  pub rank_kept : (k : ℕ) → keep (i + 1 + k) ≡ true → rank (suc k) ≡ rank k + 1
  rank_kept k e = grind arith

  pub rank_skipped : (k : ℕ) → keep (i + 1 + k) ≡ false → rank (suc k) ≡ rank k
  rank_skipped k e = grind arith

  pub rank_mono : (j k : ℕ) → j ≤ k → rank j ≤ rank k
  rank_mono j zero h = let e : j ≡ 0 = omega arith in subst (λ (x : ℕ). rank x ≤ 0) (sym e) (omega arith)
  rank_mono j (suc k) h =
      elim (cases_lt j (suc k)) [
        | inl l ↦ let p = rank_mono j k (omega arith) in omega arith
        | inr l ↦ let e : suc k ≡ j = omega arith in subst (λ (x : ℕ). rank x ≤ rank (suc k)) e (omega arith)
      ]

  pub rank_lt : (j k : ℕ) → j < k → keep (i + 1 + j) ≡ true → rank j < rank k
  rank_lt j k h e = let p = rank_kept j e in let q = rank_mono (suc j) k h in omega arith

  -- each number below the rank is that of a row that is kept
  pub rank_onto : (k x : ℕ) → x < rank k → (j : ℕ) × (j < k) × (keep (i + 1 + j) ≡ true) × (rank j ≡ x)
  rank_onto zero x h = absurd (not-suc-le-zero h)
  rank_onto (suc k) x h =
      elim (cases_Bool (keep (i + 1 + k))) [
        | inl e ↦
            let p = rank_kept k e in
            elim (cases_lt x (rank k)) [
              | inl l ↦ let r = rank_onto k x l in (r.0, omega (arith, r.1), r.2, r.3)
              | inr l ↦ (k, omega arith, e, omega arith)
            ]
        | inr e ↦
            let p = rank_skipped k e in
            let r = rank_onto k x (omega arith) in
            (r.0, omega (arith, r.1), r.2, r.3)
      ]

  -- ---- new numbers

  abbrev pub renumber : ℕ → ℕ
  renumber m = cond (leb m i) m (i + 1 + rank (m - (i + 1)))

  -- an input, or the node of a row that is kept
  abbrev pub Open : ℕ → Type 0
  Open m = (m ≤ i) ⊎ (keep m ≡ true)

  pub of_input : (m : ℕ) → m ≤ i → renumber m ≡ m
  of_input m h = grind arith

  pub of_row : (j : ℕ) → renumber (i + 1 + j) ≡ i + 1 + rank j
  of_row j = grind arith

  past_input : (m : ℕ) → i < m → m ≡ i + 1 + (m - (i + 1))
  past_input m h = omega arith

  row_lt : (x y : ℕ) → i < x → x < y → keep x ≡ true → renumber x < renumber y
  row_lt x y h l k = grind (arith, rank_lt, of_row)

  pub order_kept : (x y : ℕ) → x < y → Open x → renumber x < renumber y
  order_kept x y l o = grind (arith, of_input, row_lt)

  pub of_zero : renumber 0 ≡ 0
  of_zero = of_input 0 (omega arith)

  pub of_used : (m : ℕ) → 0 < m → 0 < renumber m
  of_used m h = let p = order_kept 0 m h (inl (omega arith)) in omega arith

  used_before : (m : ℕ) → 0 < renumber m → 0 < m
  used_before m h = grind (arith, of_zero)

  same_use : (m : ℕ) → ltb 0 m ≡ ltb 0 (renumber m)
  same_use m = grind (arith, of_zero, of_used)

  pub renumber_one : (x y : ℕ) → Open x → Open y → renumber x ≡ renumber y → x ≡ y
  renumber_one x y a b e = grind (arith, order_kept)

  -- ---- rows over the new numbers

  abbrev pub relabel : Row → Row
  relabel r = record {
    table = r.table;
    nodes = record {
      a = record { number = renumber r.nodes.a.number };
      b = record { number = renumber r.nodes.b.number };
      c = record { number = renumber r.nodes.c.number };
      d = record { number = renumber r.nodes.d.number };
    };
  }

  follows : (x y : ℕ) → Open x → Follows x y → Follows (renumber x) (renumber y)
  follows x y o h l = let p = h (used_before y l) in (of_used x p.0, order_kept x y p.1 o)

  pub relabel_normal : (r : Row) → ((v : Variable) → Open (node_at r v).number) → Normal r → Normal (relabel r)
  relabel_normal r o law = record {
    fits = law.fits;
    ascending_b = follows r.nodes.a.number r.nodes.b.number (o V0) law.ascending_b;
    ascending_c = follows r.nodes.b.number r.nodes.c.number (o V1) law.ascending_c;
    ascending_d = follows r.nodes.c.number r.nodes.d.number (o V2) law.ascending_d;
    exact = every_variable_lem (λ v. depends_on r.table v ≡ ltb 0 (node_at (relabel r) v).number)
        (law.exact V0 ∙ same_use r.nodes.a.number) (law.exact V1 ∙ same_use r.nodes.b.number) (law.exact V2 ∙ same_use r.nodes.c.number) (law.exact V3 ∙ same_use r.nodes.d.number);
    zero = law.zero;
  }

  pub relabel_one : (r q : Row) → ((v : Variable) → Open (node_at r v).number) → ((v : Variable) → Open (node_at q v).number) → relabel r ≡ relabel q → r ≡ q
  relabel_one r q o p e =
      made r q (ap (λ (x : Row). x.table) e)
      (renumber_one r.nodes.a.number q.nodes.a.number (o V0) (p V0) (ap (λ (x : Row). x.nodes.a.number) e))
      (renumber_one r.nodes.b.number q.nodes.b.number (o V1) (p V1) (ap (λ (x : Row). x.nodes.b.number) e))
      (renumber_one r.nodes.c.number q.nodes.c.number (o V2) (p V2) (ap (λ (x : Row). x.nodes.c.number) e))
      (renumber_one r.nodes.d.number q.nodes.d.number (o V3) (p V3) (ap (λ (x : Row). x.nodes.d.number) e))
