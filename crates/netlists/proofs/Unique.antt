-- The normal form is unique: two forms that are the same function of the nodes are one.
use Rattle.std.proofs.Common.{◌≡◌, ℕ, ◌<◌, ◌≤◌, Bool, false, cond, eqb, ◌⊎◌, sym, refl, ap, ◌∙◌, subst, ap₂, inl, inr, arith}
use Rattle.std.proofs.lemmas.Bool.{ne_eqb, lt-ltb, cases_lt, cases_eq, false≢true}
use Rattle.tables.specs.declared.Variable.{Variable}
use Rattle.tables.specs.declared.Variable.TheVariants.{V0, V1, V2, V3}
use Rattle.tables.specs.Bits.{inverted}
use Rattle.tables.specs.Settings.{Setting, get, put}
use Rattle.tables.specs.Tables.{value}
use Rattle.tables.proofs.Laws.{same_values}
use Rattle.tables.proofs.Swaps.{every_variable_lem, put-get, Free, free_depends}
use Rattle.netlists.specs.declared.Row.{Row}
use Rattle.tables.specs.declared.per_variable.PerVariable.{PerVariable}
use Rattle.netlists.specs.declared.Signal.{Signal}
use Rattle.netlists.specs.declared.Form.{Form}
use Rattle.netlists.specs.Netlists.{Assignment, setting_under, row_under}
use Rattle.netlists.specs.Normal.{node_at, with_table, normal}
use Rattle.netlists.specs.Lawful.{Normal, Means, FormOf}
use Rattle.netlists.proofs.Values.{unused, row_same}
use Rattle.netlists.proofs.Alike.{made}
use Rattle.netlists.proofs.Shapes.{normal_means}

-- ---- the assignment that gives a row's nodes the values of a setting

abbrev assign : Row → Setting → Assignment
assign r x n =
    cond (eqb n 0) false (cond (eqb n r.nodes.a.number) x.a (cond (eqb n r.nodes.b.number) x.b (cond (eqb n r.nodes.c.number) x.c (cond (eqb n r.nodes.d.number) x.d false))))

-- settings that differ only where the table does not look
step : (f : ℕ) (v : Variable) (z : Setting) (t : Bool) → (get z v ≡ t) ⊎ Free f v → value f (put z v t) ≡ value f z
step f v z t (inl e) = ap (λ (s : Bool). value f (put z v s)) (sym e) ∙ ap (value f) (put-get z v)
step f v z t (inr h) = h z t

same_but_free : (f : ℕ) (x y : Setting) → ((v : Variable) → (get y v ≡ get x v) ⊎ Free f v) → value f x ≡ value f y
same_but_free f x y h =
    let z1 = put y V0 x.a in
    let z2 = put z1 V1 x.b in
    let z3 = put z2 V2 x.c in
    step f V3 z3 x.d (h V3) ∙ step f V2 z2 x.c (h V2) ∙ step f V1 z1 x.b (h V1) ∙ step f V0 y x.a (h V0)

-- ---- rows in normal form

module _ (r : Row) (law : Normal r) where
  abbrev a : ℕ
  a = r.nodes.a.number

  abbrev b : ℕ
  b = r.nodes.b.number

  abbrev c : ℕ
  c = r.nodes.c.number

  abbrev d : ℕ
  d = r.nodes.d.number

  b_used : 0 < b → (0 < a) × (a < b)
  b_used = law.ascending_b

  c_used : 0 < c → (0 < a) × (a < b) × (b < c)
  c_used h = let p = law.ascending_c h in let q = law.ascending_b p.0 in (q.0, q.1, p.1)

  d_used : 0 < d → (0 < a) × (a < b) × (b < c) × (c < d)
  d_used h = let p = law.ascending_d h in let q = c_used p.0 in (q.0, q.1, q.2, p.1)

  -- a place is used or not, and what is used is found again
  assign_a : (x : Setting) → 0 < a → assign r x a ≡ x.a
  assign_a x h = grind (arith, b_used, c_used, d_used)

  assign_b : (x : Setting) → 0 < b → assign r x b ≡ x.b
  assign_b x h = grind (arith, b_used, c_used, d_used)

  assign_c : (x : Setting) → 0 < c → assign r x c ≡ x.c
  assign_c x h = grind (arith, b_used, c_used, d_used)

  assign_d : (x : Setting) → 0 < d → assign r x d ≡ x.d
  assign_d x h = grind (arith, b_used, c_used, d_used)

  used_or_free : (x : Setting) (v : Variable) → (0 < (node_at r v).number → assign r x (node_at r v).number ≡ get x v)
      → (assign r x (node_at r v).number ≡ get x v) ⊎ Free r.table v
  used_or_free x v h =
      elim (cases_lt 0 (node_at r v).number) [
        | inl l ↦ inl (h l)
        | inr l ↦ let z : (node_at r v).number ≡ 0 = omega arith in inr (unused r law v z)
      ]

  pub assign_value : (x : Setting) → row_under (assign r x) r ≡ value r.table x
  assign_value x =
      sym (same_but_free r.table x (setting_under (assign r x) r)
      (every_variable_lem (λ v. (get (setting_under (assign r x) r) v ≡ get x v) ⊎ Free r.table v)
      (used_or_free x V0 (assign_a x)) (used_or_free x V1 (assign_b x)) (used_or_free x V2 (assign_c x)) (used_or_free x V3 (assign_d x))))

-- another node does not see the value at v
agree : (r : Row) (x : Setting) (t : Bool) (m : ℕ) (v : Variable) → (m ≡ (node_at r v).number → ⊥) → assign r (put x v t) m ≡ assign r x m
agree r x t m V0 h = grind (arith, ne_eqb)
agree r x t m V1 h = grind (arith, ne_eqb)
agree r x t m V2 h = grind (arith, ne_eqb)
agree r x t m V3 h = grind (arith, ne_eqb)

-- the same function of the nodes, node 0 being false
abbrev Same : Row → Row → Type 0
Same r q = (φ : Assignment) → φ 0 ≡ false → row_under φ r ≡ row_under φ q

abbrev Among : ℕ → Row → Type 0
Among n q = (n ≡ q.nodes.a.number) ⊎ ((n ≡ q.nodes.b.number) ⊎ ((n ≡ q.nodes.c.number) ⊎ (n ≡ q.nodes.d.number)))

among : (n : ℕ) (q : Row) → Among n q ⊎ ((w : Variable) → (node_at q w).number ≡ n → ⊥)
among n q =
    elim (cases_eq n q.nodes.a.number) [
      | inl e ↦ inl (inl e)
      | inr p ↦ elim (cases_eq n q.nodes.b.number) [
        | inl e ↦ inl (inr (inl e))
        | inr s ↦ elim (cases_eq n q.nodes.c.number) [
          | inl e ↦ inl (inr (inr (inl e)))
          | inr t ↦ elim (cases_eq n q.nodes.d.number) [
            | inl e ↦ inl (inr (inr (inr e)))
            | inr u ↦ inr (every_variable_lem (λ w. (node_at q w).number ≡ n → ⊥) (λ e. p (sym e)) (λ e. s (sym e)) (λ e. t (sym e)) (λ e. u (sym e)))
          ]
        ]
      ]
    ]

-- a node that one row uses is a node of the other
found_again : (r q : Row) → Normal r → Same r q → (v : Variable) → 0 < (node_at r v).number → Among (node_at r v).number q
found_again r q law same v h =
    elim (among (node_at r v).number q) [
      | inl i ↦ i
      | inr none ↦
          let free : Free r.table v = λ x t.
          sym (assign_value r law (put x v t)) ∙ same (assign r (put x v t)) refl
          ∙ row_same (assign r (put x v t)) (assign r x) q (λ w. agree r x t (node_at q w).number v (none w))
          ∙ sym (same (assign r x) refl) ∙ assign_value r law x
          in
          absurd (false≢true (sym (free_depends r.table v free) ∙ law.exact v ∙ lt-ltb 0 (node_at r v).number h))
    ]

-- ---- nodes ascend, so what is among them lies past the places before it

module _ (q : Row) (law : Normal q) (n : ℕ) (pos : 0 < n) where
  past_none : Among n q → (0 < q.nodes.a.number) × (q.nodes.a.number ≤ n)
  past_none e = grind (arith, b_used q law, c_used q law, d_used q law)

  past_a : q.nodes.a.number < n → Among n q → (0 < q.nodes.b.number) × (q.nodes.b.number ≤ n)
  past_a h e = grind (arith, b_used q law, c_used q law, d_used q law)

  past_b : q.nodes.a.number < q.nodes.b.number → q.nodes.b.number < n → Among n q → (0 < q.nodes.c.number) × (q.nodes.c.number ≤ n)
  past_b k h e = grind (arith, b_used q law, c_used q law, d_used q law)

  past_c : q.nodes.a.number < q.nodes.b.number → q.nodes.b.number < q.nodes.c.number → q.nodes.c.number < n → Among n q → (0 < q.nodes.d.number) × (q.nodes.d.number ≤ n)
  past_c j k h e = grind (arith, b_used q law, c_used q law, d_used q law)

-- x and y are used together, and neither lies past the other
meet : (x y : ℕ) → (0 < x → (0 < y) × (y ≤ x)) → (0 < y → (0 < x) × (x ≤ y)) → x ≡ y
meet x y f g = grind arith

module _ (r q : Row) (law : Normal r) (rule : Normal q) (same : Same r q) where
  back : Same q r
  back φ z = sym (same φ z)

  same_a : r.nodes.a.number ≡ q.nodes.a.number
  same_a =
      meet r.nodes.a.number q.nodes.a.number
      (λ h. past_none q rule r.nodes.a.number h (found_again r q law same V0 h))
      (λ h. past_none r law q.nodes.a.number h (found_again q r rule back V0 h))

  same_b : r.nodes.b.number ≡ q.nodes.b.number
  same_b =
      meet r.nodes.b.number q.nodes.b.number
      (λ h. past_a q rule r.nodes.b.number h (let e = same_a in let p = b_used r law h in omega (arith, p.1)) (found_again r q law same V1 h))
      (λ h. past_a r law q.nodes.b.number h (let e = same_a in let p = b_used q rule h in omega (arith, p.1)) (found_again q r rule back V1 h))

  same_c : r.nodes.c.number ≡ q.nodes.c.number
  same_c =
      meet r.nodes.c.number q.nodes.c.number
      (λ h. let e = same_a in let f = same_b in let p = c_used r law h in
      past_b q rule r.nodes.c.number h (omega (arith, p.1)) (omega (arith, p.2)) (found_again r q law same V2 h))
      (λ h. let e = same_a in let f = same_b in let p = c_used q rule h in
      past_b r law q.nodes.c.number h (omega (arith, p.1)) (omega (arith, p.2)) (found_again q r rule back V2 h))

  same_d : r.nodes.d.number ≡ q.nodes.d.number
  same_d =
      meet r.nodes.d.number q.nodes.d.number
      (λ h. let e = same_a in let f = same_b in let g = same_c in let p = d_used r law h in
      past_c q rule r.nodes.d.number h (omega (arith, p.1)) (omega (arith, p.2)) (omega (arith, p.3)) (found_again r q law same V3 h))
      (λ h. let e = same_a in let f = same_b in let g = same_c in let p = d_used q rule h in
      past_c r law q.nodes.d.number h (omega (arith, p.1)) (omega (arith, p.2)) (omega (arith, p.3)) (found_again q r rule back V3 h))

  moved : q ≡ with_table r q.table
  moved = made q (with_table r q.table) refl (sym same_a) (sym same_b) (sym same_c) (sym same_d)

  same_table : r.table ≡ q.table
  same_table =
      let t = with_table r q.table in
      let rule2 = subst Normal moved rule in
      same_values r.table q.table law.fits rule.fits
      (λ x. sym (assign_value r law x) ∙ same (assign r x) refl ∙ ap (row_under (assign r x)) moved ∙ assign_value t rule2 x)

  -- two rows in normal form that are the same function of the nodes are one
  pub unique_row : r ≡ q
  unique_row = made r q same_table same_a same_b same_c same_d

-- ---- forms

at-nothing : (r : Row) → Normal r → row_under (λ n. false) r ≡ false
at-nothing r law = law.zero

flip_back : (i : Bool) (s t : Bool) → inverted i s ≡ inverted i t → s ≡ t
flip_back i s t e = grind arith

inverted_false : (i j : Bool) → inverted i false ≡ inverted j false → i ≡ j
inverted_false i j e = grind arith

-- the form of a function of the nodes is unique
pub unique_form : (f : ℕ) (s : PerVariable Signal) (g h : Form) → Means f s g → Means f s h → g ≡ h
unique_form f s g h p q =
    let both = λ (φ : Assignment) (z : φ 0 ≡ false). p.means φ z ∙ sym (q.means φ z) in
    let i = inverted_false g.inverted h.inverted (ap (inverted g.inverted) (sym (at-nothing g.row p.lawful)) ∙ both (λ n. false) refl ∙ ap (inverted h.inverted) (at-nothing h.row q.lawful)) in
    let e = unique_row g.row h.row p.lawful q.lawful
    (λ φ z. flip_back h.inverted (row_under φ g.row) (row_under φ h.row) (ap (λ (b : Bool). inverted b (row_under φ g.row)) (sym i) ∙ both φ z)) in
    ap₂ (λ (r : Row) (b : Bool). record { row = r; inverted = b }) e i

pub normal_form_of : (f : ℕ) (s : PerVariable Signal) → f < 65536 → FormOf f s (normal f s)
normal_form_of f s h = record { is = normal_means f s h; only = λ g p. unique_form f s g (normal f s) p (normal_means f s h) }
