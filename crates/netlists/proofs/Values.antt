-- The values of the nodes of a netlist.
use Rattle.std.proofs.Common.{◌≡◌, ℕ, zero, suc, ◌+◌, ◌<◌, ◌≤◌, Bool, true, false, ltb, List, [], ◌∷◌, ◌++◌, length, get_or, sym, refl, ap, ◌∙◌, subst, le_of_suc-le-suc, not-suc-le-zero, add-zero, arith, length-append}
use Rattle.std.proofs.lemmas.List.{get_or_append_left, get_or_push}
use Rattle.std.proofs.lemmas.Bool.{false≢true, ltb-false}
use Rattle.tables.specs.declared.Variable.{Variable}
use Rattle.tables.specs.declared.Variable.TheVariants.{V0, V1, V2, V3}
use Rattle.tables.specs.Settings.{Setting, setting, put}
use Rattle.tables.specs.Tables.{value, depends_on}
use Rattle.tables.proofs.Swaps.{Free, free_depends, depends_free}
use Rattle.netlists.specs.declared.Row.{Row}
use Rattle.netlists.specs.Netlists.{Netlist, Assignment, setting_under, row_under, held, values, node_values}
use Rattle.netlists.specs.Normal.{node_at, at_zero}
use Rattle.netlists.specs.Placing.{no_row}
use Rattle.netlists.specs.Lawful.{Normal}

pub values_length : (vs : List Bool) (rs : List Row) → length (values vs rs) ≡ length vs + length rs
values_length vs [] = omega arith
values_length vs (r ∷ rs) = values_length (vs ++ row_under (held vs) r ∷ []) rs ∙ simp length-append (omega arith)

pub values_prefix : (vs : List Bool) (rs : List Row) (k : ℕ) → k < length vs → held (values vs rs) k ≡ held vs k
values_prefix vs [] k h = refl
values_prefix vs (r ∷ rs) k h =
    values_prefix (vs ++ row_under (held vs) r ∷ []) rs k (simp length-append (omega arith)) ∙ get_or_append_left vs (row_under (held vs) r ∷ []) false k h

pub values-append : (vs : List Bool) (rs ss : List Row) → values vs (rs ++ ss) ≡ values (values vs rs) ss
values-append vs [] ss = refl
values-append vs (r ∷ rs) ss = values-append (vs ++ row_under (held vs) r ∷ []) rs ss

-- a row depends on its nodes alone
pub row_same : (φ ψ : Assignment) (r : Row) → ((v : Variable) → φ (node_at r v).number ≡ ψ (node_at r v).number) → row_under φ r ≡ row_under ψ r
row_same φ ψ r e = grind (arith, e V0, e V1, e V2, e V3)

-- the value of a row is its table at the values of its nodes
pub row_value : (vs : List Bool) (rs : List Row) (k : ℕ) → k < length rs → ((v : Variable) → (node_at (get_or rs k no_row) v).number < length vs + k)
    → held (values vs rs) (length vs + k) ≡ row_under (held (values vs rs)) (get_or rs k no_row)
row_value vs [] k h e = absurd (not-suc-le-zero h)
row_value vs (r ∷ rs) zero h e =
    let ws = vs ++ row_under (held vs) r ∷ [] in
    let l : length vs < length ws = simp length-append (omega arith) in
    rw add-zero (values_prefix ws rs (length vs) l ∙ get_or_push vs (row_under (held vs) r) false (length vs) refl
    ∙ row_same (held vs) (held (values ws rs)) r (λ v.
    let b : (node_at r v).number < length vs = omega (arith, e v) in
    let c : (node_at r v).number < length ws = omega arith in
    sym (values_prefix ws rs (node_at r v).number c ∙ get_or_append_left vs (row_under (held vs) r ∷ []) false (node_at r v).number b)))
row_value vs (r ∷ rs) (suc k) h e =
    let ws = vs ++ row_under (held vs) r ∷ [] in
    let q : length ws + k ≡ length vs + suc k = simp length-append (omega arith) in
    subst (λ (m : ℕ). held (values ws rs) m ≡ row_under (held (values ws rs)) (get_or rs k no_row)) q
    (row_value ws rs k (le_of_suc-le-suc h) (λ v. omega (arith, q, e v)))

pub node_zero : (n : Netlist) (xs : List Bool) → held (node_values n xs) 0 ≡ false
node_zero n xs = values_prefix (false ∷ xs) n.rows 0 (omega arith)

-- ---- a table over one node at most is that node

abbrev alone : Bool → Setting
alone a = setting false false false a

one_left : (f : ℕ) → Free f V1 → Free f V2 → Free f V3 → (x : Setting) → value f x ≡ value f (alone x.a)
one_left f p q r x = sym (p x false) ∙ sym (q (put x V1 false) false) ∙ sym (r (put (put x V1 false) V2 false) false)

one_bit : (f : ℕ) → Free f V1 → Free f V2 → Free f V3 → at_zero f ≡ false → (a b : Bool) → value f (alone true) ≡ b → depends_on f V0 ≡ true → value f (alone a) ≡ a
one_bit f p q r z true true e d = e
one_bit f p q r z true false e d =
    absurd (false≢true (sym (free_depends f V0 (λ x t. one_left f p q r (put x V0 t) ∙ both t ∙ sym (both x.a) ∙ sym (one_left f p q r x))) ∙ d))
  where
    both : (t : Bool) → value f (alone t) ≡ false
    both true = e
    both false = z
one_bit f p q r z false b e d = z

lone : (f : ℕ) → Free f V1 → Free f V2 → Free f V3 → at_zero f ≡ false → (x : Setting) (b : Bool) → depends_on f V0 ≡ b → (b ≡ false → x.a ≡ false) → value f x ≡ x.a
lone f p q r z x true d h = one_left f p q r x ∙ one_bit f p q r z x.a (value f (alone true)) refl d
lone f p q r z x false d h = one_left f p q r x ∙ ap (λ (a : Bool). value f (alone a)) (h refl) ∙ z ∙ sym (h refl)

pub unused : (r : Row) → Normal r → (v : Variable) → (node_at r v).number ≡ 0 → Free r.table v
unused r h v e = depends_free r.table v (h.exact v ∙ ap (ltb 0) e)

-- a row in normal form over no node or one has the value of that node, node 0 being false
pub lone_value : (φ : Assignment) → φ 0 ≡ false → (r : Row) → Normal r → r.nodes.b.number ≡ 0 → row_under φ r ≡ φ r.nodes.a.number
lone_value φ z r h b =
    let c : r.nodes.c.number ≡ 0 = past r.nodes.b.number r.nodes.c.number b h.ascending_c in
    let d : r.nodes.d.number ≡ 0 = past r.nodes.c.number r.nodes.d.number c h.ascending_d in
    lone r.table (unused r h V1 b) (unused r h V2 c) (unused r h V3 d) h.zero (setting_under φ r) (ltb 0 r.nodes.a.number) (h.exact V0)
    (λ e. let l : r.nodes.a.number ≤ 0 = ltb-false 0 r.nodes.a.number e in let y : r.nodes.a.number ≡ 0 = omega arith in ap φ y ∙ z)
  where
    past : (x y : ℕ) → x ≡ 0 → (0 < y → (0 < x) × (x < y)) → y ≡ 0
    past x y e f = grind arith
