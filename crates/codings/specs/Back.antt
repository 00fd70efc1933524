-- Rows of nodes below 1024 and of few tables come back from their words; rows that come back are told apart by their words.
use Rattle.std.proofs.Common.{◌≡◌, ℕ, ◌+◌, ◌*◌, ◌/◌, ◌%◌, ◌<◌, ◌≤◌, true, eqb, ltb, List, get_or, take, Option, Some, None, sym, refl, ap, ◌∙◌, inl, inr, arith}
use Rattle.std.specs.List.{position}
use Rattle.std.specs.Option.{is_some, unwrap_or}
use Rattle.std.proofs.lemmas.Bool.{and_parts, eqb-true, ltb-true, lt-ltb, le-ltb, cond-true, cond-false, cases_lt}
use Rattle.std.proofs.lemmas.List.{get_or-take, get_or_past, length-take}
use Rattle.std.proofs.lemmas.List.Quantifiers.{position-Some}
use Rattle.netlists.specs.declared.Node.{Node}
use Rattle.netlists.specs.declared.Row.{Row}
use Rattle.codings.specs.Coders.{Coder, Lawful}
use Rattle.codings.specs.Codes.{number_in, near_node, near_nodes, near_encode, near_decode, near_coder}

-- ---- nodes and tables

node_back : (w k : ℕ) (xs : List ℕ) (n : Node) → near_node w k n ≡ true → (n.number < 1024 → get_or xs k 0 % 1024 ≡ n.number) → get_or (take w xs) k 0 % 1024 ≡ n.number
node_back w k xs n e f =
    elim (cases_lt k w) [
      | inl h ↦
          let t : ltb n.number 1024 ≡ true = sym (cond-true (ltb k w) _ _ (lt-ltb k w h)) ∙ e in
          ap (λ (y : ℕ). y % 1024) (get_or-take w xs k 0 h) ∙ f (ltb-true n.number 1024 t)
      | inr h ↦
          let t : eqb n.number 0 ≡ true = sym (cond-false (ltb k w) _ _ (le-ltb k w h)) ∙ e in
          let l = length-take w xs in
          ap (λ (y : ℕ). y % 1024) (get_or_past (take w xs) k 0 (omega arith)) ∙ sym (eqb-true n.number 0 t)
    ]

number_of_some : (ts : List ℕ) (t : ℕ) (o : Option ℕ) → position (λ x. eqb x t) ts ≡ o → is_some o ≡ true → get_or ts (unwrap_or o 4) 0x6666 ≡ t
number_of_some ts t (Some i) e h = eqb-true _ t (position-Some (λ x. eqb x t) ts i 0x6666 e).1
number_of_some ts t None e h = cc

low : (n k : ℕ) → n < 1024 → (n % 1024 + 1024 * k) % 1024 ≡ n
low n k h = omega arith

high : (n k : ℕ) → (n % 1024 + 1024 * k) / 1024 ≡ k
high n k = omega arith

plain : (n : ℕ) → n < 1024 → (n % 1024) % 1024 ≡ n
plain n h = omega arith

-- ---- rows

row : (t a b c d : ℕ) (r : Row) → t ≡ r.table → a ≡ r.nodes.a.number → b ≡ r.nodes.b.number → c ≡ r.nodes.c.number → d ≡ r.nodes.d.number
    → ◌≡◌ {A = Row} (record { table = t; nodes = record { a = record { number = a }; b = record { number = b }; c = record { number = c }; d = record { number = d } } }) r
row t a b c d r et ea eb ec ed = λ i. record {
  table = et i;
  nodes = record { a = record { number = ea i }; b = record { number = eb i }; c = record { number = ec i }; d = record { number = ed i } };
}

pub near_back : (w : ℕ) (ts : List ℕ) → 0 < w → (r : Row) → (near_coder w ts).codes r ≡ true → near_decode ts (near_encode w ts r) ≡ r
near_back w ts some r e =
    let p = and_parts (near_nodes w r) _ e in
    let q = and_parts _ (near_node w 3 r.nodes.d) p.0 in
    let s = and_parts _ (near_node w 2 r.nodes.c) q.0 in
    let u = and_parts (near_node w 0 r.nodes.a) (near_node w 1 r.nodes.b) s.0 in
    let n = number_in ts r.table in
    row _ _ _ _ _ r
    (ap (λ (y : ℕ). get_or ts (y / 1024) 0x6666) (get_or-take w _ 0 0 some) ∙ ap (λ (y : ℕ). get_or ts y 0x6666) (high r.nodes.a.number n) ∙ number_of_some ts r.table _ refl p.1)
    (node_back w 0 _ r.nodes.a u.0 (low r.nodes.a.number n)) (node_back w 1 _ r.nodes.b u.1 (plain r.nodes.b.number))
    (node_back w 2 _ r.nodes.c s.1 (plain r.nodes.c.number)) (node_back w 3 _ r.nodes.d q.1 (plain r.nodes.d.number))

pub near_lawful : (w : ℕ) (ts : List ℕ) → 2 ≤ w → w ≤ 4 → Lawful w (near_coder w ts)
near_lawful w ts least few = record {
  least = least;
  most = omega arith;
  wide = λ r. length-take w _ ∙ omega arith;
  back = near_back w ts (omega arith);
}

-- ---- two rows that a coding codes have the same words only where they are equal

pub same_row_lem : (w : ℕ) (k : Coder) → Lawful w k → (r s : Row) → k.codes r ≡ true → k.codes s ≡ true → k.encode r ≡ k.encode s → r ≡ s
same_row_lem w k l r s x y e = sym (l.back r x) ∙ ap k.decode e ∙ l.back s y
