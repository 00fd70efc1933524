-- A row of nodes below 1024 whose table is of an owned class is coded, in whatever order its nodes stand; so a lawful row is.
use Rattle.std.proofs.Common.{◌≡◌, ℕ, ◌<◌, ◌≤◌, Bool, true, false, not, ◌&&◌, ◌||◌, eqb, ltb, List, sym, refl, ap, ◌∙◌, subst, inl, inr, ⊎_elim, arith}
use Rattle.std.specs.List.{position}
use Rattle.std.specs.Option.{is_some}
use Rattle.std.proofs.lemmas.Bool.{and_parts, and_from, or_cases, eqb-true, eq-eqb, ltb-true, ltb-false, lt-ltb, le-ltb, cond-true, cond-false, cases_lt, not-true}
use Rattle.transforms.specs.Images.{representative}
use Rattle.tables.specs.Bits.{bit, from_bits}
use Rattle.tables.specs.declared.Variable.TheVariants.{V0, V1, V2, V3}
use Rattle.tables.specs.Tables.{value, table_of, cofactor, depends_on}
use Rattle.classes.specs.declared.Ownership.{Ownership}
use Rattle.classes.specs.Owned.{owns, and_ownership, and_xor_ownership, majority_ownership, table_ownership}
use Rattle.classes.specs.Normal.{NormalTable, is_and, is_xor, is_majority}
use Rattle.classes.proofs.Normal.{conjunction_normal, exclusive_or-normal, majority_normal}
use Rattle.netlists.specs.declared.Node.{Node}
use Rattle.netlists.specs.declared.Row.{Row}
use Rattle.netlists.specs.Lawful.{Normal, LawfulRow}
use Rattle.codings.specs.Coders.{Coder}
use Rattle.codings.specs.Codes.{and_tables, and_coder, and_xor_tables, and_xor_coder, majority_tables, majority_coder, every_coder, near_node, near_nodes, near_coder}
use Rattle.codings.specs.Rows.{Shaped, Near, Codable}

-- ---- what is owned, by the tables of the classes

abbrev owned_tables : Ownership → ℕ → Bool
owned_tables o t = o.every || is_and t || (o.xor && is_xor t) || (o.majority && is_majority t)

by_tables : (o : Ownership) (t : ℕ) → t < 65536 → NormalTable t → owns o t ≡ owned_tables o t
unfolding owns
by_tables o t h n =
    ap (λ (b : Bool). o.every || b || (o.xor && eqb (representative t) 4080) || (o.majority && eqb (representative t) 831)) (conjunction_normal t h n)
    ∙ ap (λ (b : Bool). o.every || is_and t || (o.xor && b) || (o.majority && eqb (representative t) 831)) (exclusive_or-normal t h n)
    ∙ ap (λ (b : Bool). o.every || is_and t || (o.xor && is_xor t) || (o.majority && b)) (majority_normal t h n)

or_false : (a : Bool) → (a || false) ≡ true → a ≡ true
or_false true e = refl
or_false false e = e

drop_middle : (a b : Bool) → ((a || false) || b) ≡ true → (a || b) ≡ true
drop_middle true b e = refl
drop_middle false b e = e

-- ---- a table that is listed, and depends on no variable that has no word of its own

abbrev listed : ℕ → List ℕ → ℕ → Bool
listed width ts t = is_some (position (λ x. eqb x t) ts) && (ltb 2 width || not (depends_on t V2)) && (ltb 3 width || not (depends_on t V3))

abbrev Listed : ℕ → List ℕ → ℕ → Type 0
Listed width ts t = listed width ts t ≡ true

at : (P : ℕ → Type 0) (n t : ℕ) → P n → eqb t n ≡ true → P t
at P n t p e = subst P (sym (eqb-true t n e)) p

four : (P : ℕ → Type 0) (i j k l t : ℕ) → P i → P j → P k → P l → (eqb t i || eqb t j || eqb t k || eqb t l) ≡ true → P t
four P i j k l t pi pj pk pl e =
    ⊎_elim (λ f. ⊎_elim (λ g. ⊎_elim (at P i t pi) (at P j t pj) (or_cases _ _ g)) (at P k t pk) (or_cases _ _ f)) (at P l t pl) (or_cases _ _ e)

and_listed : (t : ℕ) → is_and t ≡ true → Listed 2 and_tables t
unfolding depends_on cofactor value table_of bit from_bits
and_listed t e = four (Listed 2 and_tables) 0x8888 0x2222 0x4444 0xEEEE t refl refl refl refl e

and_xor_listed : (t : ℕ) → (is_and t || is_xor t) ≡ true → Listed 2 and_xor_tables t
unfolding depends_on cofactor value table_of bit from_bits
and_xor_listed t e =
    ⊎_elim (four (Listed 2 and_xor_tables) 0x8888 0x2222 0x4444 0xEEEE t refl refl refl refl) (at (Listed 2 and_xor_tables) 0x6666 t refl)
    (or_cases (is_and t) (is_xor t) e)

majority_listed : (t : ℕ) → (is_and t || is_majority t) ≡ true → Listed 3 majority_tables t
unfolding depends_on cofactor value table_of bit from_bits
majority_listed t e =
    ⊎_elim (four (Listed 3 majority_tables) 0x8888 0x2222 0x4444 0xEEEE t refl refl refl refl)
    (four (Listed 3 majority_tables) 0xE8E8 0xD4D4 0xB2B2 0x8E8E t refl refl refl refl) (or_cases (is_and t) (is_majority t) e)

-- ---- rows

near_here : (w k : ℕ) (n : Node) → k < w → n.number < 1024 → near_node w k n ≡ true
near_here w k n h l = cond-true (ltb k w) _ _ (lt-ltb k w h) ∙ lt-ltb n.number 1024 l

near_from : (w k : ℕ) (n : Node) (d : Bool) → n.number < 1024 → d ≡ ltb 0 n.number → (ltb k w || not d) ≡ true → near_node w k n ≡ true
near_from w k n d l x e =
    elim (cases_lt k w) [
      | inl h ↦ near_here w k n h l
      | inr h ↦
          let f = le-ltb k w h in
          let z = ltb-false 0 n.number (sym x ∙ not-true d (ap (λ (b : Bool). b || not d) (sym f) ∙ e)) in
          cond-false (ltb k w) _ _ f ∙ eq-eqb n.number 0 (omega arith)
    ]

shaped_table : (r : Row) → Shaped r → NormalTable r.table
shaped_table r s = record {
  zero = s.zero;
  first = s.exact_a ∙ lt-ltb 0 r.nodes.a.number s.used_a;
  second = s.exact_b ∙ lt-ltb 0 r.nodes.b.number s.used_b;
  third = λ e. s.exact_c ∙ lt-ltb 0 r.nodes.c.number (s.used_c (ltb-true 0 r.nodes.d.number (sym s.exact_d ∙ e)));
}

owned : (o : Ownership) (r : Row) → Shaped r → owns o r.table ≡ true → owned_tables o r.table ≡ true
owned o r s e = sym (by_tables o r.table s.fits (shaped_table r s)) ∙ e

coded : (w : ℕ) (ts : List ℕ) → 2 ≤ w → (r : Row) → Shaped r → Near r → Listed w ts r.table → (near_coder w ts).codes r ≡ true
coded w ts h r s n e =
    let p = and_parts (is_some (position (λ x. eqb x r.table) ts) && (ltb 2 w || not (depends_on r.table V2))) (ltb 3 w || not (depends_on r.table V3)) e in
    let q = and_parts (is_some (position (λ x. eqb x r.table) ts)) (ltb 2 w || not (depends_on r.table V2)) p.0 in
    and_from (near_nodes w r) (is_some (position (λ x. eqb x r.table) ts))
    (and_from _ (near_node w 3 r.nodes.d)
    (and_from _ (near_node w 2 r.nodes.c)
    (and_from (near_node w 0 r.nodes.a) (near_node w 1 r.nodes.b) (near_here w 0 r.nodes.a (omega arith) n.near_a) (near_here w 1 r.nodes.b (omega arith) n.near_b))
    (near_from w 2 r.nodes.c (depends_on r.table V2) n.near_c s.exact_c q.1))
    (near_from w 3 r.nodes.d (depends_on r.table V3) n.near_d s.exact_d p.1))
    q.0

-- ---- each coding

pub and_codable : Codable and_ownership and_coder
and_codable r s n e = coded 2 and_tables (omega arith) r s n (and_listed r.table (or_false (is_and r.table) (or_false _ (owned and_ownership r s e))))

pub and_xor_codable : Codable and_xor_ownership and_xor_coder
and_xor_codable r s n e =
    coded 2 and_xor_tables (omega arith) r s n (and_xor_listed r.table (or_false (is_and r.table || is_xor r.table) (owned and_xor_ownership r s e)))

pub majority_codable : Codable majority_ownership majority_coder
majority_codable r s n e =
    coded 3 majority_tables (omega arith) r s n (majority_listed r.table (drop_middle (is_and r.table) (is_majority r.table) (owned majority_ownership r s e)))

pub every_codable : Codable table_ownership every_coder
every_codable r s n e = refl

-- ---- lawful rows

shaped : (r : Row) → Normal r → 0 < r.nodes.b.number → Shaped r
shaped r n two = record {
  fits = n.fits;
  used_a = (n.ascending_b two).0;
  used_b = two;
  used_c = λ h. (n.ascending_d h).0;
  exact_a = n.exact V0;
  exact_b = n.exact V1;
  exact_c = n.exact V2;
  exact_d = n.exact V3;
  zero = n.zero;
}

pub normal_table : (r : Row) → Normal r → 0 < r.nodes.b.number → NormalTable r.table
normal_table r n two = shaped_table r (shaped r n two)

lawful_coded : (o : Ownership) (k : Coder) → Codable o k → (r : Row) → LawfulRow o 1024 r → k.codes r ≡ true
lawful_coded o k c r l =
    c r (shaped r l.shape l.two) (record { near_a = l.earlier V0; near_b = l.earlier V1; near_c = l.earlier V2; near_d = l.earlier V3 }) l.owned

pub and_owned : (r : Row) → LawfulRow and_ownership 1024 r → (near_coder 2 and_tables).codes r ≡ true
and_owned = lawful_coded and_ownership and_coder and_codable

pub and_xor_owned : (r : Row) → LawfulRow and_xor_ownership 1024 r → (near_coder 2 and_xor_tables).codes r ≡ true
and_xor_owned = lawful_coded and_xor_ownership and_xor_coder and_xor_codable

pub majority_owned : (r : Row) → LawfulRow majority_ownership 1024 r → (near_coder 3 majority_tables).codes r ≡ true
majority_owned = lawful_coded majority_ownership majority_coder majority_codable
