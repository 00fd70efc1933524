-- The support of a table: what it ignores, how it falls, and the tables of one variable or none.
use Rattle.std.proofs.Common.{◌≡◌, ℕ, ◌+◌, ◌<◌, ◌≤◌, Bool, true, false, cond, not, ◌⊎◌, sym, refl, ap, ◌∙◌, inl, inr, arith}
use Rattle.std.proofs.lemmas.Bool.{eqb-true, eq-eqb}
use Rattle.tables.specs.declared.Variable.{Variable}
use Rattle.tables.specs.declared.Variable.TheVariants.{V0, V1, V2, V3}
use Rattle.tables.specs.Settings.{Setting, get, put, setting}
use Rattle.tables.specs.Tables.{value, table_of, cofactor, depends_on, support_size}
use Rattle.tables.proofs.Laws.{is_table_of, value-cofactor, cofactor_lt, same_values}

-- the value does not change with v
abbrev pub Ignores : ℕ → Variable → Type 0
Ignores f v = (x : Setting) (t : Bool) → value f (put x v t) ≡ value f x

put-get : (x : Setting) (v : Variable) → put x v (get x v) ≡ x
put-get x V0 = refl
put-get x V1 = refl
put-get x V2 = refl
put-get x V3 = refl

pub put-put : (x : Setting) (v : Variable) (s t : Bool) → put (put x v s) v t ≡ put x v t
put-put x V0 s t = refl
put-put x V1 s t = refl
put-put x V2 s t = refl
put-put x V3 s t = refl

pub put_swap : (x : Setting) (v w : Variable) (s t : Bool) → (v ≡ w) ⊎ (put (put x v s) w t ≡ put (put x w t) v s)
put_swap x V0 V0 s t = inl refl
put_swap x V0 V1 s t = inr refl
put_swap x V0 V2 s t = inr refl
put_swap x V0 V3 s t = inr refl
put_swap x V1 V0 s t = inr refl
put_swap x V1 V1 s t = inl refl
put_swap x V1 V2 s t = inr refl
put_swap x V1 V3 s t = inr refl
put_swap x V2 V0 s t = inr refl
put_swap x V2 V1 s t = inr refl
put_swap x V2 V2 s t = inl refl
put_swap x V2 V3 s t = inr refl
put_swap x V3 V0 s t = inr refl
put_swap x V3 V1 s t = inr refl
put_swap x V3 V2 s t = inr refl
put_swap x V3 V3 s t = inl refl

not-false : (b : Bool) → not b ≡ false → b ≡ true
not-false true e = refl
not-false false e = sym e

not-true : (b : Bool) → b ≡ true → not b ≡ false
not-true true e = refl
not-true false e = sym e

same_cofactors : (f : ℕ) (v : Variable) → depends_on f v ≡ false → cofactor f v false ≡ cofactor f v true
unfolding depends_on
same_cofactors f v e = eqb-true (cofactor f v false) (cofactor f v true) (not-false _ e)

pub ignores : (f : ℕ) (v : Variable) → depends_on f v ≡ false → Ignores f v
ignores f v e x t =
    let c = same_cofactors f v e in
    let both : value f (put x v false) ≡ value f (put x v true) = sym (value-cofactor f v false x) ∙ ap (λ (g : ℕ). value g x) c ∙ value-cofactor f v true x in
    at t (get x v) both ∙ ap (value f) (put-get x v)
  where
    at : (s u : Bool) → value f (put x v false) ≡ value f (put x v true) → value f (put x v s) ≡ value f (put x v u)
    at true true b = refl
    at true false b = sym b
    at false true b = b
    at false false b = refl

pub ignored : (f : ℕ) (v : Variable) → Ignores f v → depends_on f v ≡ false
unfolding depends_on
ignored f v h =
    not-true _ (eq-eqb (cofactor f v false) (cofactor f v true)
    (same_values (cofactor f v false) (cofactor f v true) (cofactor_lt f v false) (cofactor_lt f v true)
    (λ x. value-cofactor f v false x ∙ h x false ∙ sym (h x true) ∙ sym (value-cofactor f v true x))))

-- ---- a cofactor ignores its variable, and all that the table ignores

pub cofactor_ignores : (f : ℕ) (v : Variable) (s : Bool) → Ignores (cofactor f v s) v
cofactor_ignores f v s x t = value-cofactor f v s (put x v t) ∙ ap (value f) (put-put x v t s) ∙ sym (value-cofactor f v s x)

pub cofactor_keeps : (f : ℕ) (v w : Variable) (s : Bool) → Ignores f w → Ignores (cofactor f v s) w
cofactor_keeps f v w s h x t =
    value-cofactor f v s (put x w t) ∙ by (put_swap x w v t s) ∙ sym (value-cofactor f v s x)
  where
    by : (w ≡ v) ⊎ (put (put x w t) v s ≡ put (put x v s) w t) → value f (put (put x w t) v s) ≡ value f (put x v s)
    by (inl e) = ap (λ (u : Variable). value f (put (put x u t) v s)) e ∙ ap (value f) (put-put x v t s)
    by (inr e) = ap (value f) e ∙ h (put x v s) t

abbrev one : Bool → ℕ
one b = cond b 1 0

one_le : (a b : Bool) → (b ≡ false → a ≡ false) → one a ≤ one b
one_le true true h = omega arith
one_le true false h = let e = ap one (h refl) in omega arith
one_le false true h = omega arith
one_le false false h = omega arith

fewer : (f : ℕ) (v w : Variable) (s : Bool) → one (depends_on (cofactor f v s) w) ≤ one (depends_on f w)
fewer f v w s = one_le (depends_on (cofactor f v s) w) (depends_on f w) (λ e. ignored (cofactor f v s) w (cofactor_keeps f v w s (ignores f w e)))

gone : (f : ℕ) (v : Variable) (s : Bool) → depends_on f v ≡ true → one (depends_on (cofactor f v s) v) < one (depends_on f v)
gone f v s d =
    let e = ap one (ignored (cofactor f v s) v (cofactor_ignores f v s)) in
    let g = ap one d in
    omega arith

-- both parts of a table have a smaller support
pub support_falls : (f : ℕ) (v : Variable) (s : Bool) → depends_on f v ≡ true → support_size (cofactor f v s) < support_size f
unfolding support_size
support_falls f V0 s d = let g = gone f V0 s d in let b = fewer f V0 V1 s in let c = fewer f V0 V2 s in let e = fewer f V0 V3 s in omega arith
support_falls f V1 s d = let a = fewer f V1 V0 s in let g = gone f V1 s d in let c = fewer f V1 V2 s in let e = fewer f V1 V3 s in omega arith
support_falls f V2 s d = let a = fewer f V2 V0 s in let b = fewer f V2 V1 s in let g = gone f V2 s d in let e = fewer f V2 V3 s in omega arith
support_falls f V3 s d = let a = fewer f V3 V0 s in let b = fewer f V3 V1 s in let c = fewer f V3 V2 s in let g = gone f V3 s d in omega arith

one_le_one : (b : Bool) → one b ≤ 1
one_le_one true = omega arith
one_le_one false = omega arith

pub support_le : (f : ℕ) → support_size f ≤ 4
unfolding support_size
support_le f =
    let a = one_le_one (depends_on f V0) in let b = one_le_one (depends_on f V1) in let c = one_le_one (depends_on f V2) in let d = one_le_one (depends_on f V3) in omega arith

-- ---- tables of one variable or none

-- a variable, an inverted variable or a constant, by its values where v is false and where it is true
pub record OneVariable (f : ℕ) : Type 0 where
  pub of : Variable
  pub low : Bool
  pub high : Bool
  pub is : f ≡ table_of (λ x. cond (get x of) high low)

-- every variable but v at false
abbrev alone : Variable → Bool → Setting
alone v t = put (setting false false false false) v t

by_value : (h : Bool → Bool) (t : Bool) → h t ≡ cond t (h true) (h false)
by_value h true = refl
by_value h false = refl

depends_alone : (f : ℕ) (v : Variable) → f < 65536 → ((x : Setting) → value f x ≡ value f (alone v (get x v))) → OneVariable f
depends_alone f v h e = record {
  of = v;
  low = value f (alone v false);
  high = value f (alone v true);
  is = is_table_of f (λ x. cond (get x v) (value f (alone v true)) (value f (alone v false))) h (λ x. e x ∙ by_value (λ t. value f (alone v t)) (get x v));
}

only : (f : ℕ) (a b c d : Bool) → f < 65536 → depends_on f V0 ≡ a → depends_on f V1 ≡ b → depends_on f V2 ≡ c → depends_on f V3 ≡ d → one a + one b + one c + one d ≤ 1 → OneVariable f
only f a false false false h p q r s l =
    depends_alone f V0 h (λ x. sym (ignores f V3 s (put (put x V1 false) V2 false) false ∙ ignores f V2 r (put x V1 false) false ∙ ignores f V1 q x false))
only f false true false false h p q r s l =
    depends_alone f V1 h (λ x. sym (ignores f V3 s (put (put x V0 false) V2 false) false ∙ ignores f V2 r (put x V0 false) false ∙ ignores f V0 p x false))
only f false false true false h p q r s l =
    depends_alone f V2 h (λ x. sym (ignores f V3 s (put (put x V0 false) V1 false) false ∙ ignores f V1 q (put x V0 false) false ∙ ignores f V0 p x false))
only f false false false true h p q r s l =
    depends_alone f V3 h (λ x. sym (ignores f V2 r (put (put x V0 false) V1 false) false ∙ ignores f V1 q (put x V0 false) false ∙ ignores f V0 p x false))
only f true true c d h p q r s l = let z : ⊥ = omega arith in absurd z
only f true false true d h p q r s l = let z : ⊥ = omega arith in absurd z
only f true false false true h p q r s l = let z : ⊥ = omega arith in absurd z
only f false true true d h p q r s l = let z : ⊥ = omega arith in absurd z
only f false true false true h p q r s l = let z : ⊥ = omega arith in absurd z
only f false false true true h p q r s l = let z : ⊥ = omega arith in absurd z

pub one_variable : (f : ℕ) → f < 65536 → support_size f ≤ 1 → OneVariable f
unfolding support_size
one_variable f h l = only f (depends_on f V0) (depends_on f V1) (depends_on f V2) (depends_on f V3) h refl refl refl refl l
