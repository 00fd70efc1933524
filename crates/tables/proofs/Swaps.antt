-- The laws of settings, of the support, and of tables with variables exchanged or joined.
use Rattle.std.proofs.Common.{◌≡◌, ℕ, ◌<◌, Bool, true, false, cond, not, T, eqb, ◌⊎◌, sym, refl, ap, ◌∙◌, subst, ap₂, inl, inr}
use Rattle.std.proofs.lemmas.Bool.{eq-eqb, eqb-true, not-false}
use Rattle.tables.specs.declared.Variable.{Variable}
use Rattle.tables.specs.declared.Variable.TheVariants.{V0, V1, V2, V3}
use Rattle.tables.specs.Settings.{Setting, get, put}
use Rattle.tables.specs.Tables.{value, table_of, variable, complement, chosen, cofactor, depends_on, flipped}
use Rattle.tables.specs.Swaps.{exchanged, swapped, joined}
use Rattle.tables.proofs.Laws.{value-table_of, table_of_lt, table_of_same, same_values, value-variable, value-chosen, value-cofactor, value-complement}

-- ---- variables

pub every_variable_lem : (P : Variable → Type 0) → P V0 → P V1 → P V2 → P V3 → (v : Variable) → P v
every_variable_lem P a b c d V0 = a
every_variable_lem P a b c d V1 = b
every_variable_lem P a b c d V2 = c
every_variable_lem P a b c d V3 = d

abbrev place : Variable → ℕ
place V0 = 0
place V1 = 1
place V2 = 2
place V3 = 3

abbrev pub differ : Variable → Variable → Bool
differ v w = not (eqb (place v) (place w))

pub same_or_differ : (v w : Variable) → (v ≡ w) ⊎ T (differ v w)
same_or_differ V0 V0 = inl refl
same_or_differ V0 V1 = inr tt
same_or_differ V0 V2 = inr tt
same_or_differ V0 V3 = inr tt
same_or_differ V1 V0 = inr tt
same_or_differ V1 V1 = inl refl
same_or_differ V1 V2 = inr tt
same_or_differ V1 V3 = inr tt
same_or_differ V2 V0 = inr tt
same_or_differ V2 V1 = inr tt
same_or_differ V2 V2 = inl refl
same_or_differ V2 V3 = inr tt
same_or_differ V3 V0 = inr tt
same_or_differ V3 V1 = inr tt
same_or_differ V3 V2 = inr tt
same_or_differ V3 V3 = inl refl

-- the variable that stands at v once j and k are exchanged
abbrev pub swap_variable : Variable → Variable → Variable → Variable
swap_variable j k v = cond (eqb (place v) (place j)) k (cond (eqb (place v) (place k)) j v)

pub swap_twice : (j k v : Variable) → swap_variable j k (swap_variable j k v) ≡ v
swap_twice =
    every_variable_lem (λ j. (k v : Variable) → swap_variable j k (swap_variable j k v) ≡ v)
    (every_variable_lem (λ k. (v : Variable) → swap_variable V0 k (swap_variable V0 k v) ≡ v)
    (every_variable_lem _ refl refl refl refl) (every_variable_lem _ refl refl refl refl) (every_variable_lem _ refl refl refl refl) (every_variable_lem _ refl refl refl refl))
    (every_variable_lem (λ k. (v : Variable) → swap_variable V1 k (swap_variable V1 k v) ≡ v)
    (every_variable_lem _ refl refl refl refl) (every_variable_lem _ refl refl refl refl) (every_variable_lem _ refl refl refl refl) (every_variable_lem _ refl refl refl refl))
    (every_variable_lem (λ k. (v : Variable) → swap_variable V2 k (swap_variable V2 k v) ≡ v)
    (every_variable_lem _ refl refl refl refl) (every_variable_lem _ refl refl refl refl) (every_variable_lem _ refl refl refl refl) (every_variable_lem _ refl refl refl refl))
    (every_variable_lem (λ k. (v : Variable) → swap_variable V3 k (swap_variable V3 k v) ≡ v)
    (every_variable_lem _ refl refl refl refl) (every_variable_lem _ refl refl refl refl) (every_variable_lem _ refl refl refl refl) (every_variable_lem _ refl refl refl refl))

-- ---- settings

pub put-put : (x : Setting) (v : Variable) (s t : Bool) → put (put x v s) v t ≡ put x v t
put-put x V0 s t = refl
put-put x V1 s t = refl
put-put x V2 s t = refl
put-put x V3 s t = refl

pub put-get : (x : Setting) (v : Variable) → put x v (get x v) ≡ x
put-get x V0 = refl
put-get x V1 = refl
put-get x V2 = refl
put-get x V3 = refl

pub get-put : (x : Setting) (v : Variable) (t : Bool) → get (put x v t) v ≡ t
get-put x V0 t = refl
get-put x V1 t = refl
get-put x V2 t = refl
get-put x V3 t = refl

pub get-put_other : (x : Setting) (t : Bool) (v w : Variable) → T (differ v w) → get (put x v t) w ≡ get x w
get-put_other x t =
    every_variable_lem (λ v. (w : Variable) → T (differ v w) → get (put x v t) w ≡ get x w)
    (every_variable_lem _ (λ h. absurd h) (λ h. refl) (λ h. refl) (λ h. refl))
    (every_variable_lem _ (λ h. refl) (λ h. absurd h) (λ h. refl) (λ h. refl))
    (every_variable_lem _ (λ h. refl) (λ h. refl) (λ h. absurd h) (λ h. refl))
    (every_variable_lem _ (λ h. refl) (λ h. refl) (λ h. refl) (λ h. absurd h))

pub put_commute : (x : Setting) (s t : Bool) (v w : Variable) → T (differ v w) → put (put x v s) w t ≡ put (put x w t) v s
put_commute x s t =
    every_variable_lem (λ v. (w : Variable) → T (differ v w) → put (put x v s) w t ≡ put (put x w t) v s)
    (every_variable_lem _ (λ h. absurd h) (λ h. refl) (λ h. refl) (λ h. refl))
    (every_variable_lem _ (λ h. refl) (λ h. absurd h) (λ h. refl) (λ h. refl))
    (every_variable_lem _ (λ h. refl) (λ h. refl) (λ h. absurd h) (λ h. refl))
    (every_variable_lem _ (λ h. refl) (λ h. refl) (λ h. refl) (λ h. absurd h))

pub exchanged_twice : (x : Setting) (j k : Variable) → exchanged (exchanged x j k) j k ≡ x
exchanged_twice x =
    every_variable_lem (λ j. (k : Variable) → exchanged (exchanged x j k) j k ≡ x)
    (every_variable_lem _ refl refl refl refl) (every_variable_lem _ refl refl refl refl) (every_variable_lem _ refl refl refl refl) (every_variable_lem _ refl refl refl refl)

pub get-exchanged : (x : Setting) (j k v : Variable) → get (exchanged x j k) v ≡ get x (swap_variable j k v)
get-exchanged x =
    every_variable_lem (λ j. (k v : Variable) → get (exchanged x j k) v ≡ get x (swap_variable j k v))
    (every_variable_lem (λ k. (v : Variable) → get (exchanged x V0 k) v ≡ get x (swap_variable V0 k v))
    (every_variable_lem _ refl refl refl refl) (every_variable_lem _ refl refl refl refl) (every_variable_lem _ refl refl refl refl) (every_variable_lem _ refl refl refl refl))
    (every_variable_lem (λ k. (v : Variable) → get (exchanged x V1 k) v ≡ get x (swap_variable V1 k v))
    (every_variable_lem _ refl refl refl refl) (every_variable_lem _ refl refl refl refl) (every_variable_lem _ refl refl refl refl) (every_variable_lem _ refl refl refl refl))
    (every_variable_lem (λ k. (v : Variable) → get (exchanged x V2 k) v ≡ get x (swap_variable V2 k v))
    (every_variable_lem _ refl refl refl refl) (every_variable_lem _ refl refl refl refl) (every_variable_lem _ refl refl refl refl) (every_variable_lem _ refl refl refl refl))
    (every_variable_lem (λ k. (v : Variable) → get (exchanged x V3 k) v ≡ get x (swap_variable V3 k v))
    (every_variable_lem _ refl refl refl refl) (every_variable_lem _ refl refl refl refl) (every_variable_lem _ refl refl refl refl) (every_variable_lem _ refl refl refl refl))

pub exchanged-put : (x : Setting) (t : Bool) (j k v : Variable) → exchanged (put x v t) j k ≡ put (exchanged x j k) (swap_variable j k v) t
exchanged-put x t =
    every_variable_lem (λ j. (k v : Variable) → exchanged (put x v t) j k ≡ put (exchanged x j k) (swap_variable j k v) t)
    (every_variable_lem (λ k. (v : Variable) → exchanged (put x v t) V0 k ≡ put (exchanged x V0 k) (swap_variable V0 k v) t)
    (every_variable_lem _ refl refl refl refl) (every_variable_lem _ refl refl refl refl) (every_variable_lem _ refl refl refl refl) (every_variable_lem _ refl refl refl refl))
    (every_variable_lem (λ k. (v : Variable) → exchanged (put x v t) V1 k ≡ put (exchanged x V1 k) (swap_variable V1 k v) t)
    (every_variable_lem _ refl refl refl refl) (every_variable_lem _ refl refl refl refl) (every_variable_lem _ refl refl refl refl) (every_variable_lem _ refl refl refl refl))
    (every_variable_lem (λ k. (v : Variable) → exchanged (put x v t) V2 k ≡ put (exchanged x V2 k) (swap_variable V2 k v) t)
    (every_variable_lem _ refl refl refl refl) (every_variable_lem _ refl refl refl refl) (every_variable_lem _ refl refl refl refl) (every_variable_lem _ refl refl refl refl))
    (every_variable_lem (λ k. (v : Variable) → exchanged (put x v t) V3 k ≡ put (exchanged x V3 k) (swap_variable V3 k v) t)
    (every_variable_lem _ refl refl refl refl) (every_variable_lem _ refl refl refl refl) (every_variable_lem _ refl refl refl refl) (every_variable_lem _ refl refl refl refl))

-- ---- values of exchanged and joined tables

pub value-swapped : (f : ℕ) (j k : Variable) (x : Setting) → value (swapped f j k) x ≡ value f (exchanged x j k)
unfolding swapped
value-swapped f j k x = value-table_of (λ y. value f (exchanged y j k)) x

pub value-joined : (f : ℕ) (j k : Variable) (x : Setting) → value (joined f j k) x ≡ value f (put x k (get x j))
unfolding joined
value-joined f j k x = value-table_of (λ y. value f (put y k (get y j))) x

pub swapped_lt : (f : ℕ) (j k : Variable) → swapped f j k < 65536
unfolding swapped
swapped_lt f j k = table_of_lt (λ y. value f (exchanged y j k))

pub joined_lt : (f : ℕ) (j k : Variable) → joined f j k < 65536
unfolding joined
joined_lt f j k = table_of_lt (λ y. value f (put y k (get y j)))

pub cofactor_lt : (f : ℕ) (v : Variable) (t : Bool) → cofactor f v t < 65536
unfolding cofactor
cofactor_lt f v t = table_of_lt (λ y. value f (put y v t))

pub flipped_lt : (f : ℕ) (v : Variable) → flipped f v < 65536
unfolding flipped
flipped_lt f v = table_of_lt (λ y. value f (put y v (not (get y v))))

pub chosen_lt : (z h l : ℕ) → chosen z h l < 65536
unfolding chosen
chosen_lt z h l = table_of_lt (λ y. cond (value z y) (value h y) (value l y))

pub complement_lt : (f : ℕ) → complement f < 65536
unfolding complement
complement_lt f = table_of_lt (λ y. not (value f y))

-- ---- the support

-- the value of f does not depend on v
abbrev pub Free : ℕ → Variable → Type 0
Free f v = (x : Setting) (t : Bool) → value f (put x v t) ≡ value f x

pub free_depends : (f : ℕ) (v : Variable) → Free f v → depends_on f v ≡ false
unfolding depends_on cofactor
free_depends f v h =
    ap not (eq-eqb (table_of (λ y. value f (put y v false))) (table_of (λ y. value f (put y v true))) (table_of_same (λ y. value f (put y v false)) (λ y. value f (put y v true)) (λ x. h x false ∙ sym (h x true))))

ends : (f : ℕ) (v : Variable) → depends_on f v ≡ false → (x : Setting) → value f (put x v false) ≡ value f (put x v true)
unfolding depends_on
ends f v e x =
    sym (value-cofactor f v false x)
    ∙ ap (λ (g : ℕ). value g x) (eqb-true (cofactor f v false) (cofactor f v true) (not-false (eqb (cofactor f v false) (cofactor f v true)) e))
    ∙ value-cofactor f v true x

any : (f : ℕ) (v : Variable) (x : Setting) → value f (put x v false) ≡ value f (put x v true) → (s t : Bool) → value f (put x v s) ≡ value f (put x v t)
any f v x e false false = refl
any f v x e false true = e
any f v x e true false = sym e
any f v x e true true = refl

pub depends_free : (f : ℕ) (v : Variable) → depends_on f v ≡ false → Free f v
depends_free f v e x t = any f v x (ends f v e x) t (get x v) ∙ ap (value f) (put-get x v)

pub free_same : (f g : ℕ) (v : Variable) → ((x : Setting) → value g x ≡ value f x) → Free f v → Free g v
free_same f g v e h x t = e (put x v t) ∙ h x t ∙ sym (e x)

-- where f does not depend on v, its cofactors are f itself
pub free_cofactor : (f : ℕ) (v : Variable) (t : Bool) → f < 65536 → Free f v → cofactor f v t ≡ f
free_cofactor f v t l h = same_values (cofactor f v t) f (cofactor_lt f v t) l (λ x. value-cofactor f v t x ∙ h x t)

pub cofactor_own : (f : ℕ) (v : Variable) (s : Bool) → Free (cofactor f v s) v
cofactor_own f v s x t = value-cofactor f v s (put x v t) ∙ ap (value f) (put-put x v t s) ∙ sym (value-cofactor f v s x)

pub cofactor_keeps : (f : ℕ) (v w : Variable) (s : Bool) → Free f w → Free (cofactor f v s) w
cofactor_keeps f v w s h x t =
    elim (same_or_differ w v) [
      | inl e ↦ subst (λ (u : Variable). value (cofactor f v s) (put x u t) ≡ value (cofactor f v s) x) (sym e) (cofactor_own f v s x t)
      | inr d ↦ value-cofactor f v s (put x w t) ∙ ap (value f) (put_commute x t s w v d) ∙ h (put x v s) t ∙ sym (value-cofactor f v s x)
    ]

pub swapped_moves : (f : ℕ) (j k v : Variable) → Free f (swap_variable j k v) → Free (swapped f j k) v
swapped_moves f j k v h x t =
    value-swapped f j k (put x v t) ∙ ap (value f) (exchanged-put x t j k v) ∙ h (exchanged x j k) t ∙ sym (value-swapped f j k x)

-- once k is read as j, nothing depends on k
pub joined_own : (f : ℕ) (j k : Variable) → T (differ k j) → Free (joined f j k) k
joined_own f j k d x t =
    value-joined f j k (put x k t) ∙ ap (λ (s : Bool). value f (put (put x k t) k s)) (get-put_other x t k j d)
    ∙ ap (value f) (put-put x k t (get x j)) ∙ sym (value-joined f j k x)

pub joined_keeps : (f : ℕ) (j k w : Variable) → T (differ w k) → T (differ w j) → Free f w → Free (joined f j k) w
joined_keeps f j k w d e h x t =
    value-joined f j k (put x w t) ∙ ap (λ (s : Bool). value f (put (put x w t) k s)) (get-put_other x t w j e)
    ∙ ap (value f) (put_commute x t (get x j) w k d) ∙ h (put x k (get x j)) t ∙ sym (value-joined f j k x)

-- where f does not depend on k, reading k as j changes nothing
pub joined_idle : (f : ℕ) (j k : Variable) → Free f k → (x : Setting) → value (joined f j k) x ≡ value f x
joined_idle f j k h x = value-joined f j k x ∙ h x (get x j)

-- two tables that depend alike
pub depends_alike : (f g : ℕ) (v w : Variable) → (Free f v → Free g w) → (Free g w → Free f v) → depends_on f v ≡ depends_on g w
depends_alike f g v w p q = go (depends_on f v) (depends_on g w) (λ e. free_depends g w (p (depends_free f v e))) (λ e. free_depends f v (q (depends_free g w e)))
  where
    go : (s t : Bool) → (s ≡ false → t ≡ false) → (t ≡ false → s ≡ false) → s ≡ t
    go true true a b = refl
    go true false a b = b refl
    go false true a b = sym (a refl)
    go false false a b = refl

swapped_back : (f : ℕ) (j k v : Variable) → Free (swapped f j k) v → Free f (swap_variable j k v)
swapped_back f j k v h =
    free_same (swapped (swapped f j k) j k) f (swap_variable j k v)
    (λ x. sym (value-swapped (swapped f j k) j k x ∙ value-swapped f j k (exchanged x j k) ∙ ap (value f) (exchanged_twice x j k)))
    (swapped_moves (swapped f j k) j k (swap_variable j k v) (subst (Free (swapped f j k)) (sym (swap_twice j k v)) h))

pub depends_swapped : (f : ℕ) (j k v : Variable) → depends_on (swapped f j k) v ≡ depends_on f (swap_variable j k v)
depends_swapped f j k v = depends_alike (swapped f j k) f v (swap_variable j k v) (swapped_back f j k v) (swapped_moves f j k v)

not-not : (b : Bool) → not (not b) ≡ b
not-not true = refl
not-not false = refl

pub depends_complement : (f : ℕ) (v : Variable) → depends_on (complement f) v ≡ depends_on f v
depends_complement f v =
    depends_alike (complement f) f v v
    (λ h x t. sym (not-not (value f (put x v t))) ∙ ap not (sym (value-complement f (put x v t)) ∙ h x t ∙ value-complement f x) ∙ not-not (value f x))
    (λ h x t. value-complement f (put x v t) ∙ ap not (h x t) ∙ sym (value-complement f x))

-- ---- the code's way to join and to exchange two variables

by_value : (f : ℕ) (x : Setting) (v : Variable) (t : Bool) → cond t (value f (put x v true)) (value f (put x v false)) ≡ value f (put x v t)
by_value f x v true = refl
by_value f x v false = refl

pub joined_code : (f : ℕ) (j k : Variable) → chosen (variable j) (cofactor f k true) (cofactor f k false) ≡ joined f j k
joined_code f j k =
    same_values (chosen (variable j) (cofactor f k true) (cofactor f k false)) (joined f j k) (chosen_lt (variable j) (cofactor f k true) (cofactor f k false)) (joined_lt f j k)
    (λ x.
    value-chosen (variable j) (cofactor f k true) (cofactor f k false) x
    ∙ ap (λ (t : Bool). cond t (value (cofactor f k true) x) (value (cofactor f k false) x)) (value-variable j x)
    ∙ ap₂ (λ (s t : Bool). cond (get x j) s t) (value-cofactor f k true x) (value-cofactor f k false x)
    ∙ by_value f x k (get x j) ∙ sym (value-joined f j k x))

exchanged_other : (x : Setting) (j k : Variable) → put (put x k (get x j)) j (get x k) ≡ exchanged x j k
exchanged_other x =
    every_variable_lem (λ j. (k : Variable) → put (put x k (get x j)) j (get x k) ≡ exchanged x j k)
    (every_variable_lem _ refl refl refl refl) (every_variable_lem _ refl refl refl refl) (every_variable_lem _ refl refl refl refl) (every_variable_lem _ refl refl refl refl)

pub swapped_code : (f : ℕ) (j k : Variable) → chosen (variable k) (joined (cofactor f j true) j k) (joined (cofactor f j false) j k) ≡ swapped f j k
swapped_code f j k =
    let h = joined (cofactor f j true) j k in
    let l = joined (cofactor f j false) j k in
    same_values (chosen (variable k) h l) (swapped f j k) (chosen_lt (variable k) h l) (swapped_lt f j k)
    (λ x.
    let y = put x k (get x j) in
    value-chosen (variable k) h l x
    ∙ ap (λ (t : Bool). cond t (value h x) (value l x)) (value-variable k x)
    ∙ ap₂ (λ (s t : Bool). cond (get x k) s t) (value-joined (cofactor f j true) j k x ∙ value-cofactor f j true y) (value-joined (cofactor f j false) j k x ∙ value-cofactor f j false y)
    ∙ by_value f y j (get x k) ∙ ap (value f) (exchanged_other x j k) ∙ sym (value-swapped f j k x))
