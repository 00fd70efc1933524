-- Facts about variables, checked at each of them.
use Rattle.std.proofs.Common.{◌≡◌, Bool, true, false, cond, not, T, sym, refl, subst}
use Rattle.tables.specs.declared.Variable.{Variable}
use Rattle.tables.specs.declared.Variable.TheVariants.{V0, V1, V2, V3}
use Rattle.tables.specs.Bits.{inverted}
use Rattle.tables.specs.Settings.{Setting, get, put, same_variable}
use Rattle.tables.proofs.Every.{both, both_left, both_right}

abbrev pub same_bool : Bool → Bool → Bool
same_bool true b = b
same_bool false b = not b

pub truth : (b : Bool) → T b → b ≡ true
truth true t = refl
truth false t = absurd t

pub same_bool_lem : (a b : Bool) → T (same_bool a b) → a ≡ b
same_bool_lem true true t = refl
same_bool_lem true false t = absurd t
same_bool_lem false true t = absurd t
same_bool_lem false false t = refl

pub same_variable_lem : (v w : Variable) → T (same_variable v w) → v ≡ w
same_variable_lem V0 V0 t = refl
same_variable_lem V0 V1 t = absurd t
same_variable_lem V0 V2 t = absurd t
same_variable_lem V0 V3 t = absurd t
same_variable_lem V1 V0 t = absurd t
same_variable_lem V1 V1 t = refl
same_variable_lem V1 V2 t = absurd t
same_variable_lem V1 V3 t = absurd t
same_variable_lem V2 V0 t = absurd t
same_variable_lem V2 V1 t = absurd t
same_variable_lem V2 V2 t = refl
same_variable_lem V2 V3 t = absurd t
same_variable_lem V3 V0 t = absurd t
same_variable_lem V3 V1 t = absurd t
same_variable_lem V3 V2 t = absurd t
same_variable_lem V3 V3 t = refl

pub variable_same : (v : Variable) → T (same_variable v v)
variable_same V0 = tt
variable_same V1 = tt
variable_same V2 = tt
variable_same V3 = tt

abbrev pub implies : Bool → Bool → Bool
implies true b = b
implies false b = true

pub implied : (a b : Bool) → T (implies a b) → a ≡ true → T b
implied true b t e = t
implied false b t e = absurd (subst T (sym e) tt)

-- a test at all four variables
abbrev pub every_variable : (Variable → Bool) → Bool
every_variable g = both (g V0) (both (g V1) (both (g V2) (g V3)))

pub at-variable : (g : Variable → Bool) → T (every_variable g) → (v : Variable) → T (g v)
at-variable g t V0 = both_left (g V0) _ t
at-variable g t V1 = both_left (g V1) _ (both_right (g V0) _ t)
at-variable g t V2 = both_left (g V2) _ (both_right (g V1) _ (both_right (g V0) _ t))
at-variable g t V3 = both_right (g V2) _ (both_right (g V1) _ (both_right (g V0) _ t))

pub get-put : (x : Setting) (v w : Variable) (t : Bool) → get (put x v t) w ≡ cond (same_variable v w) t (get x w)
get-put x V0 V0 t = refl
get-put x V0 V1 t = refl
get-put x V0 V2 t = refl
get-put x V0 V3 t = refl
get-put x V1 V0 t = refl
get-put x V1 V1 t = refl
get-put x V1 V2 t = refl
get-put x V1 V3 t = refl
get-put x V2 V0 t = refl
get-put x V2 V1 t = refl
get-put x V2 V2 t = refl
get-put x V2 V3 t = refl
get-put x V3 V0 t = refl
get-put x V3 V1 t = refl
get-put x V3 V2 t = refl
get-put x V3 V3 t = refl

pub same_settings : (x y : Setting) → ((v : Variable) → get x v ≡ get y v) → x ≡ y
same_settings x y e =
    let a : x.a ≡ y.a = e V0 in
    let b : x.b ≡ y.b = e V1 in
    let c : x.c ≡ y.c = e V2 in
    let d : x.d ≡ y.d = e V3 in
    λ i. record { a = a i; b = b i; c = c i; d = d i }

-- two inversions
pub twice : (i x : Bool) → inverted i (inverted i x) ≡ x
twice true true = refl
twice true false = refl
twice false x = refl

pub joined : (i j x : Bool) → inverted i (inverted j x) ≡ inverted (inverted i j) x
joined true true true = refl
joined true true false = refl
joined true false x = refl
joined false j x = refl
