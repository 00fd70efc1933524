-- Of the tables in normal form the three classes have nine: one test of each class.
use Rattle.std.proofs.Common.{◌≡◌, ℕ, ◌<◌, Bool, true, false, cond, not, ◌&&◌, ◌||◌, T, eqb, [], ◌∷◌, Some, None, Option, sym, refl, ap, ◌∙◌}
use Rattle.std.proofs.lemmas.Bool.{and_from, both_ways, eqb-true}
use Rattle.tables.specs.Lists.{member}
use Rattle.tables.specs.declared.Variable.TheVariants.{V0, V1, V2, V3}
use Rattle.tables.specs.Bits.{bit, from_bits}
use Rattle.tables.specs.Settings.{setting}
use Rattle.tables.specs.Tables.{value, table_of, cofactor, depends_on}
use Rattle.tables.proofs.Lists.{every_of, of_member}
use Rattle.transforms.specs.Orders.{orders}
use Rattle.transforms.specs.Images.{image, images, transform_at, representative}
use Rattle.transforms.proofs.Variables.{truth, implies, implied}
use Rattle.classes.specs.declared.Ownership.{Ownership}
use Rattle.classes.specs.declared.owned.NamedClass.{NamedClass}
use Rattle.classes.specs.declared.owned.NamedClass.TheVariants.{Conjunction, ExclusiveOr, Majority}
use Rattle.classes.specs.Owned.{owns}
use Rattle.classes.specs.Members.{tables_of}
use Rattle.classes.specs.Normal.{NormalTable, is_and, is_xor, is_majority, normal_class, owns_named}
use Rattle.classes.proofs.Members.{conjunctions, exclusive_ors_lem, majorities}

-- ---- the test

abbrev is_normal : ℕ → Bool
is_normal f = not (value f (setting false false false false)) && depends_on f V0 && depends_on f V1 && implies (depends_on f V3) (depends_on f V2)

normal_test : (f : ℕ) → NormalTable f → is_normal f ≡ true
normal_test f n =
    and_from _ _ (and_from _ _ (and_from _ _ (ap not n.zero) n.first) n.second) (last (depends_on f V3) refl)
  where
    last : (b : Bool) → depends_on f V3 ≡ b → implies b (depends_on f V2) ≡ true
    last true e = n.third e
    last false e = refl

abbrev only : (ℕ → Bool) → ℕ → Bool
only is f = implies (is_normal f) (is f)

conjunctions_test : T (every_of (only is_and) (tables_of 15))
unfolding tables_of images transform_at orders image depends_on cofactor value table_of bit from_bits
conjunctions_test = tt

exclusive_ors_test : T (every_of (only is_xor) (tables_of 4080))
unfolding tables_of images transform_at orders image depends_on cofactor value table_of bit from_bits
exclusive_ors_test = tt

majorities_test : T (every_of (only is_majority) (tables_of 831))
unfolding tables_of images transform_at orders image depends_on cofactor value table_of bit from_bits
majorities_test = tt

-- ---- and the nine are in their classes

abbrev has_class : ℕ → ℕ → Bool
has_class r f = eqb (representative f) r

ands : T (every_of (has_class 15) (0x8888 ∷ 0x2222 ∷ 0x4444 ∷ 0xEEEE ∷ []))
unfolding representative images transform_at orders image value table_of bit from_bits
ands = tt

xors : T (every_of (has_class 4080) (0x6666 ∷ []))
unfolding representative images transform_at orders image value table_of bit from_bits
xors = tt

medians : T (every_of (has_class 831) (0xE8E8 ∷ 0xD4D4 ∷ 0xB2B2 ∷ 0x8E8E ∷ []))
unfolding representative images transform_at orders image value table_of bit from_bits
medians = tt

four : (a b c d : Bool) → (a || b || c || d) ≡ true → (a || (b || (c || (d || false)))) ≡ true
four true b c d e = refl
four false true c d e = refl
four false false true d e = refl
four false false false true e = refl
four false false false false e = e

one : (a : Bool) → a ≡ true → (a || false) ≡ true
one true e = refl
one false e = e

-- ---- so each class has the tables of its test

same : (a b : Bool) → (a ≡ true → b ≡ true) → (b ≡ true → a ≡ true) → a ≡ b
same true true f g = refl
same true false f g = sym (f refl)
same false true f g = g refl
same false false f g = refl

decided : (is : ℕ → Bool) (r f : ℕ) → NormalTable f → T (every_of (only is) (tables_of r)) → member f (tables_of r) ≡ eqb (representative f) r
    → (is f ≡ true → eqb (representative f) r ≡ true) → eqb (representative f) r ≡ is f
decided is r f n t m back =
    same (eqb (representative f) r) (is f) (λ e. truth (is f) (implied (is_normal f) (is f) (of_member (only is) (tables_of r) t f (m ∙ e)) (normal_test f n))) back

pub conjunction_normal : (f : ℕ) → f < 65536 → NormalTable f → eqb (representative f) 15 ≡ is_and f
conjunction_normal f h n =
    decided is_and 15 f n conjunctions_test (conjunctions f h)
    (λ e. truth (has_class 15 f) (of_member (has_class 15) (0x8888 ∷ 0x2222 ∷ 0x4444 ∷ 0xEEEE ∷ []) ands f (four (eqb f 0x8888) (eqb f 0x2222) (eqb f 0x4444) (eqb f 0xEEEE) e)))

pub exclusive_or-normal : (f : ℕ) → f < 65536 → NormalTable f → eqb (representative f) 4080 ≡ is_xor f
exclusive_or-normal f h n =
    decided is_xor 4080 f n exclusive_ors_test (exclusive_ors_lem f h)
    (λ e. truth (has_class 4080 f) (of_member (has_class 4080) (0x6666 ∷ []) xors f (one (eqb f 0x6666) e)))

pub majority_normal : (f : ℕ) → f < 65536 → NormalTable f → eqb (representative f) 831 ≡ is_majority f
majority_normal f h n =
    decided is_majority 831 f n majorities_test (majorities f h)
    (λ e. truth (has_class 831 f) (of_member (has_class 831) (0xE8E8 ∷ 0xD4D4 ∷ 0xB2B2 ∷ 0x8E8E ∷ []) medians f (four (eqb f 0xE8E8) (eqb f 0xD4D4) (eqb f 0xB2B2) (eqb f 0x8E8E) e)))

-- ---- what is owned

abbrev owned : Bool → Bool → Bool → Option NamedClass → Bool
owned e x m k = owns_named (record { every = e; xor = x; majority = m }) k

named : (o : Ownership) (a b c : Bool) → (b ≡ true → c ≡ false)
    → (o.every || a || (o.xor && b) || (o.majority && c)) ≡ owns_named o (cond a (Some Conjunction) (cond b (Some ExclusiveOr) (cond c (Some Majority) None)))
named o a b c h = by o.every o.xor o.majority a b c h
  where
    by : (e x m a b c : Bool) → (b ≡ true → c ≡ false) → (e || a || (x && b) || (m && c)) ≡ owned e x m (cond a (Some Conjunction) (cond b (Some ExclusiveOr) (cond c (Some Majority) None)))
    by true x m true b c h = refl
    by false x m true b c h = refl
    by true x m false true c h = refl
    by false true m false true c h = refl
    by false false true false true true h = absurd (both_ways true (h refl) refl)
    by false false true false true false h = refl
    by false false false false true c h = refl
    by true x m false false true h = refl
    by false true true false false true h = refl
    by false false true false false true h = refl
    by false true false false false true h = refl
    by false false false false false true h = refl
    by true x m false false false h = refl
    by false true true false false false h = refl
    by false true false false false false h = refl
    by false false true false false false h = refl
    by false false false false false false h = refl

xor_alone : (f : ℕ) → is_xor f ≡ true → is_majority f ≡ false
xor_alone f e = ap is_majority (eqb-true f 0x6666 e)

pub owns-normal : (o : Ownership) (f : ℕ) → f < 65536 → NormalTable f → owns o f ≡ owns_named o (normal_class f)
unfolding owns
owns-normal o f h n =
    ap (λ (b : Bool). o.every || b || (o.xor && eqb (representative f) 4080) || (o.majority && eqb (representative f) 831)) (conjunction_normal f h n)
    ∙ ap (λ (b : Bool). o.every || is_and f || (o.xor && b) || (o.majority && eqb (representative f) 831)) (exclusive_or-normal f h n)
    ∙ ap (λ (b : Bool). o.every || is_and f || (o.xor && is_xor f) || (o.majority && b)) (majority_normal f h n)
    ∙ named o (is_and f) (is_xor f) (is_majority f) (xor_alone f)
