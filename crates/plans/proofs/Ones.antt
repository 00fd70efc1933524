-- The plan of an owned table of two variables or more is one line.
use Rattle.std.proofs.Common.{◌≡◌, ℕ, suc, ◌<◌, ◌≤◌, Bool, true, false, ◌&&◌, ◌||◌, eqb, length, sym, refl, subst, inl, inr, arith}
use Rattle.std.proofs.lemmas.Bool.{eqb-true, or_cases, false≢true}
use Rattle.tables.specs.Bits.{bit, from_bits}
use Rattle.tables.specs.Tables.{value, table_of, cofactor, complement, depends_on, support_size}
use Rattle.transforms.specs.declared.Transform.{Transform}
use Rattle.transforms.specs.Orders.{orders}
use Rattle.transforms.specs.Images.{image, images, transform_at, representative, chosen_transform}
use Rattle.transforms.proofs.Transforms.{inverse, image_inverse, inverse_lawful}
use Rattle.transforms.proofs.Least.{representative_lt, chosen_lawful, chosen-image}
use Rattle.transforms.proofs.Supports.{support_image}
use Rattle.classes.specs.declared.Ownership.{Ownership}
use Rattle.classes.specs.Owned.{owns}
use Rattle.rules.specs.declared.Owned.TheVariants.{Every}
use Rattle.rules.specs.declared.Rule.{Rule}
use Rattle.rules.specs.declared.Rule.TheVariants.{Constant, Single, OneLine, Top, Xor, Shannon}
use Rattle.rules.specs.Rules.{top_rule, xor_in, rule_without_parts, rule_with_parts, rule_of}
use Rattle.rules.specs.First.{FirstThatFits}
use Rattle.rules.proofs.Firsts.{rule_first, rule_1_small}
use Rattle.tables.specs.declared.per_variable.PerVariable.{PerVariable}
use Rattle.plan_lines.specs.declared.Literal.{Literal}
use Rattle.plans.specs.Plans.{Written, by_rule, inputs, write, plan_of}

-- a representative has as many variables as its table
support_back : (f : ℕ) → f < 65536 → support_size f ≤ support_size (representative f)
support_back f h =
    let t : Transform = chosen_transform f in
    let s = support_image (inverse t) (inverse_lawful t (chosen_lawful f)) (image t f) in
    subst (λ (r : ℕ). support_size f ≤ support_size r) (chosen-image f)
    (subst (λ (g : ℕ). support_size g ≤ support_size (image t f)) (sym (image_inverse t (chosen_lawful f) f h)) s)

-- where every class is owned, by rule 2
every_one : (own : Ownership) (bs : PerVariable Literal) (n h : ℕ) (part : ℕ → ℕ → Written) (rule : Rule) → h < 65536 → FirstThatFits own h rule → own.every ≡ true → 2 ≤ support_size h
    → length (by_rule own bs n h part rule).lines ≡ 1
every_one own bs n h part (Constant b) l f e s = let z = rule_1_small own h (Constant b) l refl f.fits in let y : ⊥ = omega arith in absurd y
every_one own bs n h part (Single v i) l f e s = let z = rule_1_small own h (Single v i) l refl f.fits in let y : ⊥ = omega arith in absurd y
every_one own bs n h part (OneLine o) l f e s = refl
every_one own bs n h part (Top g v t) l f e s = absurd (f.number.none (OneLine Every) (omega arith) e)
every_one own bs n h part (Xor v) l f e s = absurd (f.number.none (OneLine Every) (omega arith) e)
every_one own bs n h part (Shannon v) l f e s = absurd (f.number.none (OneLine Every) (omega arith) e)

write_every : (k : ℕ) (own : Ownership) (bs : PerVariable Literal) (n h : ℕ) → h < 65536 → own.every ≡ true → 2 ≤ support_size h → length (write (suc k) own bs n h).lines ≡ 1
unfolding write
write_every k own bs n h l e s = every_one own bs n h (write k own bs) (rule_of own h) l (rule_first own h l) e s

-- the three classes with a name, by their representatives
abbrev asks : Bool → Bool → Bool → Ownership
asks x m e = record { xor = x; majority = m; every = e }

at_15 : (x m e : Bool) (bs : PerVariable Literal) → length (write 5 (asks x m e) bs 0 15).lines ≡ 1
unfolding write rule_without_parts rule_with_parts top_rule xor_in representative images transform_at orders image value table_of bit from_bits cofactor complement depends_on
at_15 true true true bs = refl
at_15 true true false bs = refl
at_15 true false true bs = refl
at_15 true false false bs = refl
at_15 false true true bs = refl
at_15 false true false bs = refl
at_15 false false true bs = refl
at_15 false false false bs = refl

at_4080 : (x m e : Bool) (bs : PerVariable Literal) → x ≡ true → length (write 5 (asks x m e) bs 0 4080).lines ≡ 1
unfolding write rule_without_parts rule_with_parts top_rule xor_in representative images transform_at orders image value table_of bit from_bits cofactor complement depends_on
at_4080 true true true bs h = refl
at_4080 true true false bs h = refl
at_4080 true false true bs h = refl
at_4080 true false false bs h = refl
at_4080 false m e bs h = absurd (false≢true h)

at_831 : (x m e : Bool) (bs : PerVariable Literal) → m ≡ true → length (write 5 (asks x m e) bs 0 831).lines ≡ 1
unfolding write rule_without_parts rule_with_parts top_rule xor_in representative images transform_at orders image value table_of bit from_bits cofactor complement depends_on
at_831 true true true bs h = refl
at_831 true true false bs h = refl
at_831 false true true bs h = refl
at_831 false true false bs h = refl
at_831 x false e bs h = absurd (false≢true h)

both_are : (a b : Bool) → (a && b) ≡ true → (a ≡ true) × (b ≡ true)
both_are a b h = (grind arith, grind arith)

pub plan_one : (own : Ownership) (f : ℕ) → f < 65536 → owns own f ≡ true → 2 ≤ support_size f → length (plan_of own f).lines ≡ 1
unfolding plan_of owns
plan_one own f h o s =
    let r : ℕ = representative f in
    let bs : PerVariable Literal = inputs (chosen_transform f) in
    let b = support_back f h in
    let to : (g : ℕ) → eqb r g ≡ true → length (write 5 own bs 0 g).lines ≡ 1 → length (write 5 own bs 0 r).lines ≡ 1 =
    λ g e. subst (λ (k : ℕ). length (write 5 own bs 0 k).lines ≡ 1) (sym (eqb-true r g e)) in
    elim (or_cases (own.every || eqb r 15 || (own.xor && eqb r 4080)) (own.majority && eqb r 831) o) [
      | inl a ↦ elim (or_cases (own.every || eqb r 15) (own.xor && eqb r 4080) a) [
        | inl c ↦ elim (or_cases own.every (eqb r 15) c) [
          | inl e ↦ write_every 4 own bs 0 r (representative_lt f) e (omega arith)
          | inr e ↦ to 15 e (at_15 own.xor own.majority own.every bs)
        ]
        | inr e ↦ (let p = both_are own.xor (eqb r 4080) e in to 4080 p.1 (at_4080 own.xor own.majority own.every bs p.0))
      ]
      | inr e ↦ (let p = both_are own.majority (eqb r 831) e in to 831 p.1 (at_831 own.xor own.majority own.every bs p.0))
    ]
