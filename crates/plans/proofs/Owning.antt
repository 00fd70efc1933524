-- Every line that is written has a table whose class is owned.
use Rattle.std.proofs.Common.{◌≡◌, ℕ, zero, suc, ◌<◌, Bool, true, false, List, [], ◌∷◌, ◌++◌, refl, not-suc-le-zero, arith}
use Rattle.std.proofs.lemmas.Bool.{cond_both}
use Rattle.tables.specs.declared.Variable.{Variable}
use Rattle.tables.specs.PerVariable.{at}
use Rattle.tables.specs.Bits.{bit, from_bits}
use Rattle.tables.specs.Tables.{value, table_of, cofactor, support_size}
use Rattle.tables.proofs.Laws.{cofactor_lt}
use Rattle.tables.proofs.Support.{support_falls}
use Rattle.classes.specs.declared.Ownership.{Ownership}
use Rattle.transforms.specs.Orders.{orders}
use Rattle.transforms.specs.Images.{image, images, transform_at, representative}
use Rattle.classes.specs.Owned.{owns}
use Rattle.rules.specs.declared.Gate.{Gate}
use Rattle.rules.specs.declared.Gate.TheVariants.{And, Or}
use Rattle.rules.specs.declared.Owned.{Owned}
use Rattle.rules.specs.declared.Owned.TheVariants.{Every, Majority}
use Rattle.rules.specs.declared.Rule.{Rule}
use Rattle.rules.specs.declared.Rule.TheVariants.{Constant, Single, OneLine, Top, Xor, Shannon}
use Rattle.rules.specs.Rules.{rule_of}
use Rattle.rules.specs.First.{Passes, FirstThatFits}
use Rattle.rules.specs.Fits.{Divides}
use Rattle.rules.proofs.Firsts.{rule_first, top_divides, xor_divides, shannon_divides}
use Rattle.plan_lines.specs.declared.Literal.{Literal}
use Rattle.plan_lines.specs.declared.Line.{Line}
use Rattle.tables.specs.declared.per_variable.PerVariable.{PerVariable}
use Rattle.plan_lines.specs.Lines.{and_table, or_table, xor_table}
use Rattle.plans.specs.Plans.{Written, top_of, by_rule, write}
use Rattle.plans.specs.Promises.{EachOwned}

owned_append : (own : Ownership) (ls ks : List Line) → EachOwned own ls → EachOwned own ks → EachOwned own (ls ++ ks)
owned_append own [] ks a b = b
owned_append own (l ∷ ls) ks a b = (a.0, owned_append own ls ks a.1 b)

-- class 15 is always owned, class 4080 where exclusive-or is
conjunction : representative and_table ≡ 15
unfolding representative images transform_at orders image value table_of bit from_bits
conjunction = refl

disjunction : representative or_table ≡ 15
unfolding representative images transform_at orders image value table_of bit from_bits
disjunction = refl

exclusive-or : representative xor_table ≡ 4080
unfolding representative images transform_at orders image value table_of bit from_bits
exclusive-or = refl

owns-and : (own : Ownership) → owns own and_table ≡ true
unfolding owns
owns-and own = grind (arith, conjunction)

owns-or : (own : Ownership) → owns own or_table ≡ true
unfolding owns
owns-or own = grind (arith, disjunction)

owns_xor : (own : Ownership) → own.xor ≡ true → owns own xor_table ≡ true
unfolding owns
owns_xor own h = grind (arith, exclusive-or)

-- a table that may be a line of its own is owned
one_line_owned : (own : Ownership) (h : ℕ) (o : Owned) → Passes own h (OneLine o) → owns own h ≡ true
unfolding owns
one_line_owned own h Every f = grind arith
one_line_owned own h Majority f = grind arith

top_owned : (own : Ownership) (g : Gate) (s : Bool) (p q : Literal) → owns own (top_of g s p q).table ≡ true
top_owned own And s p q = owns-and own
top_owned own Or s p q = owns-or own

abbrev OwnedParts : Ownership → (ℕ → ℕ → Written) → ℕ → Type 0
OwnedParts own part h = (n g : ℕ) → g < 65536 → support_size g < support_size h → EachOwned own (part n g).lines

part_owned : (own : Ownership) (part : ℕ → ℕ → Written) (h n : ℕ) (v : Variable) (t : Bool) → Divides h v → OwnedParts own part h
    → EachOwned own (part n (cofactor h v t)).lines
part_owned own part h n v t d o = o n (cofactor h v t) (cofactor_lt h v t) (support_falls h v t d.depends)

rule_owned : (own : Ownership) (bs : PerVariable Literal) (n h : ℕ) (part : ℕ → ℕ → Written) (rule : Rule) → h < 65536 → FirstThatFits own h rule → OwnedParts own part h
    → EachOwned own (by_rule own bs n h part rule).lines
rule_owned own bs n h part (Constant b) l f o = tt
rule_owned own bs n h part (Single v i) l f o = tt
rule_owned own bs n h part (OneLine k) l f o = (one_line_owned own h k f.fits, tt)
rule_owned own bs n h part (Top g v s) l f o =
    owned_append own _ _ (part_owned own part h n v s (top_divides own h g v s l f) o) (top_owned own g s (at bs v) (part n (cofactor h v s)).result, tt)
rule_owned own bs n h part (Xor v) l f o =
    let p = part_owned own part h n v false (xor_divides own h v l f) o in
    cond_both own.xor _ _ (λ (w : Written). EachOwned own w.lines)
    (λ x. owned_append own _ _ p (owns_xor own x, tt))
    (λ _. owned_append own _ _ p (owns-and own, (owns-and own, (owns-or own, tt))))
rule_owned own bs n h part (Shannon v) l f o =
    let d = shannon_divides own h v l f in
    owned_append own _ _ (owned_append own _ _ (part_owned own part h n v true d o) (part_owned own part h _ v false d o)) (owns-and own, (owns-and own, (owns-or own, tt)))

pub write_owned : (k : ℕ) (own : Ownership) (bs : PerVariable Literal) (n h : ℕ) → h < 65536 → support_size h < k → EachOwned own (write k own bs n h).lines
unfolding write
write_owned zero own bs n h l s = absurd (not-suc-le-zero s)
write_owned (suc k) own bs n h l s =
    rule_owned own bs n h (write k own bs) (rule_of own h) l (rule_first own h l) (λ m g b f. write_owned k own bs m g b (omega arith))
