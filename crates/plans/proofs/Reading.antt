-- No line that is written reads itself or a later line.
use Rattle.std.proofs.Common.{◌≡◌, ℕ, zero, suc, ◌+◌, ◌<◌, Bool, true, false, List, [], ◌∷◌, ◌++◌, length, refl, not-suc-le-zero, arith, length-append}
use Rattle.std.proofs.lemmas.Bool.{cond_both}
use Rattle.tables.specs.declared.Variable.{Variable}
use Rattle.tables.specs.PerVariable.{at}
use Rattle.tables.specs.declared.Variable.TheVariants.{V0, V1, V2, V3}
use Rattle.tables.specs.Tables.{cofactor, depends_on, support_size}
use Rattle.tables.proofs.Laws.{cofactor_lt}
use Rattle.tables.proofs.Support.{support_falls}
use Rattle.classes.specs.declared.Ownership.{Ownership}
use Rattle.rules.specs.declared.Gate.{Gate}
use Rattle.rules.specs.declared.Gate.TheVariants.{And, Or}
use Rattle.rules.specs.declared.Rule.{Rule}
use Rattle.rules.specs.declared.Rule.TheVariants.{Constant, Single, OneLine, Top, Xor, Shannon}
use Rattle.rules.specs.Rules.{rule_of}
use Rattle.rules.specs.First.{FirstThatFits}
use Rattle.rules.specs.Fits.{Divides}
use Rattle.rules.proofs.Firsts.{rule_first, top_divides, xor_divides, shannon_divides}
use Rattle.plan_lines.specs.declared.Literal.{Literal}
use Rattle.plan_lines.specs.declared.Line.{Line}
use Rattle.tables.specs.declared.per_variable.PerVariable.{PerVariable}
use Rattle.plan_lines.specs.Lines.{nth, invert_if, and_table, or_table, or_of, used, whole_of, ReadsBefore, ReadsEarlier, EachReadsEarlier}
use Rattle.plan_lines.proofs.Answering.{NoLine, reads_more, earlier_append, two_earlier}
use Rattle.plans.specs.Plans.{Written, one_more, either, top_of, by_rule, write}

-- what is written behind n lines reads earlier lines only, and its result is there
pub record Reads (n : ℕ) (w : Written) : Type 0 where
  pub earlier : EachReadsEarlier n w.lines
  pub there : ReadsBefore (n + length w.lines) w.result

pub input_before : (n : ℕ) (bs : PerVariable Literal) (v : Variable) → NoLine bs → ReadsBefore n (at bs v)
input_before n bs v o = reads_more 0 n (at bs v) (omega arith) (o v)

-- one line behind a part
one_reads : (n : ℕ) (ls : List Line) (l : Line) → EachReadsEarlier n ls → ReadsEarlier (n + length ls) l → Reads n (one_more n ls l)
one_reads n ls l a b = record { earlier = earlier_append n (n + length ls) ls (l ∷ []) refl a (b, tt); there = simp length-append (omega arith) }

-- three lines behind a part
either_reads : (n : ℕ) (ls : List Line) (l k : Line) → EachReadsEarlier n ls → ReadsEarlier (n + length ls) l → ReadsEarlier (suc (n + length ls)) k
    → Reads n (either n ls l k)
either_reads n ls l k a b c = record {
  earlier =
      earlier_append n (n + length ls) ls (l ∷ k ∷ or_of (nth (n + length ls)) (nth (n + length ls + 1)) ∷ []) refl a
      (b, (c, (two_earlier (suc (suc (n + length ls))) or_table (nth (n + length ls)) (nth (n + length ls + 1)) (omega arith) (omega arith), tt)));
  there = simp length-append (omega arith);
}

used_before : (n h : ℕ) (bs : PerVariable Literal) (v : Variable) → NoLine bs → ReadsBefore n (used h bs v)
used_before n h bs v o = cond_both (depends_on h v) _ _ (ReadsBefore n) (λ _. input_before n bs v o) (λ _. tt)

top_reads : (n : ℕ) (g : Gate) (s : Bool) (p q : Literal) → ReadsBefore n p → ReadsBefore n q → ReadsEarlier n (top_of g s p q)
top_reads n And s p q a b = record { a = a; b = b; c = tt; d = tt }
top_reads n Or s p q a b = record { a = a; b = b; c = tt; d = tt }

abbrev pub ReadsParts : (ℕ → ℕ → Written) → ℕ → Type 0
ReadsParts part h = (n g : ℕ) → g < 65536 → support_size g < support_size h → Reads n (part n g)

pub part_reads : (part : ℕ → ℕ → Written) (h n : ℕ) (v : Variable) (t : Bool) → Divides h v → ReadsParts part h → Reads n (part n (cofactor h v t))
part_reads part h n v t d o = o n (cofactor h v t) (cofactor_lt h v t) (support_falls h v t d.depends)

rule_reads : (own : Ownership) (bs : PerVariable Literal) (n h : ℕ) (part : ℕ → ℕ → Written) (rule : Rule) → NoLine bs → h < 65536 → FirstThatFits own h rule → ReadsParts part h
    → Reads n (by_rule own bs n h part rule)
rule_reads own bs n h part (Constant b) i l f o = record { earlier = tt; there = tt }
rule_reads own bs n h part (Single v t) i l f o = record { earlier = tt; there = input_before (n + 0) bs v i }
rule_reads own bs n h part (OneLine k) i l f o =
    let m : ℕ = n + 0 in
    one_reads n [] (whole_of h bs) tt (record { a = used_before m h bs V0 i; b = used_before m h bs V1 i; c = used_before m h bs V2 i; d = used_before m h bs V3 i })
rule_reads own bs n h part (Top g v s) i l f o =
    let p = part_reads part h n v s (top_divides own h g v s l f) o in
    one_reads n _ _ p.earlier (top_reads _ g s (at bs v) (part n (cofactor h v s)).result (input_before _ bs v i) p.there)
rule_reads own bs n h part (Xor v) i l f o =
    let w : Written = part n (cofactor h v false) in
    let p : Reads n w = part_reads part h n v false (xor_divides own h v l f) o in
    let m : ℕ = n + length w.lines in
    let q : ReadsBefore (suc m) w.result = reads_more m (suc m) w.result (omega arith) p.there in
    cond_both own.xor _ _ (Reads n)
    (λ _. one_reads n w.lines _ p.earlier (two_earlier m _ (at bs v) w.result (input_before m bs v i) p.there))
    (λ _. either_reads n w.lines _ _ p.earlier
    (two_earlier m and_table (at bs v) (invert_if true w.result) (input_before m bs v i) p.there)
    (two_earlier (suc m) and_table (invert_if true (at bs v)) w.result (input_before (suc m) bs v i) q))
rule_reads own bs n h part (Shannon v) i l f o =
    let d = shannon_divides own h v l f in
    let w : Written = part n (cofactor h v true) in
    let p : Reads n w = part_reads part h n v true d o in
    let m : ℕ = n + length w.lines in
    let z : Written = part m (cofactor h v false) in
    let q : Reads m z = part_reads part h m v false d o in
    let k : ℕ = n + length (w.lines ++ z.lines) in
    let long : m + length z.lines ≡ k = simp length-append (omega arith) in
    let a : ReadsBefore k w.result = reads_more m k w.result (omega arith) p.there in
    let b : ReadsBefore (suc k) z.result = reads_more (m + length z.lines) (suc k) z.result (omega arith) q.there in
    either_reads n (w.lines ++ z.lines) _ _ (earlier_append n m w.lines z.lines refl p.earlier q.earlier)
    (two_earlier k and_table (at bs v) w.result (input_before k bs v i) a)
    (two_earlier (suc k) and_table (invert_if true (at bs v)) z.result (input_before (suc k) bs v i) b)

pub write_reads : (k : ℕ) (own : Ownership) (bs : PerVariable Literal) → NoLine bs → (n h : ℕ) → h < 65536 → support_size h < k → Reads n (write k own bs n h)
unfolding write
write_reads zero own bs i n h l s = absurd (not-suc-le-zero s)
write_reads (suc k) own bs i n h l s =
    rule_reads own bs n h (write k own bs) (rule_of own h) i l (rule_first own h l) (λ m g b f. write_reads k own bs i m g b (omega arith))
