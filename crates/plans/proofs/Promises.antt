-- What the plan of a table promises.
use Rattle.std.proofs.Common.{◌≡◌, ℕ, ◌+◌, ◌<◌, ◌≤◌, List, [], ◌++◌, length, sym, refl, ap, ◌∙◌, subst, ap₂, zero-add, arith}
use Rattle.tables.specs.declared.Variable.{Variable}
use Rattle.tables.specs.PerVariable.{at}
use Rattle.tables.specs.declared.Variable.TheVariants.{V0, V1, V2, V3}
use Rattle.tables.specs.Bits.{inverted}
use Rattle.tables.specs.Settings.{Setting}
use Rattle.tables.specs.Tables.{value, support_size}
use Rattle.tables.proofs.Support.{support_le}
use Rattle.lists.specs.Lists.{listed}
use Rattle.transforms.specs.declared.Order.{Order}
use Rattle.transforms.specs.declared.Transform.{Transform}
use Rattle.transforms.specs.Orders.{at as variable_at, position_in}
use Rattle.transforms.specs.Images.{representative, chosen_transform}
use Rattle.transforms.proofs.Orderings.{position_at}
use Rattle.transforms.proofs.Least.{representative_lt, chosen_lawful, promises_of}
use Rattle.transforms.proofs.Supports.{support_representative}
use Rattle.classifier.specs.declared.Class.{Class}
use Rattle.classifier.specs.Extremes.{class_of}
use Rattle.classes.specs.declared.Ownership.{Ownership}
use Rattle.plan_lines.specs.declared.Literal.{Literal}
use Rattle.plan_lines.specs.declared.Line.{Line}
use Rattle.tables.specs.declared.per_variable.PerVariable.{PerVariable}
use Rattle.plan_lines.specs.Lines.{invert_if, answers, ReadsBefore, EachReadsEarlier}
use Rattle.plan_lines.specs.declared.TheConstants.{MOST_LINES}
use Rattle.plan_lines.proofs.Answering.{NoLine, invert_if-value}
use Rattle.plans.specs.Plans.{Written, signal, input, inputs, write, plan_of, bound}
use Rattle.plans.specs.declared.writer.Writer.{Writer}
use Rattle.plans.specs.Held.{line_count}
use Rattle.plans.specs.Promises.{SignalsStand, plan_value, EachOwned, Planned}
use Rattle.plans.proofs.Writing.{bound_mono, WritesTable}
use Rattle.plans.proofs.Reading.{write_reads}
use Rattle.plans.proofs.Sound.{write_sound}
use Rattle.plans.proofs.Owning.{write_owned}
use Rattle.plans.proofs.Ones.{plan_one}

no_line : (t : Transform) → NoLine (inputs t)
no_line t V0 = tt
no_line t V1 = tt
no_line t V2 = tt
no_line t V3 = tt

stands-input : (t : Transform) (v : Variable) → at (inputs t) v ≡ input t v
stands-input t V0 = refl
stands-input t V1 = refl
stands-input t V2 = refl
stands-input t V3 = refl

signals_stand : (f : ℕ) → SignalsStand f
signals_stand f k =
    let t : Transform = chosen_transform f in
    let o = (chosen_lawful f).order in
    stands-input t (variable_at t.order k)
    ∙ ap (signal t) (subst (λ (p : Order). position_in p (variable_at p k) ≡ k) (sym o.is) (position_at o.number o.small k))

-- for every setting of the four signals the plan's value is the table's
pub plan_value_lem : (own : Ownership) (f : ℕ) → f < 65536 → (y : Setting) → plan_value y (plan_of own f).lines (plan_of own f).result ≡ value f y
unfolding plan_of
plan_value_lem own f h y =
    let t : Transform = chosen_transform f in
    let r : ℕ = representative f in
    let w : Written = write 5 own (inputs t) 0 r in
    let s = write_sound 5 own y (inputs t) (no_line t) r (representative_lt f) (let l = support_le r in omega arith) [] in
    invert_if-value y (answers y [] w.lines) t.output w.result
    ∙ ap (inverted t.output) s
    ∙ sym ((promises_of f h).recovers y)

pub plan_owned : (own : Ownership) (f : ℕ) → EachOwned own (plan_of own f).lines
unfolding plan_of
plan_owned own f = write_owned 5 own (inputs (chosen_transform f)) 0 (representative f) (representative_lt f) (let l = support_le (representative f) in omega arith)

plan_reads : (own : Ownership) (f : ℕ) → EachReadsEarlier 0 (plan_of own f).lines × ReadsBefore (length (plan_of own f).lines) (plan_of own f).result
unfolding plan_of
plan_reads own f =
    let t : Transform = chosen_transform f in
    let w : Written = write 5 own (inputs t) 0 (representative f) in
    let r = write_reads 5 own (inputs t) (no_line t) 0 (representative f) (representative_lt f) (let l = support_le (representative f) in omega arith) in
    (r.earlier, subst (λ (n : ℕ). ReadsBefore n w.result) (zero-add (length w.lines)) r.there)

-- ---- the plan that the code makes

pub room : (w : Writer) (r : ℕ) → listed w.lines ≡ [] → line_count w + bound (support_size r) ≤ MOST_LINES
room w r s = let c = ap length s in let b = bound_mono (support_size r) 4 (support_le r) in omega arith

whole : (own : Ownership) (f : ℕ) (t : Transform) (r : ℕ) → r ≡ representative f → t ≡ chosen_transform f
    → ((write 5 own (inputs t) 0 r).lines ≡ (plan_of own f).lines) × (invert_if t.output (write 5 own (inputs t) 0 r).result ≡ (plan_of own f).result)
unfolding plan_of
whole own f t r a b = (
  ap₂ (λ (s : Transform) (g : ℕ). (write 5 own (inputs s) 0 g).lines) b a,
  ap₂ (λ (s : Transform) (g : ℕ). invert_if s.output (write 5 own (inputs s) 0 g).result) b a,
)

-- what is proved of the defined plan, of lines and a result that are equal to it
planned : (own : Ownership) (f : ℕ) (ls : List Line) (q : Literal) → f < 65536 → ls ≡ (plan_of own f).lines → q ≡ (plan_of own f).result → length ls ≤ bound (support_size f)
    → Planned own f ls q
planned own f ls q l a b few =
    let reads = plan_reads own f in
    let most = bound_mono (support_size f) 4 (support_le f) in
    record {
      lines = a;
      result = b;
      signals = signals_stand f;
      value = λ y. ap₂ (plan_value y) a b ∙ plan_value_lem own f l y;
      earlier = subst (EachReadsEarlier 0) (sym a) reads.0;
      there = subst (λ (xs : List Line). ReadsBefore (length xs) q) (sym a) (subst (ReadsBefore (length (plan_of own f).lines)) (sym b) reads.1);
      few = few;
      most = omega arith;
      one = λ o s. ap length a ∙ plan_one own f l o s;
      owned = subst (EachOwned own) (sym a) (plan_owned own f);
    }

pub class_planned : (own : Ownership) (f : ℕ) (k : Class) (w v : Writer) (q r : Literal) → w.own ≡ own → w.inputs ≡ inputs k.transform → listed w.lines ≡ []
    → line_count v ≤ line_count w + bound (support_size k.representative) → WritesTable w v q k.representative
    → r ≡ invert_if k.transform.output q → f < 65536 → k ≡ class_of f → Planned own f (listed v.lines) r
class_planned own f k w v q r o i e few held is l c =
    let rep : k.representative ≡ representative f = ap (λ (z : Class). z.representative) c in
    let tr : k.transform ≡ chosen_transform f = ap (λ (z : Class). z.transform) c in
    let size = support_le k.representative in
    let none : line_count w ≡ 0 = ap length e in
    let h = held 5 (omega arith) in
    let x : Written = write 5 own (inputs k.transform) 0 k.representative in
    let same : write 5 w.own w.inputs (line_count w) k.representative ≡ x =
    ap₂ (λ (z : Ownership) (bs : PerVariable Literal). write 5 z bs (line_count w) k.representative) o i
    ∙ ap (λ (n : ℕ). write 5 own (inputs k.transform) n k.representative) none in
    let p = whole own f k.transform k.representative rep tr in
    let lines : listed v.lines ≡ x.lines = h.lines ∙ ap₂ (λ (xs ys : List Line). xs ++ ys) e (ap (λ (z : Written). z.lines) same) in
    let smaller : support_size k.representative ≤ support_size f = subst (λ (g : ℕ). support_size g ≤ support_size f) (sym rep) (support_representative f) in
    let b = bound_mono (support_size k.representative) (support_size f) smaller in
    planned own f (listed v.lines) r l (lines ∙ p.0)
    (is ∙ ap (invert_if k.transform.output) (h.result ∙ ap (λ (z : Written). z.result) same) ∙ p.1) (omega arith)
