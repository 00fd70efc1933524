-- Calls of the writer, one behind the other.
use Rattle.std.proofs.Common.{◌≡◌, ℕ, ◌+◌, ◌≤◌, Bool, true, false, cond, List, [], ◌∷◌, ◌++◌, length, sym, ap, ◌∙◌, append_assoc, add-zero, lit≤, length-append}
use Rattle.std.proofs.lemmas.Bool.{cond_both}
use Rattle.lists.specs.Lists.{listed}
use Rattle.classes.specs.declared.Ownership.{Ownership}
use Rattle.plan_lines.specs.declared.Literal.{Literal}
use Rattle.plan_lines.specs.declared.Line.{Line}
use Rattle.plan_lines.specs.Lines.{nth, invert_if, and_of, or_of, xor_of}
use Rattle.plans.specs.declared.writer.Writer.{Writer}
use Rattle.plans.specs.Plans.{Written, one_more, either, xor_lines}
use Rattle.plans.specs.Held.{line_count, Wrote}

-- x behind the lines ls
abbrev pub behind : List Line → Written → Written
behind ls x = record { lines = ls ++ x.lines; result = x.result }

pub wrote_count : (w v : Writer) (r : Literal) (x : Written) → Wrote w v r x → line_count v ≡ line_count w + length x.lines
wrote_count w v r x a = ap length a.lines ∙ length-append (listed w.lines) x.lines

-- one call and then another
pub both_wrote : (w u v : Writer) (q r : Literal) (x y : Written) → Wrote w u q x → Wrote u v r y → Wrote w v r (behind x.lines y)
both_wrote w u v q r x y a b = record {
  own = b.own ∙ a.own;
  inputs = b.inputs ∙ a.inputs;
  lines = b.lines ∙ ap (λ (ls : List Line). ls ++ y.lines) a.lines ∙ append_assoc (listed w.lines) x.lines y.lines;
  result = b.result;
}

-- ---- what is written behind ls, as what is written there with no line of its own before

pub one_more-behind : (n : ℕ) (ls : List Line) (l : Line) → one_more n ls l ≡ behind ls (one_more (n + length ls) [] l)
one_more-behind n ls l = ap (λ (i : ℕ). record { lines = ls ++ l ∷ []; result = nth i }) (sym (add-zero (n + length ls)))

pub either-behind : (n : ℕ) (ls : List Line) (l k : Line) → either n ls l k ≡ behind ls (either (n + length ls) [] l k)
either-behind n ls l k =
    ap (λ (i : ℕ). record { lines = ls ++ l ∷ k ∷ or_of (nth i) (nth (i + 1)) ∷ []; result = nth (i + 2) }) (sym (add-zero (n + length ls)))

pub xor_lines-behind : (own : Ownership) (n : ℕ) (ls : List Line) (p q : Literal) → xor_lines own n ls p q ≡ behind ls (xor_lines own (n + length ls) [] p q)
xor_lines-behind own n ls p q = cases own.xor
  where
    cases : (x : Bool) → cond x (one_more n ls (xor_of p q)) (either n ls (and_of p (invert_if true q)) (and_of (invert_if true p) q))
        ≡ behind ls (cond x (one_more (n + length ls) [] (xor_of p q)) (either (n + length ls) [] (and_of p (invert_if true q)) (and_of (invert_if true p) q)))
    cases true = one_more-behind n ls (xor_of p q)
    cases false = either-behind n ls (and_of p (invert_if true q)) (and_of (invert_if true p) q)

pub xor_lines_few : (own : Ownership) (n : ℕ) (p q : Literal) → length (xor_lines own n [] p q).lines ≤ 3
xor_lines_few own n p q = cond_both own.xor _ _ (λ (x : Written). length x.lines ≤ 3) (λ _. lit≤ tt) (λ _. lit≤ tt)
