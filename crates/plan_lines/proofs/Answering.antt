-- What lines answer: earlier answers stay, and the last line reads them.
use Rattle.std.proofs.Common.{◌≡◌, ℕ, suc, ◌+◌, ◌<◌, ◌≤◌, Bool, true, false, ◌&&◌, ◌||◌, List, [], ◌∷◌, ◌++◌, length, get_or, sym, refl, ap, ◌∙◌, subst, not-suc-le-zero, add-zero, arith, length-append}
use Rattle.std.proofs.lemmas.List.{get_or_append_left, get_or_push}
use Rattle.tables.specs.declared.Variable.{Variable}
use Rattle.tables.specs.declared.Variable.TheVariants.{V0, V1, V2, V3}
use Rattle.tables.specs.declared.per_variable.PerVariable.{PerVariable}
use Rattle.tables.specs.PerVariable.{at}
use Rattle.tables.specs.Bits.{bit, inverted}
use Rattle.tables.specs.Settings.{Setting, get}
use Rattle.tables.specs.Tables.{value}
use Rattle.tables.proofs.Laws.{every_setting}
use Rattle.plan_lines.specs.declared.Source.{Source}
use Rattle.plan_lines.specs.declared.Source.TheVariants as source
use Rattle.plan_lines.specs.declared.Literal.{Literal}
use Rattle.plan_lines.specs.declared.Line.{Line}
use Rattle.plan_lines.specs.Lines.{nth, invert_if, and_table, or_table, xor_table, two_of, and_of, or_of, xor_of}
use Rattle.plan_lines.specs.Lines.{SourceBefore, ReadsBefore, ReadsEarlier, EachReadsEarlier, source_value, literal_value, line_value, answers, standing}

-- no variable stands for a line
abbrev pub NoLine : PerVariable Literal → Type 0
NoLine bs = (v : Variable) → ReadsBefore 0 (at bs v)

source_more : (m n : ℕ) (s : Source) → m ≤ n → SourceBefore m s → SourceBefore n s
source_more m n source.Constant h r = tt
source_more m n (source.Input v) h r = tt
source_more m n (source.Line i) h r = omega arith

pub reads_more : (m n : ℕ) (l : Literal) → m ≤ n → ReadsBefore m l → ReadsBefore n l
reads_more m n l h r = source_more m n l.source h r

-- ---- answers

pub answers-append : (y : Setting) (vs : List Bool) (ls ks : List Line) → answers y vs (ls ++ ks) ≡ answers y (answers y vs ls) ks
answers-append y vs [] ks = refl
answers-append y vs (l ∷ ls) ks = answers-append y (vs ++ line_value y vs l ∷ []) ls ks

pub answers-length : (y : Setting) (vs : List Bool) (ls : List Line) → length (answers y vs ls) ≡ length vs + length ls
answers-length y vs [] = sym (add-zero (length vs))
answers-length y vs (l ∷ ls) = let e = answers-length y (vs ++ line_value y vs l ∷ []) ls in let a = length-append vs (line_value y vs l ∷ []) in omega arith

answers_keep : (y : Setting) (vs : List Bool) (ls : List Line) (i : ℕ) → i < length vs → get_or (answers y vs ls) i false ≡ get_or vs i false
answers_keep y vs [] i h = refl
answers_keep y vs (l ∷ ls) i h =
    answers_keep y (vs ++ line_value y vs l ∷ []) ls i (simp length-append (omega arith)) ∙ get_or_append_left vs (line_value y vs l ∷ []) false i h

source_keep : (y : Setting) (vs : List Bool) (ls : List Line) (s : Source) → SourceBefore (length vs) s → source_value y (answers y vs ls) s ≡ source_value y vs s
source_keep y vs ls source.Constant r = refl
source_keep y vs ls (source.Input v) r = refl
source_keep y vs ls (source.Line i) r = answers_keep y vs ls i r

-- a literal keeps its value behind more lines
pub literal_keep : (y : Setting) (vs : List Bool) (ls : List Line) (l : Literal) → ReadsBefore (length vs) l → literal_value y (answers y vs ls) l ≡ literal_value y vs l
literal_keep y vs ls l r = ap (inverted l.inverted) (source_keep y vs ls l.source r)

source_any : (y : Setting) (vs : List Bool) (s : Source) → SourceBefore 0 s → source_value y vs s ≡ source_value y [] s
source_any y vs source.Constant r = refl
source_any y vs (source.Input v) r = refl
source_any y vs (source.Line i) r = absurd (not-suc-le-zero r)

pub literal_any : (y : Setting) (vs : List Bool) (l : Literal) → ReadsBefore 0 l → literal_value y vs l ≡ literal_value y [] l
literal_any y vs l r = ap (inverted l.inverted) (source_any y vs l.source r)

get-standing : (y : Setting) (bs : PerVariable Literal) (v : Variable) → get (standing y bs) v ≡ literal_value y [] (at bs v)
get-standing y bs V0 = refl
get-standing y bs V1 = refl
get-standing y bs V2 = refl
get-standing y bs V3 = refl

-- what a variable stands for has the variable's value
pub stands-value : (y : Setting) (vs : List Bool) (bs : PerVariable Literal) (v : Variable) → NoLine bs → literal_value y vs (at bs v) ≡ get (standing y bs) v
stands-value y vs bs v n = literal_any y vs (at bs v) (n v) ∙ sym (get-standing y bs v)

twice_inverted : (i j b : Bool) → inverted (inverted i j) b ≡ inverted i (inverted j b)
twice_inverted true true true = refl
twice_inverted true true false = refl
twice_inverted true false b = refl
twice_inverted false j b = refl

pub invert_if-value : (y : Setting) (vs : List Bool) (i : Bool) (l : Literal) → literal_value y vs (invert_if i l) ≡ inverted i (literal_value y vs l)
invert_if-value y vs i l = twice_inverted i l.inverted (source_value y vs l.source)

-- ---- lines over two literals

and_table_lem : (x : Setting) → value and_table x ≡ (x.a && x.b)
unfolding value bit
and_table_lem = every_setting (λ x. value and_table x ≡ (x.a && x.b)) refl refl refl refl refl refl refl refl refl refl refl refl refl refl refl refl

or_table_lem : (x : Setting) → value or_table x ≡ (x.a || x.b)
unfolding value bit
or_table_lem = every_setting (λ x. value or_table x ≡ (x.a || x.b)) refl refl refl refl refl refl refl refl refl refl refl refl refl refl refl refl

xor_table_lem : (x : Setting) → value xor_table x ≡ inverted x.a x.b
unfolding value bit
xor_table_lem = every_setting (λ x. value xor_table x ≡ inverted x.a x.b) refl refl refl refl refl refl refl refl refl refl refl refl refl refl refl refl

pub and-value : (y : Setting) (vs : List Bool) (p q : Literal) → line_value y vs (and_of p q) ≡ (literal_value y vs p && literal_value y vs q)
and-value y vs p q = and_table_lem (record { a = literal_value y vs p; b = literal_value y vs q; c = false; d = false })

pub or-value : (y : Setting) (vs : List Bool) (p q : Literal) → line_value y vs (or_of p q) ≡ (literal_value y vs p || literal_value y vs q)
or-value y vs p q = or_table_lem (record { a = literal_value y vs p; b = literal_value y vs q; c = false; d = false })

pub xor_value : (y : Setting) (vs : List Bool) (p q : Literal) → line_value y vs (xor_of p q) ≡ inverted (literal_value y vs p) (literal_value y vs q)
xor_value y vs p q = xor_table_lem (record { a = literal_value y vs p; b = literal_value y vs q; c = false; d = false })

-- ---- the last line's answer

pub last_value : (y : Setting) (vs : List Bool) (ls : List Line) (l : Line) → literal_value y (answers y vs (ls ++ l ∷ [])) (nth (length vs + length ls)) ≡ line_value y (answers y vs ls) l
last_value y vs ls l =
    ap (λ (ws : List Bool). get_or ws (length vs + length ls) false) (answers-append y vs ls (l ∷ []))
    ∙ get_or_push (answers y vs ls) (line_value y (answers y vs ls) l) false (length vs + length ls) (answers-length y vs ls)

-- ---- lines one behind the other

pub earlier_append : (n m : ℕ) (ls ks : List Line) → m ≡ n + length ls → EachReadsEarlier n ls → EachReadsEarlier m ks → EachReadsEarlier n (ls ++ ks)
earlier_append n m [] ks e a b = subst (λ (i : ℕ). EachReadsEarlier i ks) (e ∙ add-zero n) b
earlier_append n m (l ∷ ls) ks e a b = (a.0, earlier_append (suc n) m ls ks (omega arith) a.1 b)

-- a line over two literals that read only the lines before
pub two_earlier : (n f : ℕ) (p q : Literal) → ReadsBefore n p → ReadsBefore n q → ReadsEarlier n (two_of f p q)
two_earlier n f p q a b = record { a = a; b = b; c = tt; d = tt }
