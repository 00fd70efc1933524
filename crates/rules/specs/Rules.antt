-- The rule that writes a table, by tests of its cofactors.
use Rattle.std.specs.Prelude.{ℕ, Bool, true, false, cond, ◌&&◌, Some, None, Option, ◌==◌}
use Rattle.std.specs.List.{find}
use Rattle.tables.specs.declared.Variable.{Variable}
use Rattle.tables.specs.declared.Variable.TheVariants.{V0, V1, V2, V3}
use Rattle.tables.specs.Settings.{variables}
use Rattle.tables.specs.Tables.{cofactor, complement, lowest}
use Rattle.classes.specs.declared.Ownership.{Ownership}
use Rattle.transforms.specs.Images.{representative}
use Rattle.rules.specs.declared.Gate.TheVariants.{And, Or}
use Rattle.rules.specs.declared.Owned.TheVariants.{Every, Majority}
use Rattle.rules.specs.declared.Rule.{Rule}
use Rattle.rules.specs.declared.Rule.TheVariants.{Constant, Single, OneLine, Top, Xor, Shannon}

-- the first answer that there is
abbrev pub or_else : Option Rule → Option Rule → Option Rule
or_else (Some r) o = Some r
or_else None o = o

abbrev pub or_rule : Option Rule → Rule → Rule
or_rule (Some r) s = r
or_rule None s = s

-- the first answer of a variable, and the lowest variable that passes a test
abbrev pub first_over : (Variable → Option Rule) → Option Rule
first_over f = or_else (f V0) (or_else (f V1) (or_else (f V2) (f V3)))

abbrev pub lowest_where : (Variable → Bool) → Option Variable
lowest_where p = find p variables

-- a constant, a variable or an inverted variable
abbrev pub trivial_rule : ℕ → Option Rule
trivial_rule h =
    cond (h == 0) (Some (Constant false)) (cond (h == 0xFFFF) (Some (Constant true))
    (cond (h == 0xAAAA) (Some (Single V0 false)) (cond (h == 0x5555) (Some (Single V0 true))
    (cond (h == 0xCCCC) (Some (Single V1 false)) (cond (h == 0x3333) (Some (Single V1 true))
    (cond (h == 0xF0F0) (Some (Single V2 false)) (cond (h == 0x0F0F) (Some (Single V2 true))
    (cond (h == 0xFF00) (Some (Single V3 false)) (cond (h == 0x00FF) (Some (Single V3 true)) None)))))))))

-- the table may be a line of its own
abbrev pub owned_rule : Ownership → ℕ → Option Rule
owned_rule own h =
    cond own.every (Some (OneLine Every)) (cond (own.majority && representative h == 831) (Some (OneLine Majority)) None)

-- what the two cofactors of v allow
abbrev pub by_cofactors : Variable → ℕ → ℕ → Option Rule
by_cofactors v low high =
    cond (low == high) None
    (cond (high == 0) (Some (Top And v false)) (cond (low == 0) (Some (Top And v true))
    (cond (high == 0xFFFF) (Some (Top Or v false)) (cond (low == 0xFFFF) (Some (Top Or v true)) None))))

-- v is in the support and one of its cofactors is constant
unfoldable pub top_rule : ℕ → Variable → Option Rule
top_rule h v = by_cofactors v (cofactor h v false) (cofactor h v true)

abbrev pub first_top : ℕ → Option Rule
first_top h = first_over (top_rule h)

-- the cofactors of v are inverse
unfoldable pub xor_in : ℕ → Variable → Bool
xor_in h v = cofactor h v false == complement (cofactor h v true)

abbrev pub first_xor : ℕ → Option Variable
first_xor h = lowest_where (xor_in h)

abbrev pub xor_rule : Option Variable → Option Rule
xor_rule (Some v) = Some (Xor v)
xor_rule None = None

-- a table without a support is constant
abbrev pub shannon_rule : ℕ → Option Variable → Rule
shannon_rule h (Some v) = Shannon v
shannon_rule h None = Constant (h == 0xFFFF)

-- rules 1 to 3, and rules 4 to 6
unfoldable pub rule_without_parts : Ownership → ℕ → Option Rule
rule_without_parts own h = or_else (trivial_rule h) (owned_rule own h)

unfoldable pub rule_with_parts : ℕ → Rule
rule_with_parts h = or_rule (or_else (first_top h) (xor_rule (first_xor h))) (shannon_rule h (lowest h))

-- the rule that writes h
abbrev pub rule_of : Ownership → ℕ → Rule
rule_of own h = or_rule (rule_without_parts own h) (rule_with_parts h)
