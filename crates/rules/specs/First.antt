-- The first rule that fits a table: what each rule says of the table, and in which order rules, variables and tests are tried.
use Rattle.std.specs.Prelude.{◌≡◌, ℕ, ◌<◌, Bool, true, false, not}
use Rattle.tables.specs.Bits.{inverted}
use Rattle.tables.specs.Settings.{Setting, get, variable_number}
use Rattle.tables.specs.Tables.{value, cofactor, complement, depends_on}
use Rattle.classes.specs.declared.Ownership.{Ownership}
use Rattle.transforms.specs.Images.{representative}
use Rattle.rules.specs.declared.Gate.{Gate}
use Rattle.rules.specs.declared.Gate.TheVariants.{And, Or}
use Rattle.rules.specs.declared.Owned.TheVariants.{Every, Majority}
use Rattle.rules.specs.declared.Rule.{Rule}
use Rattle.rules.specs.declared.Rule.TheVariants.{Constant, Single, OneLine, Top, Xor, Shannon}

-- ---- numbers: of a rule, of a test of rule 4

abbrev pub rule_number : Rule → ℕ
rule_number (Constant b) = 1
rule_number (Single v i) = 1
rule_number (OneLine Every) = 2
rule_number (OneLine Majority) = 3
rule_number (Top g v s) = 4
rule_number (Xor v) = 5
rule_number (Shannon v) = 6

-- the tests of rule 4, in their order: h1 = 0, h0 = 0, h1 = 0xFFFF, h0 = 0xFFFF; the part is the other cofactor
abbrev pub test_number : Gate → Bool → ℕ
test_number And false = 0
test_number And true = 1
test_number Or false = 2
test_number Or true = 3

-- the variable that a rule takes, by its number; rules 1 to 3 choose none
abbrev pub taken_variable : Rule → ℕ
taken_variable (Constant b) = 0
taken_variable (Single v i) = 0
taken_variable (OneLine o) = 0
taken_variable (Top g v s) = variable_number v
taken_variable (Xor v) = variable_number v
taken_variable (Shannon v) = variable_number v

-- the test that a rule passed, by its number; only rule 4 has several
abbrev pub passed_test : Rule → ℕ
passed_test (Constant b) = 0
passed_test (Single v i) = 0
passed_test (OneLine o) = 0
passed_test (Top g v s) = test_number g s
passed_test (Xor v) = 0
passed_test (Shannon v) = 0

-- ---- what a rule tests

-- the constant cofactor under an AND, and under an OR
abbrev pub constant_under : Gate → ℕ
constant_under And = 0x0000
constant_under Or = 0xFFFF

-- the table passes the test of a rule, by itself
abbrev pub Passes : Ownership → ℕ → Rule → Type 0
Passes own h (Constant b) = (x : Setting) → value h x ≡ b
Passes own h (Single v i) = (x : Setting) → value h x ≡ inverted i (get x v)
Passes own h (OneLine Every) = own.every ≡ true
Passes own h (OneLine Majority) = (own.majority ≡ true) × (representative h ≡ 831)
Passes own h (Top g v s) = (depends_on h v ≡ true) × (cofactor h v (not s) ≡ constant_under g)
Passes own h (Xor v) = cofactor h v false ≡ complement (cofactor h v true)
Passes own h (Shannon v) = depends_on h v ≡ true

-- ---- the first that fits

-- no rule of a number below n fits
pub record NoneBelow (n : ℕ) (own : Ownership) (h : ℕ) : Type 0 where
  pub none : (s : Rule) → rule_number s < n → Passes own h s → ⊥

pub record FirstThatFits (own : Ownership) (h : ℕ) (r : Rule) : Type 0 where
  pub fits : Passes own h r
  -- no rule of a lower number fits
  pub number : NoneBelow (rule_number r) own h
  -- no lower variable passes the same rule
  pub variable : (s : Rule) → rule_number s ≡ rule_number r → taken_variable s < taken_variable r → Passes own h s → ⊥
  -- no earlier test of the same variable holds
  pub test : (s : Rule) → rule_number s ≡ rule_number r → taken_variable s ≡ taken_variable r → passed_test s < passed_test r → Passes own h s → ⊥
