-- The numbers that refusals are known by.
use Rattle.std.specs.Prelude.{ℕ}
use Rattle.netlists.specs.declared.Refusal.{Refusal}
use Rattle.netlists.specs.declared.Refusal.TheVariants.{NoSuchNode, NoSuchRow, NoSuchOutput, TooManyInputs, TooManyOutputs, NotOwned, NoPlace}

-- 9: no such node, row or output; 10: over 32 inputs or outputs, or a function of two or more nodes that is not owned;
-- 11: a new row is needed and there is no place
abbrev pub number_of : Refusal → ℕ
number_of NoSuchNode = 9
number_of NoSuchRow = 9
number_of NoSuchOutput = 9
number_of TooManyInputs = 10
number_of TooManyOutputs = 10
number_of NotOwned = 10
number_of NoPlace = 11
