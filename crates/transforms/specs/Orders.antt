-- Orders of the four variables.
use Rattle.std.specs.Prelude.{◌≡◌, ℕ, zero, suc, Bool, cond, not, ◌&&◌, List, [], ◌∷◌, ◌++◌, slice_index_or}
use Rattle.std.specs.List.{find}
use Rattle.std.specs.Option.{unwrap_or}
use Rattle.tables.specs.declared.Variable.{Variable}
use Rattle.tables.specs.declared.Variable.TheVariants.{V0, V1, V2, V3}
use Rattle.tables.specs.Settings.{variables, same_variable}
use Rattle.tables.specs.PerVariable as per
use Rattle.transforms.specs.declared.Order.{Order}

-- the variable of a number; 3 and above is the last
abbrev pub numbered : ℕ → Variable
numbered zero = V0
numbered (suc zero) = V1
numbered (suc (suc zero)) = V2
numbered (suc (suc (suc n))) = V3

-- the order with these variables
abbrev pub order_with : Variable → Variable → Variable → Variable → Order
order_with a b c d = record { 0 = record { a = a; b = b; c = c; d = d } }

-- the variable that stands at position k
abbrev pub at : Order → Variable → Variable
at p k = per.at p.0 k

-- no variable stands at two positions
abbrev pub IsOrder : Order → Type 0
IsOrder p = (k j : Variable) → at p k ≡ at p j → k ≡ j

-- the position at which an order has v
abbrev pub position_in : Order → Variable → Variable
position_in p v = unwrap_or (find (λ k. same_variable (at p k) v) variables) V3

-- ---- all orders, lexicographically: of all 256 choices of four variables, those without a repetition

abbrev apart : Variable → Variable → Bool
apart v w = not (same_variable v w)

abbrev pub distinct : Variable → Variable → Variable → Variable → Bool
distinct a b c d = apart a b && apart a c && apart a d && apart b c && apart b d && apart c d

abbrev last_of : List Variable → Variable → Variable → Variable → List Order
last_of [] a b c = []
last_of (d ∷ ds) a b c = cond (distinct a b c d) (order_with a b c d ∷ last_of ds a b c) (last_of ds a b c)

abbrev third_of : List Variable → Variable → Variable → List Order
third_of [] a b = []
third_of (c ∷ cs) a b = last_of variables a b c ++ third_of cs a b

abbrev second_of : List Variable → Variable → List Order
second_of [] a = []
second_of (b ∷ bs) a = third_of variables a b ++ second_of bs a

abbrev first_of : List Variable → List Order
first_of [] = []
first_of (a ∷ as') = second_of variables a ++ first_of as'

unfoldable pub orders : List Order
orders = first_of variables

-- order number q
abbrev pub order_at : ℕ → Order
order_at q = slice_index_or orders q (order_with V0 V1 V2 V3)
