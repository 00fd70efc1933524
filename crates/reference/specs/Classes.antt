-- Transforms of tables, and their images.
use Rattle.std.specs.Prelude.{◌≡◌, ℕ, zero, suc, ◌/◌, ◌%◌, ◌<◌, ◌≤◌, ◌==◌, Bool, true, false, not, List, [], ◌∷◌, map, bit_xor, nat_le, filter, slice_index_or, slice_get, Option, ◌||◌, ◌&&◌}
use Rattle.std.specs.List.{range_with_len, list_all, list_any}
use Rattle.reference.specs.declared.tables.Variable.{Variable}
use Rattle.reference.specs.declared.tables.Variable.TheVariants.{V0, V1, V2, V3}
use Rattle.reference.specs.declared.classes.Transform.{Transform}
use Rattle.reference.specs.declared.classes.Class.{Class}
use Rattle.reference.specs.declared.classes.Atlas.{Atlas}
use Rattle.reference.specs.declared.classes.Owned.{Owned}
use Rattle.reference.specs.Tables.{bit, number, from_bits, table}

-- b, inverted where i is true
abbrev pub inverted : Bool → Bool → Bool
inverted true b = not b
inverted false b = b

-- the setting of the variables' values at x, in this order
abbrev pub in_order : List Variable → ℕ → ℕ
in_order order x = from_bits (map (λ v. bit x (number v)) order)

-- the image of a table: at x, its value at the setting in order, inverted by the mask, and then inverted by the output
abbrev pub image : Transform → ℕ → ℕ
image t f = table (λ x. inverted t.output (bit f (bit_xor (in_order t.order x) t.mask % 16)))

-- ---- the 768 transforms

abbrev pub numbered : ℕ → Variable
numbered zero = V0
numbered (suc zero) = V1
numbered (suc (suc zero)) = V2
numbered (suc (suc (suc n))) = V3

-- the 256 lists of four variables, lexicographically
abbrev pub words : List (List Variable)
words = map (λ n. numbered (n / 64) ∷ numbered (n / 16 % 4) ∷ numbered (n / 4 % 4) ∷ numbered (n % 4) ∷ []) (range_with_len 0 256)

-- each variable stands there
abbrev pub is_order : List Variable → Bool
is_order w = list_all (λ v. list_any (λ x. number x == number v) w) (V0 ∷ V1 ∷ V2 ∷ V3 ∷ [])

-- the 24 orders, lexicographically
unfoldable pub orders : List (List Variable)
orders = filter is_order words

-- transform number n of the 768: by output, then by order, then by mask
abbrev pub transform_at : ℕ → Transform
transform_at n = record { output = nat_le 384 n; order = slice_index_or orders (n / 16 % 24) []; mask = n % 16 }

-- ---- classes and ownership

-- c has the least of the first n images of f, by the first of the 768 transforms that gives it
pub record IsFirstLeast (f n : ℕ) (c : Class) : Type 0 where
  pub number : ℕ
  pub small : number < 768
  pub named : c.transform ≡ transform_at number
  pub reached : c.representative ≡ image c.transform f
  pub bound : (m : ℕ) → m < n → c.representative ≤ image (transform_at m) f
  pub first : (m : ℕ) → m < number → c.representative < image (transform_at m) f

-- the class of f, if the atlas has one
abbrev pub class_in : Atlas → ℕ → Option Class
class_in atlas f = slice_get atlas.classes.items f

-- class 15 is owned; 4080 is exclusive-or, and 831 majority
abbrev pub has : Owned → ℕ → Bool
has own class = own.every || (class == 15) || (own.xor && class == 4080) || (own.majority && class == 831)

-- number n of the eight
abbrev pub owned_at : ℕ → Owned
owned_at n = record { xor = bit n 0; majority = bit n 1; every = bit n 2 }
