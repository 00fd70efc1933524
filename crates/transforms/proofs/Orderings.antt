-- The 24 orders as permutations: they undo and follow one another. Each fact is one test over all of them.
use Rattle.std.proofs.Common.{◌≡◌, ℕ, suc, ◌<◌, Bool, true, false, not, T, ltb, List, [], ◌∷◌, map, slice_index_or, sym, refl, ap, ◌∙◌, subst}
use Rattle.std.proofs.lemmas.Bool.{ltb-true, and_from}
use Rattle.std.proofs.lemmas.List.{get_or-map}
use Rattle.tables.specs.declared.Variable.{Variable}
use Rattle.tables.specs.declared.Variable.TheVariants.{V0, V1, V2, V3}
use Rattle.tables.specs.Settings.{same_variable, variable_number}
use Rattle.tables.proofs.Every.{both, both_left, both_right, every}
use Rattle.tables.proofs.Every as all
use Rattle.transforms.specs.declared.Order.{Order}
use Rattle.transforms.specs.declared.Numbers.{Numbers}
use Rattle.transforms.specs.declared.TheConstants.{ORDERS}
use Rattle.transforms.specs.Orders.{numbered, order_with, at, IsOrder, position_in, orders, order_at}
use Rattle.transforms.specs.Orders as spec
use Rattle.transforms.proofs.Variables.{same_bool, truth, same_bool_lem, implies, implied, same_variable_lem, variable_same, every_variable, at-variable}

-- a variable is the one of its number
pub numbered-number_of : (v : Variable) → numbered (variable_number v) ≡ v
numbered-number_of V0 = refl
numbered-number_of V1 = refl
numbered-number_of V2 = refl
numbered-number_of V3 = refl

-- the order with these variables
abbrev pub order_by : (Variable → Variable) → Order
order_by g = order_with (g V0) (g V1) (g V2) (g V3)

pub at_order_by : (g : Variable → Variable) (k : Variable) → at (order_by g) k ≡ g k
at_order_by g V0 = refl
at_order_by g V1 = refl
at_order_by g V2 = refl
at_order_by g V3 = refl

-- ---- the orders of the source, by number

abbrev of_numbers : Numbers → Order
of_numbers n = order_with (numbered n.0) (numbered n.1) (numbered n.2) (numbered n.3)

numbers_listed : map of_numbers ORDERS ≡ orders
unfolding orders
numbers_listed = refl

pub numbered_order : (q : ℕ) (d : Numbers) → q < 24 → of_numbers (slice_index_or ORDERS q d) ≡ order_at q
numbered_order q d h = sym (get_or-map of_numbers ORDERS q d _ h) ∙ ap (λ (os : List Order). slice_index_or os q (order_with V0 V1 V2 V3)) numbers_listed

-- ---- an order has no variable twice

distinct_test : ℕ → Bool
distinct_test q = every_variable (λ k. every_variable (λ j. same_bool (same_variable (at (order_at q) k) (at (order_at q) j)) (same_variable k j)))

all_distinct : T (every distinct_test 0 24)
unfolding distinct_test orders
all_distinct = tt

pub distinct : (q : ℕ) → q < 24 → (k j : Variable) → same_variable (at (order_at q) k) (at (order_at q) j) ≡ same_variable k j
unfolding distinct_test
distinct q h k j =
    same_bool_lem (same_variable (at (order_at q) k) (at (order_at q) j)) (same_variable k j)
    (at-variable (λ i. same_bool (same_variable (at (order_at q) k) (at (order_at q) i)) (same_variable k i))
    (at-variable (λ i. every_variable (λ l. same_bool (same_variable (at (order_at q) i) (at (order_at q) l)) (same_variable i l))) (all.at distinct_test 24 all_distinct q h) k) j)

pub order_lawful : (q : ℕ) → q < 24 → IsOrder (order_at q)
order_lawful q h k j e =
    same_variable_lem k j (subst T (distinct q h k j) (subst (λ (v : Variable). T (same_variable (at (order_at q) k) v)) e (variable_same (at (order_at q) k))))

-- ---- the position of a variable

position_test : ℕ → Bool
position_test q = every_variable (λ v. same_variable (position_in (order_at q) (at (order_at q) v)) v)

all_positions : T (every position_test 0 24)
unfolding position_test orders
all_positions = tt

pub position_at : (q : ℕ) → q < 24 → (k : Variable) → position_in (order_at q) (at (order_at q) k) ≡ k
unfolding position_test
position_at q h k =
    same_variable_lem _ _ (at-variable (λ v. same_variable (position_in (order_at q) (at (order_at q) v)) v) (all.at position_test 24 all_positions q h) k)

-- four variables without a repetition: each stands somewhere
found_test : Variable → Variable → Variable → Variable → Bool
found_test a b c d = implies (spec.distinct a b c d) (every_variable (λ v. same_variable (at (order_with a b c d) (position_in (order_with a b c d) v)) v))

all_found : T (every_variable (λ a. every_variable (λ b. every_variable (λ c. every_variable (λ d. found_test a b c d)))))
unfolding found_test
all_found = tt

apart : (p : Order) → IsOrder p → (k j : Variable) → same_variable k j ≡ false → not (same_variable (at p k) (at p j)) ≡ true
apart p o k j e = decide (same_variable (at p k) (at p j)) refl
  where
    decide : (b : Bool) → same_variable (at p k) (at p j) ≡ b → not b ≡ true
    decide true t =
        let z : k ≡ j = o k j (same_variable_lem (at p k) (at p j) (subst T (sym t) tt)) in
        sym e ∙ truth (same_variable k j) (subst (λ (v : Variable). T (same_variable k v)) z (variable_same k))
    decide false t = refl

pub at_position : (p : Order) → IsOrder p → (v : Variable) → at p (position_in p v) ≡ v
unfolding found_test
at_position p o v =
    let d : spec.distinct p.0.a p.0.b p.0.c p.0.d ≡ true =
    and_from _ _ (and_from _ _ (and_from _ _ (and_from _ _ (and_from _ _ (apart p o V0 V1 refl) (apart p o V0 V2 refl)) (apart p o V0 V3 refl)) (apart p o V1 V2 refl)) (apart p o V1 V3 refl)) (apart p o V2 V3 refl) in
    let t = at-variable (λ d. found_test p.0.a p.0.b p.0.c d)
    (at-variable (λ c. every_variable (λ d. found_test p.0.a p.0.b c d))
    (at-variable (λ b. every_variable (λ c. every_variable (λ d. found_test p.0.a b c d)))
    (at-variable (λ a. every_variable (λ b. every_variable (λ c. every_variable (λ d. found_test a b c d)))) all_found p.0.a) p.0.b) p.0.c) p.0.d in
    same_variable_lem _ _ (at-variable (λ w. same_variable (at p (position_in p w)) w) (implied _ _ t d) v)

-- ---- the number of an order, and the orders that others give

abbrev same_order : Order → Order → Bool
same_order p r = both (same_variable p.0.a r.0.a) (both (same_variable p.0.b r.0.b) (both (same_variable p.0.c r.0.c) (same_variable p.0.d r.0.d)))

same_order_lem : (p r : Order) → T (same_order p r) → p ≡ r
same_order_lem p r t =
    let u = both_right (same_variable p.0.a r.0.a) _ t in
    let v = both_right (same_variable p.0.b r.0.b) _ u in
    let a : p.0.a ≡ r.0.a = same_variable_lem p.0.a r.0.a (both_left (same_variable p.0.a r.0.a) _ t) in
    let b : p.0.b ≡ r.0.b = same_variable_lem p.0.b r.0.b (both_left (same_variable p.0.b r.0.b) _ u) in
    let c : p.0.c ≡ r.0.c = same_variable_lem p.0.c r.0.c (both_left (same_variable p.0.c r.0.c) _ v) in
    let d : p.0.d ≡ r.0.d = same_variable_lem p.0.d r.0.d (both_right (same_variable p.0.c r.0.c) _ v) in
    λ i. order_with (a i) (b i) (c i) (d i)

abbrev number_in : List Order → Order → ℕ
number_in [] p = 0
number_in (r ∷ rs) p = elim (same_order p r) [ true ↦ 0 | false ↦ suc (number_in rs p) ]

-- the number of an order among the 24
abbrev pub order_number : Order → ℕ
order_number p = number_in orders p

abbrev listed : Order → Bool
listed p = both (ltb (order_number p) 24) (same_order p (order_at (order_number p)))

-- an order of which the test holds is one of the 24
pub record Listed (p : Order) : Type 0 where
  pub number : ℕ
  pub small : number < 24
  pub is : p ≡ order_at number

is_listed : (p : Order) → T (listed p) → Listed p
is_listed p t = record {
  number = order_number p;
  small = ltb-true (order_number p) 24 (truth _ (both_left (ltb (order_number p) 24) _ t));
  is = same_order_lem p (order_at (order_number p)) (both_right (ltb (order_number p) 24) _ t);
}

-- first r, then p
abbrev pub following : Order → Order → Order
following p r = order_by (λ k. at p (at r k))

following_test : ℕ → Bool
following_test q = every (λ r. listed (following (order_at q) (order_at r))) 0 24

all_following : T (every following_test 0 24)
unfolding following_test orders
all_following = tt

pub following_listed : (q r : ℕ) → q < 24 → r < 24 → Listed (following (order_at q) (order_at r))
unfolding following_test
following_listed q r h l =
    is_listed _ (all.at (λ s. listed (following (order_at q) (order_at s))) 24 (all.at following_test 24 all_following q h) r l)

abbrev pub backwards : Order → Order
backwards p = order_by (λ v. position_in p v)

backwards_test : ℕ → Bool
backwards_test q = listed (backwards (order_at q))

all_backwards : T (every backwards_test 0 24)
unfolding backwards_test orders
all_backwards = tt

pub backwards_listed : (q : ℕ) → q < 24 → Listed (backwards (order_at q))
unfolding backwards_test
backwards_listed q h = is_listed _ (all.at backwards_test 24 all_backwards q h)
