-- Transforms of tables, images, and the class of a table by its least image.
use Rattle.std.specs.Prelude.{◌≡◌, ℕ, suc, ◌/◌, ◌%◌, ◌<◌, ◌≤◌, min, Bool, true, false, List, [], ◌∷◌, map, ◌==◌, ◌≢◌, nat_le}
use Rattle.std.specs.List.{range_with_len}
use Rattle.tables.specs.declared.Variable.{Variable}
use Rattle.tables.specs.declared.Variable.TheVariants.{V0, V1, V2, V3}
use Rattle.tables.specs.Bits.{bit, inverted}
use Rattle.tables.specs.Settings.{Setting, get}
use Rattle.tables.specs.Tables.{value, table_of}
use Rattle.transforms.specs.declared.Transform.{Transform}
use Rattle.transforms.specs.Orders.{at, order_at, position_in}

-- bit k of a mask
abbrev pub mask_at : ℕ → Variable → Bool
mask_at m V0 = bit m 0
mask_at m V1 = bit m 1
mask_at m V2 = bit m 2
mask_at m V3 = bit m 3

-- what variable k of the table is, where the image is read at x
abbrev pub read_from : Transform → Setting → Variable → Bool
read_from t x k = inverted (mask_at t.mask k) (get x (at t.order k))

-- the setting that the table is read at, where its image is read at x
abbrev pub read_at : Transform → Setting → Setting
read_at t x = record { a = read_from t x V0; b = read_from t x V1; c = read_from t x V2; d = read_from t x V3 }

-- what variable v of the image is, where the table is to be read at y
abbrev pub given_to : Transform → Setting → Variable → Bool
given_to t y v = inverted (mask_at t.mask (position_in t.order v)) (get y (position_in t.order v))

-- the setting that the image is read at, where the table is to be read at y
abbrev pub read_back : Transform → Setting → Setting
read_back t y = record { a = given_to t y V0; b = given_to t y V1; c = given_to t y V2; d = given_to t y V3 }

-- the image of f under t
unfoldable pub image : Transform → ℕ → ℕ
image t f = table_of (λ x. inverted t.output (value f (read_at t x)))

-- transform number n of 768: by its output bit, then by its order, then by its mask
unfoldable pub transform_at : ℕ → Transform
transform_at n = record { output = nat_le 384 n; order = order_at ((n % 384) / 16); mask = n % 16 }

-- g is an image of f
abbrev pub IsImage : ℕ → ℕ → Type 0
IsImage g f = (n : ℕ) × (n < 768) × (g ≡ image (transform_at n) f)

-- the least of some tables; 65535 is the greatest table that there is
abbrev pub least : List ℕ → ℕ
least [] = 65535
least (x ∷ xs) = min x (least xs)

-- the images of f, by the number of the transform
unfoldable pub images : ℕ → List ℕ
images f = map (λ n. image (transform_at n) f) (range_with_len 0 768)

-- the name of the class of f
unfoldable pub representative : ℕ → ℕ
representative f = least (images f)

-- 0 where the test holds, and one more than n elsewhere
abbrev pub counted : Bool → ℕ → ℕ
counted true n = 0
counted false n = suc n

-- the index of the first r in a list
abbrev pub index_of : ℕ → List ℕ → ℕ
index_of r [] = 0
index_of r (x ∷ xs) = counted (x == r) (index_of r xs)

-- the first transform that reaches the representative
unfoldable pub chosen_transform : ℕ → Transform
chosen_transform f = transform_at (index_of (representative f) (images f))

-- ---- what a class is, in terms of images

-- r is an image of f, and no image is smaller
abbrev pub LeastImage : ℕ → ℕ → Type 0
LeastImage f r = IsImage r f × ((n : ℕ) → n < 768 → r ≤ image (transform_at n) f)

-- t is the first of the 768 transforms that takes f to r
abbrev pub FirstTo : ℕ → ℕ → Transform → Type 0
FirstTo f r t = (n : ℕ) × (n < 768) × (t ≡ transform_at n) × (image t f ≡ r) × ((k : ℕ) → k < n → image (transform_at k) f ≢ r)

-- the tables with representative r are the images of f
abbrev pub NamesClass : ℕ → ℕ → Type 0
NamesClass f r = (g : ℕ) → g < 65536 → (representative g ≡ r → IsImage g f) × (IsImage g f → representative g ≡ r)

-- f is r, with the inputs and the output as t has them
abbrev pub Recovers : ℕ → ℕ → Transform → Type 0
Recovers f r t = (y : Setting) → value f y ≡ inverted t.output (value r (read_back t y))
