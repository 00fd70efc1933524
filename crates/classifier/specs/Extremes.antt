-- The class of a table, and what has been found among the first n transforms.
use Rattle.std.specs.Prelude.{◌≡◌, ℕ, ◌+◌, ◌*◌, ◌<◌, ◌≤◌, List, slice_index}
use Rattle.transforms.specs.Orders.{IsOrder}
use Rattle.transforms.specs.Images.{image, transform_at, representative, chosen_transform, LeastImage, FirstTo, NamesClass, Recovers}
use Rattle.classifier.specs.declared.Class.{Class}
use Rattle.classifier.specs.declared.Reached.{Reached}
use Rattle.classifier.specs.declared.Extremes.{Extremes}

-- the class of f and how it is reached
abbrev pub class_of : ℕ → Class
class_of f = record { representative = representative f; transform = chosen_transform f }

-- what a class of f has: the least image, the first of the 768 transforms that reaches it, all tables of the class by their
-- representative, f by the way back, and an order that has each variable once
pub record IsClass (f : ℕ) (k : Class) : Type 0 where
  pub least : LeastImage f k.representative
  pub first : FirstTo f k.representative k.transform
  pub names : NamesClass f k.representative
  pub recovers : Recovers f k.representative k.transform
  pub order : IsOrder k.transform.order

-- ---- the images of one order

-- the first n masks of order q give the first n of some tables as images of f
pub record AreImages (f q n : ℕ) (tables : List ℕ) : Type 0 where
  pub each : (m : ℕ) → m < n → slice_index tables m ≡ image (transform_at (16 * q + m)) f

-- ---- the least and the greatest so far

-- r is the representative of f, and transform number n is the chosen one
abbrev pub IsReached : ℕ → ℕ → ℕ → Type 0
IsReached f r n = (r ≡ representative f) × (transform_at n ≡ chosen_transform f)

-- the least image of f among the first n transforms, and the first number that reaches it
pub record Lowest (f n : ℕ) (r : Reached) : Type 0 where
  pub small : r.at < 384
  pub reached : image (transform_at r.at) f ≡ r.image
  pub bound : (k : ℕ) → k < n → r.image ≤ image (transform_at k) f
  pub first : (k : ℕ) → k < r.at → r.image < image (transform_at k) f

-- the greatest, likewise
pub record Highest (f n : ℕ) (r : Reached) : Type 0 where
  pub small : r.at < 384
  pub reached : image (transform_at r.at) f ≡ r.image
  pub bound : (k : ℕ) → k < n → image (transform_at k) f ≤ r.image
  pub first : (k : ℕ) → k < r.at → image (transform_at k) f < r.image

-- both
pub record Seen (f n : ℕ) (s : Extremes) : Type 0 where
  pub low : Lowest f n s.low
  pub high : Highest f n s.high
