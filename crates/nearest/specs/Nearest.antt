-- The nearest of several offers. An offer is anything that has a distance; f j is what place j of a list offers, if
-- anything.
use Rattle.std.specs.Prelude.{ℕ, zero, suc, ◌+◌, ◌<◌, ◌≡◌, Bool, true, false, cond, ◌&&◌, Float, Option, None, Some}
use Rattle.std.specs.Float.{inf}
use Rattle.std.specs.Float.Ieee.{lt, le}
use Rattle.doubles.specs.Doubles.{is_finite_of}
use Rattle.rays.specs.Rays.{min_world_distance}

-- above 1e-8 and finite
unfoldable pub is_counted : Float → Bool
is_counted t = lt min_world_distance t && is_finite_of t

-- the Rust's test: below the nearest so far, and above 1e-8
unfoldable pub is_nearer_of : Float → Float → Bool
is_nearer_of t nearest = lt t nearest && lt min_world_distance t

-- the distance of the best so far, infinite where there is none
abbrev pub distance_of : (A : Type 0) → (A → Float) → Option A → Float
distance_of A d None = inf false
distance_of A d (Some h) = d h

-- the best so far, or the next offer where that is nearer
unfoldable pub nearer_of : (A : Type 0) → (A → Float) → Option A → Option A → Option A
nearer_of A d best None = best
nearer_of A d best (Some h) = cond (is_nearer_of (d h) (distance_of A d best)) (Some h) best

-- after the n offers from place i on, in list order
unfoldable pub nearest_from : (A : Type 0) → (A → Float) → (ℕ → Option A) → ℕ → ℕ → Option A → Option A
nearest_from A d f zero i best = best
nearest_from A d f (suc n) i best = nearest_from A d f n (i + 1) (nearer_of A d best (f i))

-- of the first n offers
unfoldable pub nearest_among : (A : Type 0) → (A → Float) → (ℕ → Option A) → ℕ → Option A
nearest_among A d f n = nearest_from A d f n 0 None

-- of the first n offers none counts
abbrev pub NoneCounts : (A : Type 0) → (A → Float) → (ℕ → Option A) → ℕ → Type 0
NoneCounts A d f n = (j : ℕ) (g : A) → j < n → f j ≡ Some g → is_counted (d g) ≡ false

-- of the first n offers, every one that counts is as far as h or farther, and every one before place i is farther
abbrev pub NoneNearer : (A : Type 0) → (A → Float) → (ℕ → Option A) → ℕ → ℕ → A → Type 0
NoneNearer A d f n i h =
    (j : ℕ) (g : A) → j < n → f j ≡ Some g → is_counted (d g) ≡ true → (le (d h) (d g) ≡ true) ×
    (j < i → lt (d h) (d g) ≡ true)

-- what the nearest of the first n offers is: none, and none counts; or the offer of a place i that counts, and none is
-- nearer
abbrev pub IsNearest : (A : Type 0) → (A → Float) → (ℕ → Option A) → ℕ → Option A → Type 0
IsNearest A d f n None = NoneCounts A d f n
IsNearest A d f n (Some h) =
    (i : ℕ) × ((i < n) × ((f i ≡ Some h) × ((is_counted (d h) ≡ true) × NoneNearer A d f n i h)))
