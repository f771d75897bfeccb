-- A turn of a loop over a list of floats, for any fold that takes the next one. Assumes nothing.
use mathlib.Core.Path.{◌≡◌, sym, ◌∙◌}
use mathlib.Core.List.{List, [], ◌∷◌}
use Prim.Native.Nat.{ℕ, ◌+◌, ◌≤◌, ◌<◌}
use native.Mathlib.Numerals.{add-one}
use lib.ListN.{length, drop, get_or, drop_of_length-le}
use lib.Seq.{drop-cons}
use lib.Ieee.{Float, nan}

module _ (fold : Float → List Float → Float) (step : Float → Float → Float) (none : (t : Float) → fold t [] ≡ t)
    (more : (t x : Float) (xs : List Float) → fold t (x ∷ xs) ≡ fold (step t x) xs) (xs : List Float) (z : Float) where
  pub turn : (i : ℕ) (t u : Float) → i < length xs → u ≡ step t (get_or xs i nan) → fold t (drop i xs) ≡ z → fold u (drop (i + 1) xs) ≡ z
  turn i t u h e p = rw (e, add-one i) (sym (more t (get_or xs i nan) _) ∙ (rw (drop-cons xs i nan h) at p))

  pub done : (i : ℕ) (t : Float) → length xs ≤ i → fold t (drop i xs) ≡ z → t ≡ z
  done i t h p = sym (none t) ∙ (rw (drop_of_length-le xs h) at p)
