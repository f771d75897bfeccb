-- Two texts that are compared byte by byte. Assumes nothing.
use mathlib.Core.Path.{◌≡◌, refl}
use Prim.Native.Nat.{ℕ}
use mathlib.Core.List.{List, [], ◌∷◌}
use mathlib.Core.Bool.{Bool, true, false, cond, ◌&&◌}
use lib.Dec.{eqb}
use lib.Pointwise.{pointwise}
use Rattle.scene_text.specs.Blocks.{same_of}

pub same_is : (a b : List ℕ) → pointwise eqb a b ≡ same_of a b
unfolding same_of
same_is [] [] = refl
same_is [] (y ∷ b) = refl
same_is (x ∷ a) [] = refl
same_is (x ∷ a) (y ∷ b) = go (eqb x y) (same_is a b)
  where
    go : (t : Bool) → pointwise eqb a b ≡ same_of a b → (t && pointwise eqb a b) ≡ cond t (same_of a b) false
    go true i = i
    go false i = refl
