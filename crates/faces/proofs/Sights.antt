-- One face in the search: the three ways through `nearer`. Assumes nothing.
use Rattle.std.specs.Prelude.{Option, None, Some}
use Prim.Native.Nat.{ℕ}
use mathlib.Core.Path.{◌≡◌, sym, ap, ◌∙◌}
use mathlib.Core.Bool.{Bool, true, false}
use lib.Ieee.{Float}
use Rattle.detector.specs.declared.face.Crossing.{Crossing}
use Rattle.nearest.specs.Nearest.{is_nearer_of, distance_of, nearer_of}
use Rattle.nearest.proofs.Loops.{nearer_nothing, nearer_taken, nearer_kept}
use Rattle.faces.specs.declared.Sight.{Sight}
use Rattle.faces.specs.Faces.{sight_distance, sight_from}

module _ (i : ℕ) (b : Option Sight) (o : Option Crossing) (k : Option Crossing) (said : k ≡ o) where
  abbrev with-sight : Option Crossing → Option Sight
  with-sight m = nearer_of Sight sight_distance b (sight_from i m)

  pub missed : k ≡ None → b ≡ nearer_of Sight sight_distance b (sight_from i o)
  unfolding sight_from
  missed e = sym (ap with-sight (sym said ∙ e) ∙ nearer_nothing Sight sight_distance b)

  module _ (c : Crossing) (e : k ≡ Some c) (D : Float) (t : Bool) (far : D ≡ distance_of Sight sight_distance b) (tested : t ≡ is_nearer_of c.t D) where
    near_is : (u : Bool) → t ≡ u → is_nearer_of c.t (distance_of Sight sight_distance b) ≡ u
    near_is u w = ap (is_nearer_of c.t) (sym far) ∙ sym tested ∙ w

    pub nearer_seen : t ≡ true → Some (record { detector = record { 0 = i }; crossing = c }) ≡ nearer_of Sight sight_distance b (sight_from i o)
    unfolding sight_from
    nearer_seen w = sym (ap with-sight (sym said ∙ e) ∙ nearer_taken Sight sight_distance b (record { detector = record { 0 = i }; crossing = c }) (near_is true w))

    pub farther : t ≡ false → b ≡ nearer_of Sight sight_distance b (sight_from i o)
    unfolding sight_from
    farther w = sym (ap with-sight (sym said ∙ e) ∙ nearer_kept Sight sight_distance b (record { detector = record { 0 = i }; crossing = c }) (near_is false w))
