-- A shape by its number: up to the last there is one, beyond it none. Assumes nothing.
use Rattle.std.specs.Prelude.{None, Some}
use Prim.Native.Nat.{ℕ, zero, suc, ◌≤◌, ◌<◌}
use mathlib.Core.Path.{◌≡◌, refl}
use native.Mathlib.Omega.{arith}
use lib.Ieee.{Float}
use borrow.Author.Tests.{ne_eqb}
use Rattle.geometry.specs.declared.PrimitiveGeometry.{PrimitiveGeometry}
use Rattle.geometry.specs.declared.PrimitiveGeometry.TheVariants.{Plane, Disk, Sphere, Cylinder, Box, ClosedCylinder}
use Rattle.geometry.specs.Shapes.{last_shape, numbered_geometry_of}

pub shape_there : (k : ℕ) (p q r : Float) → k ≤ last_shape → (g : PrimitiveGeometry) × (numbered_geometry_of k p q r ≡ Some g)
unfolding numbered_geometry_of
shape_there zero p q r h = (Plane p q, refl)
shape_there (suc zero) p q r h = (Disk p q, refl)
shape_there (suc (suc zero)) p q r h = (Sphere p, refl)
shape_there (suc (suc (suc zero))) p q r h = (Cylinder p q, refl)
shape_there (suc (suc (suc (suc zero)))) p q r h = (Box p q r, refl)
shape_there (suc (suc (suc (suc (suc zero))))) p q r h = (ClosedCylinder p q, refl)
shape_there (suc (suc (suc (suc (suc (suc k)))))) p q r h = absurd (omega (arith, h))

pub shape_beyond : (k : ℕ) (p q r : Float) → last_shape < k → numbered_geometry_of k p q r ≡ None
unfolding numbered_geometry_of
shape_beyond k p q r h =
    simp (
      ne_eqb k 0 (omega (arith, h)),
      ne_eqb k 1 (omega (arith, h)),
      ne_eqb k 2 (omega (arith, h)),
      ne_eqb k 3 (omega (arith, h)),
      ne_eqb k 4 (omega (arith, h)),
      ne_eqb k 5 (omega (arith, h)),
    )
