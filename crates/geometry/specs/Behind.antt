-- Nobody has to believe this page: what it rules out is not met (`behind_misses`, proofs/Behind.antt).
-- Rays that surely miss a shape by the signs of their coordinates. d is a direction of any length.
use Rattle.std.specs.Prelude.{Float, Bool, false, ◌&&◌, ◌||◌}
use Rattle.std.specs.Float.{binary64}
use Rattle.std.specs.Float.Ieee.{mul, lt}
use Rattle.doubles.specs.Doubles.{abs_of, #0}
use Rattle.rays.specs.declared.vector.Vec3.{Vec3}
use Rattle.geometry.specs.declared.PrimitiveGeometry.{PrimitiveGeometry}
use Rattle.geometry.specs.declared.PrimitiveGeometry.TheVariants.{Plane, Disk, Sphere, Cylinder, Box}
use Rattle.geometry.specs.declared.PrimitiveGeometry.TheVariants.{ClosedCylinder}

-- along one axis: away from 0
unfoldable pub recedes_of : Float → Float → Bool
recedes_of o d = lt #0 (mul binary64 o d)

-- along one axis: away from 0, and from beyond the half size h
unfoldable pub leaves_of : Float → Float → Float → Bool
leaves_of o d h = recedes_of o d && lt h (abs_of o)

-- the shape lies behind the ray; false says nothing
unfoldable pub is_behind_of : PrimitiveGeometry → Vec3 → Vec3 → Bool
is_behind_of (Plane w h) o d = recedes_of o.z d.z
is_behind_of (Disk outer inner) o d = recedes_of o.z d.z
is_behind_of (Sphere radius) o d = false
is_behind_of (Cylinder radius half) o d = false
is_behind_of (Box hx hy hz) o d = leaves_of o.x d.x hx || (leaves_of o.y d.y hy || leaves_of o.z d.z hz)
is_behind_of (ClosedCylinder radius half) o d = false
