-- The shapes by their numbers, and where a ray meets one.
use Rattle.std.specs.Prelude.{ℕ, eqb, Float, cond, Option, None, Some}
use Rattle.rays.specs.declared.Ray.{Ray}
use Rattle.geometry.specs.declared.LocalHit.{LocalHit}
use Rattle.geometry.specs.declared.PrimitiveGeometry.{PrimitiveGeometry}
use Rattle.geometry.specs.declared.PrimitiveGeometry.TheVariants.{Plane, Disk, Sphere, Cylinder, Box}
use Rattle.geometry.specs.declared.PrimitiveGeometry.TheVariants.{ClosedCylinder}
use Rattle.geometry.specs.Flat.{intersect_plane_of, intersect_disk_of}
use Rattle.geometry.specs.Round.{intersect_sphere_of, intersect_cylinder_of}
use Rattle.geometry.specs.Slabs.{intersect_box_of}
use Rattle.geometry.specs.Closed.{intersect_closed_cylinder_of}

-- shapes 0 to 4 in document 01's order, then document 02's, and none beyond; sizes in the order of
-- the Rust's fields, of shape 5 as of shape 3
abbrev pub last_shape : ℕ
last_shape = 5

unfoldable pub numbered_geometry_of : ℕ → Float → Float → Float → Option PrimitiveGeometry
numbered_geometry_of k p q r =
    cond (eqb k 0) (Some (Plane p q)) (cond (eqb k 1) (Some (Disk p q))
    (cond (eqb k 2) (Some (Sphere p)) (cond (eqb k 3) (Some (Cylinder p q)) (cond (eqb k 4) (Some (Box p q r))
    (cond (eqb k 5) (Some (ClosedCylinder p q)) None)))))

-- where a ray meets a shape: the distance and the outward normal, or none
unfoldable pub intersect_local_of : PrimitiveGeometry → Ray → Option LocalHit
intersect_local_of (Plane w h) r = intersect_plane_of w h r
intersect_local_of (Disk outer inner) r = intersect_disk_of outer inner r
intersect_local_of (Sphere radius) r = intersect_sphere_of radius r
intersect_local_of (Cylinder radius half) r = intersect_cylinder_of radius half r
intersect_local_of (Box hx hy hz) r = intersect_box_of hx hy hz r
intersect_local_of (ClosedCylinder radius half) r = intersect_closed_cylinder_of radius half r
