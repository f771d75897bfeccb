-- Plane and Disk, on z = 0 with the normal along z.
use Rattle.std.specs.Prelude.{Float, cond, ◌&&◌, Option, None, Some}
use Rattle.std.specs.Float.{binary64}
use Rattle.std.specs.Float.Ieee.{add, mul, div, neg, lt, le}
use Rattle.doubles.specs.Doubles.{abs_of, #0, #1}
use Rattle.rays.specs.declared.Ray.{Ray}
use Rattle.rays.specs.Rays.{min_local_distance}
use Rattle.rays.specs.Vectors.{vec3}
use Rattle.geometry.specs.declared.LocalHit.{LocalHit}
use Rattle.geometry.specs.Hits.{parallel, hit_at}

-- one coordinate at a distance: o + t * d
unfoldable pub reach_of : Float → Float → Float → Float
reach_of o d t = add binary64 o (mul binary64 t d)

-- the squared distance from the z axis at a distance along a ray
unfoldable pub from_axis_of : Ray → Float → Float
from_axis_of r t =
    let x = reach_of r.origin.x r.direction.x t in
    let y = reach_of r.origin.y r.direction.y t in
    add binary64 (mul binary64 x x) (mul binary64 y y)

-- the distance to z = 0; a direction of exactly 1e-12 is not parallel
unfoldable pub flat_distance_of : Ray → Option Float
flat_distance_of r =
    let t = div binary64 (neg r.origin.z) r.direction.z in
    cond (lt (abs_of r.direction.z) parallel) None (cond (le t min_local_distance) None (Some t))

unfoldable pub flat_hit_of : Float → Option LocalHit
flat_hit_of t = hit_at t (vec3 #0 #0 #1)

-- exactly a half size is inside
unfoldable pub plane_at_of : Float → Float → Ray → Float → Option LocalHit
plane_at_of w h r t =
    let x = reach_of r.origin.x r.direction.x t in
    let y = reach_of r.origin.y r.direction.y t in
    cond (le (abs_of x) w && le (abs_of y) h) (flat_hit_of t) None

unfoldable pub plane_from : Float → Float → Ray → Option Float → Option LocalHit
plane_from w h r (Some t) = plane_at_of w h r t
plane_from w h r None = None

unfoldable pub intersect_plane_of : Float → Float → Ray → Option LocalHit
intersect_plane_of w h r = plane_from w h r (flat_distance_of r)

-- the squared distance from the axis lies from the square of the inner radius to that of the outer one
unfoldable pub disk_at_of : Float → Float → Ray → Float → Option LocalHit
disk_at_of outer inner r t =
    let r2 = from_axis_of r t in
    cond (le (mul binary64 inner inner) r2 && le r2 (mul binary64 outer outer)) (flat_hit_of t) None

unfoldable pub disk_from : Float → Float → Ray → Option Float → Option LocalHit
disk_from outer inner r (Some t) = disk_at_of outer inner r t
disk_from outer inner r None = None

unfoldable pub intersect_disk_of : Float → Float → Ray → Option LocalHit
intersect_disk_of outer inner r = disk_from outer inner r (flat_distance_of r)
