-- Box: what three pairs of parallel planes leave of a ray.
use Rattle.std.specs.Prelude.{Float, Bool, false, cond, ◌||◌, Option, None, Some}
use Rattle.std.specs.Float.{inf, binary64}
use Rattle.std.specs.Float.Ieee.{sub, mul, div, neg, lt, le}
use Rattle.doubles.specs.Doubles.{abs_of, #0, #1}
use Rattle.rays.specs.declared.vector.Vec3.{Vec3}
use Rattle.rays.specs.declared.Ray.{Ray}
use Rattle.rays.specs.Rays.{min_local_distance}
use Rattle.rays.specs.Vectors.{vec3}
use Rattle.geometry.specs.declared.LocalHit.{LocalHit}
use Rattle.geometry.specs.declared.slab.Side.{Side}
use Rattle.geometry.specs.declared.slab.Side.TheVariants.{MinusX, PlusX, MinusY, PlusY, MinusZ, PlusZ}
use Rattle.geometry.specs.Hits.{parallel, hit_at}

abbrev #-1 : Float
#-1 = neg #1

-- a side's outward normal
unfoldable pub normal_of : Side → Vec3
normal_of MinusX = vec3 #-1 #0 #0
normal_of PlusX = vec3 #1 #0 #0
normal_of MinusY = vec3 #0 #-1 #0
normal_of PlusY = vec3 #0 #1 #0
normal_of MinusZ = vec3 #0 #0 #-1
normal_of PlusZ = vec3 #0 #0 #1

-- zeros for a normal where no side set the end
unfoldable pub normal_by : Option Side → Vec3
normal_by (Some side) = normal_of side
normal_by None = vec3 #0 #0 #0

unfoldable pub side_hit_of : Float → Option Side → Option LocalHit
side_hit_of t side = hit_at t (normal_by side)

-- the distances at which a ray is between the planes so far, and the sides that set them
pub record Interval : Type 0 where
  pub near : Float
  pub far : Float
  pub near_side : Option Side
  pub far_side : Option Side

-- all of the ray, before any axis
unfoldable pub whole_ray : Interval
whole_ray = record { near = neg (inf false); far = inf false; near_side = None; far_side = None }

-- the near end moved up to t where that is farther: on a tie the earlier axis stays
unfoldable pub moved_near : Interval → Float → Side → Interval
moved_near s t side =
    cond (lt s.near t) (record { near = t; far = s.far; near_side = Some side; far_side = s.far_side }) s

unfoldable pub moved_far : Interval → Float → Side → Interval
moved_far s t side =
    cond (lt t s.far) (record { near = s.near; far = t; near_side = s.near_side; far_side = Some side }) s

-- one axis: origin o, direction d, half size h and its two sides; a direction of exactly 1e-12 is parallel, and then
-- the axis cuts nothing
unfoldable pub cut_by : Interval → Float → Float → Float → Side → Side → Interval
cut_by s o d h minus plus =
    let i = div binary64 #1 d in
    let t1 = mul binary64 (sub binary64 (neg h) o) i in
    let t2 = mul binary64 (sub binary64 h o) i in
    cond (lt parallel (abs_of d))
    (cond (le #0 i) (moved_far (moved_near s t1 minus) t2 plus) (moved_far (moved_near s t2 plus) t1 minus)) s

-- parallel to an axis's planes and not between them
unfoldable pub outside_of : Float → Float → Float → Bool
outside_of o d h = cond (lt parallel (abs_of d)) false (lt h (abs_of o))

unfoldable pub inside_of : Float → Float → Float → Ray → Interval
inside_of hx hy hz r =
    let x = cut_by whole_ray r.origin.x r.direction.x hx MinusX PlusX in
    let y = cut_by x r.origin.y r.direction.y hy MinusY PlusY in
    cut_by y r.origin.z r.direction.z hz MinusZ PlusZ

-- the near end, or the far one where the near end is not ahead
unfoldable pub hit_within : Interval → Option LocalHit
hit_within s =
    cond (lt s.far s.near) None
    (cond (le s.far min_local_distance) None
    (cond (lt min_local_distance s.near) (side_hit_of s.near s.near_side) (side_hit_of s.far s.far_side)))

unfoldable pub intersect_box_of : Float → Float → Float → Ray → Option LocalHit
intersect_box_of hx hy hz r =
    cond
    (outside_of r.origin.x r.direction.x hx ||
    (outside_of r.origin.y r.direction.y hy || outside_of r.origin.z r.direction.z hz))
    None
    (hit_within (inside_of hx hy hz r))
