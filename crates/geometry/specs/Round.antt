-- Sphere and Cylinder: the candidates are the two roots of a t² + b t + c, tried in this order.
use Rattle.std.specs.Prelude.{Float, Bool, cond, ◌&&◌, Option, None, Some}
use Rattle.std.specs.Float.{binary64}
use Rattle.std.specs.Float.Ieee.{add, sub, mul, div, neg, lt, le}
use Rattle.doubles.specs.Doubles.{abs_of, #2, #4, #0}
use Rattle.doubles.specs.Root.{sqrt_of}
use Rattle.rays.specs.declared.vector.Vec3.{Vec3}
use Rattle.rays.specs.declared.Ray.{Ray}
use Rattle.rays.specs.Rays.{min_local_distance, at_of}
use Rattle.rays.specs.Vectors.{vec3, dot_of, divide_of}
use Rattle.geometry.specs.declared.LocalHit.{LocalHit}
use Rattle.geometry.specs.declared.round.Roots.{Roots}
use Rattle.geometry.specs.Hits.{parallel, hit_at, first_there}
use Rattle.geometry.specs.Flat.{reach_of}

unfoldable pub solve_of : Float → Float → Float → Option Roots
solve_of a b c =
    let disc = sub binary64 (mul binary64 b b) (mul binary64 (mul binary64 #4 a) c) in
    let q = sqrt_of disc in
    cond (lt disc #0) None
    (Some
    (record {
      first = div binary64 (sub binary64 (neg b) q) (mul binary64 #2 a);
      second = div binary64 (add binary64 (neg b) q) (mul binary64 #2 a);
    }))

unfoldable pub sphere_at_of : Float → Ray → Float → Option LocalHit
sphere_at_of radius r t = cond (lt min_local_distance t) (hit_at t (divide_of (at_of r t) radius)) None

unfoldable pub sphere_among_of : Float → Ray → Option Roots → Option LocalHit
sphere_among_of radius r (Some c) = first_there (sphere_at_of radius r c.first) (sphere_at_of radius r c.second)
sphere_among_of radius r None = None

-- a negative radius counts as its absolute value
unfoldable pub intersect_sphere_of : Float → Ray → Option LocalHit
intersect_sphere_of radius r =
    let s = abs_of radius in
    let a = dot_of r.direction r.direction in
    let b = mul binary64 #2 (dot_of r.origin r.direction) in
    let c = sub binary64 (dot_of r.origin r.origin) (mul binary64 s s) in
    sphere_among_of s r (solve_of a b c)

-- the normal of a cylinder's side at a distance along a ray; a negative radius turns it round
unfoldable pub side_normal_of : Float → Ray → Float → Vec3
side_normal_of radius r t =
    let x = reach_of r.origin.x r.direction.x t in
    let y = reach_of r.origin.y r.direction.y t in
    vec3 (div binary64 x radius) (div binary64 y radius) #0

-- a distance above 1e-9 whose z is at most the half length in size
unfoldable pub is_on_side_of : Float → Ray → Float → Bool
is_on_side_of half r t = lt min_local_distance t && le (abs_of (reach_of r.origin.z r.direction.z t)) half

unfoldable pub cylinder_at_of : Float → Float → Ray → Float → Option LocalHit
cylinder_at_of radius half r t = cond (is_on_side_of half r t) (hit_at t (side_normal_of radius r t)) None

unfoldable pub cylinder_among_of : Float → Float → Ray → Option Roots → Option LocalHit
cylinder_among_of radius half r (Some c) =
    first_there (cylinder_at_of radius half r c.first) (cylinder_at_of radius half r c.second)
cylinder_among_of radius half r None = None

-- none where the squared direction across the axis is below 1e-12
unfoldable pub cylinder_roots_of : Float → Ray → Option Roots
cylinder_roots_of radius r =
    let ox = r.origin.x in
    let oy = r.origin.y in
    let dx = r.direction.x in
    let dy = r.direction.y in
    let a = add binary64 (mul binary64 dx dx) (mul binary64 dy dy) in
    let b = mul binary64 #2 (add binary64 (mul binary64 ox dx) (mul binary64 oy dy)) in
    let c = sub binary64 (add binary64 (mul binary64 ox ox) (mul binary64 oy oy)) (mul binary64 radius radius) in
    cond (lt a parallel) None (solve_of a b c)

unfoldable pub intersect_cylinder_of : Float → Float → Ray → Option LocalHit
intersect_cylinder_of radius half r = cylinder_among_of radius half r (cylinder_roots_of radius r)
