-- A detector's face, and where a ray crosses it.
use Rattle.std.specs.Prelude.{cond, ◌&&◌, Float, Option, None, Some}
use Rattle.std.specs.Float.{binary64}
use Rattle.std.specs.Float.Ieee.{of_bits, mul, div, lt, le}
use Rattle.doubles.specs.Doubles.{abs_of}
use Rattle.error.specs.Refusals.{Checked, passed, refused_at, after}
use Rattle.rays.specs.declared.vector.Vec3.{Vec3}
use Rattle.rays.specs.declared.Ray.{Ray}
use Rattle.rays.specs.Vectors.{dot_of, cross_of, minus_of, scale_of, normalize_of}
use Rattle.rays.specs.Rays.{min_local_distance, at_of, is_valid_ray_of}
use Rattle.detector.specs.declared.Detector2D.{Detector2D}
use Rattle.detector.specs.declared.face.Face.{Face}
use Rattle.detector.specs.declared.face.Crossing.{Crossing}
use Rattle.detector.specs.Checks.{check_detector_of}

-- unit up less its part along the unit normal, made a unit vector
unfoldable pub orthogonal_of : Vec3 → Vec3 → Vec3
orthogonal_of n up = let u = normalize_of up in normalize_of (minus_of u (scale_of n (dot_of n u)))

abbrev half : Float → Float
half x = mul binary64 x (of_bits binary64 0x3fe0000000000000)

-- the unit normal, up made orthogonal to it, right = up × normal, and the half sizes
unfoldable pub face_of : Detector2D → Face
face_of d =
    let n = normalize_of d.normal in
    let up = orthogonal_of n d.up in
    record {
      center = d.center;
      normal = n;
      up = up;
      right = normalize_of (cross_of up n);
      half_width = half d.width_mm;
      half_height = half d.height_mm;
    }

-- what is crossed at a distance; exactly half a size is inside
unfoldable pub across_of : Face → Ray → Float → Option Crossing
across_of f r t =
    let o = minus_of (at_of r t) f.center in
    let x = dot_of o f.right in
    let y = dot_of o f.up in
    cond (le (abs_of x) f.half_width && le (abs_of y) f.half_height)
    (Some (record { t = t; local_x = x; local_y = y })) None

-- 1e-12: a direction whose part along the normal is below it in size is parallel to the face
abbrev parallel : Float
parallel = of_bits binary64 0x3d719799812dea11

-- both sides count; the distance is above 1e-9
unfoldable pub face_intersect_ray_of : Face → Ray → Option Crossing
face_intersect_ray_of f r =
    let along = dot_of r.direction f.normal in
    let t = div binary64 (dot_of (minus_of f.center r.origin) f.normal) along in
    cond (lt (abs_of along) parallel) None (cond (le t min_local_distance) None (across_of f r t))

-- 5 to 8 and 18, then 10, then the crossing
unfoldable pub intersect_ray_of : Detector2D → Ray → Checked (Option Crossing)
intersect_ray_of d r =
    after (check_detector_of d 0) (cond (is_valid_ray_of r) (passed (face_intersect_ray_of (face_of d) r)) (refused_at 10 0))
