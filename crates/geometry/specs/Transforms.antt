-- Rays into a shape's own coordinates, normals back into the world. What can't be made is none.
use Rattle.std.specs.Float.Ieee.{le}
use Rattle.std.specs.Prelude.{cond, Option, None, Some}
use Rattle.doubles.specs.Doubles.{is_finite_of}
use Rattle.error.specs.Refusals.{Answer, value, refusal}
use Rattle.rays.specs.declared.vector.Vec3.{Vec3}
use Rattle.rays.specs.declared.Ray.{Ray}
use Rattle.rays.specs.Vectors.{norm_of, min_length, divide_of}
use Rattle.rays.specs.Matrices.{transform_point_of, transform_direction_of, transform_normal_of}
use Rattle.rays.specs.Rays.{new_ray_of}
use Rattle.geometry.specs.declared.transform.Transform3D.{Transform3D}

-- v divided by its length; none for a length at most 1e-15 or not finite
unfoldable pub unit_of : Vec3 → Option Vec3
unit_of v =
    let l = norm_of v in
    cond (le l min_length) None (cond (is_finite_of l) (Some (divide_of v l)) None)

unfoldable pub made_ray : Answer Ray → Option Ray
made_ray (value r) = Some r
made_ray (refusal n) = None

unfoldable pub ray_along : Transform3D → Ray → Option Vec3 → Option Ray
ray_along t r (Some d) =
    made_ray (new_ray_of (transform_point_of t.inverse r.origin) d r.wavelength_nm r.energy)
ray_along t r None = None

-- the ray in the shape's coordinates: its direction is made a unit vector there
unfoldable pub inverse_transform_ray_of : Transform3D → Ray → Option Ray
inverse_transform_ray_of t r = ray_along t r (unit_of (transform_direction_of t.inverse r.direction))

-- the unit normal in the world
unfoldable pub world_normal_of : Transform3D → Vec3 → Option Vec3
world_normal_of t n = unit_of (transform_normal_of t.inverse n)
