-- The ray in a shape's coordinates, by the inverse matrix alone. Assumes nothing.
use Rattle.std.specs.Prelude.{Option, None, Some}
use mathlib.Core.Path.{◌≡◌, refl, ap, ◌∙◌}
use Rattle.rays.specs.declared.vector.Vec3.{Vec3}
use Rattle.rays.specs.declared.Ray.{Ray}
use Rattle.rays.specs.Matrices.{transform_point_of, transform_direction_of}
use Rattle.geometry.specs.declared.transform.Transform3D.{Transform3D}
use Rattle.geometry.specs.Transforms.{unit_of, ray_along, inverse_transform_ray_of}
use Rattle.geometry.specs.Contacts.{ray_by, ray_from_of}

by_is : (t : Transform3D) (r : Ray) (d : Option Vec3) → ray_by (transform_point_of t.inverse r.origin) r d ≡ ray_along t r d
unfolding ray_by ray_along
by_is t r (Some d) = refl
by_is t r None = refl

pub from_is : (t : Transform3D) (r : Ray) → ray_from_of (transform_point_of t.inverse r.origin) (transform_direction_of t.inverse r.direction) r ≡ inverse_transform_ray_of t r
unfolding ray_from_of inverse_transform_ray_of
from_is t r = by_is t r (unit_of (transform_direction_of t.inverse r.direction))

pub along_is : (t : Transform3D) (r : Ray) (o d : Vec3) (q : Option Ray) → o ≡ transform_point_of t.inverse r.origin → d ≡ transform_direction_of t.inverse r.direction → q ≡ ray_from_of o d r → q ≡ inverse_transform_ray_of t r
along_is t r o d q p e f = f ∙ ap (λ (v : Vec3). ray_from_of v d r) p ∙ ap (λ (v : Vec3). ray_from_of (transform_point_of t.inverse r.origin) v r) e ∙ from_is t r
