-- Where a ray in the world meets a shape, in the shape's coordinates, by the inverse of the shape's matrix.
use Rattle.std.specs.Prelude.{Option, None, Some}
use Rattle.rays.specs.declared.vector.Vec3.{Vec3}
use Rattle.rays.specs.declared.matrix.Mat4.{Mat4}
use Rattle.rays.specs.declared.Ray.{Ray}
use Rattle.rays.specs.Matrices.{transform_point_of, transform_direction_of}
use Rattle.rays.specs.Rays.{new_ray_of, at_of}
use Rattle.geometry.specs.declared.LocalHit.{LocalHit}
use Rattle.geometry.specs.declared.PrimitiveGeometry.{PrimitiveGeometry}
use Rattle.geometry.specs.declared.contact.Contact.{Contact}
use Rattle.geometry.specs.Shapes.{intersect_local_of}
use Rattle.geometry.specs.Transforms.{unit_of, made_ray}

unfoldable pub ray_by : Vec3 → Ray → Option Vec3 → Option Ray
ray_by o r (Some d) = made_ray (new_ray_of o d r.wavelength_nm r.energy)
ray_by o r None = None

-- from o along d, which is made a unit vector; wavelength and power are r's
unfoldable pub ray_from_of : Vec3 → Vec3 → Ray → Option Ray
ray_from_of o d r = ray_by o r (unit_of d)

unfoldable pub meet_by : Ray → Option LocalHit → Option Contact
meet_by q (Some h) = Some (record { point = at_of q h.t; hit = h })
meet_by q None = None

-- q is the ray in the shape's coordinates, if it can be made
unfoldable pub meet_along_of : PrimitiveGeometry → Option Ray → Option Contact
meet_along_of g (Some q) = meet_by q (intersect_local_of g q)
meet_along_of g None = None

unfoldable pub meet_of : PrimitiveGeometry → Mat4 → Ray → Option Contact
meet_of g w r = meet_along_of g (ray_from_of (transform_point_of w r.origin) (transform_direction_of w r.direction) r)
