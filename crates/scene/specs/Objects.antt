-- Where a ray in the world meets a solid, if anywhere.
use Rattle.std.specs.Float.{binary64}
use Rattle.std.specs.Float.Ieee.{lt, le, of_bits}
use Rattle.std.specs.Prelude.{Bool, cond, Option, None, Some}
use Rattle.rays.specs.declared.vector.Vec3.{Vec3}
use Rattle.rays.specs.declared.matrix.Mat4.{Mat4}
use Rattle.rays.specs.declared.Ray.{Ray}
use Rattle.rays.specs.Rays.{at_of, min_world_distance}
use Rattle.rays.specs.Vectors.{dot_of, minus_of, negate_of}
use Rattle.rays.specs.Matrices.{transform_point_of}
use Rattle.geometry.specs.declared.LocalHit.{LocalHit}
use Rattle.geometry.specs.declared.PrimitiveGeometry.{PrimitiveGeometry}
use Rattle.geometry.specs.declared.contact.Contact.{Contact}
use Rattle.geometry.specs.Shapes.{intersect_local_of}
use Rattle.geometry.specs.Contacts.{meet_of}
use Rattle.geometry.specs.Transforms.{inverse_transform_ray_of, world_normal_of}
use Rattle.scene.specs.declared.NonSeqObject.{NonSeqObject}
use Rattle.scene.specs.declared.NonSeqHit.{NonSeqHit}
use Rattle.scene.specs.declared.object.Approach.{Approach}

-- a point and a hit in the solid's coordinates: the distance is the world offset dotted with the direction
unfoldable pub approach_point : NonSeqObject → Ray → Vec3 → LocalHit → Option Approach
approach_point o r p h =
    let q = transform_point_of o.transform.matrix p in
    let t = dot_of (minus_of q r.origin) r.direction in
    cond (le t min_world_distance) None (Some (record { t = t; point = q; local = h }))

unfoldable pub approach_by : NonSeqObject → Ray → Ray → Option LocalHit → Option Approach
approach_by o r q (Some h) = approach_point o r (at_of q h.t) h
approach_by o r q None = None

-- q is the ray in the solid's coordinates
unfoldable pub approach_along : NonSeqObject → Ray → Ray → Option Approach
approach_along o r q = approach_by o r q (intersect_local_of o.geometry q)

unfoldable pub approach_from : NonSeqObject → Ray → Option Ray → Option Approach
approach_from o r (Some q) = approach_along o r q
approach_from o r None = None

-- an inactive solid is not met
unfoldable pub approach_of : NonSeqObject → Ray → Option Approach
approach_of o r = cond o.is_active (approach_from o r (inverse_transform_ray_of o.transform r)) None

unfoldable pub facing_of : Vec3 → Bool → Vec3
facing_of n entering = cond entering n (negate_of n)

-- n is the outward normal in the world; the ray enters where its cosine is below 0
unfoldable pub turned_of : NonSeqObject → Ray → Approach → Vec3 → NonSeqHit
turned_of o r a n =
    let entering = lt (dot_of r.direction n) (of_bits binary64 0) in
    record {
      t = a.t;
      point = a.point;
      normal = facing_of n entering;
      geometric_normal = n;
      object_id = o.id;
      entering = entering;
    }

unfoldable pub arrive_with : NonSeqObject → Ray → Approach → Option Vec3 → Option NonSeqHit
arrive_with o r a (Some n) = Some (turned_of o r a n)
arrive_with o r a None = None

unfoldable pub arrive_of : NonSeqObject → Ray → Approach → Option NonSeqHit
arrive_of o r a = arrive_with o r a (world_normal_of o.transform a.local.normal)

unfoldable pub arrive_from : NonSeqObject → Ray → Option Approach → Option NonSeqHit
arrive_from o r (Some a) = arrive_of o r a
arrive_from o r None = None

unfoldable pub intersect_of : NonSeqObject → Ray → Option NonSeqHit
intersect_of o r = arrive_from o r (approach_of o r)

-- ---- the same approach by a solid's parts: matrix m, inverse w, shape g

unfoldable pub reached_of : Mat4 → Ray → Vec3 → LocalHit → Option Approach
reached_of m r p h =
    let q = transform_point_of m p in
    let t = dot_of (minus_of q r.origin) r.direction in
    cond (le t min_world_distance) None (Some (record { t = t; point = q; local = h }))

unfoldable pub reached_by : Mat4 → Ray → Option Contact → Option Approach
reached_by m r (Some k) = reached_of m r k.point k.hit
reached_by m r None = None

unfoldable pub approach_parts : Bool → PrimitiveGeometry → Mat4 → Mat4 → Ray → Option Approach
approach_parts active g m w r = cond active (reached_by m r (meet_of g w r)) None
