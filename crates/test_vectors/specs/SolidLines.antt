-- Whether a stored line agrees with the definitions that the functions equal.
use Rattle.std.specs.Prelude.{ℕ, Bool, false, cond, ◌&&◌, List, from_bits, Option, None, Some}
use Rattle.std.specs.Float.{binary64}
use Rattle.fields.specs.Number.{read_whole_of}
use Rattle.rays.specs.declared.Ray.{Ray}
use Rattle.geometry.specs.declared.LocalHit.{LocalHit}
use Rattle.geometry.specs.declared.PrimitiveGeometry.{PrimitiveGeometry}
use Rattle.geometry.specs.Shapes.{numbered_geometry_of, intersect_local_of}
use Rattle.scene.specs.declared.NonSeqHit.{NonSeqHit}
use Rattle.scene.specs.declared.NonSeqObject.{NonSeqObject}
use Rattle.scene.specs.Objects.{intersect_of}
use Rattle.test_vectors.specs.Parts.{part_in, has_shape_of, is_number, are_bits_of, double_at_of, is_double_of, vec_at_of}
use Rattle.test_vectors.specs.Parts.{is_vec_of, mat_at_of, is_dash_of}

-- ---- shape, its three sizes, origin and direction = distance and normal, or -

unfoldable pub shape_in_of : ℕ → List ℕ → ℕ → Option PrimitiveGeometry
shape_in_of n l k = let v = vec_at_of l k in numbered_geometry_of n v.x v.y v.z

unfoldable pub is_local_hit_of : List ℕ → Option LocalHit → Bool
is_local_hit_of l (Some h) = has_shape_of l 15 10 && (is_double_of (part_in l 11) h.t && is_vec_of l 12 h.normal)
is_local_hit_of l None = has_shape_of l 12 10 && is_dash_of l 11

unfoldable pub shape_agrees : List ℕ → Option PrimitiveGeometry → Bool
shape_agrees l (Some g) =
    let r : Ray = record {
      origin = vec_at_of l 4;
      direction = vec_at_of l 7;
      wavelength_nm = from_bits binary64 0;
      energy = from_bits binary64 0;
    } in
    are_bits_of l 1 10 && is_local_hit_of l (intersect_local_of g r)
shape_agrees l None = false

unfoldable pub shape_numbered : Option ℕ → List ℕ → Bool
shape_numbered (Some n) l = shape_agrees l (shape_in_of n l 1)
shape_numbered None l = false

unfoldable pub shape_line_of : List ℕ → Bool
shape_line_of l = shape_numbered (read_whole_of (part_in l 0)) l

-- ---- shape, active, its three sizes, matrix and inverse, a ray's eight doubles = t, point, normal, geometric normal,
-- 1 if entering; or -

unfoldable pub object_in_of : PrimitiveGeometry → List ℕ → NonSeqObject
object_in_of g l =
    record {
      id = record { 0 = 0 };
      geometry = g;
      transform = record { matrix = mat_at_of l 5; inverse = mat_at_of l 21 };
      is_active = is_number (read_whole_of (part_in l 1)) 1;
    }

unfoldable pub ray_in_of : List ℕ → Ray
ray_in_of l =
    record {
      origin = vec_at_of l 37;
      direction = vec_at_of l 40;
      wavelength_nm = double_at_of l 43;
      energy = double_at_of l 44;
    }

unfoldable pub is_hit_at_of : List ℕ → NonSeqHit → Bool
is_hit_at_of l h =
    is_double_of (part_in l 46) h.t
    && (is_vec_of l 47 h.point
    && (is_vec_of l 50 h.normal &&
    (is_vec_of l 53 h.geometric_normal && is_number (read_whole_of (part_in l 56)) (cond h.entering 1 0))))

unfoldable pub is_hit_of : List ℕ → Option NonSeqHit → Bool
is_hit_of l (Some h) = has_shape_of l 57 45 && is_hit_at_of l h
is_hit_of l None = has_shape_of l 47 45 && is_dash_of l 46

unfoldable pub solid_agrees : List ℕ → Option PrimitiveGeometry → Bool
solid_agrees l (Some g) =
    let o = object_in_of g l in
    (is_number (read_whole_of (part_in l 1)) (cond o.is_active 1 0) && are_bits_of l 2 45) && is_hit_of l
    (intersect_of o (ray_in_of l))
solid_agrees l None = false

unfoldable pub solid_numbered : Option ℕ → List ℕ → Bool
solid_numbered (Some n) l = solid_agrees l (shape_in_of n l 2)
solid_numbered None l = false

unfoldable pub solid_line_of : List ℕ → Bool
solid_line_of l = solid_numbered (read_whole_of (part_in l 0)) l
