-- Small scenes, worked out by the definitions.
use Rattle.std.specs.Prelude.{None, Some}
use Prim.Native.Nat.{ℕ, zero, suc}
use mathlib.Core.Path.{◌≡◌, refl}
use mathlib.Core.Bool.{true}
use mathlib.Core.List.{List, [], ◌∷◌}
use lib.Ieee.{Float, binary64, add, sub, mul, div, neg, lt, le, of_bits, to_bits}
use Rattle.doubles.specs.Doubles.{abs_of, is_finite_of, #0, #½, #1, #2, #5, #10}
use Rattle.doubles.specs.Root.{sqrt_of}
use Rattle.error.specs.Refusals.{passed, refused_at}
use Rattle.rays.specs.declared.Ray.{Ray}
use Rattle.rays.specs.declared.matrix.Mat4.{Mat4}
use Rattle.rays.specs.Rays.{at_of, new_ray_of, is_finite_ray_of, is_valid_ray_of}
use Rattle.rays.specs.Vectors.{vec3, dot_of, plus_of, minus_of, scale_of, divide_of, negate_of, norm_of, is_finite_vec_of}
use Rattle.rays.specs.Matrices.{row_times_of, times_of, transpose_of, transform_point_of, transform_direction_of, transform_normal_of}
use Rattle.geometry.specs.declared.PrimitiveGeometry.TheVariants.{Sphere}
use Rattle.geometry.specs.Hits.{first_there}
use Rattle.geometry.specs.Round.{intersect_sphere_of, sphere_among_of, sphere_at_of, solve_of}
use Rattle.geometry.specs.Shapes.{intersect_local_of}
use Rattle.geometry.specs.Transforms.{unit_of, made_ray, ray_along, inverse_transform_ray_of, world_normal_of}
use Rattle.nearest.specs.Nearest.{nearest_from, nearest_among}
use Rattle.scene.specs.declared.NonSeqObject.{NonSeqObject}
use Rattle.scene.specs.Objects.{approach_point, approach_by, approach_along, approach_from, approach_of, facing_of, turned_of, arrive_with, arrive_of, arrive_from, intersect_of}
use Rattle.scene.specs.Solids.{tags_fit_of, check_tags_of, check_solids_of}
use Rattle.scene.specs.Closest.{closest_object_of, intersect_closest_object_of}

abbrev #8 : Float
#8 = of_bits binary64 0x4020000000000000

abbrev zeros : {A : Type 0} → A → ℕ → List A
zeros a zero = []
zeros a (suc n) = a ∷ zeros a n

-- ---- refusals

-- one solid announced and none given
pub short_lists : (r : Ray) → intersect_closest_object_of [] [] 1 r ≡ refused_at 17 0
unfolding intersect_closest_object_of check_solids_of
short_lists r = refl

-- the second of two solids has shape 9
pub shape_9 : (r : Ray) → intersect_closest_object_of (zeros #0 84) (0 ∷ 0 ∷ 0 ∷ 0 ∷ 9 ∷ 0 ∷ 0 ∷ 0 ∷ []) 2 r ≡ refused_at 17 1
unfolding intersect_closest_object_of check_solids_of check_tags_of tags_fit_of
shape_9 r = refl

-- 33 solids, whatever the ray
pub too_many : (r : Ray) → intersect_closest_object_of (zeros #0 1386) (zeros 0 132) 33 r ≡ refused_at 3 0
unfolding intersect_closest_object_of check_solids_of check_tags_of tags_fit_of
too_many r = refl

-- no solids, and a ray along +z with a direction of length l
abbrev along : Float → Ray
along l = record { origin = vec3 #0 #0 #0; direction = vec3 #0 #0 l; wavelength_nm = #1; energy = #1 }

pub no_hit : intersect_closest_object_of [] [] 0 (along #1) ≡ passed None
unfolding intersect_closest_object_of check_solids_of check_tags_of closest_object_of nearest_among nearest_from is_valid_ray_of is_finite_ray_of is_finite_vec_of is_finite_of abs_of dot_of add sub mul lt le of_bits
no_hit = refl

pub long_direction : intersect_closest_object_of [] [] 0 (along #2) ≡ refused_at 10 0
unfolding intersect_closest_object_of check_solids_of check_tags_of is_valid_ray_of is_finite_ray_of is_finite_vec_of is_finite_of abs_of dot_of add sub mul lt le of_bits
long_direction = refl

-- ---- a sphere of radius 1 at (0, 0, 10), twice as long along z, met from the origin along +z: 4 away in its own coordinates, 8 in the world

-- z times k, and z more
abbrev scaled : Float → Float → Mat4
scaled k z =
    record {
      r0 = record { a = #1; b = #0; c = #0; d = #0 };
      r1 = record { a = #0; b = #1; c = #0; d = #0 };
      r2 = record { a = #0; b = #0; c = k; d = z };
      r3 = record { a = #0; b = #0; c = #0; d = #1 };
    }

abbrev long_sphere : NonSeqObject
long_sphere =
    record {
      id = record { 0 = 3 };
      geometry = Sphere #1;
      transform = record { matrix = scaled #2 #10; inverse = scaled #½ (neg #5) };
      is_active = true;
    }

pub world_distance : intersect_of long_sphere (along #1) ≡ Some (record { t = #8; point = vec3 #0 #0 #8; normal = vec3 #0 #0 (neg #1); geometric_normal = vec3 #0 #0 (neg #1); object_id = record { 0 = 3 }; entering = true })
unfolding intersect_of arrive_from arrive_of arrive_with turned_of facing_of approach_of approach_from approach_along approach_by approach_point inverse_transform_ray_of ray_along unit_of made_ray world_normal_of intersect_local_of intersect_sphere_of sphere_among_of sphere_at_of solve_of first_there row_times_of times_of transpose_of transform_point_of transform_direction_of transform_normal_of at_of new_ray_of is_finite_ray_of dot_of plus_of minus_of scale_of divide_of negate_of norm_of is_finite_vec_of sqrt_of abs_of is_finite_of add sub mul div neg lt le of_bits to_bits
world_distance = refl
