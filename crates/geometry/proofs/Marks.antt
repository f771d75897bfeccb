-- Document 01's marked facts M3 to M5, of the definitions.
use Rattle.std.specs.Prelude.{None}
use mathlib.Core.Path.{◌≡◌, refl}
use lib.Ieee.{Float, add, sub, mul, div, neg, lt, le, of_bits, to_bits}
use Rattle.doubles.specs.Doubles.{abs_of, #4, #5, #0, #1}
use Rattle.doubles.specs.Root.{sqrt_of}
use Rattle.rays.specs.declared.Ray.{Ray}
use Rattle.rays.specs.Rays.{at_of}
use Rattle.rays.specs.Vectors.{vec3, dot_of, plus_of, scale_of, divide_of}
use Rattle.geometry.specs.declared.PrimitiveGeometry.TheVariants.{Plane, Sphere, Box}
use Rattle.geometry.specs.Hits.{hit_at, first_there}
use Rattle.geometry.specs.Flat.{intersect_plane_of, plane_from, flat_distance_of, plane_at_of, flat_hit_of, reach_of}
use Rattle.geometry.specs.Round.{intersect_sphere_of, sphere_among_of, sphere_at_of, solve_of}
use Rattle.geometry.specs.Slabs.{intersect_box_of, inside_of, outside_of, cut_by, moved_near, moved_far, whole_ray, hit_within, side_hit_of, normal_of, normal_by}
use Rattle.geometry.specs.Shapes.{intersect_local_of}

-- from (0, 0, z) along +z
abbrev pub upward : Float → Ray
upward z = record { origin = vec3 #0 #0 z; direction = vec3 #0 #0 #1; wavelength_nm = #1; energy = #1 }

-- Plane 1 by 1 from (0,0,-5) along +z: 5; from z 0: none
pub M3 : (intersect_local_of (Plane #1 #1) (upward (neg #5)) ≡ hit_at #5 (vec3 #0 #0 #1)) × (intersect_local_of (Plane #1 #1) (upward #0) ≡ None)
unfolding intersect_local_of intersect_plane_of plane_from flat_distance_of plane_at_of flat_hit_of reach_of abs_of add sub mul div neg lt le of_bits
M3 = (refl, refl)

-- Sphere 1, +z, from (0,0,-5): 4, normal (0,0,-1); from its centre: 1
pub M4 : (intersect_local_of (Sphere #1) (upward (neg #5)) ≡ hit_at #4 (vec3 #0 #0 (neg #1))) × (intersect_local_of (Sphere #1) (upward #0) ≡ hit_at #1 (vec3 #0 #0 #1))
unfolding intersect_local_of intersect_sphere_of sphere_among_of sphere_at_of solve_of first_there at_of dot_of plus_of scale_of divide_of sqrt_of abs_of add sub mul div neg lt le of_bits to_bits
M4 = (refl, refl)

-- Box of half 1, +z, from (0,0,-5): 4
pub M5 : intersect_local_of (Box #1 #1 #1) (upward (neg #5)) ≡ hit_at #4 (vec3 #0 #0 (neg #1))
unfolding intersect_local_of intersect_box_of inside_of outside_of cut_by moved_near moved_far whole_ray hit_within side_hit_of normal_of normal_by abs_of add sub mul div neg lt le of_bits
M5 = refl
