-- Worked examples of the closed cylinder of radius 1 and half length 2.
use Rattle.std.specs.Prelude.{None}
use mathlib.Core.Path.{◌≡◌, refl}
use lib.Ieee.{add, sub, mul, div, neg, lt, le, of_bits, to_bits}
use Rattle.doubles.specs.Doubles.{abs_of, #0, #1, #2, #3, #5}
use Rattle.doubles.specs.Root.{sqrt_of}
use Rattle.rays.specs.declared.Ray.{Ray}
use Rattle.rays.specs.Vectors.{vec3}
use Rattle.geometry.specs.declared.PrimitiveGeometry.TheVariants.{Cylinder, ClosedCylinder}
use Rattle.geometry.specs.Hits.{hit_at, first_there}
use Rattle.geometry.specs.Flat.{reach_of, from_axis_of}
use Rattle.geometry.specs.Round.{intersect_cylinder_of, cylinder_among_of, cylinder_at_of, cylinder_roots_of, is_on_side_of, side_normal_of, solve_of}
use Rattle.geometry.specs.Closed.{side_offer_of, end_distance_of, is_on_end_of, end_offer_of, nearer_offer_of, sides_of, ends_of, closest_wall_of, wall_normal_of, wall_hit, intersect_closed_cylinder_of}
use Rattle.geometry.specs.Shapes.{intersect_local_of}
use Rattle.geometry.proofs.Marks.{upward}

-- along the axis from outside: the open one is not met, the closed one at its lower end, 3 away
pub stopped : (intersect_local_of (Cylinder #1 #2) (upward (neg #5)) ≡ None) × (intersect_local_of (ClosedCylinder #1 #2) (upward (neg #5)) ≡ hit_at #3 (vec3 #0 #0 (neg #1)))
unfolding intersect_local_of intersect_cylinder_of cylinder_among_of cylinder_at_of intersect_closed_cylinder_of closest_wall_of sides_of ends_of side_offer_of end_offer_of end_distance_of is_on_side_of is_on_end_of nearer_offer_of wall_hit wall_normal_of side_normal_of first_there cylinder_roots_of solve_of reach_of from_axis_of sqrt_of abs_of add sub mul div neg lt le of_bits to_bits
stopped = (refl, refl)

-- from its middle: at the upper end
pub left : intersect_local_of (ClosedCylinder #1 #2) (upward #0) ≡ hit_at #2 (vec3 #0 #0 #1)
unfolding intersect_local_of intersect_closed_cylinder_of closest_wall_of sides_of ends_of side_offer_of end_offer_of end_distance_of is_on_side_of is_on_end_of nearer_offer_of wall_hit wall_normal_of side_normal_of cylinder_roots_of solve_of reach_of from_axis_of sqrt_of abs_of add sub mul div neg lt le of_bits to_bits
left = refl

-- from (-2, 0, -3) along (1, 0, 1): side and lower end are both 1 away, and the side wins
abbrev rimward : Ray
rimward = record { origin = vec3 (neg #2) #0 (neg #3); direction = vec3 #1 #0 #1; wavelength_nm = #1; energy = #1 }

pub tied : intersect_local_of (ClosedCylinder #1 #2) rimward ≡ hit_at #1 (vec3 (neg #1) #0 #0)
unfolding intersect_local_of intersect_closed_cylinder_of closest_wall_of sides_of ends_of side_offer_of end_offer_of end_distance_of is_on_side_of is_on_end_of nearer_offer_of wall_hit wall_normal_of side_normal_of cylinder_roots_of solve_of reach_of from_axis_of sqrt_of abs_of add sub mul div neg lt le of_bits to_bits
tied = refl
