-- The ray that a surface sends on, before it is looked at whether its parts are finite.
use mathlib.Core.Path.{◌≡◌, refl}
use mathlib.Core.Bool.{true, cond}
use lib.Ieee.{Float}
use Rattle.error.specs.Refusals.{value, refusal}
use Rattle.rays.specs.declared.vector.Vec3.{Vec3}
use Rattle.rays.specs.declared.Ray.{Ray}
use Rattle.rays.specs.Rays.{new_ray_of, is_finite_ray_of}
use Rattle.surface.specs.Fresnel.{leaving_of}
use Rattle.theorems_marks.specs.Marks.{sent_ray}

pub leaving_is : (r : Ray) (p d : Vec3) (power : Float) → leaving_of r p d power ≡ cond (is_finite_ray_of (sent_ray r p d power)) (value (sent_ray r p d power)) (refusal 16)
unfolding leaving_of new_ray_of
leaving_is r p d power = refl

pub sent : (r : Ray) (p d : Vec3) (power : Float) → is_finite_ray_of (sent_ray r p d power) ≡ true → leaving_of r p d power ≡ value (sent_ray r p d power)
unfolding leaving_of new_ray_of
sent r p d power e = rw e
