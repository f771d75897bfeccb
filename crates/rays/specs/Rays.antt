-- Rays, and the three distances that belong to them.
use Rattle.std.specs.Prelude.{Bool, cond, ◌&&◌, Float}
use Rattle.std.specs.Float.{binary64}
use Rattle.std.specs.Float.Ieee.{of_bits, sub, le}
use Rattle.doubles.specs.Doubles.{abs_of, is_finite_of}
use Rattle.error.specs.Refusals.{Answer, value, refusal}
use Rattle.rays.specs.declared.vector.Vec3.{Vec3}
use Rattle.rays.specs.declared.Ray.{Ray}
use Rattle.rays.specs.Vectors.{dot_of, plus_of, scale_of, is_finite_vec_of}

-- 1e-9, 1e-8 and 1e-6 as doubles
abbrev pub min_local_distance : Float
min_local_distance = of_bits binary64 0x3e112e0be826d695

abbrev pub min_world_distance : Float
min_world_distance = of_bits binary64 0x3e45798ee2308c3a

abbrev pub offset : Float
offset = of_bits binary64 0x3eb0c6f7a0b5ed8d

-- origin plus direction times distance
unfoldable pub at_of : Ray → Float → Vec3
at_of r t = plus_of r.origin (scale_of r.direction t)

-- all eight parts
unfoldable pub is_finite_ray_of : Ray → Bool
is_finite_ray_of r =
    is_finite_vec_of r.origin && is_finite_vec_of r.direction && is_finite_of r.wavelength_nm && is_finite_of
    r.energy

-- a ray that may be given: what 10 does not refuse
unfoldable pub is_valid_ray_of : Ray → Bool
is_valid_ray_of r =
    let off = abs_of (sub binary64 (dot_of r.direction r.direction) (of_bits binary64 0x3ff0000000000000)) in
    is_finite_ray_of r && le (of_bits binary64 0) r.energy && le off (of_bits binary64 0x3e112e0be826d695)

-- building a ray stores its parts, and refuses a part that isn't finite
unfoldable pub new_ray_of : Vec3 → Vec3 → Float → Float → Answer Ray
new_ray_of o d w p =
    let r : Ray = record { origin = o; direction = d; wavelength_nm = w; energy = p } in
    cond (is_finite_ray_of r) (value r) (refusal 16)
