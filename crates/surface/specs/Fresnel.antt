-- Reflection and refraction: Snell's law and Fresnel's equations for unpolarised light (M. Born and E. Wolf, Principles
-- of Optics, 1.5). The order of the operations is trace.rs's.
use Rattle.std.specs.Prelude.{cond, Float}
use Rattle.std.specs.Float.{binary64}
use Rattle.std.specs.Float.Ieee.{add, sub, mul, div, neg, le}
use Rattle.doubles.specs.Doubles.{clamp_of, max_zero_of, #0, #½, #1, #2}
use Rattle.doubles.specs.Root.{sqrt_of}
use Rattle.error.specs.Refusals.{Answer, value, refusal}
use Rattle.rays.specs.declared.vector.Vec3.{Vec3}
use Rattle.rays.specs.declared.Ray.{Ray}
use Rattle.rays.specs.Vectors.{dot_of, plus_of, minus_of, scale_of, normalize_of}
use Rattle.rays.specs.Rays.{offset, new_ray_of}
use Rattle.scene.specs.declared.NonSeqHit.{NonSeqHit}
use Rattle.surface.specs.declared.FresnelInteraction.{FresnelInteraction}
use Rattle.surface.specs.declared.FresnelInteraction.TheVariants.{Total, Split}

-- a ray along d that starts 1e-6 from p, with the wavelength of r; 16 for a part that isn't finite
unfoldable pub leaving_of : Ray → Vec3 → Vec3 → Float → Answer Ray
leaving_of r p d power = new_ray_of (plus_of p (scale_of d offset)) d r.wavelength_nm power

-- the cosine of the angle of incidence; n is the normal on the side that the ray comes from
unfoldable pub cosine_of : Vec3 → Vec3 → Float
cosine_of d n = clamp_of (neg (dot_of d n)) #0 #1

-- Snell's law: the squared cosine of the angle of refraction, 1 - (n₁ / n₂)² sin² θ₁
unfoldable pub radicand_of : Float → Float → Float
radicand_of eta c1 =
    sub binary64 #1 (mul binary64 (mul binary64 eta eta) (max_zero_of (sub binary64 #1 (mul binary64 c1 c1))))

unfoldable pub reflected_direction_of : Vec3 → Vec3 → Float → Vec3
reflected_direction_of d n c1 = normalize_of (plus_of d (scale_of n (mul binary64 #2 c1)))

unfoldable pub refracted_direction_of : Vec3 → Vec3 → Float → Float → Float → Vec3
refracted_direction_of d n eta c1 c2 =
    normalize_of (plus_of (scale_of d eta) (scale_of n (sub binary64 (mul binary64 eta c1) c2)))

-- Fresnel's equations: the mean of the squared amplitudes across the plane of incidence and in it
unfoldable pub amplitude_of : Float → Float → Float
amplitude_of a b = div binary64 (sub binary64 a b) (add binary64 a b)

unfoldable pub reflectance_of : Float → Float → Float → Float → Float
reflectance_of n1 n2 c1 c2 =
    let rs = amplitude_of (mul binary64 n1 c1) (mul binary64 n2 c2) in
    let rp = amplitude_of (mul binary64 n2 c1) (mul binary64 n1 c2) in
    clamp_of (mul binary64 #½ (add binary64 (mul binary64 rs rs) (mul binary64 rp rp))) #0 #1

-- what comes of a ray at a clear surface: all of it reflected, or a reflected and a transmitted ray
abbrev pub total_of : Answer Ray → Answer FresnelInteraction
total_of (value r) = value (Total r)
total_of (refusal n) = refusal n

abbrev pub both_of : Answer Ray → Answer Ray → Answer FresnelInteraction
both_of (value r) (value t) = value (Split r t)
both_of (value r) (refusal n) = refusal n
both_of (refusal n) t = refusal n

-- a radicand above 0, or NaN: eta is n₁ / n₂, c1 the cosine of the angle of incidence
unfoldable pub refract_of : Ray → NonSeqHit → Float → Float → Float → Float → Float → Answer FresnelInteraction
refract_of r h n1 n2 eta c1 power =
    let c2 = sqrt_of (radicand_of eta c1) in
    let f = reflectance_of n1 n2 c1 c2 in
    both_of (leaving_of r h.point (reflected_direction_of r.direction h.normal c1) (mul binary64 power f))
    (leaving_of r h.point (refracted_direction_of r.direction h.normal eta c1 c2)
    (mul binary64 power (sub binary64 #1 f)))

-- a radicand at most 0 is total reflection; both rays are made before any threshold is looked at
unfoldable pub compute_snell_fresnel_interaction_of : Ray → NonSeqHit → Float → Float → Float → Answer FresnelInteraction
compute_snell_fresnel_interaction_of r h n1 n2 power =
    let c1 = cosine_of r.direction h.normal in
    let eta = div binary64 n1 n2 in
    cond (le (radicand_of eta c1) #0)
    (total_of (leaving_of r h.point (reflected_direction_of r.direction h.normal c1) power))
    (refract_of r h n1 n2 eta c1 power)

-- ---- mirrors

-- the power that a mirror sends on; rho is its reflectance
unfoldable pub mirrored_power_of : Float → Float → Float
mirrored_power_of power rho = mul binary64 power (clamp_of rho #0 #1)

-- the ray that it sends
unfoldable pub mirrored_of : Ray → NonSeqHit → Float → Answer Ray
mirrored_of r h power =
    let d = normalize_of (minus_of r.direction
    (scale_of h.normal (mul binary64 #2 (dot_of r.direction h.normal)))) in
    leaving_of r h.point d power
