-- Document 01's marked facts M1 to M11 hold. Assumes nothing.
use mathlib.Core.Path.{◌≡◌, refl, ◌∙◌}
use mathlib.Core.Logic.{◌⊎◌, inl, inr}
use mathlib.Core.Bool.{true, false}
use lib.Ieee.{Float, binary64, add, sub, mul, div, neg, lt, le, eq, of_bits, to_bits}
use Rattle.doubles.specs.Doubles.{clamp_of, max_zero_of, is_finite_of, #0, #½, #1, #3, #5}
use Rattle.doubles.specs.Root.{sqrt_of}
use Rattle.error.specs.Refusals.{value}
use Rattle.rays.specs.declared.vector.Vec3.{Vec3}
use Rattle.rays.specs.declared.Ray.{Ray}
use Rattle.rays.specs.Vectors.{dot_of, plus_of, scale_of, divide_of, norm_of, normalize_of, is_finite_vec_of}
use Rattle.rays.specs.Rays.{is_finite_ray_of}
use Rattle.source.specs.Random.{new_of, next_u64_of, next_state, scrambled}
use Rattle.geometry.proofs.Marks as geometry
use Rattle.scene.specs.declared.NonSeqHit.{NonSeqHit}
use Rattle.surface.specs.Fresnel.{leaving_of, cosine_of, radicand_of, reflected_direction_of, refracted_direction_of, amplitude_of, reflectance_of, both_of, refract_of, compute_snell_fresnel_interaction_of, mirrored_power_of}
use Rattle.surface.specs.declared.FresnelInteraction.TheVariants.{Total, Split}
use Rattle.detector.proofs.Marks.{m8}
use Rattle.step.specs.declared.ActiveRay.{ActiveRay}
use Rattle.step.specs.Rays.{ends_of, mirrored, met}
use Rattle.step.specs.Steps.{mirror_of, nearer_of, first_ahead_of}
use Rattle.report.specs.Report.{absorb_of, lose_of, lose_unless_of, ledger_met_of, ledger_after_of, more_if_of, add_surface_of, tallies_met_of, tallies_after_of, report_after_of}
use Rattle.theorems_runs.proofs.Weights.{more_is}
use Rattle.theorems_marks.specs.Marks.{#-0, #¼, #¾, #+x, #+z, #-z, #000, upward, sideways, facing, sent_ray, M1, M2, M6, M7, M9, M10, M11, Marks}
use Rattle.theorems_marks.proofs.Itself.{below_itself, above_zero}
use Rattle.theorems_marks.proofs.Sent.{sent}
use Rattle.theorems_marks.proofs.Limit.{uninteracting, uninteracted}

pub m1 : M1
unfolding sqrt_of of_bits to_bits
m1 = (refl, refl)

pub m2 : M2
unfolding new_of next_u64_of next_state scrambled
m2 = refl

-- ---- M6

straight_cosine : (cosine_of #+z #-z ≡ #1) × (radicand_of (div binary64 #1 #3) #1 ≡ #1) × (le #1 #0 ≡ false) × (sqrt_of #1 ≡ #1)
unfolding cosine_of radicand_of clamp_of max_zero_of sqrt_of dot_of add sub mul div neg lt le eq of_bits to_bits
straight_cosine = (refl, refl, refl, refl)

straight_powers : (reflectance_of #1 #3 #1 #1 ≡ #¼) × (mul binary64 #1 #¼ ≡ #¼) × (mul binary64 #1 (sub binary64 #1 #¼) ≡ #¾)
unfolding reflectance_of amplitude_of clamp_of add sub mul div neg lt of_bits
straight_powers = (refl, refl, refl)

straight_directions : (reflected_direction_of #+z #-z #1 ≡ #-z) × (refracted_direction_of #+z #-z (div binary64 #1 #3) #1 #1 ≡ #+z)
unfolding reflected_direction_of refracted_direction_of normalize_of norm_of divide_of dot_of plus_of scale_of sqrt_of add sub mul div neg lt of_bits to_bits
straight_directions = (refl, refl)

straight : (r : Ray) (h : NonSeqHit) → r.direction ≡ #+z → h.normal ≡ #-z
    → compute_snell_fresnel_interaction_of r h #1 #3 #1 ≡ both_of (leaving_of r h.point #-z #¼) (leaving_of r h.point #+z #¾)
unfolding compute_snell_fresnel_interaction_of refract_of
straight r h d n =
    let c = straight_cosine in
    let p = straight_powers in
    let w = straight_directions in
    rw (d, n, c.0, c.1, c.2, c.3, p.0, p.1, p.2, w.0, w.1)

-- the rays that the closed cases send are finite
finite_rays : (is_finite_ray_of (sent_ray (upward (neg #5)) #000 #-z #¼) ≡ true) × (is_finite_ray_of (sent_ray (upward (neg #5)) #000 #+z #¾) ≡ true) × (is_finite_ray_of (sent_ray sideways #000 #+x #1) ≡ true)
unfolding is_finite_ray_of is_finite_vec_of is_finite_of plus_of scale_of add mul neg of_bits
finite_rays = (refl, refl, refl)

pub m6 : M6
m6 = (anywhere, anywhere (upward (neg #5)) facing refl refl finite_rays.0 finite_rays.1)
  where
    anywhere : (r : Ray) (h : NonSeqHit) → r.direction ≡ #+z → h.normal ≡ #-z
        → is_finite_ray_of (sent_ray r h.point #-z #¼) ≡ true → is_finite_ray_of (sent_ray r h.point #+z #¾) ≡ true
        → compute_snell_fresnel_interaction_of r h #1 #3 #1 ≡ value (Split (sent_ray r h.point #-z #¼) (sent_ray r h.point #+z #¾))
    anywhere r h d n f g = straight r h d n ∙ rw (sent r h.point #-z #¼ f, sent r h.point #+z #¾ g)

-- ---- M7

level_radicand : (c : Float) → (c ≡ #0) ⊎ (c ≡ #-0) → le (radicand_of #1 c) #0 ≡ true
unfolding radicand_of max_zero_of add sub mul neg lt le eq of_bits
level_radicand c (inl e) = rw e
level_radicand c (inr e) = rw e

grazing : (r : Ray) (h : NonSeqHit) (n power : Float) → is_finite_of n ≡ true → lt #0 n ≡ true
    → (cosine_of r.direction h.normal ≡ #0) ⊎ (cosine_of r.direction h.normal ≡ #-0)
    → (d : Vec3) → d ≡ reflected_direction_of r.direction h.normal (cosine_of r.direction h.normal)
    → is_finite_ray_of (sent_ray r h.point d power) ≡ true → compute_snell_fresnel_interaction_of r h n n power ≡ value (Total (sent_ray r h.point d power))
unfolding compute_snell_fresnel_interaction_of
grazing r h n power i l c d e f = rw (above_zero n i l, level_radicand (cosine_of r.direction h.normal) c, ← e, sent r h.point d power f)

side_cosine : (cosine_of #+x #-z ≡ #-0) × (#+x ≡ reflected_direction_of #+x #-z (cosine_of #+x #-z))
unfolding cosine_of clamp_of dot_of reflected_direction_of normalize_of norm_of divide_of plus_of scale_of sqrt_of add mul div neg lt of_bits to_bits
side_cosine = (refl, refl)

one_above : (is_finite_of #1 ≡ true) × (lt #0 #1 ≡ true)
unfolding is_finite_of lt of_bits
one_above = (refl, refl)

pub m7 : M7
m7 = (grazing, grazing sideways facing #1 #1 one_above.0 one_above.1 (inr side_cosine.0) #+x side_cosine.1 finite_rays.2)

-- ---- M9 to M11

pub m9 : M9
unfolding first_ahead_of nearer_of
m9 s h e = rw (e, below_itself h.t)

pub m10 : M10
m10 = ((λ M put ds B m z. uninteracting put ds B m z), uninteracted)

left_half : (a : ActiveRay) (h : NonSeqHit) → a.ray.energy ≡ #1 → mirror_of #½ a h #½ ≡ ends_of (met (mirrored #½ #½))
unfolding mirror_of mirrored_power_of clamp_of sub mul lt of_bits
left_half a h e = rw e

half : add binary64 #0 #½ ≡ #½
unfolding add of_bits
half = refl

pub m11 : M11
unfolding report_after_of ledger_after_of ledger_met_of absorb_of lose_unless_of lose_of tallies_after_of tallies_met_of add_surface_of more_if_of
m11 a h r e z y w =
    let s = left_half a h e in
    (rw s, rw s, rw s, rw (s, z) half, rw s, rw s (more_is r.tallies.weak w), rw (s, y) half)

-- ---- all of them

pub marks : Marks
marks = (m1, m2, geometry.M3, geometry.M4, geometry.M5, m6, m7, m8, m9, m10, m11)
