-- The conditions of refusals 12 to 16, which only a run meets, and of 9 where it records a hit.
use Rattle.std.specs.Prelude.{◌≡◌, ◌⊎◌, true, false, ℕ, ◌≤◌, leb, Float, get_or}
use Rattle.std.specs.Float.{binary64}
use Rattle.std.specs.Float.Ieee.{sub, mul, div, lt, le}
use Rattle.doubles.specs.Doubles.{is_finite_of, #0, #1, #2}
use Rattle.doubles.specs.Root.{sqrt_of}
use Rattle.error.specs.Refusals.{value}
use Rattle.rays.specs.declared.Ray.{Ray}
use Rattle.rays.specs.Vectors.{dot_of, minus_of, scale_of, normalize_of}
use Rattle.rays.specs.Rays.{is_finite_ray_of}
use Rattle.material.specs.declared.OpticalMedium.{OpticalMedium}
use Rattle.material.specs.declared.OpticalMedium.TheVariants.{Air, Constant, Sellmeier1, Schott}
use Rattle.material.specs.declared.SurfaceFinish.TheVariants.{Specular, Mirror}
use Rattle.material.specs.Media.{square_um_of, sellmeier_of, schott_of}
use Rattle.scene.specs.declared.NonSeqHit.{NonSeqHit}
use Rattle.surface.specs.Fresnel.{cosine_of, radicand_of, reflected_direction_of, refracted_direction_of, reflectance_of}
use Rattle.surface.specs.Fresnel.{mirrored_power_of}
use Rattle.media.specs.declared.Media.{Media}
use Rattle.media.specs.Media.{newest_of}
use Rattle.detector.specs.declared.DetectorHit.{DetectorHit}
use Rattle.memory.specs.Memory.{Memory, Outcome, done, refused, record_of, has_pixel, capacity, cell_in, hit_detector}
use Rattle.step.specs.declared.ActiveRay.{ActiveRay}
use Rattle.step.specs.Rays.{Optics, Scene, caught}
use Rattle.step.specs.Steps.{solid, ahead_in, medium_from, index_in_of, beyond_of, take_step_of}
use Rattle.run.specs.declared.Progress.{Progress}
use Rattle.run.specs.Stack.{taken_from}
use Rattle.run.specs.Run.{is_left, step_on, drive}
use Rattle.trace.specs.Trace.{Batch, rays_in, scene_in, start_of, trace_rays_of}
use Rattle.theorems_marks.specs.Marks.{sent_ray}
use Rattle.detector.specs.Pixels.{max_count}

-- ---- 14 and 15: an index

-- a squared index at most 0 or not finite
abbrev pub BadSquare : Float → Type 0
BadSquare n2 = (le n2 #0 ≡ true) ⊎ (is_finite_of n2 ≡ false)

-- by the medium's rule; a constant index is bad below 1 or not finite
abbrev pub BadIndex : OpticalMedium → Float → Type 0
BadIndex Air w = ⊥
BadIndex (Constant n) w = (lt n #1 ≡ true) ⊎ (is_finite_of n ≡ false)
BadIndex (Sellmeier1 b1 c1 b2 c2 b3 c3) w = BadSquare (sellmeier_of (square_um_of w) b1 c1 b2 c2 b3 c3)
BadIndex (Schott a0 a1 a2 a3 a4 a5) w = BadSquare (schott_of (square_um_of w) a0 a1 a2 a3 a4 a5)

-- 14: a wavelength at most 0 or not finite; no ray of a tracing has one that is not finite
abbrev pub IndexRefused : OpticalMedium → Float → ℕ → Type 0
IndexRefused m w n = ((n ≡ 14) × ((le w #0 ≡ true) ⊎ (is_finite_of w ≡ false))) ⊎ ((n ≡ 15) × BadIndex m w)

-- ---- 16: a ray that is sent on

abbrev pub cosine_at : Ray → NonSeqHit → Float
cosine_at r h = cosine_of r.direction h.normal

-- all of it reflected
abbrev pub total_ray : Ray → NonSeqHit → Float → Ray
total_ray r h power = sent_ray r h.point (reflected_direction_of r.direction h.normal (cosine_at r h)) power

-- the two rays between indices n₁ and n₂
abbrev pub root_at : Ray → NonSeqHit → Float → Float → Float
root_at r h n1 n2 = sqrt_of (radicand_of (div binary64 n1 n2) (cosine_at r h))

abbrev pub share_at : Ray → NonSeqHit → Float → Float → Float
share_at r h n1 n2 = reflectance_of n1 n2 (cosine_at r h) (root_at r h n1 n2)

abbrev pub reflected_ray : Ray → NonSeqHit → Float → Float → Float → Ray
reflected_ray r h n1 n2 power =
    sent_ray r h.point (reflected_direction_of r.direction h.normal (cosine_at r h))
    (mul binary64 power (share_at r h n1 n2))

abbrev pub transmitted_ray : Ray → NonSeqHit → Float → Float → Float → Ray
transmitted_ray r h n1 n2 power =
    sent_ray r h.point
    (refracted_direction_of r.direction h.normal (div binary64 n1 n2) (cosine_at r h) (root_at r h n1 n2))
    (mul binary64 power (sub binary64 #1 (share_at r h n1 n2)))

abbrev pub mirrored_ray : Ray → NonSeqHit → Float → Ray
mirrored_ray r h power =
    sent_ray r h.point (normalize_of
    (minus_of r.direction (scale_of h.normal (mul binary64 #2 (dot_of r.direction h.normal))))) power

-- one of the rays that are made at a clear surface isn't finite
abbrev pub ClearRefused : Ray → NonSeqHit → Float → Float → Float → Type 0
ClearRefused r h n1 n2 power =
    ((le (radicand_of (div binary64 n1 n2) (cosine_at r h)) #0 ≡ true) × (is_finite_ray_of (total_ray r h power) ≡ false))
    ⊎ ((le (radicand_of (div binary64 n1 n2) (cosine_at r h)) #0 ≡ false)
    × ((is_finite_ray_of (reflected_ray r h n1 n2 power) ≡ false) ⊎
    (is_finite_ray_of (transmitted_ray r h n1 n2 power) ≡ false)))

-- ---- 9, 12 and 13: a hit

abbrev pub HitRefused : Memory → DetectorHit → ℕ → Type 0
HitRefused s h n =
    ((n ≡ 9) × (has_pixel s h ≡ false))
    ⊎ (((n ≡ 12) × (capacity s ≤ s.used))
    ⊎ ((n ≡ 13) × ((get_or s.hits (cell_in s.detectors.list h) 0 ≡ max_count) ⊎
    ((hit_detector s h).total_rays_hit ≡ max_count))))

-- ---- a step

-- the index in the newest of the media, else the ambient, is refused
abbrev pub MediaRefused : Optics → Media → Float → ℕ → Type 0
MediaRefused O m w n = IndexRefused (medium_from O (newest_of m)) w n

-- a mirror's ray, whose power is above the threshold, isn't finite
abbrev pub MirrorRefused : Optics → ActiveRay → NonSeqHit → Type 0
MirrorRefused O a h =
    (rho : Float)
    × ((O.finish h.object_id ≡ Mirror rho)
    × ((lt O.config.min_power_threshold (mirrored_power_of a.ray.energy rho) ≡ true) ×
    (is_finite_ray_of (mirrored_ray a.ray h (mirrored_power_of a.ray.energy rho)) ≡ false)))

-- at a clear surface an index, or 16 for a ray between the two indices; at a mirror 16 for its ray
abbrev pub SurfaceRefused : Optics → ActiveRay → NonSeqHit → ℕ → Type 0
SurfaceRefused O a h n =
    ((O.finish h.object_id ≡ Specular)
    × (MediaRefused O a.media a.ray.wavelength_nm n
    ⊎ (MediaRefused O (beyond_of a.media h) a.ray.wavelength_nm n
    ⊎ ((n ≡ 16)
    × ((n1 : Float)
    × ((n2 : Float)
    × ((index_in_of O a.media a.ray.wavelength_nm ≡ value n1)
    × ((index_in_of O (beyond_of a.media h) a.ray.wavelength_nm ≡ value n2) × ClearRefused a.ray h n1 n2
    a.ray.energy))))))))
    ⊎ ((n ≡ 16) × MirrorRefused O a h)

-- the ray, above the threshold and below the bounce limit, meets a solid with property C
abbrev pub AtSolid : Scene → ActiveRay → (NonSeqHit → Type 0) → Type 0
AtSolid S a C =
    (le a.ray.energy S.optics.config.min_power_threshold ≡ false)
    × ((leb S.optics.config.max_bounces a.bounce_count ≡ false)
    × ((h : NonSeqHit) × ((ahead_in S a ≡ solid h) × C h)))

-- and its surface is refused
abbrev pub RayRefused : Scene → ActiveRay → ℕ → Type 0
RayRefused S a n = AtSolid S a (λ (h : NonSeqHit). SurfaceRefused S.optics a h n)

-- a detector is met, and the hit is refused
abbrev pub CatchRefused : Memory → Scene → ActiveRay → ℕ → Type 0
CatchRefused m S a n = (h : DetectorHit) × (((take_step_of S a).end ≡ caught h) × HitRefused m h n)

-- a refusal of one step with ray a, memory m
abbrev pub StepRefused : Memory → Scene → ActiveRay → ℕ → Type 0
StepRefused m S a n = CatchRefused m S a n ⊎ RayRefused S a n

-- ---- a run

-- the step that a run of k steps is refused at, from what the j steps before it left
abbrev pub Refusing :
    {M : Type 0} → (M → DetectorHit → Outcome M) → Scene → (ℕ → ActiveRay) → ℕ → M → Progress → ℕ → ℕ → M → Type 0
Refusing {M = M} put S given k m p n place s =
    (j : ℕ)
    × ((m₀ : M)
    × ((p₀ : Progress)
    × ((drive put S given j m p ≡ record { outcome = done m₀; progress = p₀ })
    × ((is_left p₀ ≡ true) × (((step_on put S given m₀ p₀).outcome ≡ refused n place s) ×
    (drive put S given k m p ≡ step_on put S given m₀ p₀))))))

-- after some steps, with memory t, the newest ray has property C; its place is that of the given ray it comes from
abbrev pub Reached : Batch → Memory → ℕ → Memory → (ActiveRay → Type 0) → Type 0
Reached B s place t C =
    (j : ℕ)
    × ((p : Progress)
    × ((drive record_of (scene_in B s.detectors) (rays_in B) j s (start_of (rays_in B) B.rays) ≡
    record { outcome = done t; progress = p })
    × ((is_left p ≡ true) × ((place ≡ (taken_from (rays_in B) p.stack p.left).left) × C
    (taken_from (rays_in B) p.stack p.left).ray))))

abbrev pub RunRefused : Batch → Memory → ℕ → ℕ → Memory → Type 0
RunRefused B s n place t = Reached B s place t (λ (a : ActiveRay). StepRefused t (scene_in B s.detectors) a n)

-- ---- the conditions, number by number

-- 12: a hit comes, and the list is full
abbrev pub ListFull : Memory → Scene → ActiveRay → Type 0
ListFull t S a = (h : DetectorHit) × (((take_step_of S a).end ≡ caught h) × (capacity t ≤ t.used))

-- 13: a hit comes, and the count of its pixel or of its detector is the largest
abbrev pub CountFull : Memory → Scene → ActiveRay → Type 0
CountFull t S a =
    (h : DetectorHit)
    × (((take_step_of S a).end ≡ caught h)
    × ((get_or t.hits (cell_in t.detectors.list h) 0 ≡ max_count) ⊎ ((hit_detector t h).total_rays_hit ≡ max_count)))

-- the ray meets a clear solid with property C
abbrev pub AtClear : Scene → ActiveRay → (NonSeqHit → Type 0) → Type 0
AtClear S a C = AtSolid S a (λ (h : NonSeqHit). (S.optics.finish h.object_id ≡ Specular) × C h)

-- 14: there, with a wavelength at most 0
abbrev pub BadWavelength : Scene → ActiveRay → Type 0
BadWavelength S a = AtClear S a (λ (h : NonSeqHit). le a.ray.wavelength_nm #0 ≡ true)

-- 15: there, with a bad index before or beyond the surface
abbrev pub BadMedium : Scene → ActiveRay → Type 0
BadMedium S a =
    AtClear S a
    (λ (h : NonSeqHit).
    BadIndex (medium_from S.optics (newest_of a.media)) a.ray.wavelength_nm
    ⊎ BadIndex (medium_from S.optics (newest_of (beyond_of a.media h))) a.ray.wavelength_nm)

-- 16: a ray that a clear surface or a mirror sends isn't finite
abbrev pub BadRay : Scene → ActiveRay → Type 0
BadRay S a =
    AtClear S a
    (λ (h : NonSeqHit).
    (n1 : Float)
    × ((n2 : Float)
    × ((index_in_of S.optics a.media a.ray.wavelength_nm ≡ value n1)
    × ((index_in_of S.optics (beyond_of a.media h) a.ray.wavelength_nm ≡ value n2) × ClearRefused
    a.ray h n1 n2 a.ray.energy))))
    ⊎ AtSolid S a (λ (h : NonSeqHit). MirrorRefused S.optics a h)

-- if a tracing answers n, then one of its rays has property C, with the memory that is left
abbrev pub Only : Batch → Memory → ℕ → (Memory → Scene → ActiveRay → Type 0) → Type 0
Only B s n C =
    (place : ℕ) (t : Memory) → (trace_rays_of B s).outcome ≡ refused n place t → Reached B s place t
    (C t (scene_in B s.detectors))

-- none of 12 to 16 is given unless its condition holds
abbrev pub Refusals : Type 0
Refusals =
    (B : Batch) (s : Memory)
    → Only B s 12 ListFull
    × Only B s 13 CountFull
    × Only B s 14 (λ (t : Memory). BadWavelength)
    × Only B s 15 (λ (t : Memory). BadMedium)
    × Only B s 16 (λ (t : Memory). BadRay)
