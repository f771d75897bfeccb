-- Document 01's marked facts M1 to M11, the last as document 02 (b) has it, as statements about the definitions.
use Rattle.std.specs.Prelude.{◌≡◌, ◌⊎◌, true, List, [], ◌∷◌, ℕ, ◌+◌, ◌<◌, Float, None, Some}
use Rattle.std.specs.Float.{nan, binary64}
use Rattle.std.specs.Float.Ieee.{neg, lt, of_bits}
use Rattle.doubles.specs.Doubles.{is_finite_of, #0, #½, #1, #2, #3, #4, #5}
use Rattle.doubles.specs.Root.{sqrt_of}
use Rattle.error.specs.Refusals.{value}
use Rattle.rays.specs.declared.vector.Vec3.{Vec3}
use Rattle.rays.specs.declared.Ray.{Ray}
use Rattle.rays.specs.Vectors.{vec3, plus_of, scale_of}
use Rattle.rays.specs.Rays.{offset, is_finite_ray_of}
use Rattle.source.specs.Random.{new_of, next_u64_of}
use Rattle.geometry.specs.declared.PrimitiveGeometry.TheVariants.{Plane, Sphere, Box}
use Rattle.geometry.specs.Hits.{hit_at}
use Rattle.geometry.specs.Shapes.{intersect_local_of}
use Rattle.scene.specs.declared.NonSeqHit.{NonSeqHit}
use Rattle.surface.specs.Fresnel.{cosine_of, reflected_direction_of, compute_snell_fresnel_interaction_of}
use Rattle.surface.specs.declared.FresnelInteraction.TheVariants.{Total, Split}
use Rattle.detector.specs.Pixels.{index_along_of, max_count}
use Rattle.detectors.specs.declared.Detectors.{Detectors}
use Rattle.detector.specs.declared.DetectorHit.{DetectorHit}
use Rattle.memory.specs.Memory.{Memory, Outcome}
use Rattle.faces.specs.declared.Sight.{Sight}
use Rattle.step.specs.declared.ActiveRay.{ActiveRay}
use Rattle.step.specs.Rays.{mirrored, met}
use Rattle.step.specs.Steps.{first_ahead_of, solid, mirror_of}
use Rattle.report.specs.declared.NonSeqTraceReport.{NonSeqTraceReport}
use Rattle.report.specs.Report.{report_after_of}
use Rattle.trace.specs.Trace.{Batch, run_on, trace_rays_of}

abbrev pub #-0 : Float
#-0 = of_bits binary64 0x8000000000000000

abbrev pub #¼ : Float
#¼ = of_bits binary64 0x3fd0000000000000

abbrev pub #¾ : Float
#¾ = of_bits binary64 0x3fe8000000000000

abbrev pub #+z : Vec3
#+z = vec3 #0 #0 #1

abbrev pub #-z : Vec3
#-z = vec3 #0 #0 (neg #1)

abbrev pub #+x : Vec3
#+x = vec3 #1 #0 #0

abbrev pub #000 : Vec3
#000 = vec3 #0 #0 #0

-- from (0, 0, z) along +z, power 1
abbrev pub upward : Float → Ray
upward z = record { origin = vec3 #0 #0 z; direction = #+z; wavelength_nm = #1; energy = #1 }

-- from (-5, 0, 0) along +x, power 1
abbrev pub sideways : Ray
sideways = record { origin = vec3 (neg #5) #0 #0; direction = #+x; wavelength_nm = #1; energy = #1 }

-- a hit at (0, 0, 0) whose normal is -z
abbrev pub facing : NonSeqHit
facing =
    record {
      t = #5;
      point = #000;
      normal = #-z;
      geometric_normal = #-z;
      object_id = record { 0 = 0 };
      entering = true;
    }

-- the ray that a surface sends from its point p along d, if all its parts are finite
abbrev pub sent_ray : Ray → Vec3 → Vec3 → Float → Ray
sent_ray r p d power =
    record { origin = plus_of p (scale_of d offset); direction = d; wavelength_nm = r.wavelength_nm; energy = power }

-- the root of 4 is 2, of -0 it is -0
abbrev pub M1 : Type 0
M1 = (sqrt_of #4 ≡ #2) × (sqrt_of #-0 ≡ #-0)

-- seed 1 draws 0x47E4CE4B896CDD1D
abbrev pub M2 : Type 0
M2 = (next_u64_of (new_of 1)).value ≡ 0x47e4ce4b896cdd1d

-- Plane 1 by 1 from (0, 0, -5) along +z: 5; from z 0: none
abbrev pub M3 : Type 0
M3 =
    (intersect_local_of (Plane #1 #1) (upward (neg #5)) ≡ hit_at #5 #+z) ×
    (intersect_local_of (Plane #1 #1) (upward #0) ≡ None)

-- Sphere 1, +z, from (0, 0, -5): 4, normal (0, 0, -1); from its centre: 1
abbrev pub M4 : Type 0
M4 =
    (intersect_local_of (Sphere #1) (upward (neg #5)) ≡ hit_at #4 #-z) ×
    (intersect_local_of (Sphere #1) (upward #0) ≡ hit_at #1 #+z)

-- Box of half 1, +z, from (0, 0, -5): 4
abbrev pub M5 : Type 0
M5 = intersect_local_of (Box #1 #1 #1) (upward (neg #5)) ≡ hit_at #4 #-z

-- straight, power 1, index 1 into 3: 0.25 and 0.75, wherever the two rays are finite, as from (0, 0, -5)
abbrev pub M6 : Type 0
M6 =
    ((r : Ray) (h : NonSeqHit) → r.direction ≡ #+z → h.normal ≡ #-z
    → is_finite_ray_of (sent_ray r h.point #-z #¼) ≡ true → is_finite_ray_of (sent_ray r h.point #+z #¾) ≡ true
    → compute_snell_fresnel_interaction_of r h #1 #3 #1 ≡ value
    (Split (sent_ray r h.point #-z #¼) (sent_ray r h.point #+z #¾)))
    × (compute_snell_fresnel_interaction_of (upward (neg #5)) facing #1 #3 #1 ≡ value
    (Split (sent_ray (upward (neg #5)) #000 #-z #¼) (sent_ray (upward (neg #5)) #000 #+z #¾)))

-- equal indices, cosine 0: all reflected, wherever the ray is finite, as from (-5, 0, 0) along the surface
abbrev pub M7 : Type 0
M7 =
    ((r : Ray) (h : NonSeqHit) (n power : Float) → is_finite_of n ≡ true → lt #0 n ≡ true
    → (cosine_of r.direction h.normal ≡ #0) ⊎ (cosine_of r.direction h.normal ≡ #-0)
    → (d : Vec3) → d ≡ reflected_direction_of r.direction h.normal (cosine_of r.direction h.normal)
    → is_finite_ray_of (sent_ray r h.point d power) ≡ true → compute_snell_fresnel_interaction_of r h n n power ≡ value
    (Total (sent_ray r h.point d power)))
    × (compute_snell_fresnel_interaction_of sideways facing #1 #1 #1 ≡ value (Total (sent_ray sideways #000 #+x #1)))

-- width 4, resx 2: x = 2 is column 1, x = -2 column 0, NaN column 0
abbrev pub M8 : Type 0
M8 =
    ◌≡◌ {A = List ℕ}
    (index_along_of #2 #4 2 ∷ index_along_of (of_bits binary64 0xc000000000000000) #4 2 ∷ index_along_of nan #4 2 ∷ [])
    (1 ∷ 0 ∷ 0 ∷ [])

-- a solid and a detector equally far: the solid
abbrev pub M9 : Type 0
M9 = (s : Sight) (h : NonSeqHit) → s.crossing.t ≡ h.t → first_ahead_of (Some s) (Some h) ≡ solid h

-- limit 0: interactions 0, of a run into any memory and of a tracing, refused or not
abbrev pub M10 : Type 1
M10 =
    ((M : Type 0) (put : M → DetectorHit → Outcome M) (ds : Detectors) (B : Batch) (m : M)
    → B.config.max_bounces ≡ 0 → (run_on put ds B m).progress.report.total_interactions ≡ 0)
    × ((B : Batch) (s : Memory) → B.config.max_bounces ≡ 0 → (trace_rays_of B s).report.total_interactions ≡ 0)

-- Mirror 0.5, power 1, threshold 0.5: absorbed 0.5, no child, weak raised by 1, lost 0.5
abbrev pub M11 : Type 0
M11 =
    (a : ActiveRay) (h : NonSeqHit) (r : NonSeqTraceReport) → a.ray.energy ≡ #1
    → r.ledger.absorbed_flux_watts ≡ #0 → r.ledger.lost_flux_watts ≡ #0 → r.tallies.weak < max_count
    → ((mirror_of #½ a h #½).end ≡ met (mirrored #½ #½)) × ((mirror_of #½ a h #½).reflected ≡ None) ×
    ((mirror_of #½ a h #½).transmitted ≡ None)
    × ((report_after_of r #1 (mirror_of #½ a h #½)).ledger.absorbed_flux_watts ≡ #½)
    × ((report_after_of r #1 (mirror_of #½ a h #½)).tallies.made ≡ r.tallies.made)
    × ((report_after_of r #1 (mirror_of #½ a h #½)).tallies.weak ≡ r.tallies.weak + 1)
    × ((report_after_of r #1 (mirror_of #½ a h #½)).ledger.lost_flux_watts ≡ #½)

abbrev pub Marks : Type 1
Marks = M1 × M2 × M3 × M4 × M5 × M6 × M7 × M8 × M9 × M10 × M11
