-- What becomes of the newest ray, in the order of document 01.
use Rattle.std.specs.Prelude.{Bool, true, false, cond, leb, Float, Option, None, Some}
use Rattle.std.specs.Float.{binary64}
use Rattle.std.specs.Float.Ieee.{sub, lt, le}
use Rattle.error.specs.Refusals.{Answer, value, refusal}
use Rattle.rays.specs.declared.Ray.{Ray}
use Rattle.material.specs.declared.OpticalMedium.{OpticalMedium}
use Rattle.material.specs.declared.SurfaceFinish.{SurfaceFinish}
use Rattle.material.specs.declared.SurfaceFinish.TheVariants.{Specular, Mirror, Absorber}
use Rattle.material.specs.Media.{refractive_index_of}
use Rattle.scene.specs.declared.SolidNo.{SolidNo}
use Rattle.scene.specs.declared.NonSeqHit.{NonSeqHit}
use Rattle.scene.specs.Closest.{closest_object_of}
use Rattle.surface.specs.Fresnel.{compute_snell_fresnel_interaction_of, mirrored_power_of}
use Rattle.surface.specs.declared.FresnelInteraction.{FresnelInteraction}
use Rattle.surface.specs.declared.FresnelInteraction.TheVariants.{Total, Split}
use Rattle.surface.specs.Fresnel.{mirrored_of}
use Rattle.media.specs.declared.Media.{Media}
use Rattle.media.specs.Media.{newest_of, entered_of, left_of}
use Rattle.detector.specs.declared.DetectorHit.{DetectorHit}
use Rattle.faces.specs.declared.Sight.{Sight}
use Rattle.faces.specs.Faces.{nearest_detector_of}
use Rattle.step.specs.declared.ActiveRay.{ActiveRay}
use Rattle.step.specs.declared.ahead.Ahead as code
use Rattle.step.specs.Rays.{Optics, Scene, Step, ends_of, dim, spent, gone, caught, met, refusing}
use Rattle.step.specs.Rays.{Meeting, stopped, mirrored, parted, reflected_of, transmitted_of}
use Rattle.doubles.specs.Doubles.{#0}

-- ---- a clear surface

-- the newest medium, else the ambient
unfoldable pub medium_from : Optics → Option SolidNo → OpticalMedium
medium_from O (Some s) = O.medium s
medium_from O None = O.config.ambient_medium

-- the index in the newest of the media; 14 before 15
unfoldable pub index_in_of : Optics → Media → Float → Answer Float
index_in_of O m w = refractive_index_of (medium_from O (newest_of m)) w

-- the media beyond the surface: the solid appended on entering, its last place removed on leaving
unfoldable pub beyond_of : Media → NonSeqHit → Media
beyond_of m h = cond h.entering (entered_of m h.object_id) (left_of m h.object_id)

abbrev pub made_if : Bool → ActiveRay → Option ActiveRay
made_if b a = cond b (Some a) None

-- each ray is made if its power is above the threshold; transmitted power at most 0 counts as total reflection
unfoldable pub parted_by : Float → ActiveRay → Media → FresnelInteraction → Step
parted_by threshold a m (Total r) =
    record {
      end = met (parted r.energy #0 true);
      reflected = made_if (lt threshold r.energy) (reflected_of true a r);
      transmitted = None;
    }
parted_by threshold a m (Split r t) =
    record {
      end = met (parted r.energy t.energy false);
      reflected = made_if (lt threshold r.energy) (reflected_of (le t.energy #0) a r);
      transmitted = made_if (lt threshold t.energy) (transmitted_of a t m);
    }

abbrev pub all_reflected_of : Float → ActiveRay → Media → Ray → Step
all_reflected_of threshold a m r = parted_by threshold a m (Total r)

abbrev pub both_made_of : Float → ActiveRay → Media → Ray → Ray → Step
both_made_of threshold a m r t = parted_by threshold a m (Split r t)

unfoldable pub parted_of : Float → ActiveRay → Media → Answer FresnelInteraction → Step
parted_of threshold a m (value p) = parted_by threshold a m p
parted_of threshold a m (refusal n) = ends_of (refusing n)

-- between indices n₁ and n₂, the first judged before the second; m is the media beyond
unfoldable pub between_of : Float → ActiveRay → NonSeqHit → Media → Answer Float → Answer Float → Step
between_of threshold a h m (value n1) (value n2) =
    parted_of threshold a m (compute_snell_fresnel_interaction_of a.ray h n1 n2 a.ray.energy)
between_of threshold a h m (value n1) (refusal n) = ends_of (refusing n)
between_of threshold a h m (refusal n) n2 = ends_of (refusing n)

unfoldable pub clear_of : Optics → ActiveRay → NonSeqHit → Step
clear_of O a h =
    let w = a.ray.wavelength_nm in
    let m = beyond_of a.media h in
    between_of O.config.min_power_threshold a h m (index_in_of O a.media w) (index_in_of O m w)

-- ---- a mirror

unfoldable pub mirror_from_of : ActiveRay → Meeting → Answer Ray → Step
mirror_from_of a m (value r) = record { end = met m; reflected = Some (reflected_of false a r); transmitted = None }
mirror_from_of a m (refusal n) = ends_of (refusing n)

-- the reflected ray is made only above the threshold; the meeting has its power in either case
unfoldable pub mirror_of : Float → ActiveRay → NonSeqHit → Float → Step
mirror_of threshold a h rho =
    let power = mirrored_power_of a.ray.energy rho in
    let m = mirrored (sub binary64 a.ray.energy power) power in
    cond (lt threshold power) (mirror_from_of a m (mirrored_of a.ray h power)) (ends_of (met m))

-- ---- what a ray meets

unfoldable pub surface_by : Optics → ActiveRay → NonSeqHit → SurfaceFinish → Step
surface_by O a h Specular = clear_of O a h
surface_by O a h (Mirror rho) = mirror_of O.config.min_power_threshold a h rho
surface_by O a h Absorber = ends_of (met (stopped a.ray.energy))

unfoldable pub surface_of : Optics → ActiveRay → NonSeqHit → Step
surface_of O a h = surface_by O a h (O.finish h.object_id)

abbrev pub caught_by_of : ActiveRay → Sight → DetectorHit
caught_by_of a s =
    record {
      local_x = s.crossing.local_x;
      local_y = s.crossing.local_y;
      flux_watts = a.ray.energy;
      wavelength_nm = a.ray.wavelength_nm;
      detector = s.detector;
      bounce_count = a.bounce_count;
      reflection_count = a.reflection_count;
      tir_count = a.tir_count;
    }

-- what is first ahead of a ray
pub data Ahead : Type 0 where
  detector : Sight → Ahead
  solid : NonSeqHit → Ahead
  nothing : Ahead

-- a detector wins only if strictly nearer than the nearest solid, or with no solid hit
unfoldable pub nearer_of : Sight → NonSeqHit → Ahead
nearer_of s h = cond (lt s.crossing.t h.t) (detector s) (solid h)

unfoldable pub first_ahead_of : Option Sight → Option NonSeqHit → Ahead
first_ahead_of None None = nothing
first_ahead_of None (Some h) = solid h
first_ahead_of (Some s) None = detector s
first_ahead_of (Some s) (Some h) = nearer_of s h

abbrev pub ahead_in : Scene → ActiveRay → Ahead
ahead_in S a =
    first_ahead_of (nearest_detector_of S.faces a.ray) (closest_object_of S.solid S.solids a.ray)

unfoldable pub meets_with : Scene → ActiveRay → Ahead → Step
meets_with S a (detector s) = ends_of (caught (caught_by_of a s))
meets_with S a (solid h) = surface_of S.optics a h
meets_with S a nothing = ends_of gone

unfoldable pub interact_of : Scene → ActiveRay → Step
interact_of S a = meets_with S a (ahead_in S a)

-- power at most the threshold: dim; else bounce at least the limit: spent; else one interaction
unfoldable pub take_step_of : Scene → ActiveRay → Step
take_step_of S a =
    cond (le a.ray.energy S.optics.config.min_power_threshold) (ends_of dim)
    (cond (leb S.optics.config.max_bounces a.bounce_count) (ends_of spent) (interact_of S a))

-- what the code's answer says
abbrev pub as_ahead : code.Ahead → Ahead
as_ahead (code.TheVariants.Detector s) = detector s
as_ahead (code.TheVariants.Solid h) = solid h
as_ahead code.TheVariants.Nothing = nothing
