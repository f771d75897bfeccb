-- Which rays the threshold leaves unmade in a run, by scene and ray alone: the powers that mirrors drop, and the weak
-- rays (document 02, b).
use Rattle.std.specs.Prelude.{ℕ, zero, suc, ◌+◌, cond, List, [], ◌∷◌, ◌++◌, leb, Float}
use Rattle.std.specs.Float.{binary64}
use Rattle.std.specs.Float.Ieee.{add, lt, le}
use Rattle.error.specs.Refusals.{Answer, value, refusal}
use Rattle.material.specs.declared.SurfaceFinish.{SurfaceFinish}
use Rattle.material.specs.declared.SurfaceFinish.TheVariants.{Specular, Mirror, Absorber}
use Rattle.scene.specs.declared.NonSeqHit.{NonSeqHit}
use Rattle.surface.specs.Fresnel.{compute_snell_fresnel_interaction_of, mirrored_power_of}
use Rattle.surface.specs.declared.FresnelInteraction.{FresnelInteraction}
use Rattle.surface.specs.declared.FresnelInteraction.TheVariants.{Total, Split}
use Rattle.detector.specs.declared.DetectorHit.{DetectorHit}
use Rattle.memory.specs.Memory.{Outcome, done, refused}
use Rattle.step.specs.declared.ActiveRay.{ActiveRay}
use Rattle.step.specs.Rays.{Optics, Scene}
use Rattle.step.specs.Steps.{index_in_of, beyond_of, Ahead, detector, solid, nothing, ahead_in}
use Rattle.run.specs.declared.Progress.{Progress}
use Rattle.run.specs.Run.{is_left, step_on}
use Rattle.theorems_runs.specs.Room.{next_ray}

-- ---- the rays that the steps of a run take, in step order

-- none after a step that is refused
abbrev pub unless_refused : {M : Type 0} → (M → Progress → List ActiveRay) → Outcome M → Progress → List ActiveRay
unless_refused go (done m) p = go m p
unless_refused go (refused n place m) p = []

module _ {M : Type 0} (put : M → DetectorHit → Outcome M) (S : Scene) (given : ℕ → ActiveRay) where
  -- of at most k steps
  unfoldable pub rays_taken : ℕ → M → Progress → List ActiveRay
  rays_taken zero m p = []
  rays_taken (suc k) m p =
      cond (is_left p)
      (next_ray given p
      ∷ unless_refused (rays_taken k) (step_on put S given m p).outcome (step_on put S given m p).progress)
      []

-- ---- what comes of a ray at the surface that it meets

module _ {X : Type 0} (none : X) (meets : NonSeqHit → X) where
  unfoldable pub if_solid : Ahead → X
  if_solid (detector s) = none
  if_solid (solid h) = meets h
  if_solid nothing = none

  -- none of a ray that is dim or spent, that a detector catches, or that meets nothing
  unfoldable pub at_surface : Scene → ActiveRay → X
  at_surface S a =
      cond (le a.ray.energy S.optics.config.min_power_threshold) none
      (cond (leb S.optics.config.max_bounces a.bounce_count) none (if_solid (ahead_in S a)))

-- ---- dropped powers

-- a mirrored power that is not above the threshold
unfoldable pub dropped_by : Optics → ActiveRay → SurfaceFinish → List Float
dropped_by O a Specular = []
dropped_by O a (Mirror rho) =
    let power = mirrored_power_of a.ray.energy rho in
    cond (lt O.config.min_power_threshold power) [] (power ∷ [])
dropped_by O a Absorber = []

unfoldable pub dropped : Scene → ActiveRay → List Float
dropped S a = at_surface [] (λ h. dropped_by S.optics a (S.optics.finish h.object_id)) S a

unfoldable pub all_dropped : Scene → List ActiveRay → List Float
all_dropped S [] = []
all_dropped S (a ∷ rest) = dropped S a ++ all_dropped S rest

-- x and then each of a list, added one after another
unfoldable pub added_to : Float → List Float → Float
added_to x [] = x
added_to x (y ∷ ys) = added_to (add binary64 x y) ys

-- ---- weak rays

-- 1 for a power that is not above the threshold
unfoldable pub weak_one : Optics → Float → ℕ
weak_one O power = cond (lt O.config.min_power_threshold power) 0 1

-- of the rays of a clear surface; a radicand at most 0 has no second ray, and none is left of a step that is refused
unfoldable pub weak_parted : Optics → Answer FresnelInteraction → ℕ
weak_parted O (value (Total r)) = weak_one O r.energy
weak_parted O (value (Split r t)) = weak_one O r.energy + weak_one O t.energy
weak_parted O (refusal n) = 0

unfoldable pub weak_between : Optics → ActiveRay → NonSeqHit → Answer Float → Answer Float → ℕ
weak_between O a h (value n1) (value n2) =
    weak_parted O (compute_snell_fresnel_interaction_of a.ray h n1 n2 a.ray.energy)
weak_between O a h (value n1) (refusal n) = 0
weak_between O a h (refusal n) n2 = 0

unfoldable pub weak_by : Optics → ActiveRay → NonSeqHit → SurfaceFinish → ℕ
weak_by O a h Specular =
    let w = a.ray.wavelength_nm in
    weak_between O a h (index_in_of O a.media w) (index_in_of O (beyond_of a.media h) w)
weak_by O a h (Mirror rho) = weak_one O (mirrored_power_of a.ray.energy rho)
weak_by O a h Absorber = 0

unfoldable pub weak_in : Scene → ActiveRay → ℕ
weak_in S a = at_surface 0 (λ h. weak_by S.optics a h (S.optics.finish h.object_id)) S a

unfoldable pub all_weak : Scene → List ActiveRay → ℕ
all_weak S [] = 0
all_weak S (a ∷ rest) = weak_in S a + all_weak S rest
