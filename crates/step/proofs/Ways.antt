-- The ways that a step can go: what holds of each of them holds of every step. Assumes nothing.
use Rattle.std.specs.Prelude.{Option, None, Some}
use Prim.Native.Nat.{ℕ}
use mathlib.Core.Path.{◌≡◌, refl}
use mathlib.Core.Logic.{◌⊎◌, inl, inr}
use mathlib.Core.Bool.{Bool, true, false, cond}
use lib.Dec.{leb}
use lib.Ieee.{Float, binary64, sub, lt, le}
use Rattle.error.specs.Refusals.{Answer, value, refusal}
use Rattle.rays.specs.declared.Ray.{Ray}
use Rattle.material.specs.declared.SurfaceFinish.{SurfaceFinish}
use Rattle.material.specs.declared.SurfaceFinish.TheVariants.{Specular, Mirror, Absorber}
use Rattle.scene.specs.declared.NonSeqHit.{NonSeqHit}
use Rattle.scene.specs.Closest.{closest_object_of}
use Rattle.surface.specs.Fresnel.{compute_snell_fresnel_interaction_of, mirrored_power_of, mirrored_of}
use Rattle.surface.specs.declared.FresnelInteraction.{FresnelInteraction}
use Rattle.faces.specs.declared.Sight.{Sight}
use Rattle.faces.specs.Faces.{nearest_detector_of}
use Rattle.step.specs.declared.ActiveRay.{ActiveRay}
use Rattle.step.specs.Rays.{Optics, Scene, Step, Meeting, stopped, mirrored, dim, spent, gone, caught, met, refusing, ends_of}
use Rattle.step.specs.Steps.{index_in_of, beyond_of, parted_by, parted_of, between_of, clear_of, mirror_from_of, mirror_of, surface_by, surface_of, caught_by_of, detector, solid, nothing, nearer_of, first_ahead_of, ahead_in, meets_with, interact_of, take_step_of}

abbrev pub index_here : Optics → ActiveRay → Answer Float
index_here O a = index_in_of O a.media a.ray.wavelength_nm

abbrev pub index_beyond : Optics → ActiveRay → NonSeqHit → Answer Float
index_beyond O a h = index_in_of O (beyond_of a.media h) a.ray.wavelength_nm

-- the power that a mirror of reflectance rho reflects of a ray, and what it makes of the ray's power
abbrev pub at_mirror : ActiveRay → Float → Float
at_mirror a rho = mirrored_power_of a.ray.energy rho

abbrev pub met_mirror : ActiveRay → Float → Meeting
met_mirror a rho = mirrored (sub binary64 a.ray.energy (at_mirror a rho)) (at_mirror a rho)

-- why a surface refuses a ray with n: at a clear one an index, or a ray between the two indices; at a mirror its ray
abbrev pub Refuses : Optics → ActiveRay → NonSeqHit → ℕ → Type 0
Refuses O a h n =
    ((O.finish h.object_id ≡ Specular)
    × ((index_here O a ≡ refusal n)
    ⊎ ((index_beyond O a h ≡ refusal n)
    ⊎ ((n1 : Float)
    × ((n2 : Float) × ((index_here O a ≡ value n1) × ((index_beyond O a h ≡ value n2) × (compute_snell_fresnel_interaction_of a.ray h n1 n2 a.ray.energy ≡ refusal n))))))))
    ⊎ ((rho : Float)
    × ((O.finish h.object_id ≡ Mirror rho)
    × ((lt O.config.min_power_threshold (at_mirror a rho) ≡ true) × (mirrored_of a.ray h (at_mirror a rho) ≡ refusal n))))

module _ (Q : Step → Type 0) (a : ActiveRay) where
  -- by the tests of power and bounce
  module _ (S : Scene)
      (dims : le a.ray.energy S.optics.config.min_power_threshold ≡ true → Q (ends_of dim))
      (spends : leb S.optics.config.max_bounces a.bounce_count ≡ true → Q (ends_of spent))
      (goes : le a.ray.energy S.optics.config.min_power_threshold ≡ false → leb S.optics.config.max_bounces a.bounce_count ≡ false → Q (interact_of S a)) where
    pub by_tests : Q (take_step_of S a)
    unfolding take_step_of
    by_tests = go (le a.ray.energy S.optics.config.min_power_threshold) (leb S.optics.config.max_bounces a.bounce_count) refl refl
      where
        go : (b c : Bool) → le a.ray.energy S.optics.config.min_power_threshold ≡ b → leb S.optics.config.max_bounces a.bounce_count ≡ c
            → Q (cond b (ends_of dim) (cond c (ends_of spent) (interact_of S a)))
        go true c e f = dims e
        go false true e f = spends f
        go false false e f = goes e f

  -- by what is ahead
  module _ (S : Scene)
      (catches : (s : Sight) → nearest_detector_of S.faces a.ray ≡ Some s → ahead_in S a ≡ detector s → Q (ends_of (caught (caught_by_of a s))))
      (meets : (h : NonSeqHit) → ahead_in S a ≡ solid h → Q (surface_of S.optics a h))
      (goes : ahead_in S a ≡ nothing → Q (ends_of gone)) where
    pub by-ahead : Q (interact_of S a)
    unfolding interact_of meets_with first_ahead_of nearer_of
    by-ahead = go (nearest_detector_of S.faces a.ray) (closest_object_of S.solid S.solids a.ray) refl refl
      where
        nearer : (s : Sight) (h : NonSeqHit) (b : Bool) → nearest_detector_of S.faces a.ray ≡ Some s → ahead_in S a ≡ cond b (detector s) (solid h) → Q (meets_with S a (cond b (detector s) (solid h)))
        nearer s h true e f = catches s e f
        nearer s h false e f = meets h f

        go : (o : Option Sight) (k : Option NonSeqHit) → nearest_detector_of S.faces a.ray ≡ o → closest_object_of S.solid S.solids a.ray ≡ k → Q (meets_with S a (first_ahead_of o k))
        go None None e f = goes (rw (e, f))
        go None (Some h) e f = meets h (rw (e, f))
        go (Some s) None e f = catches s e (rw (e, f))
        go (Some s) (Some h) e f = nearer s h (lt s.crossing.t h.t) e (rw (e, f))

  -- by the finish of the surface that it meets
  module _ (O : Optics) (h : NonSeqHit)
      (stops : O.finish h.object_id ≡ Absorber → Q (ends_of (met (stopped a.ray.energy))))
      (refuses : (n : ℕ) → Refuses O a h n → Q (ends_of (refusing n)))
      (drops : (rho : Float) → O.finish h.object_id ≡ Mirror rho → lt O.config.min_power_threshold (at_mirror a rho) ≡ false → Q (ends_of (met (met_mirror a rho))))
      (mirrors : (rho : Float) (r : Ray) → O.finish h.object_id ≡ Mirror rho → lt O.config.min_power_threshold (at_mirror a rho) ≡ true → mirrored_of a.ray h (at_mirror a rho) ≡ value r → Q (mirror_from_of a (met_mirror a rho) (value r)))
      (parts : (n1 n2 : Float) (p : FresnelInteraction) → O.finish h.object_id ≡ Specular → index_here O a ≡ value n1 → index_beyond O a h ≡ value n2 → compute_snell_fresnel_interaction_of a.ray h n1 n2 a.ray.energy ≡ value p → Q (parted_by O.config.min_power_threshold a (beyond_of a.media h) p)) where
    clear-way : O.finish h.object_id ≡ Specular → Q (clear_of O a h)
    unfolding clear_of between_of parted_of
    clear-way s = go (index_here O a) (index_beyond O a h) refl refl
      where
        sends : (n1 n2 : Float) → index_here O a ≡ value n1 → index_beyond O a h ≡ value n2 → (p : Answer FresnelInteraction) → compute_snell_fresnel_interaction_of a.ray h n1 n2 a.ray.energy ≡ p
            → Q (parted_of O.config.min_power_threshold a (beyond_of a.media h) p)
        sends n1 n2 e f (value p) g = parts n1 n2 p s e f g
        sends n1 n2 e f (refusal n) g = refuses n (inl (s, inr (inr (n1, (n2, (e, (f, g)))))))

        go : (x y : Answer Float) → index_here O a ≡ x → index_beyond O a h ≡ y → Q (between_of O.config.min_power_threshold a h (beyond_of a.media h) x y)
        go (value n1) (value n2) e f = sends n1 n2 e f (compute_snell_fresnel_interaction_of a.ray h n1 n2 a.ray.energy) refl
        go (value n1) (refusal n) e f = refuses n (inl (s, inr (inl f)))
        go (refusal n) y e f = refuses n (inl (s, inl e))

    mirror-way : (rho : Float) → O.finish h.object_id ≡ Mirror rho → Q (mirror_of O.config.min_power_threshold a h rho)
    unfolding mirror_of mirror_from_of
    mirror-way rho s = go (lt O.config.min_power_threshold (at_mirror a rho)) refl
      where
        sends : lt O.config.min_power_threshold (at_mirror a rho) ≡ true → (r : Answer Ray) → mirrored_of a.ray h (at_mirror a rho) ≡ r → Q (mirror_from_of a (met_mirror a rho) r)
        sends e (value r) g = mirrors rho r s e g
        sends e (refusal n) g = refuses n (inr (rho, (s, (e, g))))

        go : (b : Bool) → lt O.config.min_power_threshold (at_mirror a rho) ≡ b → Q (cond b (mirror_from_of a (met_mirror a rho) (mirrored_of a.ray h (at_mirror a rho))) (ends_of (met (met_mirror a rho))))
        go true e = sends e (mirrored_of a.ray h (at_mirror a rho)) refl
        go false e = drops rho s e

    pub by-finish : Q (surface_of O a h)
    unfolding surface_of surface_by
    by-finish = go (O.finish h.object_id) refl
      where
        go : (f : SurfaceFinish) → O.finish h.object_id ≡ f → Q (surface_by O a h f)
        go Specular e = clear-way e
        go (Mirror rho) e = mirror-way rho e
        go Absorber e = stops e

  -- by what a surface makes of it, whatever its finish
  module _ (O : Optics) (h : NonSeqHit)
      (stops : (m : Meeting) → Q (ends_of (met m)))
      (refuses : (n : ℕ) → Refuses O a h n → Q (ends_of (refusing n)))
      (mirrors : (power : Float) (m : Meeting) (r : Ray) → mirrored_of a.ray h power ≡ value r → Q (mirror_from_of a m (value r)))
      (parts : (n1 n2 : Float) (p : FresnelInteraction) → compute_snell_fresnel_interaction_of a.ray h n1 n2 a.ray.energy ≡ value p → Q (parted_by O.config.min_power_threshold a (beyond_of a.media h) p)) where
    pub by-surface : Q (surface_of O a h)
    by-surface =
        by-finish O h (λ e. stops _) refuses (λ rho e f. stops _) (λ rho r e f g. mirrors _ _ r g) (λ n1 n2 p e i j g. parts n1 n2 p g)
