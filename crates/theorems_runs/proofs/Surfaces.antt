-- What comes of a ray at the surface that it meets comes of the step that takes it. Assumes nothing.
use mathlib.Core.Path.{◌≡◌, refl, sym, subst}
use mathlib.Core.Bool.{Bool, true, false, cond}
use lib.Dec.{leb}
use lib.Ieee.{le}
use Rattle.scene.specs.declared.NonSeqHit.{NonSeqHit}
use Rattle.detector.specs.declared.DetectorHit.{DetectorHit}
use Rattle.step.specs.declared.ActiveRay.{ActiveRay}
use Rattle.step.specs.Rays.{Scene, Step, dim, spent, gone, caught, ends_of}
use Rattle.step.specs.Steps.{surface_of, caught_by_of, Ahead, detector, solid, nothing, ahead_in, take_step_of}
use Rattle.step.proofs.Ways.{by_tests, by-ahead}
use Rattle.theorems_runs.specs.Dropped.{if_solid, at_surface}

module _ {X : Type 0} (none : X) (meets : NonSeqHit → X) (S : Scene) (a : ActiveRay) where
  none_if_dim : le a.ray.energy S.optics.config.min_power_threshold ≡ true → at_surface none meets S a ≡ none
  unfolding at_surface
  none_if_dim e = rw e

  none_if_spent : leb S.optics.config.max_bounces a.bounce_count ≡ true → at_surface none meets S a ≡ none
  unfolding at_surface
  none_if_spent e = rw e (go (le a.ray.energy S.optics.config.min_power_threshold))
    where
      go : (b : Bool) → cond b none none ≡ none
      go true = refl
      go false = refl

  by_sight : le a.ray.energy S.optics.config.min_power_threshold ≡ false → leb S.optics.config.max_bounces a.bounce_count ≡ false
      → (w : Ahead) → ahead_in S a ≡ w → at_surface none meets S a ≡ if_solid none meets w
  unfolding at_surface
  by_sight e f w g = rw (e, f, g)

  module _ (Q : Step → X → Type 0)
      (dims : Q (ends_of dim) none)
      (spends : Q (ends_of spent) none)
      (catches : (d : DetectorHit) → Q (ends_of (caught d)) none)
      (goes : Q (ends_of gone) none)
      (solids : (h : NonSeqHit) → Q (surface_of S.optics a h) (meets h)) where
    pub by-met : Q (take_step_of S a) (at_surface none meets S a)
    unfolding if_solid
    by-met =
        let here : Step → Type 0 = λ s. Q s (at_surface none meets S a) in
        by_tests here a S (λ e. subst (Q (ends_of dim)) (sym (none_if_dim e)) dims) (λ e. subst (Q (ends_of spent)) (sym (none_if_spent e)) spends)
        (λ e f.
        by-ahead here a S (λ s q w. subst (Q (ends_of (caught (caught_by_of a s)))) (sym (by_sight e f (detector s) w)) (catches (caught_by_of a s)))
        (λ h w. subst (Q (surface_of S.optics a h)) (sym (by_sight e f (solid h) w)) (solids h))
        (λ w. subst (Q (ends_of gone)) (sym (by_sight e f nothing w)) goes))
