-- Lost is the sum in step order of what mirrors drop of the rays taken. Assumes nothing.
use Rattle.std.specs.Prelude.{is_some}
use Prim.Native.Nat.{ℕ}
use mathlib.Core.Path.{◌≡◌, refl, sym, ap, subst, ◌∙◌}
use mathlib.Core.Bool.{true}
use mathlib.Core.List.{List, [], ◌∷◌, ◌++◌}
use mathlib.Core.Logic.{inl, inr}
use lib.Ieee.{Float, binary64, add, lt}
use Rattle.error.specs.Refusals.{value}
use Rattle.rays.specs.declared.Ray.{Ray}
use Rattle.media.specs.declared.Media.{Media}
use Rattle.material.specs.declared.SurfaceFinish.TheVariants.{Mirror}
use Rattle.scene.specs.declared.NonSeqHit.{NonSeqHit}
use Rattle.surface.specs.declared.FresnelInteraction.{FresnelInteraction}
use Rattle.surface.specs.declared.FresnelInteraction.TheVariants.{Total, Split}
use Rattle.detector.specs.declared.DetectorHit.{DetectorHit}
use Rattle.memory.specs.Memory.{Outcome}
use Rattle.step.specs.declared.ActiveRay.{ActiveRay}
use Rattle.step.specs.Rays.{Optics, Scene, Step, End}
use Rattle.step.specs.Steps.{parted_by, mirror_from_of, surface_of, take_step_of}
use Rattle.step.proofs.Ways.{at_mirror, met_mirror, Refuses, by-finish}
use Rattle.report.specs.declared.NonSeqTraceReport.{NonSeqTraceReport}
use Rattle.report.specs.Report.{counted_of}
use Rattle.report.proofs.Meetings.{lost_after, after_lost}
use Rattle.run.specs.declared.Progress.{Progress}
use Rattle.run.specs.Run.{drive}
use Rattle.theorems_runs.specs.Room.{next_ray}
use Rattle.theorems_runs.specs.Dropped.{rays_taken, dropped_by, dropped, all_dropped, added_to}
use Rattle.theorems_runs.proofs.Surfaces.{by-met}
use Rattle.theorems_runs.proofs.Stacks.{next}
use Rattle.theorems_runs.proofs.Amounts.{after, next_amount, drive-amount}

-- ---- what a step drops

-- what lost becomes in a step that drops these powers
abbrev Drops : Float → Step → List Float → Type 0
Drops x s ys = lost_after x s.end (is_some s.reflected) ≡ added_to x ys

parted_drops : (x threshold : Float) (a : ActiveRay) (m : Media) (p : FresnelInteraction) → Drops x (parted_by threshold a m p) []
unfolding parted_by added_to
parted_drops x threshold a m (Total r) = refl
parted_drops x threshold a m (Split r t) = refl

made_drops : (x : Float) (a : ActiveRay) (rho : Float) (r : Ray) → Drops x (mirror_from_of a (met_mirror a rho) (value r)) []
unfolding mirror_from_of added_to
made_drops x a rho r = refl

module _ (x : Float) (O : Optics) (a : ActiveRay) (h : NonSeqHit) where
  abbrev here : List Float
  here = dropped_by O a (O.finish h.object_id)

  none_refused : (n : ℕ) → Refuses O a h n → here ≡ []
  unfolding dropped_by
  none_refused n (inl (e, f)) = rw e
  none_refused n (inr (rho, (e, (f, g)))) = rw (e, f)

  none_above : (rho : Float) → O.finish h.object_id ≡ Mirror rho → lt O.config.min_power_threshold (at_mirror a rho) ≡ true → here ≡ []
  unfolding dropped_by
  none_above rho e f = rw (e, f)

  surface_drops : Drops x (surface_of O a h) here
  unfolding dropped_by added_to
  surface_drops =
      by-finish (λ s. Drops x s here) a O h (λ e. rw e) (λ n g. rw (none_refused n g)) (λ rho e f. rw (e, f))
      (λ rho r e f g. subst (Drops x (mirror_from_of a (met_mirror a rho) (value r))) (sym (none_above rho e f)) (made_drops x a rho r))
      (λ n1 n2 p e i j g. rw e (parted_drops x _ a _ p))

-- lost grows by what the step drops of its ray, and by nothing else
step_drops : (S : Scene) (a : ActiveRay) (x : Float) → Drops x (take_step_of S a) (dropped S a)
unfolding dropped added_to
step_drops S a x = by-met [] (λ h. here x S.optics a h) S a (Drops x) refl refl (λ s. refl) refl (λ h. surface_drops x S.optics a h)

-- ---- a run

added_none : (x : Float) → added_to x [] ≡ x
unfolding added_to
added_none x = refl

added_each : (x : Float) (ys zs : List Float) → added_to x (ys ++ zs) ≡ added_to (added_to x ys) zs
unfolding added_to
added_each x [] zs = refl
added_each x (y ∷ ys) zs = added_each (add binary64 x y) ys zs

counted_lost : (r : NonSeqTraceReport) → (counted_of r).ledger.lost_flux_watts ≡ r.ledger.lost_flux_watts
unfolding counted_of
counted_lost r = refl

module _ {M : Type 0} (put : M → DetectorHit → Outcome M) (S : Scene) (given : ℕ → ActiveRay) where
  abbrev lost : NonSeqTraceReport → Float
  lost r = r.ledger.lost_flux_watts

  abbrev step : Progress → Step
  step p = take_step_of S (next_ray given p)

  next_lost : (m : M) (p : Progress) → lost (next put S given m p).report ≡ added_to (lost p.report) (dropped S (next_ray given p))
  next_lost m p =
      let l : lost (after put S given lost p) ≡ lost_after (lost p.report) (step p).end (is_some (step p).reflected) = after_lost p.report _ (step p) in
      next_amount put S given lost m p
      (λ h e. counted_lost p.report ∙ sym (l ∙ ap (λ (w : End). lost_after (lost p.report) w (is_some (step p).reflected)) e))
      ∙ l ∙ step_drops S (next_ray given p) (lost p.report)

  -- after any steps, refused or not, lost is what mirrors dropped of the rays taken, added up in step order
  pub run_lost : (k : ℕ) (m : M) (p : Progress) → lost (drive put S given k m p).progress.report ≡ added_to (lost p.report) (all_dropped S (rays_taken put S given k m p))
  unfolding all_dropped
  run_lost k m p =
      drive-amount put S given lost (λ x rest. added_to x (all_dropped S rest)) (λ q. Unit) added_none (λ u q l h. tt)
      (λ u q rest l h. ap (λ (x : Float). added_to x (all_dropped S rest)) (next_lost u q) ∙ sym (added_each (lost q.report) (dropped S (next_ray given q)) (all_dropped S rest)))
      k m p tt
