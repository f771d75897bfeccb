-- Weak counts the rays that the threshold left unmade, at clear surfaces and mirrors. Assumes nothing.
use Rattle.std.specs.Prelude.{is_some}
use Prim.Native.Nat.{ℕ, ◌≤◌, ◌+◌}
use mathlib.Core.Path.{◌≡◌, refl, sym, ap, subst, ◌∙◌}
use mathlib.Core.Logic.{inl, inr}
use mathlib.Core.Bool.{Bool, true, false, cond}
use native.Mathlib.Omega.{arith}
use lib.Ieee.{Float, lt}
use Rattle.error.specs.Refusals.{Answer, value, refusal}
use Rattle.rays.specs.declared.Ray.{Ray}
use Rattle.media.specs.declared.Media.{Media}
use Rattle.material.specs.declared.SurfaceFinish.TheVariants.{Specular, Mirror}
use Rattle.scene.specs.declared.NonSeqHit.{NonSeqHit}
use Rattle.surface.specs.Fresnel.{compute_snell_fresnel_interaction_of}
use Rattle.surface.specs.declared.FresnelInteraction.{FresnelInteraction}
use Rattle.surface.specs.declared.FresnelInteraction.TheVariants.{Total, Split}
use Rattle.detector.specs.declared.DetectorHit.{DetectorHit}
use Rattle.memory.specs.Memory.{Outcome}
use Rattle.step.specs.declared.ActiveRay.{ActiveRay}
use Rattle.step.specs.Rays.{Optics, Scene, Step, End, dim, spent, gone, caught, met, refusing}
use Rattle.step.specs.Steps.{made_if, parted_by, mirror_from_of, surface_of, take_step_of}
use Rattle.step.proofs.Ways.{index_here, index_beyond, at_mirror, met_mirror, Refuses, by-finish}
use Rattle.report.specs.declared.tallies.Tallies.{Tallies}
use Rattle.report.specs.declared.NonSeqTraceReport.{NonSeqTraceReport}
use Rattle.report.specs.Report.{more_if_of, add_dim_of, add_spent_of, add_caught_of, add_gone_of, add_surface_of, faint_of, tallies_after_of, report_after_of, counted_of}
use Rattle.report.proofs.Meetings.{is_weak, is_faint, met_surface}
use Rattle.run.specs.declared.Progress.{Progress}
use Rattle.run.specs.Run.{is_left, drive}
use Rattle.theorems_runs.specs.Sums.{sum_left, heft}
use Rattle.theorems_runs.specs.Room.{next_ray}
use Rattle.theorems_runs.specs.Dropped.{rays_taken, weak_one, weak_parted, weak_between, weak_by, weak_in, all_weak}
use Rattle.theorems_runs.proofs.Stacks.{next}
use Rattle.theorems_runs.proofs.Runs.{weight_pos}
use Rattle.theorems_runs.proofs.Balance.{more_if, flag_most}
use Rattle.theorems_runs.proofs.Counts.{Kept, next_kept}
use Rattle.theorems_runs.proofs.Amounts.{after, next_amount, drive-amount}
use Rattle.theorems_runs.proofs.Surfaces.{by-met}

-- ---- what a step leaves unmade

-- by the report's own counts
abbrev unmade : End → Bool → Bool → ℕ
unmade dim f s = 0
unmade spent f s = 0
unmade gone f s = 0
unmade (caught h) f s = 0
unmade (met m) f s = cond (is_weak m f) 1 0 + cond (is_faint m s) 1 0
unmade (refusing n) f s = 0

abbrev Leaves : Step → ℕ → Type 0
Leaves s n = unmade s.end (is_some s.reflected) (is_some s.transmitted) ≡ n

parted_leaves : (O : Optics) (a : ActiveRay) (m : Media) (p : FresnelInteraction) → Leaves (parted_by O.config.min_power_threshold a m p) (weak_parted O (value p))
unfolding parted_by weak_parted weak_one faint_of
parted_leaves O a m (Total r) = go (lt O.config.min_power_threshold r.energy) _
  where
    go : (f : Bool) (x : ActiveRay) → cond (cond (is_some (made_if f x)) false true) 1 0 + 0 ≡ cond f 0 1
    go true x = refl
    go false x = refl
parted_leaves O a m (Split r t) = go (lt O.config.min_power_threshold r.energy) (lt O.config.min_power_threshold t.energy) _ _
  where
    go : (f s : Bool) (x y : ActiveRay) → cond (cond (is_some (made_if f x)) false true) 1 0 + cond (cond (is_some (made_if s y)) false true) 1 0 ≡ cond f 0 1 + cond s 0 1
    go true true x y = refl
    go true false x y = refl
    go false true x y = refl
    go false false x y = refl

made_leaves : (a : ActiveRay) (rho : Float) (r : Ray) → Leaves (mirror_from_of a (met_mirror a rho) (value r)) 0
unfolding mirror_from_of
made_leaves a rho r = refl

none_above : (O : Optics) (x : Float) → lt O.config.min_power_threshold x ≡ true → weak_one O x ≡ 0
unfolding weak_one
none_above O x e = rw e

one_below : (O : Optics) (x : Float) → lt O.config.min_power_threshold x ≡ false → weak_one O x ≡ 1
unfolding weak_one
one_below O x e = rw e

module _ (O : Optics) (a : ActiveRay) (h : NonSeqHit) where
  abbrev here : ℕ
  here = weak_by O a h (O.finish h.object_id)

  none_beyond : (n : ℕ) (x y : Answer Float) → y ≡ refusal n → weak_between O a h x y ≡ 0
  unfolding weak_between
  none_beyond n (value n1) y e = rw e
  none_beyond n (refusal k) y e = refl

  at_mirror_lem : (rho : Float) → O.finish h.object_id ≡ Mirror rho → here ≡ weak_one O (at_mirror a rho)
  unfolding weak_by
  at_mirror_lem rho e = rw e

  none_refused : (n : ℕ) → Refuses O a h n → here ≡ 0
  unfolding weak_by weak_between weak_parted
  none_refused n (inl (e, inl f)) = rw (e, f)
  none_refused n (inl (e, inr (inl f))) = rw e (none_beyond n (index_here O a) (index_beyond O a h) f)
  none_refused n (inl (e, inr (inr (n1, (n2, (i, (j, g))))))) = rw (e, i, j, g)
  none_refused n (inr (rho, (e, (f, g)))) = at_mirror_lem rho e ∙ none_above O (at_mirror a rho) f

  at_clear : (n1 n2 : Float) (p : FresnelInteraction) → O.finish h.object_id ≡ Specular → index_here O a ≡ value n1 → index_beyond O a h ≡ value n2
      → compute_snell_fresnel_interaction_of a.ray h n1 n2 a.ray.energy ≡ value p → here ≡ weak_parted O (value p)
  unfolding weak_by weak_between
  at_clear n1 n2 p e i j g = rw (e, i, j, g)

  surface_leaves : Leaves (surface_of O a h) here
  unfolding weak_by
  surface_leaves =
      by-finish (λ s. Leaves s here) a O h (λ e. rw e) (λ n g. sym (none_refused n g))
      (λ rho e f. sym (at_mirror_lem rho e ∙ one_below O (at_mirror a rho) f))
      (λ rho r e f g. subst (Leaves (mirror_from_of a (met_mirror a rho) (value r))) (sym (at_mirror_lem rho e ∙ none_above O (at_mirror a rho) f)) (made_leaves a rho r))
      (λ n1 n2 p e i j g. subst (Leaves (parted_by _ a _ p)) (sym (at_clear n1 n2 p e i j g)) (parted_leaves O a _ p))

step_leaves : (S : Scene) (a : ActiveRay) → Leaves (take_step_of S a) (weak_in S a)
unfolding weak_in
step_leaves S a = by-met 0 (λ h. here S.optics a h) S a Leaves refl refl (λ s. refl) refl (λ h. surface_leaves S.optics a h)

tallies_weak : (t : Tallies) (e : End) (f s : Bool) → t.weak + 2 ≤ 1073733632 → (tallies_after_of t e f s).weak ≡ t.weak + unmade e f s
unfolding tallies_after_of add_dim_of add_spent_of add_caught_of add_gone_of add_surface_of
tallies_weak t dim f s h = omega arith
tallies_weak t spent f s h = omega arith
tallies_weak t gone f s h = omega arith
tallies_weak t (caught d) f s h = omega arith
tallies_weak t (met m) f s h =
    let w : Bool = is_weak m f in
    let z : Bool = is_faint m s in
    let w1 : more_if_of w t.weak ≡ t.weak + cond w 1 0 = more_if w t.weak (omega arith) in
    let w2 : more_if_of z (more_if_of w t.weak) ≡ more_if_of w t.weak + cond z 1 0 = more_if z (more_if_of w t.weak) (omega (arith, flag_most w)) in
    rw (met_surface t m f s) (omega arith)
tallies_weak t (refusing n) f s h = omega arith

-- ---- a run

counted_weak : (r : NonSeqTraceReport) → (counted_of r).tallies.weak ≡ r.tallies.weak
unfolding counted_of
counted_weak r = refl

after_weak : (r : NonSeqTraceReport) (power : Float) (s : Step) → (report_after_of r power s).tallies.weak ≡ (tallies_after_of r.tallies s.end (is_some s.reflected) (is_some s.transmitted)).weak
unfolding report_after_of
after_weak r power s = refl

caught_weak : (t : Tallies) (h : DetectorHit) (f s : Bool) → (tallies_after_of t (caught h) f s).weak ≡ t.weak
unfolding tallies_after_of add_caught_of
caught_weak t h f s = refl

module _ {M : Type 0} (put : M → DetectorHit → Outcome M) (S : Scene) (given : ℕ → ActiveRay) where
  abbrev weak : NonSeqTraceReport → ℕ
  weak r = r.tallies.weak

  abbrev step : Progress → Step
  step p = take_step_of S (next_ray given p)

  module _ (n : ℕ) (small : n ≤ 1073733632) (lim : S.optics.config.max_bounces ≤ 16) where
    abbrev kept : Progress → Type 0
    kept p = Kept given S.optics.config.max_bounces n p

    next-weak : (m : M) (p : Progress) → is_left p ≡ true → kept p → weak (next put S given m p).report ≡ weak p.report + weak_in S (next_ray given p)
    next-weak m p l k =
        let t : Tallies = p.report.tallies in
        let pos : 1 ≤ sum_left (heft S.optics.config.max_bounces) given p = weight_pos put S given p k.full l in
        let a : weak (after put S given weak p) ≡ (tallies_after_of t (step p).end (is_some (step p).reflected) (is_some (step p).transmitted)).weak = after_weak p.report _ (step p) in
        next_amount put S given weak m p
        (λ h e.
        counted_weak p.report
        ∙ sym (a ∙ ap (λ (w : End). (tallies_after_of t w (is_some (step p).reflected) (is_some (step p).transmitted)).weak) e ∙ caught_weak t h (is_some (step p).reflected) (is_some (step p).transmitted)))
        ∙ a
        ∙ tallies_weak t (step p).end (is_some (step p).reflected) (is_some (step p).transmitted) (omega (arith, k.small.tallies.weak))
        ∙ ap (λ (i : ℕ). t.weak + i) (step_leaves S (next_ray given p))

    -- after any steps, refused or not, weak counts what the threshold left unmade of the rays taken
    pub run-weak : (k : ℕ) (m : M) (p : Progress) → kept p → weak (drive put S given k m p).progress.report ≡ weak p.report + all_weak S (rays_taken put S given k m p)
    unfolding all_weak
    run-weak k m p h =
        drive-amount put S given weak (λ x rest. x + all_weak S rest) kept (λ x. omega arith) (λ u q l g. next_kept put S given n lim u q l g)
        (λ u q rest l g. omega (arith, next-weak u q l g))
        k m p h
