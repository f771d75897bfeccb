-- With a bounce limit of 0 no step is an interaction.
use Prim.Native.Nat.{ℕ, zero, suc}
use mathlib.Core.Path.{◌≡◌, refl, ◌∙◌}
use mathlib.Core.Logic.{◌⊎◌, inl, inr}
use mathlib.Core.Bool.{Bool, true, false, cond}
use lib.Dec.{leb, leb-zero}
use lib.Ieee.{le}
use Rattle.detectors.specs.declared.Detectors.{Detectors}
use Rattle.detector.specs.declared.DetectorHit.{DetectorHit}
use Rattle.error.specs.Refusals.{Checked, passed, refused_at}
use Rattle.memory.specs.Memory.{Memory, Outcome, done, record_of}
use Rattle.step.specs.declared.ActiveRay.{ActiveRay}
use Rattle.step.specs.Rays.{Scene, Step, dim, spent, ends_of}
use Rattle.step.specs.Steps.{take_step_of, interact_of}
use Rattle.report.specs.Report.{more_if_of, is_interaction_of, report_after_of, start_report_of}
use Rattle.run.specs.declared.Progress.{Progress}
use Rattle.run.specs.declared.stack.Taken.{Taken}
use Rattle.run.specs.Stack.{taken_from}
use Rattle.run.specs.Run.{Run, hit_in_of, refusal_in_of, step_from, step_on, is_left, and_then, drive}
use Rattle.trace.specs.Trace.{Batch, rays_in, scene_in, all_steps, start_of, run_on, check_batch, trace_after, trace_rays_of}

-- every step is dim or spent
only_ends : (S : Scene) (a : ActiveRay) → S.optics.config.max_bounces ≡ 0 → (take_step_of S a ≡ ends_of dim) ⊎ (take_step_of S a ≡ ends_of spent)
unfolding take_step_of
only_ends S a z = go (le a.ray.energy S.optics.config.min_power_threshold)
  where
    over : leb S.optics.config.max_bounces a.bounce_count ≡ true
    over = rw z (leb-zero a.bounce_count)

    go : (b : Bool)
        → (cond b (ends_of dim) (cond (leb S.optics.config.max_bounces a.bounce_count) (ends_of spent) (interact_of S a)) ≡ ends_of dim)
        ⊎ (cond b (ends_of dim) (cond (leb S.optics.config.max_bounces a.bounce_count) (ends_of spent) (interact_of S a)) ≡ ends_of spent)
    go true = inl refl
    go false = inr (rw over)

module _ {M : Type 0} (put : M → DetectorHit → Outcome M) (S : Scene) (given : ℕ → ActiveRay) where
  -- such a step leaves the memory, and counts nothing
  settled : (m : M) (p : Progress) (t : Taken) (a : ActiveRay) (s : Step) → (s ≡ ends_of dim) ⊎ (s ≡ ends_of spent)
      → ((step_from put S given m p t s).outcome ≡ done m) × ((step_from put S given m p t s).progress.report.total_interactions ≡ p.report.total_interactions)
  unfolding hit_in_of refusal_in_of report_after_of more_if_of is_interaction_of
  settled m p t a s (inl e) = (rw e, rw e)
  settled m p t a s (inr e) = (rw e, rw e)

  pub uncounted : S.optics.config.max_bounces ≡ 0 → (k : ℕ) (m : M) (p : Progress) → p.report.total_interactions ≡ 0
      → (drive put S given k m p).progress.report.total_interactions ≡ 0
  unfolding drive step_on
  uncounted z zero m p e = e
  uncounted z (suc k) m p e = go (uncounted z k m) (is_left p)
    where
      t : Taken
      t = taken_from given p.stack p.left

      next : Run M
      next = step_from put S given m p t (take_step_of S t.ray)

      both : (next.outcome ≡ done m) × (next.progress.report.total_interactions ≡ p.report.total_interactions)
      both = settled m p t t.ray (take_step_of S t.ray) (only_ends S t.ray z)

      on : (o : Outcome M) → o ≡ done m → (drive put S given k m next.progress).progress.report.total_interactions ≡ 0
          → (and_then (drive put S given k) o next.progress).progress.report.total_interactions ≡ 0
      on o f rest = rw f rest

      go : ((q : Progress) → q.report.total_interactions ≡ 0 → (drive put S given k m q).progress.report.total_interactions ≡ 0)
          → (b : Bool) → (cond b (and_then (drive put S given k) next.outcome next.progress) (record { outcome = done m; progress = p })).progress.report.total_interactions ≡ 0
      go rest true = on next.outcome both.0 (rest next.progress (both.1 ∙ e))
      go rest false = e

-- from the start of a run on
pub uninteracting : {M : Type 0} (put : M → DetectorHit → Outcome M) (ds : Detectors) (B : Batch) (m : M) → B.config.max_bounces ≡ 0
    → (run_on put ds B m).progress.report.total_interactions ≡ 0
unfolding run_on start_of start_report_of
uninteracting put ds B m z = uncounted put (scene_in B ds) (rays_in B) z all_steps m (start_of (rays_in B) B.rays) refl

-- a tracing that is refused before its run counts nothing either
pub uninteracted : (B : Batch) (s : Memory) → B.config.max_bounces ≡ 0 → (trace_rays_of B s).report.total_interactions ≡ 0
unfolding trace_rays_of start_report_of
uninteracted B s z = go (check_batch B s)
  where
    go : (c : Checked Unit) → (trace_after c s (run_on record_of s.detectors B s)).report.total_interactions ≡ 0
    go (passed u) = uninteracting record_of s.detectors B s z
    go (refused_at n place) = refl
