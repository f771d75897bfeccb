-- No count of a report comes near the largest number, so that raising one always adds 1. Assumes nothing.
use Rattle.std.specs.Prelude.{Option, None, Some, is_some}
use Prim.Native.Nat.{ℕ, ◌≤◌, ◌+◌, ◌*◌}
use mathlib.Core.Path.{◌≡◌, sym, subst}
use mathlib.Core.Bool.{Bool, true, false}
use native.Mathlib.Omega.{arith}
use lib.Ieee.{Float}
use Rattle.error.specs.Refusals.{Checked}
use Rattle.detectors.specs.declared.Detectors.{Detectors}
use Rattle.detector.specs.declared.DetectorHit.{DetectorHit}
use Rattle.memory.specs.Memory.{Outcome, done, refused}
use Rattle.step.specs.declared.ActiveRay.{ActiveRay}
use Rattle.step.specs.Rays.{Scene, Step, End, dim, spent, gone, caught, met, refusing}
use Rattle.step.specs.Steps.{take_step_of}
use Rattle.report.specs.declared.tallies.Tallies.{Tallies}
use Rattle.report.specs.declared.NonSeqTraceReport.{NonSeqTraceReport}
use Rattle.report.specs.Report.{more_if_of, add_dim_of, add_spent_of, add_caught_of, add_gone_of, add_surface_of, tallies_after_of, is_interaction_of, report_after_of, counted_of, start_report_of}
use Rattle.report.proofs.Meetings.{met_surface}
use Rattle.run.specs.declared.Progress.{Progress}
use Rattle.run.specs.Stack.{taken_from}
use Rattle.run.specs.Run.{hit_in_of, refusal_in_of, put_from, is_left, settle_with, step_on, drive}
use Rattle.trace.specs.Trace.{Batch, rays_in, start_of, scene_in}
use Rattle.theorems_runs.specs.Sums.{sum_left, heft, Full}
use Rattle.theorems_runs.specs.Room.{SmallTallies, SmallCounts}
use Rattle.theorems_runs.proofs.Bred.{more_most}
use Rattle.theorems_runs.proofs.Stacks.{ray, next, next_full}
use Rattle.theorems_runs.proofs.Runs.{drive_keeps, next_less}
use Rattle.theorems_runs.proofs.Tracings.{start_full, start_weight}

if_more : (t : Bool) (n : ℕ) → more_if_of t n ≤ n + 1
unfolding more_if_of
if_more true n = more_most n
if_more false n = omega arith

-- a step raises no count by more than 2
module _ (n w v : ℕ) (less : w + 2 ≤ v) where
  surfacing_small : (t : Tallies) (f s x y : Bool) → SmallTallies n v t → SmallTallies n w (add_surface_of t f s x y)
  unfolding add_surface_of
  surfacing_small t f s x y h =
      let m1 : more_if_of f t.made ≤ t.made + 1 = if_more f t.made in
      let m2 : more_if_of s (more_if_of f t.made) ≤ more_if_of f t.made + 1 = if_more s (more_if_of f t.made) in
      let w1 : more_if_of x t.weak ≤ t.weak + 1 = if_more x t.weak in
      let w2 : more_if_of y (more_if_of x t.weak) ≤ more_if_of x t.weak + 1 = if_more y (more_if_of x t.weak) in
      record { made = omega (arith, h.made); dim = omega (arith, h.dim); spent = omega (arith, h.spent); caught = omega (arith, h.caught); gone = omega (arith, h.gone); surface = omega (arith, h.surface, more_most t.surface); weak = omega (arith, h.weak) }

  tallies_small : (t : Tallies) (e : End) (f s : Bool) → SmallTallies n v t → SmallTallies n w (tallies_after_of t e f s)
  unfolding tallies_after_of add_dim_of add_spent_of add_caught_of add_gone_of
  tallies_small t dim f s h = record { made = omega (arith, h.made); dim = omega (arith, h.dim, more_most t.dim); spent = omega (arith, h.spent); caught = omega (arith, h.caught); gone = omega (arith, h.gone); surface = omega (arith, h.surface); weak = omega (arith, h.weak) }
  tallies_small t spent f s h = record { made = omega (arith, h.made); dim = omega (arith, h.dim); spent = omega (arith, h.spent, more_most t.spent); caught = omega (arith, h.caught); gone = omega (arith, h.gone); surface = omega (arith, h.surface); weak = omega (arith, h.weak) }
  tallies_small t gone f s h = record { made = omega (arith, h.made); dim = omega (arith, h.dim); spent = omega (arith, h.spent); caught = omega (arith, h.caught); gone = omega (arith, h.gone, more_most t.gone); surface = omega (arith, h.surface); weak = omega (arith, h.weak) }
  tallies_small t (caught d) f s h = record { made = omega (arith, h.made); dim = omega (arith, h.dim); spent = omega (arith, h.spent); caught = omega (arith, h.caught, more_most t.caught); gone = omega (arith, h.gone); surface = omega (arith, h.surface); weak = omega (arith, h.weak) }
  tallies_small t (met m) f s h =
      subst (SmallTallies n w) (sym (met_surface t m f s)) (surfacing_small t f s _ _ h)
  tallies_small t (refusing k) f s h = record { made = omega (arith, h.made); dim = omega (arith, h.dim); spent = omega (arith, h.spent); caught = omega (arith, h.caught); gone = omega (arith, h.gone); surface = omega (arith, h.surface); weak = omega (arith, h.weak) }

  after_small : (r : NonSeqTraceReport) (power : Float) (s : Step) → SmallCounts n v r → SmallCounts n w (report_after_of r power s)
  unfolding report_after_of
  after_small r power s h =
      record {
        tallies = tallies_small r.tallies s.end (is_some s.reflected) (is_some s.transmitted) h.tallies;
        interactions = omega (arith, h.interactions, if_more (is_interaction_of s.end) r.total_interactions);
      }

  counted_small : (r : NonSeqTraceReport) → SmallCounts n v r → SmallCounts n w (counted_of r)
  unfolding counted_of
  counted_small r k =
      let h : SmallTallies n v r.tallies = k.tallies in
      record { tallies = record { made = omega (arith, h.made); dim = omega (arith, h.dim); spent = omega (arith, h.spent); caught = omega (arith, h.caught); gone = omega (arith, h.gone); surface = omega (arith, h.surface); weak = omega (arith, h.weak) }; interactions = omega (arith, k.interactions, more_most r.total_interactions) }

-- ---- a step

module _ {M : Type 0} (put : M → DetectorHit → Outcome M) (Q : NonSeqTraceReport → Type 0) where
  put_either : (place : ℕ) (r after : NonSeqTraceReport) (o : Outcome M) → Q after → Q (counted_of r) → Q (put_from place r after o).report
  put_either place r after (done m) h k = h
  put_either place r after (refused n at m) h k = k

  -- a step's report is the report after it, or the one it found with its interaction counted
  settle_either : (m : M) (place : ℕ) (r after : NonSeqTraceReport) (c : Checked Unit) (o : Option DetectorHit) → Q after → Q (counted_of r) → Q (settle_with put m place r after c o).report
  settle_either m place r after c (Some d) h k = put_either place r after (put m d) h k
  settle_either m place r after c None h k = h

-- the counts of a report, with all that the rays left can lead to, are at most n
pub record Kept (given : ℕ → ActiveRay) (b n : ℕ) (p : Progress) : Type 0 where
  pub full : Full p.stack
  pub small : SmallCounts n (2 * sum_left (heft b) given p) p.report

module _ {M : Type 0} (put : M → DetectorHit → Outcome M) (S : Scene) (given : ℕ → ActiveRay) (n : ℕ) (lim : S.optics.config.max_bounces ≤ 16) where
  next_small : (m : M) (p : Progress) (w : ℕ) (v : ℕ) → w + 2 ≤ v → SmallCounts n v p.report → SmallCounts n w (next put S given m p).report
  unfolding step_on
  next_small m p w v less h =
      let a : ActiveRay = ray put S given m p in
      let s : Step = take_step_of S a in
      let place : ℕ = (taken_from given p.stack p.left).left in
      settle_either put (SmallCounts n w) m place p.report (report_after_of p.report a.ray.energy s) (refusal_in_of s.end place) (hit_in_of s.end)
      (after_small n w v less p.report a.ray.energy s h) (counted_small n w v less p.report h)

  pub next_kept : (m : M) (p : Progress) → is_left p ≡ true → Kept given S.optics.config.max_bounces n p → Kept given S.optics.config.max_bounces n (next put S given m p)
  next_kept m p l k =
      record {
        full = next_full put S given m p k.full;
        small = next_small m p _ _ (omega (arith, next_less put S given m p lim k.full l)) k.small;
      }

start_small : (given : ℕ → ActiveRay) (n w k : ℕ) → w ≤ k → SmallCounts k w (start_of given n).report
unfolding start_of start_report_of
start_small given n w k q =
    record {
      tallies = record { made = omega arith; dim = omega arith; spent = omega arith; caught = omega arith; gone = omega arith; surface = omega arith; weak = omega arith };
      interactions = omega arith;
    }

less_small : (n w : ℕ) (r : NonSeqTraceReport) → SmallCounts n w r → SmallCounts n 0 r
less_small n w r k =
    let h : SmallTallies n w r.tallies = k.tallies in
    record { tallies = record { made = omega (arith, h.made); dim = omega (arith, h.dim); spent = omega (arith, h.spent); caught = omega (arith, h.caught); gone = omega (arith, h.gone); surface = omega (arith, h.surface); weak = omega (arith, h.weak) }; interactions = omega (arith, k.interactions) }

pub start_kept : (given : ℕ → ActiveRay) (b n : ℕ) → b ≤ 16 → n ≤ 4096 → Kept given b 1073733632 (start_of given n)
start_kept given b n lim few =
    record {
      full = start_full given n;
      small = start_small given n _ 1073733632 (omega (arith, start_weight b given n lim few));
    }

-- after any k steps, refused or not, no count of the report is above 1073733632
pub counts_small : {M : Type 0} (put : M → DetectorHit → Outcome M) (ds : Detectors) (B : Batch) (m : M) (k : ℕ) → B.config.max_bounces ≤ 16 → B.rays ≤ 4096
    → SmallCounts 1073733632 0 (drive put (scene_in B ds) (rays_in B) k m (start_of (rays_in B) B.rays)).progress.report
counts_small put ds B m k lim few =
    let b : ℕ = B.config.max_bounces in
    let start : Progress = start_of (rays_in B) B.rays in
    let r : Kept (rays_in B) b 1073733632 (drive put (scene_in B ds) (rays_in B) k m start).progress =
    drive_keeps put (scene_in B ds) (rays_in B) (Kept (rays_in B) b 1073733632) (λ u p l h. next_kept put (scene_in B ds) (rays_in B) 1073733632 lim u p l h) k m start
    (start_kept (rays_in B) b B.rays lim few) in
    less_small 1073733632 _ _ r.small
