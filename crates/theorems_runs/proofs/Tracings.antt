-- Theorems about whole tracings: a run stops because nothing is left, and its interactions are bounded. Assumes nothing.
use Prim.Native.Nat.{ℕ, zero, suc, ◌≤◌, ◌<◌, ◌+◌, ◌-◌, ◌*◌}
use mathlib.Core.Path.{◌≡◌, refl}
use mathlib.Core.Bool.{false}
use native.Mathlib.Omega.{arith}
use native.Mathlib.Nat.{suc-mul}
use Rattle.detectors.specs.declared.Detectors.{Detectors}
use Rattle.detector.specs.declared.DetectorHit.{DetectorHit}
use Rattle.memory.specs.Memory.{Outcome, done}
use Rattle.step.specs.declared.ActiveRay.{ActiveRay}
use Rattle.step.specs.Rays.{Scene}
use Rattle.report.specs.Report.{start_report_of}
use Rattle.run.specs.declared.Progress.{Progress}
use Rattle.run.specs.Stack.{empty_stack_of}
use Rattle.run.specs.Run.{is_left, drive}
use Rattle.trace.specs.Trace.{Batch, rays_in, all_steps, start_of, scene_in, run_on}
use Rattle.theorems_runs.specs.Sums.{sum_first, sum_given, sum_stack, sum_left, heft, most_interactions, share, Full}
use Rattle.theorems_runs.proofs.Stacks.{next_full}
use Rattle.theorems_runs.proofs.Weights.{heft_most}
use Rattle.theorems_runs.proofs.Runs.{drive_keeps, drive_stops, next_shares}

-- ---- the start

pub given_most : (f : ActiveRay → ℕ) (given : ℕ → ActiveRay) (c n : ℕ) → ((i : ℕ) → i < n → f (given i) ≤ c) → sum_given f given n ≤ n * c
unfolding sum_given
given_most f given c zero h = omega arith
given_most f given c (suc n) h = omega (arith, suc-mul n c, h n (omega arith), given_most f given c n (λ i q. h i (omega arith)))

pub start_full : (given : ℕ → ActiveRay) (n : ℕ) → Full (start_of given n).stack
unfolding start_of empty_stack_of
start_full given n = record { room = refl; small = omega arith }

pub start_sum : (f : ActiveRay → ℕ) (given : ℕ → ActiveRay) (n : ℕ) → sum_left f given (start_of given n) ≡ sum_given f given n
unfolding start_of empty_stack_of sum_left sum_stack sum_first
start_sum f given n = omega arith

start_count : (given : ℕ → ActiveRay) (n : ℕ) → (start_of given n).report.total_interactions ≡ 0
unfolding start_of start_report_of
start_count given n = refl

pub start_weight : (b : ℕ) (given : ℕ → ActiveRay) (n : ℕ) → b ≤ 16 → n ≤ 4096 → sum_left (heft b) given (start_of given n) ≤ 536866816
start_weight b given n lim few =
    let p : sum_given (heft b) given n ≤ n * 131071 = given_most (heft b) given 131071 n (λ i q. heft_most b (given i) lim) in
    omega (arith, start_sum (heft b) given n, p)

-- the interactions counted and those that can still come are at most n
record Kept (given : ℕ → ActiveRay) (b n : ℕ) (p : Progress) : Type 0 where
  full : Full p.stack
  most : p.report.total_interactions + sum_left (share b) given p ≤ n

share_zero : (b : ℕ) (a : ActiveRay) → a.bounce_count ≡ 0 → share b a ≤ most_interactions b
unfolding share
share_zero b a z = let q : b - a.bounce_count ≡ b = omega arith in rw q (omega arith)

-- ---- the theorems

module _ {M : Type 0} (put : M → DetectorHit → Outcome M) (ds : Detectors) (B : Batch) (m : M) (lim : B.config.max_bounces ≤ 16) where
  -- a run that is not refused stops because no ray is left, and not for want of steps
  pub enough : (z : M) → B.rays ≤ 4096 → (run_on put ds B m).outcome ≡ done z → is_left (run_on put ds B m).progress ≡ false
  unfolding run_on
  enough z few =
      drive_stops put (scene_in B ds) (rays_in B) lim all_steps m z (start_of (rays_in B) B.rays) (start_full (rays_in B) B.rays)
      (omega (arith, start_weight B.config.max_bounces (rays_in B) B.rays lim few))

  -- the interactions of any run are at most those that the given rays can lead to
  pub bound_any : (run_on put ds B m).progress.report.total_interactions ≤ sum_given (share B.config.max_bounces) (rays_in B) B.rays
  unfolding run_on
  bound_any =
      let S : Scene = scene_in B ds in
      let b : ℕ = B.config.max_bounces in
      let n : ℕ = sum_given (share b) (rays_in B) B.rays in
      let r : Kept (rays_in B) b n (drive put S (rays_in B) all_steps m (start_of (rays_in B) B.rays)).progress =
      drive_keeps put S (rays_in B) (Kept (rays_in B) b n)
      (λ u p l k. record { full = next_full put S (rays_in B) u p k.full; most = omega (arith, next_shares put S (rays_in B) u p lim k.full l, k.most) })
      all_steps m (start_of (rays_in B) B.rays)
      (record { full = start_full (rays_in B) B.rays; most = omega (arith, start_count (rays_in B) B.rays, start_sum (share b) (rays_in B) B.rays) }) in
      omega (arith, r.most)

  -- rays without bounces: at most 2 ^ limit - 1 for each
  pub bound : ((i : ℕ) → i < B.rays → (rays_in B i).bounce_count ≡ 0) → (run_on put ds B m).progress.report.total_interactions ≤ B.rays * most_interactions B.config.max_bounces
  bound zero-bounces =
      omega (arith, bound_any, given_most (share B.config.max_bounces) (rays_in B) (most_interactions B.config.max_bounces) B.rays (λ i q. share_zero B.config.max_bounces (rays_in B i) (zero-bounces i q)))
