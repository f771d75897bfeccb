-- A run is refused at a place among its given rays. Assumes nothing.
use Prim.Native.Nat.{ℕ, zero, suc, ◌≤◌}
use mathlib.Core.Path.{◌≡◌, subst, sym, ◌∙◌}
use mathlib.Core.Bool.{◌&&◌}
use native.Mathlib.Omega.{arith}
use lib.Dec.{leb, ltb}
use Rattle.detector.specs.declared.DetectorHit.{DetectorHit}
use Rattle.memory.specs.Memory.{Memory, Outcome, done, refused, record_of}
use Rattle.step.specs.declared.ActiveRay.{ActiveRay}
use Rattle.step.specs.Rays.{Scene, End, dim, spent, gone, caught, met, refusing}
use Rattle.step.specs.Steps.{take_step_of}
use Rattle.report.specs.declared.NonSeqTraceReport.{NonSeqTraceReport}
use Rattle.run.specs.declared.stack.Stack.{Stack}
use Rattle.run.specs.declared.stack.Taken.{Taken}
use Rattle.run.specs.declared.Progress.{Progress}
use Rattle.run.specs.Stack.{load_of, taken_from}
use Rattle.run.specs.Run.{Run, hit_in_of, refusal_in_of, put_from, is_left, and_then, settle_with, step_on, drive}
use Rattle.trace.specs.Trace.{Batch, rays_in, all_steps, start_of, scene_in, trace_rays_of}
use Rattle.theorems_runs.proofs.Bred.{pick}
use Rattle.theorems_calls.proofs.Checks.{Passes}
use Rattle.theorems_calls.proofs.Split.{traced}

abbrev Within : {M : Type 0} → ℕ → Outcome M → Type 0
Within n (done m) = Unit
Within n (refused k place m) = place ≤ n

taken_few : (given : ℕ → ActiveRay) (s : Stack) (left n : ℕ) → left ≤ n → (taken_from given s left).left ≤ n
unfolding taken_from load_of
taken_few given s left n k = pick (λ (t : Taken). t.left ≤ n) (ltb 0 s.len && leb s.len 17) (λ q. omega arith) (λ q. omega arith)

module _ {M : Type 0} (put : M → DetectorHit → Outcome M) (S : Scene) (given : ℕ → ActiveRay) (n : ℕ) where
  put_within : (place : ℕ) (r a : NonSeqTraceReport) (o : Outcome M) → place ≤ n → Within n (put_from place r a o).outcome
  put_within place r a (done m) k = tt
  put_within place r a (refused j at m) k = k

  settle_within : (m : M) (place : ℕ) (r a : NonSeqTraceReport) (e : End) → place ≤ n → Within n (settle_with put m place r a (refusal_in_of e place) (hit_in_of e)).outcome
  unfolding hit_in_of refusal_in_of
  settle_within m place r a dim k = tt
  settle_within m place r a spent k = tt
  settle_within m place r a gone k = tt
  settle_within m place r a (caught h) k = put_within place r a (put m h) k
  settle_within m place r a (met x) k = tt
  settle_within m place r a (refusing j) k = k

  step_within : (m : M) (p : Progress) → p.left ≤ n → Within n (step_on put S given m p).outcome
  unfolding step_on
  step_within m p k = settle_within m _ p.report _ (take_step_of S (taken_from given p.stack p.left).ray).end (taken_few given p.stack p.left n k)

  next_few : (m : M) (p : Progress) → p.left ≤ n → (step_on put S given m p).progress.left ≤ n
  unfolding step_on
  next_few m p k = taken_few given p.stack p.left n k

  then_within : (k : ℕ) (o : Outcome M) (p : Progress) → Within n o → ((m : M) → Within n (drive put S given k m p).outcome) → Within n (and_then (drive put S given k) o p).outcome
  then_within k (done m) p w f = f m
  then_within k (refused j place m) p w f = w

  drive_within : (k : ℕ) (m : M) (p : Progress) → p.left ≤ n → Within n (drive put S given k m p).outcome
  unfolding drive
  drive_within zero m p w = tt
  drive_within (suc k) m p w =
      pick (λ (r : Run M). Within n r.outcome) (is_left p)
      (λ q. then_within k (step_on put S given m p).outcome (step_on put S given m p).progress (step_within m p w) (λ m2. drive_within k m2 (step_on put S given m p).progress (next_few m p w)))
      (λ q. tt)

pub place_few : (B : Batch) (s : Memory) (n place : ℕ) (t : Memory) → Passes B s → (trace_rays_of B s).outcome ≡ refused n place t → place ≤ B.rays
unfolding start_of
place_few B s n place t p e =
    subst (Within B.rays) (sym (traced B s p) ∙ e)
    (drive_within record_of (scene_in B s.detectors) (rays_in B) B.rays all_steps s (start_of (rays_in B) B.rays) (omega arith))
