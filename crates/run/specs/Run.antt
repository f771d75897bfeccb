-- A run of steps into any memory that hits can be put into: the lent memory is one, the plain book another.
use Rattle.std.specs.Prelude.{ℕ, zero, suc, Bool, false, cond, ◌&&◌, ◌||◌, ltb, Float, Option, None, Some, Result, Ok, Err}
use Rattle.error.specs.declared.Refusal.{Refusal}
use Rattle.error.specs.Refusals.{Checked, passed, refused_at}
use Rattle.detector.specs.declared.DetectorHit.{DetectorHit}
use Rattle.memory.specs.Memory.{Memory, Outcome, done, refused, unless, as_outcome, record_of}
use Rattle.step.specs.declared.ActiveRay.{ActiveRay}
use Rattle.step.specs.Rays.{Scene, Step, End, dim, spent, gone, caught, met, refusing}
use Rattle.step.specs.Steps.{take_step_of}
use Rattle.report.specs.declared.NonSeqTraceReport.{NonSeqTraceReport}
use Rattle.report.specs.Report.{report_after_of, counted_of}
use Rattle.run.specs.declared.stack.Taken.{Taken}
use Rattle.run.specs.declared.Progress.{Progress}
use Rattle.run.specs.declared.Advanced.{Advanced}
use Rattle.run.specs.Stack.{taken_from, stack_after}

-- where a run stands: the memory or a refusal, and the progress
pub record Run (M : Type 0) : Type 0 where
  pub outcome : Outcome M
  pub progress : Progress

-- what a step leaves of the memory, and the report
pub record Settled (M : Type 0) : Type 0 where
  pub outcome : Outcome M
  pub report : NonSeqTraceReport

-- the hit that a step brings, if any
unfoldable pub hit_in_of : End → Option DetectorHit
hit_in_of dim = None
hit_in_of spent = None
hit_in_of gone = None
hit_in_of (caught h) = Some h
hit_in_of (met m) = None
hit_in_of (refusing n) = None

-- 14 to 16, at the given ray's place
unfoldable pub refusal_in_of : End → ℕ → Checked Unit
refusal_in_of dim place = passed tt
refusal_in_of spent place = passed tt
refusal_in_of gone place = passed tt
refusal_in_of (caught h) place = passed tt
refusal_in_of (met m) place = passed tt
refusal_in_of (refusing n) place = refused_at n place

-- the hit is in the memory; or 12 or 13, and the report is as the step found it, but its interaction is counted
abbrev pub put_from : {M : Type 0} → ℕ → NonSeqTraceReport → NonSeqTraceReport → Outcome M → Settled M
put_from place found after (done m) = record { outcome = done m; report = after }
put_from place found after (refused n at m) = record { outcome = refused n place m; report = counted_of found }

-- whether a ray is left on the stack or in the batch
unfoldable pub is_left : Progress → Bool
is_left p = ltb 0 p.stack.len || ltb 0 p.left

-- what follows unless there was a refusal
abbrev pub and_then : {M : Type 0} → (M → Progress → Run M) → Outcome M → Progress → Run M
and_then go (done m) p = go m p
and_then go (refused n place m) p = record { outcome = refused n place m; progress = p }

module _ {M : Type 0} (put : M → DetectorHit → Outcome M) where
  -- found and after are the reports before the step and after it
  abbrev pub settle_with : M → ℕ → NonSeqTraceReport → NonSeqTraceReport → Checked Unit → Option DetectorHit → Settled M
  settle_with m place found after c (Some h) = put_from place found after (put m h)
  settle_with m place found after c None = record { outcome = unless c m (done m); report = after }

  abbrev pub settle : M → ℕ → NonSeqTraceReport → Float → Step → Settled M
  settle m place r power s =
      settle_with m place r (report_after_of r power s) (refusal_in_of s.end place) (hit_in_of s.end)

  module _ (S : Scene) (given : ℕ → ActiveRay) where
    abbrev pub step_from : M → Progress → Taken → Step → Run M
    step_from m p t s =
        let r = settle m t.left p.report t.ray.ray.energy s in
        record {
          outcome = r.outcome;
          progress = record { stack = stack_after p.stack s; left = t.left; report = r.report };
        }

    -- one step: the newest ray is taken, and what becomes of it is settled
    unfoldable pub step_on : M → Progress → Run M
    step_on m p =
        step_from m p (taken_from given p.stack p.left) (take_step_of S (taken_from given p.stack p.left).ray)

    -- at most k steps, while a ray is left
    unfoldable pub drive : ℕ → M → Progress → Run M
    drive zero m p = record { outcome = done m; progress = p }
    drive (suc k) m p =
        cond (is_left p) (and_then (drive k) (step_on m p).outcome (step_on m p).progress)
        (record { outcome = done m; progress = p })

-- into the lent memory
abbrev pub advance_of : Scene → (ℕ → ActiveRay) → ℕ → Memory → Progress → Run Memory
advance_of S given k m p = drive record_of S given k m p

-- ---- what the code's answers say

abbrev pub as_run : Result Unit Refusal → Memory → Progress → Run Memory
as_run c m p = record { outcome = as_outcome c m; progress = p }

abbrev pub as_advanced : Advanced → Memory → Run Memory
as_advanced r m = as_run r.check m r.progress

-- whether the loop goes on: not refused, steps left to take, a ray left
unfoldable pub goes_on_of : Result Unit Refusal → ℕ → ℕ → ℕ → Bool
goes_on_of (Ok u) k len left = ltb 0 k && (ltb 0 len || ltb 0 left)
goes_on_of (Err r) k len left = false

-- a refusal at another place
abbrev pub placed_of : Result Unit Refusal → ℕ → Result Unit Refusal
placed_of (Ok u) place = Ok u
placed_of (Err r) place = Err (record { error = r.error; place = place })

abbrev pub settled_of : Result Unit Refusal → NonSeqTraceReport → NonSeqTraceReport → NonSeqTraceReport
settled_of (Ok u) found after = after
settled_of (Err r) found after = counted_of found
