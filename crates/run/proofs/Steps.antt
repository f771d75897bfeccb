-- One step of the loop of `advance`, and its end. Assumes nothing.
use Rattle.std.specs.Prelude.{Option, None, Some, Result, Ok, Err}
use Prim.Native.Nat.{ℕ, zero, suc, ◌<◌, ◌-◌}
use mathlib.Core.Path.{◌≡◌, sym, ap, ◌∙◌}
use mathlib.Core.Bool.{Bool, true, false, ◌||◌}
use native.Mathlib.Omega.{arith}
use lib.Ieee.{Float}
use lib.Dec.{ltb}
use borrow.Author.Tests.{ltb-true, lt-ltb}
use Rattle.doubles.proofs.Floats.{clash}
use Rattle.error.specs.declared.Refusal.{Refusal}
use Rattle.error.specs.Refusals.{as_checked}
use Rattle.detector.specs.declared.DetectorHit.{DetectorHit}
use Rattle.memory.specs.Memory.{Memory, as_outcome, record_of}
use Rattle.memory.proofs.Records.{both}
use Rattle.step.specs.declared.ActiveRay.{ActiveRay}
use Rattle.step.specs.declared.Step as code
use Rattle.step.specs.Rays.{Scene, Step, as_step}
use Rattle.step.specs.Steps.{take_step_of}
use Rattle.report.specs.declared.NonSeqTraceReport.{NonSeqTraceReport}
use Rattle.report.specs.Report.{report_after_of}
use Rattle.run.specs.declared.stack.Stack.{Stack}
use Rattle.run.specs.declared.stack.Taken.{Taken}
use Rattle.run.specs.declared.Progress.{Progress}
use Rattle.run.specs.Stack.{taken_from, stack_after}
use Rattle.run.specs.Run.{Run, Settled, hit_in_of, refusal_in_of, is_left, and_then, settle, step_from, step_on, drive, as_run, goes_on_of, placed_of, settled_of}

abbrev progress_at : Stack → ℕ → NonSeqTraceReport → Progress
progress_at s left r = record { stack = s; left = left; report = r }

pub goes_pos : (c : Result Unit Refusal) (k len left : ℕ) (b : Bool) → b ≡ goes_on_of c k len left → b ≡ true → 0 < k
unfolding goes_on_of
goes_pos (Ok u) k len left b e t = ltb-true 0 k (both (ltb 0 k) (ltb 0 len || ltb 0 left) (sym e ∙ t)).0
goes_pos (Err x) k len left b e t = absurd (clash (sym t ∙ e))

-- ---- what a step is, by what the code knows of it

settled_hit : (m n : Memory) (place : ℕ) (r : NonSeqTraceReport) (power : Float) (s : Step) (h : DetectorHit) (c : Result Unit Refusal) → hit_in_of s.end ≡ Some h → as_outcome c n ≡ record_of m h → settle record_of m place r power s ≡ record { outcome = as_outcome (placed_of c place) n; report = settled_of c r (report_after_of r power s) }
settled_hit m n place r power s h (Ok u) e q = rw (e, ← q)
settled_hit m n place r power s h (Err x) e q = rw (e, ← q)

settled_no_hit : (m : Memory) (place : ℕ) (r : NonSeqTraceReport) (power : Float) (s : Step) (c : Result Unit Refusal) → hit_in_of s.end ≡ None → as_checked c ≡ refusal_in_of s.end place → settle record_of m place r power s ≡ record { outcome = as_outcome c m; report = report_after_of r power s }
settled_no_hit m place r power s (Ok u) e q = rw (e, ← q)
settled_no_hit m place r power s (Err x) e q = rw (e, ← q)

module _ (S : Scene) (given : ℕ → ActiveRay) where
  step_is : (m : Memory) (p : Progress) (t : Taken) (s : Step) → t ≡ taken_from given p.stack p.left → s ≡ take_step_of S t.ray → step_on record_of S given m p ≡ step_from record_of S given m p t s
  unfolding step_on
  step_is m p t s e q = rw (q, e)

  -- ---- the loop

  goes : (c : Result Unit Refusal) (k : ℕ) (m : Memory) (p : Progress) (b : Bool) (z : Run Memory) → b ≡ goes_on_of c k p.stack.len p.left → b ≡ true → and_then (drive record_of S given k) (as_outcome c m) p ≡ z → and_then (drive record_of S given (k - 1)) (step_on record_of S given m p).outcome (step_on record_of S given m p).progress ≡ z
  unfolding goes_on_of drive is_left
  goes (Ok u) zero m p b z e t w = absurd (clash (sym t ∙ e))
  goes (Ok u) (suc k) m p b z e t w =
      let q : suc k - 1 ≡ k = omega arith in
      let l : (ltb 0 p.stack.len || ltb 0 p.left) ≡ true = (both (ltb 0 (suc k)) (ltb 0 p.stack.len || ltb 0 p.left) (sym e ∙ t)).1 in
      rw q (rw l at w)
  goes (Err x) k m p b z e t w = absurd (clash (sym t ∙ e))

  -- no step more
  pub stops : (c : Result Unit Refusal) (k : ℕ) (m : Memory) (p : Progress) (b : Bool) (z : Run Memory) → b ≡ goes_on_of c k p.stack.len p.left → b ≡ false → and_then (drive record_of S given k) (as_outcome c m) p ≡ z → as_run c m p ≡ z
  unfolding goes_on_of drive is_left
  stops (Ok u) zero m p b z e t w = w
  stops (Ok u) (suc k) m p b z e t w = let l : (ltb 0 p.stack.len || ltb 0 p.left) ≡ false = rw (lt-ltb 0 (suc k) (omega arith)) at (sym e ∙ t) in rw l at w
  stops (Err x) k m p b z e t w = w

  module _ (c : Result Unit Refusal) (k : ℕ) (m : Memory) (stack : Stack) (left : ℕ) (report : NonSeqTraceReport) (b : Bool) (z : Run Memory)
      (tested : b ≡ goes_on_of c k stack.len left) (on : b ≡ true)
      (inv : and_then (drive record_of S given k) (as_outcome c m) (progress_at stack left report) ≡ z)
      (t : Taken) (took : t ≡ taken_from given stack left)
      (e : code.Step) (came : as_step e ≡ take_step_of S t.ray)
      (after : NonSeqTraceReport) (added : after ≡ report_after_of report t.ray.ray.energy (as_step e))
      (next : Stack) (pushed : next ≡ stack_after stack (as_step e))
      (q : Option DetectorHit) (caught : q ≡ hit_in_of (as_step e).end) where
    abbrev go_on : Run Memory → Run Memory
    go_on r = and_then (drive record_of S given (k - 1)) r.outcome r.progress

    abbrev with-settled : Stack → Settled Memory → Run Memory
    with-settled s x = record { outcome = x.outcome; progress = progress_at s t.left x.report }

    turned : go_on (with-settled (stack_after stack (as_step e)) (settle record_of m t.left report t.ray.ray.energy (as_step e))) ≡ z
    turned = ap go_on (sym (step_is m (progress_at stack left report) t (as_step e) took came)) ∙ goes c k m (progress_at stack left report) b z tested on inv

    -- a hit is recorded
    pub step-hit : (h : DetectorHit) → q ≡ Some h → (n : Memory) (d : Result Unit Refusal) → as_outcome d n ≡ record_of m h → (r : NonSeqTraceReport) → r ≡ settled_of d report after → (f : Result Unit Refusal) → f ≡ placed_of d t.left → and_then (drive record_of S given (k - 1)) (as_outcome f n) (progress_at next t.left r) ≡ z
    step-hit h g n d said r er f ef =
        rw (er, ef, added, pushed)
        (ap (λ (x : Settled Memory). go_on (with-settled (stack_after stack (as_step e)) x)) (sym (settled_hit m n t.left report t.ray.ray.energy (as_step e) h d (sym caught ∙ g) said)) ∙ turned)

    -- no hit: the step goes on or is refused
    pub step-no-hit : q ≡ None → (f : Result Unit Refusal) → as_checked f ≡ refusal_in_of (as_step e).end t.left → and_then (drive record_of S given (k - 1)) (as_outcome f m) (progress_at next t.left after) ≡ z
    step-no-hit g f said =
        rw (added, pushed)
        (ap (λ (x : Settled Memory). go_on (with-settled (stack_after stack (as_step e)) x)) (sym (settled_no_hit m t.left report t.ray.ray.energy (as_step e) f (sym caught ∙ g) said)) ∙ turned)
