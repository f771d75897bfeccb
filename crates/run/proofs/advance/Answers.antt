use mathlib.Core.Path.{refl, ◌∙◌}
use native.Mathlib.Omega.{arith}
use Rattle.step.specs.Rays.{as_step}
use Rattle.run.proofs.Places.{taken_is, after_quiet, after_hit}
use Rattle.run.proofs.Steps.{goes_pos, stops, step-hit, step-no-hit}
use Rattle.run.proofs.advance.Goals as goal

pub overflow_sub-k : goal.overflow_sub-k
overflow_sub-k c = omega (arith, goes_pos _ _ _ _ _ c.goes_on.ensures c.loop-check-test.true)

pub loop-check-smaller-in-Some : goal.loop-check-smaller-in-Some
loop-check-smaller-in-Some c = omega (arith, goes_pos _ _ _ _ _ c.goes_on.ensures c.loop-check-test.true)

pub loop-check-preserved-in-Some : goal.loop-check-preserved-in-Some
loop-check-preserved-in-Some c = (
  (
    c.record-recorded.ensures.same_slices.0 ∙ c.loop-check.invariant.0.0,
    c.record-recorded.ensures.same_slices.1 ∙ c.loop-check.invariant.0.1,
    c.record-recorded.ensures.same_slices.2 ∙ c.loop-check.invariant.0.2,
    c.record-recorded.ensures.same_slices.3 ∙ c.loop-check.invariant.0.3,
  ),
  step-hit _ _ _ _ _ c.loop-check.stack _ _ _ _ c.goes_on.ensures c.loop-check-test.true c.loop-check.invariant.1 c.take-t.result
      (taken_is _ c.loop-check.stack _ _ c.top_at.ensures.0 _ refl c.take-t.result c.take-t.ensures) c.take_step-e.result c.take_step-e.ensures
      c.after-after.result c.after-after.ensures _
      (after_hit c.loop-check.stack (as_step c.take_step-e.result) _ _ c.take_step-e.ensures c.hit_in.result c.hit_in.ensures _ c.in-Some.is
      c.popped-stack.result c.popped-stack.ensures) c.hit_in.result c.hit_in.ensures
      _ c.in-Some.is _ c.record-recorded.result c.record-recorded.ensures.value c.settled-report.result
      c.settled-report.ensures c.placed-check.result c.placed-check.ensures,
)

pub loop-check-smaller-then-is_some : goal.loop-check-smaller-then-is_some
loop-check-smaller-then-is_some c = omega (arith, goes_pos _ _ _ _ _ c.goes_on.ensures c.loop-check-test.true)

pub loop-check-preserved-then-is_some : goal.loop-check-preserved-then-is_some
loop-check-preserved-then-is_some c = (
  c.loop-check.invariant.0,
  step-no-hit _ _ _ _ _ c.loop-check.stack _ _ _ _ c.goes_on.ensures c.loop-check-test.true c.loop-check.invariant.1 c.take-t.result
      (taken_is _ c.loop-check.stack _ _ c.top_at.ensures.0 _ refl c.take-t.result c.take-t.ensures) c.take_step-e.result c.take_step-e.ensures
      c.after-after.result c.after-after.ensures _
      c.after-stack.ensures c.hit_in.result c.hit_in.ensures
      c.in-None.is c.refusal_in-check.result c.refusal_in-check.ensures,
)

pub loop-check-smaller : goal.loop-check-smaller
loop-check-smaller c = omega (arith, goes_pos _ _ _ _ _ c.goes_on.ensures c.loop-check-test.true)

pub loop-check-preserved : goal.loop-check-preserved
loop-check-preserved c = (
  c.loop-check.invariant.0,
  step-no-hit _ _ _ _ _ c.loop-check.stack _ _ _ _ c.goes_on.ensures c.loop-check-test.true c.loop-check.invariant.1 c.take-t.result
      (taken_is _ c.loop-check.stack _ _ c.top_at.ensures.0 _ refl c.take-t.result c.take-t.ensures) c.take_step-e.result c.take_step-e.ensures
      c.after-after.result c.after-after.ensures _
      (after_quiet c.loop-check.stack (as_step c.take_step-e.result) _ _ c.is_some.ensures c.is_some-in-None.ensures c.if-is_some.false c.popped-stack-else-is_some.result c.popped-stack-else-is_some.ensures) c.hit_in.result
      c.hit_in.ensures
      c.in-None.is c.refusal_in-check.result c.refusal_in-check.ensures,
)

pub returns-clause-value : goal.returns-clause-value
returns-clause-value c = stops _ _ _ _ _
    (record { stack = c.loop-check.stack; left = c.loop-check.left; report = c.loop-check.report }) _ _
    c.goes_on.ensures c.loop-check-test.false c.loop-check.invariant.1
