use Rattle.std.proofs.Common.{arith}
use Rattle.doubles.proofs.Slow.{up, down, end_up, end_down, small}
use Rattle.doubles.proofs.root.nearest_root.Goals as goal
use Rattle.doubles.proofs.root.nearest_root.Goals.{then-t-r, else-t-r}

pub overflow_mul-r : goal.overflow_mul-r
overflow_mul-r c = omega (arith, small c.loop.invariant)

pub overflow_add-r : goal.overflow_add-r
overflow_add-r c = omega (arith, small c.loop.invariant)

pub overflow_mul-t : goal.overflow_mul-t
overflow_mul-t c = omega (arith, small c.loop.invariant)

pub overflow_add-t : goal.overflow_add-t
overflow_add-t c = omega (arith, small c.loop.invariant)

pub loop-preserved : goal.loop-preserved
loop-preserved c =
    elim c.if-t-r.branch [
      | then-t-r w ↦ rw (w.q-is, w.r-is) (up _ _ _ _ _ c.loop.invariant c.loop-test.true (omega arith))
      | else-t-r w ↦ rw (w.q-is, w.r-is) (down _ _ _ _ _ c.loop.invariant c.loop-test.true (omega arith))
    ]

pub returns-then-q-r : goal.returns-then-q-r
returns-then-q-r c = end_up _ _ _ _ _ c.loop.invariant c.loop-test.false c.requires.0 (omega arith)

pub returns-else-q-r : goal.returns-else-q-r
returns-else-q-r c = end_down _ _ _ _ _ c.loop.invariant c.loop-test.false c.requires.0 (omega arith)
