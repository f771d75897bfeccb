use Rattle.std.proofs.Common.{arith}
use Rattle.test_vectors.proofs.Draws.{draw-again, draw-stop, draw_end}
use Rattle.test_vectors.proofs.lines.draws_agree.Goals as goal

pub loop-k-preserved : goal.loop-k-preserved
loop-k-preserved c = draw-again _ _ _ _ c.loop-k.invariant _ _ c.loop-k-test.true c.next_u64-drawn.ensures c.is_bits.ensures c.if-not-is_bits.false

pub returns-then-not-is_bits : goal.returns-then-not-is_bits
returns-then-not-is_bits c = draw-stop _ _ _ _ c.loop-k.invariant _ _ c.loop-k-test.true c.next_u64-drawn.ensures c.is_bits.ensures c.if-not-is_bits.true

pub returns : goal.returns
returns c = draw_end _ _ _ _ c.loop-k.invariant _ _ c.loop-k-test.false (omega arith) c.next_f64-last.ensures c.is_double.ensures
