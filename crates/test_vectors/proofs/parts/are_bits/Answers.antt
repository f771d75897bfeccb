use Rattle.test_vectors.proofs.PartLoops.{bits-again, bits-stop, bits_end}
use Rattle.test_vectors.proofs.parts.are_bits.Goals as goal

pub loop-k-preserved : goal.loop-k-preserved
loop-k-preserved c = bits-again _ _ _ _ c.loop-k.invariant _ c.loop-k-test.true c.is_any_bits.ensures
    c.if-not-is_any_bits.false

pub returns-then-not-is_any_bits : goal.returns-then-not-is_any_bits
returns-then-not-is_any_bits c = bits-stop _ _ _ _ c.loop-k.invariant _ c.loop-k-test.true c.is_any_bits.ensures c.if-not-is_any_bits.true

pub returns : goal.returns
returns c = bits_end _ _ _ _ c.loop-k.invariant c.loop-k-test.false
