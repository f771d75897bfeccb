use Rattle.std.proofs.Common.{◌≡◌, ◌-◌}
use Rattle.test_vectors.specs.Parts.{bits_from}
use Rattle.test_vectors.proofs.parts.are_bits.Given as goal

abbrev pub invariant-loop-k : goal.invariant-loop-k
invariant-loop-k l = bits_from l.line l.k (l.to - l.k) ≡ bits_from l.line l.from (l.to - l.from)
