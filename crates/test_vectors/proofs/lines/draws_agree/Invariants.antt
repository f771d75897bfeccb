use Rattle.std.proofs.Common.{◌≡◌, ◌-◌}
use Rattle.test_vectors.specs.Lines.{draws_agree_of}
use Rattle.test_vectors.proofs.lines.draws_agree.Given as goal

abbrev pub invariant-loop-k : goal.invariant-loop-k
invariant-loop-k l = draws_agree_of l.line (7 - l.k) l.k l.g ≡ draws_agree_of l.line 5 2 l.initial.g
