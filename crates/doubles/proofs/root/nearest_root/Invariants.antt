use Rattle.doubles.proofs.Slow.{Kept}
use Rattle.doubles.proofs.root.nearest_root.Given as goal

abbrev pub invariant-loop : goal.invariant-loop
invariant-loop l = Kept l.m l.n l.q l.r l.counter
