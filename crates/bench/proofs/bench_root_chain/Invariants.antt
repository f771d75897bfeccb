use mathlib.Core.Path.{◌≡◌}
use lib.ListN.{drop}
use lib.Ieee.{binary64, of_bits}
use Rattle.bench.specs.Loops.{bench_root_chain_of}
use Rattle.bench.proofs.bench_root_chain.Given as goal

abbrev pub invariant-loop-x : goal.invariant-loop-x
invariant-loop-x l = bench_root_chain_of l.t (drop l.x-index l.xs) ≡ bench_root_chain_of (of_bits binary64 0) l.xs
