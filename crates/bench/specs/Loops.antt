-- Sums and chains of roots, first to last.
use Rattle.std.specs.Prelude.{List, [], ◌∷◌, Float}
use Rattle.std.specs.Float.{binary64}
use Rattle.std.specs.Float.Ieee.{add}
use Rattle.doubles.specs.Root.{sqrt_of}

unfoldable pub bench_root_sum_of : Float → List Float → Float
bench_root_sum_of t [] = t
bench_root_sum_of t (x ∷ xs) = bench_root_sum_of (add binary64 t (sqrt_of x)) xs

unfoldable pub bench_root_chain_of : Float → List Float → Float
bench_root_chain_of t [] = t
bench_root_chain_of t (x ∷ xs) = bench_root_chain_of (sqrt_of (add binary64 x t)) xs
