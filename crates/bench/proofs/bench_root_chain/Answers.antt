use mathlib.Core.Path.{◌≡◌, refl}
use mathlib.Core.List.{List, [], ◌∷◌}
use lib.Ieee.{Float, binary64, add}
use Rattle.doubles.specs.Root.{sqrt_of}
use Rattle.bench.proofs.Loops.{turn, done}
use Rattle.bench.specs.Loops.{bench_root_chain_of}
use Rattle.bench.proofs.bench_root_chain.Goals as goal

none : (t : Float) → bench_root_chain_of t [] ≡ t
unfolding bench_root_chain_of
none t = refl

more : (t x : Float) (xs : List Float) → bench_root_chain_of t (x ∷ xs) ≡ bench_root_chain_of (sqrt_of (add binary64 x t)) xs
unfolding bench_root_chain_of
more t x xs = refl

pub loop-x-preserved : goal.loop-x-preserved
loop-x-preserved c = turn bench_root_chain_of (λ t x. sqrt_of (add binary64 x t)) none more _ _ _ _ _ c.loop-x-test.true c.sqrt-t.ensures c.loop-x.invariant

pub returns : goal.returns
returns c = done bench_root_chain_of (λ t x. sqrt_of (add binary64 x t)) none more _ _ _ _ c.loop-x-test.false c.loop-x.invariant
