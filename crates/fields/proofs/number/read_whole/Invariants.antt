use Prim.Native.Nat.{◌<◌, ◌^◌}
use mathlib.Core.Path.{◌≡◌}
use lib.ListN.{drop}
use Rattle.fields.specs.Number.{is_decimal, decimal_from}
use Rattle.fields.proofs.number.read_whole.Given as goal

abbrev pub invariant-loop-b : goal.invariant-loop-b
invariant-loop-b l = (l.v < 2 ^ 32) × (is_decimal (drop l.b-index l.t) ≡ is_decimal l.t) × (decimal_from l.v (drop l.b-index l.t) ≡ decimal_from 0 l.t)
