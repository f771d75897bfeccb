use mathlib.Core.Path.{◌≡◌}
use Prim.Native.Nat.{suc, ◌+◌, ◌≤◌}
use lib.ListN.{length, drop}
use Rattle.fields.specs.Split.{later}
use Rattle.fields.proofs.split.count_parts.Given as goal

abbrev pub invariant-loop-x : goal.invariant-loop-x
invariant-loop-x l = (l.n ≤ l.x-index + 1) × (l.n + length (later l.b (drop l.x-index l.s)) ≡ suc (length (later l.b l.s)))
