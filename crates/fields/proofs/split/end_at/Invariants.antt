use mathlib.Core.Path.{◌≡◌}
use Prim.Native.Nat.{◌+◌, ◌≤◌, max}
use lib.ListN.{length, drop}
use Rattle.fields.specs.Split.{before}
use Rattle.fields.proofs.split.end_at.Given as goal

abbrev pub invariant-loop-i : goal.invariant-loop-i
invariant-loop-i l = (l.i ≤ max l.at (length l.s)) × (l.i + length (before l.b (drop l.i l.s)) ≡ l.at + length (before l.b (drop l.at l.s)))
