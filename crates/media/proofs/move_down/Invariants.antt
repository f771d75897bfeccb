use Prim.Native.Nat.{◌-◌}
use mathlib.Core.Path.{◌≡◌}
use lib.ListN.{length}
use Rattle.media.specs.Media.{move_down_of}
use Rattle.media.proofs.move_down.Given as goal

abbrev pub invariant-loop-i : goal.invariant-loop-i
invariant-loop-i l = (length l.r ≡ 24) × (move_down_of (l.end - l.i) l.i l.r ≡ move_down_of (l.end - l.at) l.at l.initial.r)
