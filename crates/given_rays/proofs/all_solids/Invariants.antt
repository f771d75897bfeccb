use Prim.Native.Nat.{◌≤◌, ◌-◌}
use mathlib.Core.Path.{◌≡◌}
use Rattle.given_rays.specs.Given.{all_solids_of}
use Rattle.given_rays.proofs.all_solids.Given as goal

abbrev pub invariant-loop-i : goal.invariant-loop-i
invariant-loop-i l = (l.n ≤ 24) × (all_solids_of l.list l.solids (l.n - l.i) l.i ≡ all_solids_of l.list l.solids l.n 0)
