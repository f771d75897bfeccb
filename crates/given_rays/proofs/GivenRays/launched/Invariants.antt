use Prim.Native.Nat.{◌-◌}
use mathlib.Core.Path.{◌≡◌}
use Rattle.given_rays.specs.Given.{given_at_of, launched_from, launched_of}
use Rattle.given_rays.proofs.GivenRays.launched.Given as goal

abbrev pub invariant-loop-i : goal.invariant-loop-i
invariant-loop-i l = launched_from (given_at_of l.self.values.now l.self.tags.now) (l.self.count - l.i) l.i l.sum ≡ launched_of (given_at_of l.self.values.now l.self.tags.now) l.self.count
