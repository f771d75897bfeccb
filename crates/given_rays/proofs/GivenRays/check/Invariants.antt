use Prim.Native.Nat.{◌-◌}
use mathlib.Core.Path.{◌≡◌}
use Rattle.given_rays.specs.Given.{check_rays_of, given_at_of}
use Rattle.given_rays.proofs.GivenRays.check.Given as goal

abbrev pub invariant-loop-i : goal.invariant-loop-i
invariant-loop-i l = check_rays_of (given_at_of l.self.values.now l.self.tags.now) l.solids (l.self.count - l.i) l.i ≡ check_rays_of (given_at_of l.self.values.now l.self.tags.now) l.solids l.self.count 0
