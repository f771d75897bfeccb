use Prim.Native.Nat.{◌≤◌, ◌-◌}
use mathlib.Core.Path.{◌≡◌}
use Rattle.scene.specs.Solids.{check_tags_of}
use Rattle.scene.proofs.solids.Solids.check_tags.Given as goal

abbrev pub invariant-loop-i : goal.invariant-loop-i
invariant-loop-i l = (l.i ≤ l.self.count) × (check_tags_of l.self.tags.now (l.self.count - l.i) l.i ≡ check_tags_of l.self.tags.now l.self.count 0)
