use Rattle.std.proofs.Common.{◌≡◌, ◌-◌}
use Rattle.detectors.specs.Detectors.{check_list_of}
use Rattle.detectors.proofs.Detectors.check_each.Given as goal

abbrev pub invariant-loop-i : goal.invariant-loop-i
invariant-loop-i l = check_list_of l.self.list (l.self.count - l.i) l.i ≡ check_list_of l.self.list l.self.count 0
