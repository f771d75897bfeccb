use Rattle.std.proofs.Common.{arith}
use Rattle.detectors.proofs.Passed.{count_most}
use Rattle.detectors.proofs.Detectors.find.Goals as goal

pub placed-requires : goal.placed-requires
placed-requires c = omega (arith, count_most _ c.in_ok-check.ensures, c.if-asked-self.false)
