use Rattle.std.proofs.Common.{arith}
use Rattle.std.proofs.lemmas.List.{length-take-le}
use Rattle.detectors.proofs.Lists.{first_most, turn_most}
use Rattle.detectors.proofs.first_pixel.Goals as goal

pub overflow_add-sum : goal.overflow_add-sum
overflow_add-sum c = omega (arith, first_most _ _ _ c.loop-d.invariant, turn_most _ _ c.pixels-sum.ensures, c.loop-d-test.true, length-take-le c.args.n c.args.list.now (omega (arith, c.requires, c.told-list)), c.requires)
