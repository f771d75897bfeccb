use mathlib.Core.List.{[]}
use Rattle.fields.proofs.Parts.{part_start, part_again}
use Rattle.fields.proofs.split.part.Goals as goal

pub loop-init : goal.loop-init
loop-init c = part_start _ _ _ []

pub loop-preserved : goal.loop-preserved
loop-preserved c = part_again _ _ _ _ _ _ _ c.loop-test.true c.after-at.ensures c.loop.invariant
