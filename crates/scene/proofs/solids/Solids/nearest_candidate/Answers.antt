use borrow.Author.Rules.{rules}
use Rattle.nearest.proofs.Loops.{nearest_start, nearest_again, nearest_end}
use Rattle.scene.proofs.solids.Solids.nearest_candidate.Goals as goal

pub loop-i-init : goal.loop-i-init
loop-i-init c = (search rules, nearest_start _ _ _ _)

pub loop-i-preserved : goal.loop-i-preserved
loop-i-preserved c = (search rules, nearest_again _ _ _ _ _ _ _ _ c.loop-i-test.true c.nearer_candidate-best.ensures c.loop-i.invariant.1)

pub returns : goal.returns
returns c = nearest_end _ _ _ _ c.loop-i.i _ _ c.loop-i-test.false c.loop-i.invariant.1
