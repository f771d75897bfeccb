use Rattle.given_rays.proofs.Loops.{launch_start, launch-again, launch-end}
use Rattle.given_rays.proofs.GivenRays.launched.Goals as goal

pub loop-i-init : goal.loop-i-init
loop-i-init c = launch_start _ _

pub loop-i-preserved : goal.loop-i-preserved
loop-i-preserved c = launch-again _ _ _ _ _ _ c.loop-i-test.true c.at-sum.ensures c.loop-i.invariant

pub returns : goal.returns
returns c = launch-end _ _ c.loop-i.i _ _ c.loop-i-test.false c.loop-i.invariant
