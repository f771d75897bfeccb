use borrow.Author.Rules.{rules}
use Rattle.media.proofs.Places.{down_again, down_end}
use Rattle.media.proofs.move_down.Goals as goal

pub loop-i-preserved : goal.loop-i-preserved
loop-i-preserved c = (search rules, down_again _ _ _ _ c.loop-i-test.true c.loop-i.invariant.1)

pub returns : goal.returns
returns c = down_end _ _ _ _ c.loop-i-test.false c.loop-i.invariant.1
