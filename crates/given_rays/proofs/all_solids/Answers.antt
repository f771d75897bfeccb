use borrow.Author.Rules.{rules}
use Rattle.given_rays.proofs.Loops.{solids-again, solids-not, solids-end}
use Rattle.given_rays.proofs.all_solids.Goals as goal

pub loop-i-preserved : goal.loop-i-preserved
loop-i-preserved c = (
  search rules,
  solids-again _ _ _ _ _ c.loop-i-test.true c.if-list-i.false c.loop-i.invariant.1,
)

pub returns-then-list-i : goal.returns-then-list-i
returns-then-list-i c = solids-not _ _ _ _ _ c.loop-i-test.true c.if-list-i.true c.loop-i.invariant.1

pub returns : goal.returns
returns c = solids-end _ _ _ _ _ c.loop-i-test.false c.loop-i.invariant.1
