use borrow.Author.Rules.{rules}
use Rattle.scene.proofs.Checks.{tags_again, tags_refused, tags_end}
use Rattle.scene.proofs.solids.Solids.check_tags.Goals as goal

pub loop-i-preserved : goal.loop-i-preserved
loop-i-preserved c = (search rules, tags_again _ _ _ _ _ c.loop-i-test.true c.tags_fit-fit.ensures c.if-not-fit.false c.loop-i.invariant.1)

pub returns-then-not-fit : goal.returns-then-not-fit
returns-then-not-fit c = tags_refused _ _ _ _ _ c.loop-i-test.true c.tags_fit-fit.ensures c.if-not-fit.true c.loop-i.invariant.1

pub returns : goal.returns
returns c = tags_end _ _ c.loop-i.i _ c.loop-i-test.false c.loop-i.invariant.1
