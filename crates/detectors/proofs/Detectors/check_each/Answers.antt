use borrow.Author.Tests.{le-leb}
use Rattle.std.proofs.lemmas.Result.{err_from_is_err_and}
use Rattle.detectors.specs.Detectors.{check_each_of}
use Rattle.detectors.proofs.Lists.{check_again, check_refused, check_end}
use Rattle.detectors.proofs.Detectors.check_each.Goals as goal

pub returns-in_err-check : goal.returns-in_err-check
unfolding check_each_of
returns-in_err-check c =
    let p = err_from_is_err_and c.from_residual.result c.from_residual.ensures.1 in
    rw (p.1, p.2, le-leb _ _ c.if-self-le-MAX.true) (check_refused _ _ _ _ c.loop-i-test.true c.loop-i.invariant _ _ c.in_err-check.ensures)

pub loop-i-preserved : goal.loop-i-preserved
loop-i-preserved c = check_again _ _ _ _ c.loop-i-test.true c.loop-i.invariant c.in_ok-check.ensures

pub returns-after-loop-i : goal.returns-after-loop-i
unfolding check_each_of
returns-after-loop-i c = rw (le-leb _ _ c.if-self-le-MAX.true) (check_end _ _ c.loop-i.i _ c.loop-i-test.false c.loop-i.invariant)
