use Rattle.std.proofs.lemmas.Result.{err_from_is_err_and}
use Rattle.given_rays.proofs.Loops.{rays-again, rays-refused, rays-end}
use Rattle.given_rays.proofs.GivenRays.check.Goals as goal

pub loop-i-preserved : goal.loop-i-preserved
loop-i-preserved c = rays-again _ _ _ _ _ _ _ c.loop-i-test.true c.at.ensures c.check_ray.ensures c.loop-i.invariant c.in_ok-check_ray.was

pub returns-in_err-check_ray : goal.returns-in_err-check_ray
returns-in_err-check_ray c =
    let p = err_from_is_err_and c.from_residual.result c.from_residual.ensures.1 in
    rw (p.1, p.2) (rays-refused _ _ _ _ _ _ _ c.loop-i-test.true c.at.ensures c.check_ray.ensures c.loop-i.invariant _ c.in_err-check_ray.was)

pub returns : goal.returns
returns c = rays-end _ _ _ c.loop-i.i _ c.loop-i-test.false c.loop-i.invariant
