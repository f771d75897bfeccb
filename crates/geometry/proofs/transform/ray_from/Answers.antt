use Rattle.geometry.proofs.Unit.{ray_made, no_ray_lem}
use Rattle.geometry.proofs.transform.ray_from.Goals as goal

pub returns-then-is_finite_with : goal.returns-then-is_finite_with
returns-then-is_finite_with c = ray_made _ _ _ _ _ _ c.unit.ensures c.in_ok-u.was c.is_finite_with.ensures c.if-is_finite_with.true

pub returns : goal.returns
returns c = no_ray_lem _ _ _ _ _ _ c.unit.ensures c.in_ok-u.was c.is_finite_with.ensures c.if-is_finite_with.false
