use Rattle.scene.proofs.Candidates.{closest_found, closest_nothing}
use Rattle.scene.proofs.solids.Solids.closest_object.Goals as goal

pub returns-in_err-place : goal.returns-in_err-place
returns-in_err-place c = rw c.from_residual.ensures (closest_nothing _ _ _ _ _ c.nearest_candidate.ensures c.in_err-place.was)

pub returns-in-Some : goal.returns-in-Some
returns-in-Some c = closest_found _ _ _ _ _ _ _ _ c.nearest_candidate.ensures c.in_ok-place.was c.arrive_at.ensures c.in-Some.is
