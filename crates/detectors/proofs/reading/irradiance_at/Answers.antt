use Rattle.detectors.proofs.Passed.{grid_in}
use Rattle.detectors.proofs.reading.irradiance_at.Goals as goal

pub irradiance_in-requires : goal.irradiance_in-requires
irradiance_in-requires c = grid_in _ _ _ _ _ c.in_ok-p.ensures c.all_pixels.ensures c.if-flux-all_pixels.false
