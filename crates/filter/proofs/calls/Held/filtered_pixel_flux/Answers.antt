use Rattle.filter.proofs.Hands.{part_fits}
use Rattle.filter.proofs.calls.Held.filtered_pixel_flux.Goals as goal

pub stored_part-requires : goal.stored_part-requires
stored_part-requires c = part_fits _ _ _ _ _ _ _ _ c.in-Ok.ensures
