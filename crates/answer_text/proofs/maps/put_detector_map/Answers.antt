use Rattle.answer_text.proofs.Shown.{again_is, map_none, map_some}
use Rattle.answer_text.proofs.maps.put_detector_map.Goals as goal

pub returns-then-w-eq0 : goal.returns-then-w-eq0
returns-then-w-eq0 c = map_none _ _ _ _ c.grid_at-g.ensures.0 _ _ c.if-w-eq0.true

pub returns : goal.returns
returns c = map_some _ _ _ _ c.grid_at-g.ensures.0 c.refilter.result _ c.refilter.ensures _ _ _ _ _ c.if-w-eq0.false (again_is _ c.refilter.result _ _ c.refilter.ensures c.grid_at-g.ensures.1 c.work-2-1.given) c.filtered_pixel_flux-map.ensures.result_value (rw c.from.ensures at c.put_pixels.ensures)
