use Rattle.map_text.proofs.Outcomes.{map_is}
use Rattle.map_text.proofs.mapping.put_map.Goals as goal

pub returns : goal.returns
returns c = map_is _ _ _ _ _ _ _ _ _ _ _ _ _ c.detectors-ds.ensures c.at_most-n.ensures.0 c.at_most-k.ensures.0 c.all_pixels.ensures c.few-p.ensures.0
    c.config.ensures c.front.ensures c.front-2.ensures c.front-3.ensures c.front-4.ensures c.whole.ensures c.meant.ensures _ _ _
    c.put_traced.ensures
