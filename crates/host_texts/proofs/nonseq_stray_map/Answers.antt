use Rattle.host_texts.proofs.Whole.{whole_in}
use Rattle.theorems_room.proofs.Fits.{answer_fits}
use Rattle.host_texts.proofs.nonseq_stray_map.Goals as goal

pub returns : goal.returns
returns c = whole_in _ _ _ _ _ _ _ (answer_fits _) c.put_stray_map-n.ensures c.front.ensures c.put_whole.ensures
