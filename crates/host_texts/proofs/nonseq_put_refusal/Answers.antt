use Rattle.host_texts.proofs.Whole.{whole_in, refusal_fits}
use Rattle.host_texts.proofs.nonseq_put_refusal.Goals as goal

pub returns : goal.returns
returns c = whole_in _ _ _ _ _ _ _ (refusal_fits _ _) c.put_refusal-n.ensures c.front.ensures c.put_whole.ensures
