use Rattle.host_texts.proofs.Whole.{whole_in, answer_held}
use Rattle.host_texts.proofs.put_answer.Goals as goal

pub returns : goal.returns
returns c = whole_in _ _ _ _ _ _ _ (answer_held _ _ _ c.requires) c.put_answer-n.ensures c.front.ensures c.put_whole.ensures
