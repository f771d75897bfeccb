use Rattle.printing.proofs.Writing.{put_join}
use Rattle.answer_text.specs.Answer.{detectors_text}
use Rattle.fields.specs.Split.{bytes}
use Rattle.answer_text.proofs.put_detectors.Goals as goal

pub returns : goal.returns
unfolding bytes detectors_text
returns c = put_join _ _ _ _ _ _ _ c.put_all-p.ensures c.put_each.ensures
