use Rattle.printing.proofs.Writing.{put_join}
use Rattle.answer_text.specs.Answer.{answer_text}
use Rattle.answer_text.proofs.put_answer.Goals as goal

pub returns : goal.returns
unfolding answer_text
returns c = put_join _ _ _ _ _ _ _ c.put_ledger-p.ensures
    (put_join _ _ _ _ _ _ _ c.put_tallies-q.ensures
    (put_join _ _ _ _ _ _ _ c.put_detectors-s.ensures c.put_maps.ensures))
