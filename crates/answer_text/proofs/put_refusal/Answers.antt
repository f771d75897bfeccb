use Rattle.answer_text.specs.Answer.{refusal_text}
use Rattle.printing.proofs.Writing.{put_join}
use Rattle.fields.specs.Split.{bytes}
use Rattle.answer_text.proofs.put_refusal.Goals as goal

pub returns : goal.returns
unfolding bytes refusal_text
returns c = put_join _ _ _ _ _ _ _ c.put_all-p.ensures
    (rw (c.from.ensures, c.from-2.ensures) at c.put_row.ensures)
