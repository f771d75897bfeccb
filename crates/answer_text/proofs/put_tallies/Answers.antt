use Rattle.answer_text.specs.Answer.{tallies_text}
use Rattle.printing.proofs.Writing.{put_join}
use Rattle.fields.specs.Split.{bytes}
use Rattle.answer_text.proofs.put_tallies.Goals as goal

pub returns : goal.returns
unfolding bytes tallies_text
returns c = put_join _ _ _ _ _ _ _ c.put_all-p.ensures
    (rw (c.from.ensures, c.from-2.ensures, c.from-3.ensures, c.from-4.ensures, c.from-5.ensures, c.from-6.ensures, c.from-7.ensures) at
    c.put_row.ensures)
