use mathlib.Core.Path.{◌∙◌}
use Rattle.printing.proofs.Writing.{put_next, put_end}
use Rattle.printing.proofs.put_all.Goals as goal

pub loop-b-preserved : goal.loop-b-preserved
loop-b-preserved c = (c.put-p.auto.buf ∙ c.loop-b.invariant.0, put_next _ _ _ _ c.loop-b.b-index _ _ c.loop-b-test.true c.put-p.ensures c.loop-b.invariant.1)

pub returns : goal.returns
returns c = put_end _ _ _ _ _ c.loop-b-test.false c.loop-b.invariant.1
