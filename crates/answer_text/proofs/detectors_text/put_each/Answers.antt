use mathlib.Core.Path.{◌∙◌}
use Rattle.answer_text.proofs.Texts.{each_again, each_end}
use Rattle.answer_text.proofs.detectors_text.put_each.Goals as goal

pub loop-d-preserved : goal.loop-d-preserved
loop-d-preserved g c = (
  c.put-p.auto.buf ∙ c.loop-d.invariant.0,
  each_again _ _ _ _ _ _ _ c.loop-d.d c.loop-d-test.true c.put-p.ensures c.loop-d.invariant.1,
)

pub returns : goal.returns
returns g c = each_end _ _ _ _ _ _ c.loop-d-test.false c.loop-d.invariant.1
