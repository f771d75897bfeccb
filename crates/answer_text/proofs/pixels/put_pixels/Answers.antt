use mathlib.Core.Path.{◌∙◌}
use borrow.Author.Rules.{rules}
use Rattle.answer_text.proofs.Texts.{pixels_again, pixels_end}
use Rattle.answer_text.proofs.pixels.put_pixels.Goals as goal

pub loop-i-preserved : goal.loop-i-preserved
loop-i-preserved c = (
  search rules,
  c.put_pixel-p.auto.buf ∙ c.loop-i.invariant.1,
  pixels_again _ _ _ _ _ _ _ c.loop-i.i _ c.loop-i-test.true c.put_pixel-p.ensures c.loop-i.invariant.2,
)

pub returns : goal.returns
returns c = pixels_end _ _ _ _ _ _ _ c.loop-i-test.false c.loop-i.invariant.2
