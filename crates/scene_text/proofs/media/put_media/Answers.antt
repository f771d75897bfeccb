use native.Mathlib.Omega.{arith}
use mathlib.Core.Path.{◌∙◌}
use Rattle.scene_text.proofs.Joined.{media_again, media_end}
use Rattle.scene_text.proofs.media.put_media.Goals as goal

pub loop-preserved : goal.loop-preserved
loop-preserved c = (
  c.next_medium-m.ensures.at_in_bounds,
  c.put_value-p.auto.s ∙ c.loop.invariant.1,
  media_again _ c.loop.at _ _ c.loop.counter _ _ _ _ _ (omega (arith, c.loop-test.true)) c.next_medium-m.ensures.by_index
      c.put_value-p.ensures c.loop.invariant.2,
)

pub returns : goal.returns
returns c = media_end _ c.loop.at c.loop.counter _ _ _ (omega (arith, c.loop-test.false)) c.loop.invariant.2
