use mathlib.Core.Path.{◌∙◌}
use Rattle.media.proofs.Places.{last_here, last_before, last_none}
use Rattle.media.proofs.last_place.Goals as goal

pub returns-then-list-i : goal.returns-then-list-i
returns-then-list-i c = last_here _ _ _ c.loop-i-test.true c.if-list-i.true ∙ c.loop-i.invariant

pub loop-i-preserved : goal.loop-i-preserved
loop-i-preserved c = last_before _ _ _ c.loop-i-test.true c.if-list-i.false ∙ c.loop-i.invariant

pub returns : goal.returns
returns c = last_none _ _ _ c.loop-i-test.false ∙ c.loop-i.invariant
