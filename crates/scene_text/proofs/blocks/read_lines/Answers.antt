use mathlib.Core.Path.{◌∙◌}
use Rattle.scene_text.proofs.Standing.{stands_start, stands_end}
use Rattle.scene_text.proofs.blocks.read_lines.Goals as goal

pub returns-clause-at_after : goal.returns-clause-at_after
returns-clause-at_after c = stands_end _ _ _ _ _ _ _ _ _ _ c.loop-f-test.false c.loop-f.invariant.5 ∙ stands_start _ _ _ _ _ _ _ _
