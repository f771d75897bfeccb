use native.Mathlib.Omega.{arith}
use mathlib.Core.Path.{sym, ◌∙◌}
use Rattle.scene_text.proofs.Alike.{same_is}
use Rattle.scene_text.proofs.Standing.{stands_over, stands-row, stands_bad}
use Rattle.scene_text.proofs.blocks.read_line.Goals as goal

pub returns-then-eq-clause-nw_after : goal.returns-then-eq-clause-nw_after
returns-then-eq-clause-nw_after c = stands_over _ _ _ _ c.requires.0 (omega (arith, c.requires.3, c.requires.1)) _ _ _ _ _ _ _ _ _ c.requires.6 c.requires.1
    (sym c.if-eq.true ∙ c.eq.ensures ∙ same_is _ _)

pub returns-then-r-clause-nw_after : goal.returns-then-r-clause-nw_after
returns-then-r-clause-nw_after c = stands-row _ _ _ _ c.requires.0 (omega (arith, c.requires.3, c.requires.1)) c.requires.1 _ _ _ _ _ _ _ _ _ _ c.read_row-r.ensures _ _ _ _ c.requires.6
    (sym c.if-eq.false ∙ c.eq.ensures ∙ same_is _ _) c.if-r.true

pub returns-clause-nw_after : goal.returns-clause-nw_after
returns-clause-nw_after c = stands_bad _ _ _ _ c.requires.0 (omega (arith, c.requires.3, c.requires.1)) c.requires.1 _ _ _ _ _ _ _ _ _ _ c.read_row-r.ensures _ _ _ _ c.requires.6
    (sym c.if-eq.false ∙ c.eq.ensures ∙ same_is _ _) c.if-r.false
