use borrow.Author.Rules.{rules}
use mathlib.Core.Path.{refl, ◌∙◌}
use Rattle.scene_text.proofs.Walking.{line_start, line_again, line_end}
use Rattle.scene_text.proofs.rows.read_row.Goals as goal

pub loop-cells-init : goal.loop-cells-init
loop-cells-init c = (search rules, refl, refl, line_start _ _ _ _ _ _)

pub loop-cells-preserved : goal.loop-cells-preserved
loop-cells-preserved c = (
  c.next_cell-r.ensures.at_in_bounds,
  c.next_cell-r.auto.d ∙ c.loop-cells.invariant.1,
  c.next_cell-r.auto.w ∙ c.loop-cells.invariant.2,
  line_again _ _ _ _ _ _ _ c.in-len2-up.len_at_least c.next_cell-r.ensures.by_index c.loop-cells.invariant.3,
)

pub returns : goal.returns
returns c = c.ends_there.ensures _ _ ∙ line_end _ _ _ _ _ c.in_default.len_below c.loop-cells.invariant.3
