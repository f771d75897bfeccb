use Rattle.fields.proofs.Parts.{end_in}
use Rattle.scene_text.proofs.Walking.{cell_again, cell_none, cell_past}
use borrow.Author.Rules.{rules}
use Rattle.scene_text.proofs.rows.next_cell.Goals as goal

pub slice_bounds-read_cell-count : goal.slice_bounds-read_cell-count
slice_bounds-read_cell-count c = (end_in _ _ _ _ c.end_at-e.ensures (search rules)).0

pub slice_bounds-read_cell-start : goal.slice_bounds-read_cell-start
slice_bounds-read_cell-start c = let h = end_in _ _ _ _ c.end_at-e.ensures (search rules) in search rules

pub returns-then-e-line-clause-by_index : goal.returns-then-e-line-clause-by_index
returns-then-e-line-clause-by_index c = (λ form. cell_again _ _ _ _ c.end_at-e.ensures (search rules) _ _ _ _ _ _ _ form c.if-e-line.true c.if-r.true c.read_cell-c.ensures)

pub returns-then-r-clause-by_index : goal.returns-then-r-clause-by_index
returns-then-r-clause-by_index c = (λ form. cell_none _ _ _ _ c.end_at-e.ensures (search rules) _ _ _ _ _ _ form c.if-e-line.false c.if-r.true)

pub returns-clause-by_index : goal.returns-clause-by_index
returns-clause-by_index c = (λ form. cell_past _ _ _ _ _ form c.if-r.false)
