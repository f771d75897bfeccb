use Rattle.std.proofs.Common.{ap, ◌∙◌}
use Rattle.scene_text.specs.Cells.{number_or_zero_of}
use Rattle.fields.proofs.Parts.{end_in}
use Rattle.scene_text.proofs.Joined.{medium_past, medium_here, number_is}
use borrow.Author.Rules.{rules}
use Rattle.scene_text.proofs.media.next_medium.Goals as goal

pub returns-then-f-at-clause-by_index : goal.returns-then-f-at-clause-by_index
returns-then-f-at-clause-by_index c = (λ n. medium_past _ _ n c.if-f-at.true)

pub slice_bounds-read_whole-count : goal.slice_bounds-read_whole-count
slice_bounds-read_whole-count c = (end_in _ _ _ _ c.end_at-e.ensures c.if-f-at.false).0

pub slice_bounds-read_whole-start : goal.slice_bounds-read_whole-start
slice_bounds-read_whole-start c = let h = end_in _ _ _ _ c.end_at-e.ensures c.if-f-at.false in search rules

pub slice_bounds-read_whole-end : goal.slice_bounds-read_whole-end
slice_bounds-read_whole-end c = let h = end_in _ _ _ _ c.end_at-e.ensures c.if-f-at.false in search rules

pub returns-clause-by_index : goal.returns-clause-by_index
returns-clause-by_index c = let h = end_in _ _ _ _ c.end_at-e.ensures c.if-f-at.false in
    (λ n. medium_here _ _ _ c.end_at-e.ensures c.if-f-at.false _ n (c.unwrap_or.ensures ∙ number_is _ ∙ ap number_or_zero_of c.read_whole.ensures))
