use Rattle.fields.proofs.Parts.{end_in, part_is}
use borrow.Author.Tests.{lt-ltb}
use Rattle.fields.specs.Split.{parts_at}
use borrow.Author.Rules.{rules}
use Rattle.fields.proofs.split.part_at.Goals as goal

pub returns-then-s-at : goal.returns-then-s-at
unfolding parts_at
returns-then-s-at c = simp (lt-ltb _ _ c.if-s-at.true)

pub slice_bounds-result-count-2 : goal.slice_bounds-result-count-2
slice_bounds-result-count-2 c = (end_in _ _ _ _ c.end_at-e.ensures c.if-s-at.false).0

pub slice_bounds-result-start-2 : goal.slice_bounds-result-start-2
slice_bounds-result-start-2 c = let h = end_in _ _ _ _ c.end_at-e.ensures c.if-s-at.false in search rules

pub slice_bounds-result-end-2 : goal.slice_bounds-result-end-2
slice_bounds-result-end-2 c = let h = end_in _ _ _ _ c.end_at-e.ensures c.if-s-at.false in search rules

pub returns : goal.returns
returns c = part_is _ _ _ _ c.end_at-e.ensures c.if-s-at.false
