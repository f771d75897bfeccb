use native.Mathlib.Omega.{arith}
use Rattle.fields.proofs.Parts.{end_in}
use Rattle.scene_text.proofs.Standing.{one-is, one-not, one_unended, one_none}
use borrow.Author.Rules.{rules}
use Rattle.scene_text.proofs.blocks.read_one.Goals as goal

pub slice_bounds-read_row-count : goal.slice_bounds-read_row-count
slice_bounds-read_row-count c = let h = end_in _ _ _ _ c.end_at-e.ensures c.requires.1 in omega (arith, h.0)

pub slice_bounds-read_row-start : goal.slice_bounds-read_row-start
slice_bounds-read_row-start c = let h = end_in _ _ _ _ c.end_at-e.ensures c.requires.1 in search rules

pub returns-then-r-clause-at_after : goal.returns-then-r-clause-at_after
returns-then-r-clause-at_after c = one-is _ _ _ _ c.end_at-e.ensures c.requires.1 c.if-e-s.true _ _ _ _ _ _ _ _ _ _ c.read_row-r.ensures _ c.if-from.true c.if-r.true

pub returns-then-r-clause-at_in_bounds : goal.returns-then-r-clause-at_in_bounds
returns-then-r-clause-at_in_bounds c = (let h = end_in _ _ _ _ c.end_at-e.ensures c.requires.1 in (omega (arith, c.if-e-s.true), omega (arith, c.requires.2, h.0)))

pub returns-then-e-s-clause-at_after : goal.returns-then-e-s-clause-at_after
returns-then-e-s-clause-at_after c = one-not _ _ _ _ c.end_at-e.ensures c.requires.1 c.if-e-s.true _ _ _ _ _ _ _ _ _ _ c.read_row-r.ensures _ c.if-from.true c.if-r.false

pub returns-else-e-s-clause-at_after : goal.returns-else-e-s-clause-at_after
returns-else-e-s-clause-at_after c = one_unended _ _ _ _ c.end_at-e.ensures c.requires.1 _ _ _ _ _ _ c.if-from.true c.if-e-s.false

pub returns-else-from-clause-at_after : goal.returns-else-from-clause-at_after
returns-else-from-clause-at_after c = one_none _ _ _ _ _ _ _ _ _ c.if-from.false
