use borrow.Author.Rules.{rules}
use native.Mathlib.Omega.{arith}
use Rattle.fields.proofs.Parts.{end_in}
use Rattle.scene_text.proofs.Joined.{count_again, count_bad, count_done}
use Rattle.scene_text.proofs.media.count_media.Goals as goal

pub slice_bounds-read_whole-count : goal.slice_bounds-read_whole-count
slice_bounds-read_whole-count c = (end_in _ _ _ _ c.end_at-e.ensures c.loop-at-test.true).0

pub slice_bounds-read_whole-start : goal.slice_bounds-read_whole-start
slice_bounds-read_whole-start c = let h = end_in _ _ _ _ c.end_at-e.ensures c.loop-at-test.true in search rules

pub slice_bounds-read_whole-end : goal.slice_bounds-read_whole-end
slice_bounds-read_whole-end c = let h = end_in _ _ _ _ c.end_at-e.ensures c.loop-at-test.true in search rules

pub returns-in_err-read_whole : goal.returns-in_err-read_whole
returns-in_err-read_whole c = rw c.from_residual.ensures (count_bad _ c.loop-at.at _ c.end_at-e.ensures c.loop-at-test.true _ _ _ c.read_whole.ensures c.in_err-read_whole.was c.loop-at.invariant.1)

pub loop-at-smaller : goal.loop-at-smaller
loop-at-smaller c = let h = end_in _ _ _ _ c.end_at-e.ensures c.loop-at-test.true in omega (arith, h.0, h.1, c.loop-at-test.true)

pub loop-at-preserved : goal.loop-at-preserved
loop-at-preserved c = let h = end_in _ _ _ _ c.end_at-e.ensures c.loop-at-test.true in (
  omega (arith, h.1),
  rw c.one_more-n.ensures
      (count_again _ c.loop-at.at _ c.end_at-e.ensures c.loop-at-test.true _ _ _ _ c.read_whole.ensures c.in_ok-read_whole.was c.loop-at.invariant.1),
)

pub returns : goal.returns
returns c = count_done _ c.loop-at.at _ _ c.loop-at-test.false c.loop-at.invariant.1
