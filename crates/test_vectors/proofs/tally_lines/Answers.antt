use Rattle.std.proofs.Common.{◌≤◌, length, le_of_lt, arith, rules}
use Rattle.fields.proofs.Parts.{end_in}
use Rattle.test_vectors.proofs.Loops.{turn, done}
use Rattle.test_vectors.proofs.tally_lines.Goals as goal

pub slice_bounds-line_agrees-count : goal.slice_bounds-line_agrees-count
slice_bounds-line_agrees-count c = let ends : (c.loop-at.at ≤ c.end_at-e.result) × (c.end_at-e.result ≤ length c.args.text.now) = end_in _ _ _ _ c.end_at-e.ensures (le_of_lt c.loop-at-test.true) in
    ends.0

pub slice_bounds-line_agrees-start : goal.slice_bounds-line_agrees-start
slice_bounds-line_agrees-start c = let ends : (c.loop-at.at ≤ c.end_at-e.result) × (c.end_at-e.result ≤ length c.args.text.now) = end_in _ _ _ _ c.end_at-e.ensures (le_of_lt c.loop-at-test.true) in
    let h = ends in search rules

pub slice_bounds-line_agrees-end : goal.slice_bounds-line_agrees-end
slice_bounds-line_agrees-end c = let ends : (c.loop-at.at ≤ c.end_at-e.result) × (c.end_at-e.result ≤ length c.args.text.now) = end_in _ _ _ _ c.end_at-e.ensures (le_of_lt c.loop-at-test.true) in
    let h = ends in search rules

pub loop-at-smaller : goal.loop-at-smaller
loop-at-smaller c = let ends : (c.loop-at.at ≤ c.end_at-e.result) × (c.end_at-e.result ≤ length c.args.text.now) = end_in _ _ _ _ c.end_at-e.ensures (le_of_lt c.loop-at-test.true) in
    omega (arith, ends)

pub loop-at-preserved : goal.loop-at-preserved
loop-at-preserved c = let ends : (c.loop-at.at ≤ c.end_at-e.result) × (c.end_at-e.result ≤ length c.args.text.now) = end_in _ _ _ _ c.end_at-e.ensures (le_of_lt c.loop-at-test.true) in
    let h = ends in (
      omega arith,
      turn _ _ _ _ _ c.loop-at.t _ _ c.loop-at-test.true c.end_at-e.ensures
          c.line_agrees.ensures c.count-t.ensures c.loop-at.invariant.1,
    )

pub returns : goal.returns
returns c = done _ _ _ _ _ c.loop-at-test.false c.loop-at.invariant.1
