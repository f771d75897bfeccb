use Rattle.std.proofs.Common.{arith}
use Rattle.fields.proofs.Parts.{count_here, count_again, count_end}
use Rattle.fields.specs.Split.{split}
use Rattle.fields.proofs.split.count_parts.Goals as goal
use Rattle.fields.proofs.split.count_parts.Goals.{then-x-b, else-x-b}

pub loop-x-preserved : goal.loop-x-preserved
loop-x-preserved c =
    elim c.if-x-b.branch [
      | then-x-b w ↦ rw w.n-is (omega arith, count_here _ _ _ _ _ c.loop-x-test.true w.if-x-b.true c.loop-x.invariant.1)
      | else-x-b w ↦ rw w.n-is (omega arith, count_again _ _ _ _ _ c.loop-x-test.true w.if-x-b.false c.loop-x.invariant.1)
    ]

pub returns : goal.returns
unfolding split
returns c = count_end _ _ _ _ _ c.loop-x-test.false c.loop-x.invariant.1
