use Rattle.std.proofs.Common.{◌≡◌, max, length, arith, ◌∙◌}
use Rattle.fields.proofs.Parts.{end_here, end_again, end_end}
use Rattle.fields.specs.Split.{end_at_of}
use Rattle.fields.proofs.split.end_at.Goals as goal

pub returns-then-s-i : goal.returns-then-s-i
unfolding end_at_of
returns-then-s-i c = end_here _ _ _ _ c.loop-i-test.true c.if-s-i.true c.loop-i.invariant.1

pub loop-i-preserved : goal.loop-i-preserved
loop-i-preserved c = (omega arith, end_again _ _ _ _ c.loop-i-test.true c.if-s-i.false c.loop-i.invariant.1)

pub returns : goal.returns
unfolding end_at_of
returns c =
    let top : max c.args.at (length c.args.s.now) ≡ c.loop-i.i = omega (arith, c.loop-i.auto.i) in
    c.max.ensures ∙ top ∙ end_end _ _ _ _ c.loop-i-test.false c.loop-i.invariant.1
