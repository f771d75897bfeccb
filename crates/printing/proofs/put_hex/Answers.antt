use mathlib.Core.Path.{◌∙◌}
use borrow.Author.Rules.{rules}
use Rattle.printing.proofs.Writing.{hex_put, hex_last, hex_none}
use Rattle.printing.proofs.put_hex.Goals as goal

pub returns-then-low-eq0 : goal.returns-then-low-eq0
returns-then-low-eq0 c = hex_last _ _ _ _ c.loop.counter _ _ _ c.loop-test.true c.if-low-eq0.true c.glyph.ensures c.put-p.ensures c.loop.invariant.2

pub loop-preserved : goal.loop-preserved
loop-preserved c = (
  search rules,
  c.put-p.auto.buf ∙ c.loop.invariant.1,
  hex_put _ _ _ _ c.loop.counter c.loop.rest _ _ c.loop-test.true c.if-low-eq0.false c.glyph.ensures c.put-p.ensures c.loop.invariant.2,
)

pub returns : goal.returns
returns c = hex_none _ _ _ _ _ c.loop-test.false c.loop.invariant.2
