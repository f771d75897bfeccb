use native.Mathlib.Omega.{arith}
use Rattle.fields.proofs.Parts.{end_in}
use borrow.Author.Tests.{lt-ltb, le-ltb}
use Rattle.fields.specs.Split.{after_of}
use Rattle.fields.proofs.split.after.Goals as goal

pub returns-then-s-at : goal.returns-then-s-at
unfolding after_of
returns-then-s-at c = simp (lt-ltb _ _ c.if-s-at.true)

pub overflow_add-result : goal.overflow_add-result
overflow_add-result c = omega (arith, end_in _ _ _ _ c.end_at.ensures c.if-s-at.false)

pub returns : goal.returns
unfolding after_of
returns c = simp (le-ltb _ _ c.if-s-at.false, ← c.end_at.ensures)
