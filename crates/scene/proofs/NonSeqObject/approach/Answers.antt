use mathlib.Core.Path.{refl}
use Rattle.scene.proofs.Parts.{approach_met, approach_missed, approach_inactive}
use Rattle.scene.proofs.NonSeqObject.approach.Goals as goal

pub returns-in_err-point : goal.returns-in_err-point
returns-in_err-point c = rw c.from_residual.ensures (approach_missed _ _ _ _ _ c.if-self.true refl refl c.meet.ensures c.in_err-point.was)

pub returns-then-self : goal.returns-then-self
returns-then-self c = approach_met _ _ _ _ _ _ _ _ c.if-self.true refl refl refl c.meet.ensures c.in_ok-point.was c.reached.ensures

pub returns : goal.returns
returns c = approach_inactive _ _ c.if-self.false
