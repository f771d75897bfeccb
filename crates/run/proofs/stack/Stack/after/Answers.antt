use Rattle.run.proofs.Places.{first_made, first_missing, second-made, second-missing, no_room}
use Rattle.run.proofs.stack.Stack.after.Goals.{in-Some, in_default}
use Rattle.run.proofs.stack.Stack.after.Goals as goal

pub returns-in-Some-transmitted : goal.returns-in-Some-transmitted
returns-in-Some-transmitted c = second-made _ _ c.saturating_sub-at.ensures _ _ _
    (elim c.match-e.branch [
      | in-Some w ↦ first_made _ _ c.saturating_sub-at.ensures _ _ _ _ w.in-Some.is w.rays-is w.at-is
      | in_default w ↦ first_missing _ _ c.saturating_sub-at.ensures _ _ _ w.in_default.is w.rays-is w.at-is
    ])
    c.if-at-lt-PAIR_ROOM.true _ c.in-Some-transmitted.is

pub returns-in_default-transmitted : goal.returns-in_default-transmitted
returns-in_default-transmitted c = second-missing _ _ c.saturating_sub-at.ensures _ _ _
    (elim c.match-e.branch [
      | in-Some w ↦ first_made _ _ c.saturating_sub-at.ensures _ _ _ _ w.in-Some.is w.rays-is w.at-is
      | in_default w ↦ first_missing _ _ c.saturating_sub-at.ensures _ _ _ w.in_default.is w.rays-is w.at-is
    ])
    c.if-at-lt-PAIR_ROOM.true c.in_default-transmitted.is

pub returns-else-at-lt-PAIR_ROOM : goal.returns-else-at-lt-PAIR_ROOM
returns-else-at-lt-PAIR_ROOM c = no_room _ _ c.saturating_sub-at.ensures _ c.if-at-lt-PAIR_ROOM.false
