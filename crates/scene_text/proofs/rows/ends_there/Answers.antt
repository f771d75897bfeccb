use borrow.Author.Rules.{rules}
use Rattle.scene_text.proofs.Walking.{ends_is, ends_not}
use Rattle.scene_text.proofs.rows.ends_there.Goals as goal

pub returns-then-r : goal.returns-then-r
returns-then-r c = λ d w. ends_is _ _ _ d _ w _ (search rules) c.if-r.true

pub returns-else-r : goal.returns-else-r
returns-else-r c = λ d w. ends_not _ _ _ d _ w _ c.if-r.false
