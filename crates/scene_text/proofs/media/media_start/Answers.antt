use mathlib.Core.Path.{sym, ◌∙◌}
use Rattle.scene_text.proofs.Joined.{start_dash, start_list}
use Rattle.scene_text.proofs.media.media_start.Goals as goal

pub returns-then-is_byte-clause-result_value : goal.returns-then-is_byte-clause-result_value
returns-then-is_byte-clause-result_value c = start_dash _ (sym c.is_byte.ensures ∙ c.if-is_byte.true)

pub returns-clause-result_value : goal.returns-clause-result_value
returns-clause-result_value c = start_list _ (sym c.is_byte.ensures ∙ c.if-is_byte.false)
