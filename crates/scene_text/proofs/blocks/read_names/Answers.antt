use Rattle.scene_text.proofs.Gathering.{names_are}
use Rattle.scene_text.proofs.blocks.read_names.Goals as goal

pub returns-clause-fact : goal.returns-clause-fact
returns-clause-fact c = names_are _ _ _ _ _ _ _ _ _ c.read_lines.ensures.at_after
