use Rattle.scene_text.specs.Names.{ended, detector_names, solid_form}
use Rattle.fields.specs.Split.{bytes}
use Rattle.scene_text.proofs.scene.read_solids.Goals as goal

pub returns-clause-at_after : goal.returns-clause-at_after
unfolding detector_names solid_form ended bytes
returns-clause-at_after c = c.read_lines.ensures.at_after
