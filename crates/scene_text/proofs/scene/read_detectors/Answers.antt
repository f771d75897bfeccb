use Rattle.scene_text.specs.Names.{ended, ray_names, detector_form}
use Rattle.fields.specs.Split.{bytes}
use Rattle.scene_text.proofs.scene.read_detectors.Goals as goal

pub returns-clause-at_after : goal.returns-clause-at_after
unfolding ray_names detector_form ended bytes
returns-clause-at_after c = c.read_lines.ensures.at_after
