use Rattle.scene_text.specs.Names.{ended, run_names, run_form, solid_names}
use Rattle.scene_text.specs.Steps.{rest_at}
use Rattle.scene_text.proofs.Gathering.{run_is}
use Rattle.fields.specs.Split.{bytes}
use Rattle.scene_text.proofs.scene.read_run.Goals as goal

pub returns-clause-fact : goal.returns-clause-fact
unfolding run_names run_form solid_names ended bytes rest_at
returns-clause-fact c = run_is _ _ _ _ c.read_names-a.ensures.fact _ _ _ _ _ _ _ _ _ _ _ c.read_one-b.ensures.at_after _ _ _ c.read_names.ensures.fact
