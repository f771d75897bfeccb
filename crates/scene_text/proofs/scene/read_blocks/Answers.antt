use Rattle.std.proofs.Common.{◌≡◌}
use Rattle.scene_text.specs.Names.{ended, ray_form}
use Rattle.scene_text.specs.Scene.{contents_in, tally, tallied, slices, filled_with}
use Rattle.scene_text.proofs.Gathering.{gathered, told_counts, told_line}
use Rattle.fields.specs.Split.{bytes}
use Rattle.scene_text.proofs.scene.read_blocks.Goals as goal
use Rattle.scene_text.proofs.scene.read_blocks.Goals.{After-read_lines-f}

-- what all four blocks come to
all : (c : After-read_lines-f) →
    (tally c.read_lines-f.result.ok c.read_lines-f.result.line c.read_solids-d.result.rows c.read_detectors-e.result.rows c.read_lines-f.result.rows ≡ tallied (contents_in c.args.s.now))
    × (slices c.read_run-c.new.run_values c.read_run-c.new.run_tags c.read_solids-d.new.d c.read_solids-d.new.w c.read_detectors-e.new.d c.read_detectors-e.new.w c.read_lines-f.new.d c.read_lines-f.new.w
    ≡ filled_with (contents_in c.args.s.now) (slices c.args.run_values.now c.args.run_tags.now c.args.solid_values.now c.args.solid_tags.now c.args.detector_values.now c.args.detector_tags.now c.args.ray_values.now c.args.ray_tags.now))
unfolding ray_form ended bytes
all c = gathered _
    (slices c.args.run_values.now c.args.run_tags.now c.args.solid_values.now c.args.solid_tags.now c.args.detector_values.now
    c.args.detector_tags.now c.args.ray_values.now c.args.ray_tags.now) _ _ _ _ _ c.read_run-c.ensures.fact _ _ _ _ _ _ _ _ _
    c.read_solids-d.ensures.at_after _ _ _ _ _ _ _ _ _ c.read_detectors-e.ensures.at_after _ _ _ _ _ _ _ _ _ c.read_lines-f.ensures.at_after

pub returns-then-f-clause-rays_value : goal.returns-then-f-clause-rays_value
returns-then-f-clause-rays_value c = told_counts _ _ _ _ _ _ (all (goal.at.returns-then-f-clause-rays_value c).After-read_lines-f).0 c.if-f.true

pub returns-then-f-clause-ray_tags_after : goal.returns-then-f-clause-ray_tags_after
returns-then-f-clause-ray_tags_after c = (all (goal.at.returns-then-f-clause-ray_tags_after c).After-read_lines-f).1

pub returns-else-f-clause-rays_value : goal.returns-else-f-clause-rays_value
returns-else-f-clause-rays_value c = told_line _ _ _ _ _ _ (all (goal.at.returns-else-f-clause-rays_value c).After-read_lines-f).0 _ c.if-f.false c.refused.ensures

pub returns-else-f-clause-ray_tags_after : goal.returns-else-f-clause-ray_tags_after
returns-else-f-clause-ray_tags_after c = (all (goal.at.returns-else-f-clause-ray_tags_after c).After-read_lines-f).1
