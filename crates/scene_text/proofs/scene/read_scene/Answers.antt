use Rattle.std.proofs.Common.{sym, ◌∙◌, arith}
use Rattle.std.proofs.lemmas.Result.{err_from_is_err_and}
use Rattle.scene_text.specs.Scene.{slices}
use Rattle.scene_text.proofs.Gathering.{scene_long, scene_refused, scene_filled}
use Rattle.scene_text.proofs.scene.read_scene.Goals as goal

pub returns-then-text-gt-MAX_TEXT : goal.returns-then-text-gt-MAX_TEXT
returns-then-text-gt-MAX_TEXT c = scene_long _ _ _ (omega (arith, c.if-text-gt-MAX_TEXT.true)) c.refused.ensures

pub returns-in_err-check_text : goal.returns-in_err-check_text
returns-in_err-check_text c =
    let p = err_from_is_err_and c.from_residual.result c.from_residual.ensures.1 in
    rw (p.1, p.2) (scene_refused c.args.text.now (slices c.args.run_values.now c.args.run_tags.now c.args.solid_values.now c.args.solid_tags.now c.args.detector_values.now c.args.detector_tags.now c.args.ray_values.now c.args.ray_tags.now) _ (omega (arith, c.if-text-gt-MAX_TEXT.false)) (sym c.in_err-check_text.was ∙ c.check_text.ensures))

pub returns : goal.returns
returns c = scene_filled _ _ _ _ _ (omega (arith, c.if-text-gt-MAX_TEXT.false)) (sym c.in_ok-check_text.was ∙ c.check_text.ensures) c.read_blocks.ensures.rays_value c.read_blocks.ensures.ray_tags_after
