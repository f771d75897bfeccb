-- A scene text and its answer.
use Rattle.std.specs.Prelude.{ℕ, ◌*◌, List, replicate}
use Rattle.error.specs.Refusals.{Checked, passed, refused_at}
use Rattle.answer_text.specs.Answer.{refusal_text}
use Rattle.scene_text.specs.Scene.{Slices, slices, Answer, read_scene_of}
use Rattle.map_text.specs.Tables.{tables, map_text, run_doubles, run_wholes, detector_doubles, detector_wholes}
use Rattle.map_text.specs.Tables.{solid_room}
use Rattle.scene.specs.Solids.{solid_doubles, solid_wholes}
use Rattle.given_rays.specs.Given.{ray_doubles, ray_wholes, ray_room}
use Rattle.detectors.specs.Detectors.{max_detectors}
use Rattle.doubles.specs.Doubles.{#0}

-- room for one solid and one ray more than the most, so that 3 comes in its order, and for all detectors, which are
-- counted
unfoldable pub room : Slices
room =
    slices (replicate run_doubles #0) (replicate run_wholes 0)
    (replicate (solid_room * solid_doubles) #0) (replicate (solid_room * solid_wholes) 0)
    (replicate (max_detectors * detector_doubles) #0) (replicate (max_detectors * detector_wholes) 0)
    (replicate (ray_room * ray_doubles) #0) (replicate (ray_room * ray_wholes) 0)

abbrev pub read_text : Checked Unit → Answer → List ℕ
read_text (passed u) a =
    let m = a.left in
    map_text (tables m.run_values m.run_tags m.solid_values m.solid_tags a.solids m.detector_values
    m.detector_tags a.detectors m.ray_values m.ray_tags a.rays)
read_text (refused_at n place) a = refusal_text n place

-- the answer to what was read, or the refusal
unfoldable pub answer_to : Answer → List ℕ
answer_to a = read_text a.check a

unfoldable pub stray_map_text : List ℕ → List ℕ
stray_map_text s = answer_to (read_scene_of s room)
