use Rattle.map_text.specs.StrayMap.{room}
use Rattle.map_text.proofs.Answers.{text_refused, text_mapped}
use Rattle.map_text.proofs.answering.put_stray_map.Goals as goal

pub returns-in-Err : goal.returns-in-Err
unfolding room
returns-in-Err c = text_refused _ c.read_scene-r.result _ c.read_scene-r.ensures _ _ _ _ _ c.in-Err.is c.number.ensures
    c.put_refusal.ensures

pub returns-in-Ok : goal.returns-in-Ok
unfolding room
returns-in-Ok c = text_mapped _ c.read_scene-r.result _ c.read_scene-r.ensures _ _ _ _ c.in-Ok.is c.put_map.ensures
