-- Scene texts and answers.
use Rattle.std.specs.Prelude.{ℕ, Bool, cond, ◌&&◌, List, leb, eqb, length, Option, None, Some}
use Rattle.error.specs.Refusals.{Checked, passed, refused_at, after}
use Rattle.filter.specs.declared.RayPathFilter.{RayPathFilter}
use Rattle.filter.specs.Filters.{numbered_filter_of}
use Rattle.report.specs.declared.NonSeqTraceReport.{NonSeqTraceReport}
use Rattle.detectors.specs.declared.Detectors.{Detectors}
use Rattle.detectors.specs.Detectors.{all_pixels_of, check_detectors_of}
use Rattle.memory.specs.Memory.{is_hit_list_of, text_pixels}
use Rattle.printing.specs.Printing.{Out, out, put_all}
use Rattle.answer_text.specs.Answer.{Held, answer_text}
use Rattle.scene_text.specs.Scene.{Slices, Answer}
use Rattle.host_texts.specs.declared.HostScene.{HostScene}
use Rattle.host_texts.specs.declared.HostText.{HostText}

-- what reading answers, and the slices
pub record SceneRead : Type 0 where
  pub answer : HostScene
  pub left : Slices

abbrev pub scene_read : HostScene → Slices → SceneRead
scene_read r m = record { answer = r; left = m }

abbrev pub scene_with : Checked Unit → ℕ → ℕ → ℕ → Slices → SceneRead
scene_with (passed u) i j k m = scene_read (record { refusal = 0; place = 0; solids = i; detectors = j; rays = k }) m
scene_with (refused_at n place) i j k m =
    scene_read (record { refusal = n; place = place; solids = i; detectors = j; rays = k }) m

abbrev pub scene_from : Answer → SceneRead
scene_from a = scene_with a.check a.solids a.detectors a.rays a.left

-- ---- what is written

-- a text from the start of a buffer on, or nothing where it does not fit, and its length
unfoldable pub put_whole_of : List ℕ → List ℕ → Out
put_whole_of buf t = cond (leb (length t) (length buf)) (put_all buf 0 t) (out buf (length t))

-- ---- the answer

-- whether slices of these lengths are the flux map and the hit list of these detectors, and an answer has room for the
-- pixels
unfoldable pub is_held_of : Detectors → ℕ → ℕ → ℕ → ℕ → Bool
is_held_of ds nf nv nt used = leb nf text_pixels && (eqb nf (all_pixels_of ds) && is_hit_list_of nv nt used)

-- 3, 5 to 8 and 18, then 9
unfoldable pub check_held_of : Detectors → ℕ → ℕ → ℕ → ℕ → Checked Unit
check_held_of ds nf nv nt used =
    after (check_detectors_of ds) (cond (is_held_of ds nf nv nt used) (passed tt) (refused_at 9 0))

-- what a text's writing answers, and the buffer
pub record Written : Type 0 where
  pub answer : HostText
  pub buf : List ℕ

abbrev pub text_put : HostText → List ℕ → Written
text_put r buf = record { answer = r; buf = buf }

-- what is refused leaves the buffer
abbrev pub not_written : ℕ → ℕ → List ℕ → Written
not_written n place buf = text_put (record { refusal = n; place = place; length = 0 }) buf

abbrev pub whole_written : Out → Written
whole_written o = text_put (record { refusal = 0; place = 0; length = o.at }) o.buf

abbrev pub written_after : Checked Unit → List ℕ → List ℕ → Written
written_after (passed u) buf t = whole_written (put_whole_of buf t)
written_after (refused_at n place) buf t = not_written n place buf

unfoldable pub put_checked_of : List ℕ → NonSeqTraceReport → RayPathFilter → Held → Written
put_checked_of buf r f m =
    let c = check_held_of m.detectors (length m.flux) (length m.hit_values) (length m.hit_tags) m.used in
    written_after c buf (answer_text r f m)

-- a number that is no filter's is 17, before all else
abbrev pub put_by : List ℕ → NonSeqTraceReport → Option RayPathFilter → Held → Written
put_by buf r (Some f) m = put_checked_of buf r f m
put_by buf r None m = not_written 17 0 buf

unfoldable pub host_put_answer_of : List ℕ → NonSeqTraceReport → ℕ → Held → Written
host_put_answer_of buf r f m = put_by buf r (numbered_filter_of f) m
