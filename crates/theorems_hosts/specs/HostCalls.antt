-- Calls of the exported entries that are lent the memory or read it: what each answers, and what it leaves, by the
-- definition that its contract names.
use Rattle.std.specs.Prelude.{ℕ, List, [], ◌∷◌, Float, length}
use Rattle.rays.specs.declared.Ray.{Ray}
use Rattle.detector.specs.declared.Detector2D.{Detector2D}
use Rattle.detector.specs.declared.DetectorHit.{DetectorHit}
use Rattle.detector.specs.Checks.{check_detector_of}
use Rattle.detector.specs.Faces.{intersect_ray_of}
use Rattle.detector.specs.Pixels.{pixel_area_m2_of}
use Rattle.detectors.specs.Detectors.{check_detectors_of, find_of}
use Rattle.detectors.specs.Readings.{irradiance_at_of}
use Rattle.memory.specs.Memory.{Memory, lent_memory, record_hit_classified_of}
use Rattle.report.specs.declared.NonSeqTraceReport.{NonSeqTraceReport}
use Rattle.answer_text.specs.Answer.{Held, held}
use Rattle.host_numbers.specs.declared.HostChecked.{HostChecked}
use Rattle.host_numbers.specs.declared.HostReading.{HostReading}
use Rattle.host_numbers.specs.Numbers.{checked_of, read_of}
use Rattle.host_detectors.specs.declared.detecting.HostCrossing.{HostCrossing}
use Rattle.host_detectors.specs.declared.maps.HostRecorded.{HostRecorded}
use Rattle.host_detectors.specs.declared.maps.HostPart.{HostPart}
use Rattle.host_detectors.specs.Detecting.{crossing_from}
use Rattle.host_detectors.specs.Maps.{Recording, recorded_from, Sifted, filtered_from, host_refilter_of, part_from}
use Rattle.host_tracing.specs.declared.answers.HostConfig.{HostConfig}
use Rattle.host_tracing.specs.declared.answers.HostTraced.{HostTraced}
use Rattle.host_tracing.specs.declared.slices.GivenRay.{GivenRay}
use Rattle.host_tracing.specs.Flat.{flat_values, flat_tags}
use Rattle.host_tracing.specs.Tracing.{Left, host_trace_rays_of}
use Rattle.host_texts.specs.Texts.{Written, host_put_answer_of}

-- each call with its arguments besides detectors and memory
pub data HostCall : Type 0 where
  -- `nonseq_trace_rays`: settings, solids, rays as flat lists
  trace_rays : HostConfig → List Float → List ℕ → ℕ → List Float → List ℕ → ℕ → HostCall
  -- `nonseq_trace_given_rays`: settings, solids, rays as structs
  trace_given_rays : HostConfig → List Float → List ℕ → ℕ → List GivenRay → HostCall
  -- `nonseq_record_hit_classified`
  record_hit : DetectorHit → HostCall
  -- `nonseq_refilter`: detector, filter, work map
  refilter_map : ℕ → ℕ → List Float → HostCall
  -- `nonseq_pixels_of` a detector
  pixels_in : ℕ → HostCall
  -- `nonseq_irradiance_at`: detector, column, row
  irradiance_at : ℕ → ℕ → ℕ → HostCall
  -- `nonseq_put_answer`: buffer, report, filter
  put_answer : List ℕ → NonSeqTraceReport → ℕ → HostCall
  -- `nonseq_check_detectors`
  check_detectors : HostCall
  -- `nonseq_check_detector`, `nonseq_intersect_ray` and `nonseq_pixel_area_m2` of any detector
  check_detector : Detector2D → HostCall
  intersect_ray : Detector2D → Ray → HostCall
  pixel_area_m2 : Detector2D → HostCall

-- ---- what a call answers, with what it leaves besides the memory: a work map, a buffer

pub data HostAnswer : Type 0 where
  traced : HostTraced → HostAnswer
  recorded : HostRecorded → HostAnswer
  filtered : Sifted → HostAnswer
  part : HostPart → HostAnswer
  reading : HostReading → HostAnswer
  written : Written → HostAnswer
  checked : HostChecked → HostAnswer
  crossed : HostCrossing → HostAnswer

-- what the memory holds for an answer's text
abbrev pub held_in : Memory → Held
held_in m = held m.detectors m.flux m.hit_values m.hit_tags m.used

unfoldable pub host_answer_in : HostCall → Memory → HostAnswer
host_answer_in (trace_rays g x k n v t r) m = traced (host_trace_rays_of g x k n v t r m).answer
host_answer_in (trace_given_rays g x k n rs) m =
    traced (host_trace_rays_of g x k n (flat_values rs) (flat_tags rs) (length rs) m).answer
host_answer_in (record_hit h) m = recorded (recorded_from (record_hit_classified_of m h)).answer
host_answer_in (refilter_map d f work) m =
    filtered (filtered_from (host_refilter_of m.detectors d f m.flux work m.hit_values m.hit_tags m.used))
host_answer_in (pixels_in d) m = part (part_from (find_of m.detectors (record { 0 = d })))
host_answer_in (irradiance_at d px py) m =
    reading (read_of (irradiance_at_of m.detectors (record { 0 = d }) m.flux px py))
host_answer_in (put_answer buf r f) m = written (host_put_answer_of buf r f (held_in m))
host_answer_in check_detectors m = checked (checked_of (check_detectors_of m.detectors))
host_answer_in (check_detector d) m = checked (checked_of (check_detector_of d 0))
host_answer_in (intersect_ray d r) m = crossed (crossing_from (intersect_ray_of d r))
host_answer_in (pixel_area_m2 d) m = reading (read_of (pixel_area_m2_of d))

-- ---- what a call leaves: the records and the number used that it gives back, and the four slices

abbrev pub tracing_left : Left → Memory
tracing_left l = lent_memory l.answer.detectors l.flux l.hits l.hit_values l.hit_tags l.answer.used

abbrev pub recording_left : Recording → Memory
recording_left l = lent_memory l.answer.detectors l.flux l.hits l.hit_values l.hit_tags l.answer.used

unfoldable pub host_left : HostCall → Memory → Memory
host_left (trace_rays g x k n v t r) m = tracing_left (host_trace_rays_of g x k n v t r m)
host_left (trace_given_rays g x k n rs) m =
    tracing_left (host_trace_rays_of g x k n (flat_values rs) (flat_tags rs) (length rs) m)
host_left (record_hit h) m = recording_left (recorded_from (record_hit_classified_of m h))
host_left (refilter_map d f work) m = m
host_left (pixels_in d) m = m
host_left (irradiance_at d px py) m = m
host_left (put_answer buf r f) m = m
host_left check_detectors m = m
host_left (check_detector d) m = m
host_left (intersect_ray d r) m = m
host_left (pixel_area_m2 d) m = m

-- after a list of calls, refused ones included, each given what the last one left or gave back
unfoldable pub host_memory_after : List HostCall → Memory → Memory
host_memory_after [] m = m
host_memory_after (c ∷ cs) m = host_memory_after cs (host_left c m)
