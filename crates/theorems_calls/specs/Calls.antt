-- Calls on the same detectors and memory: what each answers, and what it leaves, by the definition that its contract
-- names.
use Rattle.std.specs.Prelude.{ℕ, List, [], ◌∷◌, Float, Option}
use Rattle.error.specs.Refusals.{Checked, passed, refused_at}
use Rattle.rays.specs.declared.Ray.{Ray}
use Rattle.detector.specs.declared.Detector2D.{Detector2D}
use Rattle.detector.specs.declared.DetectorNo.{DetectorNo}
use Rattle.detector.specs.declared.DetectorHit.{DetectorHit}
use Rattle.detector.specs.declared.face.Crossing.{Crossing}
use Rattle.detector.specs.Faces.{intersect_ray_of}
use Rattle.detector.specs.Pixels.{pixel_area_m2_of}
use Rattle.detectors.specs.Readings.{irradiance_at_of}
use Rattle.memory.specs.Memory.{Memory, Outcome, done, refused, memory_left, record_hit_classified_of}
use Rattle.filter.specs.declared.RayPathFilter.{RayPathFilter}
use Rattle.filter.specs.Handed.{Handed, refilter_of, filtered_pixel_flux_of}
use Rattle.report.specs.declared.NonSeqTraceReport.{NonSeqTraceReport}
use Rattle.trace.specs.Trace.{Batch, Trace, trace_rays_of}

-- each call with its arguments besides detectors and memory
pub data Call : Type 0 where
  -- `trace_rays`
  tracing : Batch → Call
  -- `record_hit_classified`
  recording : DetectorHit → Call
  -- `refilter` and `filtered_pixel_flux` of a detector, with the caller's work map
  refilter : DetectorNo → RayPathFilter → List Float → Call
  part : DetectorNo → RayPathFilter → List Float → Call
  -- `irradiance_at` of a detector's column and row
  irradiance : DetectorNo → ℕ → ℕ → Call
  -- `intersect_ray` and `pixel_area_m2` of any detector
  crossing : Detector2D → Ray → Call
  area : Detector2D → Call

-- ---- what a call answers

pub data Answer : Type 0 where
  -- done or refused, and the report
  trace_said : Checked Unit → NonSeqTraceReport → Answer
  record_said : Checked Unit → Answer
  -- done or refused, the work map, its total and its count
  filter_said : Handed → Answer
  part_said : List Float → Answer
  reading_said : Checked Float → Answer
  crossing_said : Checked (Option Crossing) → Answer

-- done, or the number and the place of the refusal
abbrev pub verdict : {M : Type 0} → Outcome M → Checked Unit
verdict (done m) = passed tt
verdict (refused n place m) = refused_at n place

abbrev pub traced_answer : {M : Type 0} → Trace M → Answer
traced_answer t = trace_said (verdict t.outcome) t.report

unfoldable pub answer_in : Call → Memory → Answer
answer_in (tracing B) m = traced_answer (trace_rays_of B m)
answer_in (recording h) m = record_said (verdict (record_hit_classified_of m h))
answer_in (refilter d f work) m =
    filter_said (refilter_of m.detectors d f m.flux work m.hit_values m.hit_tags m.used)
answer_in (part d f work) m =
    part_said (filtered_pixel_flux_of m.detectors d f m.flux work m.hit_values m.hit_tags m.used)
answer_in (irradiance d px py) m = reading_said (irradiance_at_of m.detectors d m.flux px py)
answer_in (crossing d r) m = crossing_said (intersect_ray_of d r)
answer_in (area d) m = reading_said (pixel_area_m2_of d)

-- ---- what a call leaves: filters and readings are lent the memory to read and write none of it

unfoldable pub outcome_in : Call → Memory → Outcome Memory
outcome_in (tracing B) m = (trace_rays_of B m).outcome
outcome_in (recording h) m = record_hit_classified_of m h
outcome_in (refilter d f work) m = done m
outcome_in (part d f work) m = done m
outcome_in (irradiance d px py) m = done m
outcome_in (crossing d r) m = done m
outcome_in (area d) m = done m

-- after a list of calls, refused ones included
unfoldable pub memory_after : List Call → Memory → Memory
memory_after [] m = m
memory_after (c ∷ cs) m = memory_after cs (memory_left (outcome_in c m))
