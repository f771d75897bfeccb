-- The plain book of a list of hosts' calls.
use Rattle.std.specs.Prelude.{ℕ, List, [], ◌∷◌, ◌++◌, Float, length, Option, None, Some}
use Rattle.error.specs.Refusals.{Checked, refused_at}
use Rattle.material.specs.declared.OpticalMedium.{OpticalMedium}
use Rattle.material.specs.Media.{numbered_medium_of}
use Rattle.detector.specs.declared.DetectorNo.{DetectorNo}
use Rattle.detector.specs.declared.DetectorHit.{DetectorHit}
use Rattle.detector.specs.Checks.{check_detector_of}
use Rattle.detector.specs.Faces.{intersect_ray_of}
use Rattle.detector.specs.Pixels.{pixel_area_m2_of}
use Rattle.detectors.specs.Detectors.{check_detectors_of, find_of}
use Rattle.memory.specs.Memory.{Memory, Outcome, memory_left}
use Rattle.memory.specs.Plain.{added}
use Rattle.filter.specs.declared.RayPathFilter.{RayPathFilter}
use Rattle.filter.specs.Filters.{numbered_filter_of}
use Rattle.filter.specs.Handed.{Handed, handed}
use Rattle.report.specs.declared.NonSeqTraceReport.{NonSeqTraceReport}
use Rattle.report.specs.Report.{start_report_of}
use Rattle.trace.specs.Trace.{Batch, lent_batch, Trace}
use Rattle.host_numbers.specs.Numbers.{checked_of, read_of}
use Rattle.host_detectors.specs.declared.maps.HostRecorded.{HostRecorded}
use Rattle.host_detectors.specs.Detecting.{crossing_from}
use Rattle.host_detectors.specs.Maps.{filtered_from, part_from}
use Rattle.host_tracing.specs.declared.answers.HostConfig.{HostConfig}
use Rattle.host_tracing.specs.declared.answers.HostTraced.{HostTraced}
use Rattle.host_tracing.specs.Flat.{flat_values, flat_tags}
use Rattle.host_tracing.specs.Tracing.{trace_config_of}
use Rattle.host_texts.specs.Texts.{host_put_answer_of}
use Rattle.theorems_calls.specs.Calls.{Call, tracing, recording, refilter, irradiance, crossing, area, verdict}
use Rattle.theorems_calls.specs.Book.{bare, wish_in, book_granted, book_traced, book_asked, book_filtered, book_reading}
use Rattle.theorems_hosts.specs.HostCalls.{HostCall, trace_rays, trace_given_rays, record_hit, refilter_map}
use Rattle.theorems_hosts.specs.HostCalls.{pixels_in, irradiance_at, put_answer, check_detectors, check_detector}
use Rattle.theorems_hosts.specs.HostCalls.{intersect_ray, pixel_area_m2, HostAnswer, traced, recorded, filtered}
use Rattle.theorems_hosts.specs.HostCalls.{part, reading, written, checked, crossed, held_in}
use Rattle.doubles.specs.Doubles.{#0}

-- ---- the library's calls that a host's call makes: none where a number that is no medium's or no filter's is refused
-- by 17, and none for what the library's list does not have, which asks nothing of the memory

abbrev pub ambient_in : HostConfig → Option OpticalMedium
ambient_in g = numbered_medium_of g.ambient g.a g.b g.c g.d g.e g.f

abbrev pub batch_with : HostConfig → List Float → List ℕ → ℕ → List Float → List ℕ → ℕ → OpticalMedium → Batch
batch_with g x k n v t r medium = lent_batch (trace_config_of g medium) x k n v t r

unfoldable pub tracing_in : Option OpticalMedium → (OpticalMedium → Batch) → List Call
tracing_in (Some medium) B = tracing (B medium) ∷ []
tracing_in None B = []

unfoldable pub refilter_in : Option RayPathFilter → ℕ → List Float → List Call
refilter_in (Some f) d work = refilter (record { 0 = d }) f work ∷ []
refilter_in None d work = []

unfoldable pub call_in : HostCall → List Call
call_in (trace_rays g x k n v t r) = tracing_in (ambient_in g) (batch_with g x k n v t r)
call_in (trace_given_rays g x k n rs) =
    tracing_in (ambient_in g) (batch_with g x k n (flat_values rs) (flat_tags rs) (length rs))
call_in (record_hit h) = recording h ∷ []
call_in (refilter_map d f work) = refilter_in (numbered_filter_of f) d work
call_in (irradiance_at d px py) = irradiance (record { 0 = d }) px py ∷ []
call_in (intersect_ray d r) = crossing d r ∷ []
call_in (pixel_area_m2 d) = area d ∷ []
call_in (pixels_in d) = []
call_in (put_answer buf r f) = []
call_in check_detectors = []
call_in (check_detector d) = []

unfoldable pub calls_in : List HostCall → List Call
calls_in [] = []
calls_in (c ∷ cs) = call_in c ++ calls_in cs

-- ---- what a call answers in the book b, in the numbers that hosts get; s is the memory before the list. Records and
-- number used, where they are given back, are what the book's hits make of s; all else goes by s without contents

abbrev pub traced_with : Checked Unit → NonSeqTraceReport → Memory → HostTraced
traced_with c r m =
    let n = checked_of c in
    record { refusal = n.refusal; place = n.place; used = m.used; report = r; detectors = m.detectors }

abbrev pub traced_by : Memory → Trace (List DetectorHit) → HostTraced
traced_by s t = traced_with (verdict t.outcome) t.report (added s (memory_left t.outcome))

unfoldable pub book_tracing : Memory → Option OpticalMedium → (OpticalMedium → Batch) → List DetectorHit → HostTraced
book_tracing s (Some medium) B b = traced_by s (book_traced (bare s) (B medium) b)
book_tracing s None B b = traced_with (refused_at 17 0) (start_report_of 0 #0) (added s b)

abbrev pub recorded_with : Checked Unit → Memory → HostRecorded
recorded_with c m =
    let n = checked_of c in
    record { refusal = n.refusal; place = n.place; used = m.used; detectors = m.detectors }

abbrev pub recorded_by : Memory → Outcome (List DetectorHit) → HostRecorded
recorded_by s o = recorded_with (verdict o) (added s (memory_left o))

unfoldable pub book_sifted : Memory → Option RayPathFilter → DetectorNo → List Float → List DetectorHit → Handed
book_sifted s (Some f) d work b = book_filtered (bare s) d f work b (book_asked (bare s) d work b)
book_sifted s None d work b = handed (refused_at 17 0) work #0 0

unfoldable pub host_book_answer : Memory → HostCall → List DetectorHit → HostAnswer
host_book_answer s (trace_rays g x k n v t r) b = traced (book_tracing s (ambient_in g) (batch_with g x k n v t r) b)
host_book_answer s (trace_given_rays g x k n rs) b =
    traced (book_tracing s (ambient_in g) (batch_with g x k n (flat_values rs) (flat_tags rs) (length rs)) b)
host_book_answer s (record_hit h) b = recorded (recorded_by s (book_granted (bare s) (wish_in (recording h)) b))
host_book_answer s (refilter_map d f work) b =
    filtered (filtered_from (book_sifted s (numbered_filter_of f) (record { 0 = d }) work b))
host_book_answer s (pixels_in d) b = part (part_from (find_of (bare s).detectors (record { 0 = d })))
host_book_answer s (irradiance_at d px py) b =
    let asked : DetectorNo = record { 0 = d } in
    reading (read_of (book_reading (bare s) asked px py b (find_of (bare s).detectors asked)))
host_book_answer s (put_answer buf r f) b = written (host_put_answer_of buf r f (held_in (added (bare s) b)))
host_book_answer s check_detectors b = checked (checked_of (check_detectors_of (bare s).detectors))
host_book_answer s (check_detector d) b = checked (checked_of (check_detector_of d 0))
host_book_answer s (intersect_ray d r) b = crossed (crossing_from (intersect_ray_of d r))
host_book_answer s (pixel_area_m2 d) b = reading (read_of (pixel_area_m2_of d))
