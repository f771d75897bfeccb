-- What a host's call answers after any list of calls is what it answers in the plain book. Assumes nothing.
use Rattle.std.specs.Prelude.{Option, None, Some}
use Prim.Native.Nat.{ℕ}
use mathlib.Core.Path.{◌≡◌, refl, ap, sym, ◌∙◌}
use mathlib.Core.List.{List, []}
use lib.Ieee.{Float}
use lib.ListN.{length}
use Rattle.error.specs.Refusals.{Checked, passed, refused_at, after}
use Rattle.material.specs.declared.OpticalMedium.{OpticalMedium}
use Rattle.detector.specs.declared.DetectorNo.{DetectorNo}
use Rattle.detector.specs.declared.DetectorHit.{DetectorHit}
use Rattle.detector.specs.Pixels.{pixels_of}
use Rattle.detectors.specs.declared.Detectors.{Detectors}
use Rattle.detectors.specs.Detectors.{detector_at, first_pixel_of, check_detectors_of, check_asked, placed_of, find_of}
use Rattle.memory.specs.Memory.{Memory, Outcome, done, refused, memory_left, unless, record_hit_classified_of}
use Rattle.memory.specs.Plain.{Empty, added}
use Rattle.filter.specs.declared.RayPathFilter.{RayPathFilter}
use Rattle.filter.specs.Filters.{numbered_filter_of}
use Rattle.report.specs.declared.NonSeqTraceReport.{NonSeqTraceReport}
use Rattle.report.specs.Report.{start_report_of}
use Rattle.run.specs.Run.{Run}
use Rattle.trace.specs.Trace.{Batch, Trace, check_batch, run_on, trace_after, trace_rays_of}
use Rattle.host_detectors.specs.declared.maps.HostPart.{HostPart}
use Rattle.host_detectors.specs.Maps.{recorded_from, filtered_from, refilter_by, host_refilter_of, part_from}
use Rattle.host_numbers.specs.Numbers.{checked_of, read_of}
use Rattle.host_texts.specs.Texts.{host_put_answer_of}
use Rattle.host_tracing.specs.Flat.{flat_values, flat_tags}
use Rattle.host_tracing.specs.Tracing.{left_by, traced_in, host_trace_rays_of}
use Rattle.theorems_calls.specs.Calls.{Call, tracing, recording, refilter, irradiance, Answer, trace_said, record_said, filter_said, part_said, reading_said, crossing_said, verdict, answer_in, outcome_in}
use Rattle.theorems_calls.specs.Book.{bare_detectors, bare, with_used, granted, wish_in, plain_hit, book_granted, book_after, book_traced, book_answer}
use Rattle.theorems_calls.proofs.Bare.{bare_first, bare_pixels_at, bare_checks, bare_asked, bare_hits, bare_detectors_lem}
use Rattle.theorems_calls.proofs.Booked.{left_map, Sane}
use Rattle.theorems_calls.proofs.Lists.{call_booked, after_calls, after_sane}
use Rattle.theorems_calls.proofs.Answers.{answer_same}
use Rattle.theorems_hosts.specs.HostCalls.{HostCall, trace_rays, trace_given_rays, record_hit, refilter_map, pixels_in, irradiance_at, put_answer, check_detectors, check_detector, intersect_ray, pixel_area_m2}
use Rattle.theorems_hosts.specs.HostCalls.{traced, recorded, filtered, part, reading, written, checked, held_in, host_answer_in, host_memory_after}
use Rattle.theorems_hosts.specs.HostBook.{ambient_in, batch_with, calls_in, traced_with, traced_by, book_tracing, recorded_with, recorded_by, book_sifted, host_book_answer}
use Rattle.theorems_hosts.proofs.Lists.{calls_left}
use Rattle.theorems_hosts.proofs.Texts.{handed_in, written_same}
use Rattle.doubles.specs.Doubles.{#0}

-- ---- an answer's parts, by its kind

abbrev said_in : Answer → Checked Unit
said_in (trace_said c r) = c
said_in (record_said c) = c
said_in (filter_said h) = passed tt
said_in (part_said l) = passed tt
said_in (reading_said c) = passed tt
said_in (crossing_said c) = passed tt

abbrev report_in : Answer → NonSeqTraceReport
report_in (trace_said c r) = r
report_in (record_said c) = start_report_of 0 #0
report_in (filter_said h) = start_report_of 0 #0
report_in (part_said l) = start_report_of 0 #0
report_in (reading_said c) = start_report_of 0 #0
report_in (crossing_said c) = start_report_of 0 #0

abbrev read_in : Answer → Checked Float
read_in (trace_said c r) = passed #0
read_in (record_said c) = passed #0
read_in (filter_said h) = passed #0
read_in (part_said l) = passed #0
read_in (reading_said c) = c
read_in (crossing_said c) = passed #0

-- ---- outcomes in numbers

traced_numbers : (t : Trace Memory) → (left_by t).answer ≡ traced_with (verdict t.outcome) t.report (memory_left t.outcome)
unfolding left_by
traced_numbers t = go t.outcome
  where
    go : (o : Outcome Memory) → (left_by (record { outcome = o; report = t.report })).answer ≡ traced_with (verdict o) t.report (memory_left o)
    go (done m) = refl
    go (refused n place m) = refl

recorded_numbers : (o : Outcome Memory) → (recorded_from o).answer ≡ recorded_with (verdict o) (memory_left o)
recorded_numbers (done m) = refl
recorded_numbers (refused n place m) = refl

-- a tracing of the book is its wish granted
book_granted_lem : (s : Memory) (B : Batch) (b : List DetectorHit) → book_granted s (wish_in (tracing B)) b ≡ (book_traced s B b).outcome
unfolding granted wish_in book_traced
book_granted_lem s B b = go (check_batch B (with_used s (length b))) (run_on (plain_hit s) s.detectors B b)
  where
    go : (c : Checked Unit) (r : Run (List DetectorHit)) → unless c b r.outcome ≡ (trace_after c b r).outcome
    go (passed u) r = refl
    go (refused_at n place) r = refl

-- where a detector's pixels stand does not depend on totals and counts
bare_part : (d : DetectorNo) (ds : Detectors) → part_from (find_of (bare_detectors ds) d) ≡ part_from (find_of ds d)
unfolding find_of placed_of
bare_part d ds =
    ap (λ c. part_from (after c (passed (placed_of (bare_detectors ds).list d.0)))) (bare_asked d ds)
    ∙ go (check_asked ds d)
  where
    spot : ℕ → ℕ → HostPart
    spot i n = record { refusal = 0; place = 0; «first» = i; pixels = n }

    go : (c : Checked Unit) → part_from (after c (passed (placed_of (bare_detectors ds).list d.0))) ≡ part_from (after c (passed (placed_of ds.list d.0)))
    go (passed u) =
        ap (λ i. spot i (pixels_of (detector_at (bare_detectors ds).list d.0))) (bare_first ds.list d.0)
        ∙ ap (λ n. spot (first_pixel_of ds.list d.0) n) (bare_pixels_at ds.list d.0)
    go (refused_at n place) = refl

-- ---- on the memory that the book's hits make of an empty one

module _ (s : Memory) (eight : length s.detectors.list ≡ 8) (empty : Empty s) (b : List DetectorHit) (sane : Sane s eight empty b)
    (texts : (buf : List ℕ) (r : NonSeqTraceReport) (f : ℕ) → host_put_answer_of buf r f (held_in (added s b)) ≡ host_put_answer_of buf r f (held_in (added (bare s) b))) where
  -- what does not depend on totals and counts is the same of the bare detectors
  seen : {A : Type 0} (F : Detectors → A) → ((ds : Detectors) → F (bare_detectors ds) ≡ F ds) → F (added s b).detectors ≡ F (bare s).detectors
  seen F e = sym (e (added s b).detectors) ∙ ap F (bare_hits b s) ∙ ap F (sym (bare_detectors_lem s))

  abbrev same : (c : Call) → answer_in c (added s b) ≡ book_answer (bare s) c b
  same = answer_same s eight empty b sane

  left_same : (c : Call) → memory_left (outcome_in c (added s b)) ≡ added s (memory_left (book_granted (bare s) (wish_in c) b))
  left_same c = ap memory_left (call_booked s eight empty c b) ∙ left_map (added s) (book_granted (bare s) (wish_in c) b)

  traced_same : (B : Batch) → (left_by (trace_rays_of B (added s b))).answer ≡ traced_by s (book_traced (bare s) B b)
  unfolding answer_in book_answer outcome_in
  traced_same B =
      let t = book_traced (bare s) B b in
      let m = added s b in
      let left : memory_left (trace_rays_of B m).outcome ≡ added s (memory_left t.outcome) = left_same (tracing B) ∙ ap (λ o. added s (memory_left o)) (book_granted_lem (bare s) B b) in
      traced_numbers (trace_rays_of B m)
      ∙ ap (λ c. traced_with c (trace_rays_of B m).report (memory_left (trace_rays_of B m).outcome)) (ap said_in (same (tracing B)))
      ∙ ap (λ r. traced_with (verdict t.outcome) r (memory_left (trace_rays_of B m).outcome)) (ap report_in (same (tracing B)))
      ∙ ap (λ m'. traced_with (verdict t.outcome) t.report m') left

  tracing_same : (ambient : Option OpticalMedium) (B : OpticalMedium → Batch)
      → (traced_in ambient (λ medium. trace_rays_of (B medium) (added s b)) (added s b)).answer ≡ book_tracing s ambient B b
  unfolding traced_in book_tracing
  tracing_same (Some medium) B = traced_same (B medium)
  tracing_same None B = traced_numbers (record { outcome = refused 17 0 (added s b); report = start_report_of 0 #0 })

  recording_same : (h : DetectorHit) → (recorded_from (record_hit_classified_of (added s b) h)).answer ≡ recorded_by s (book_granted (bare s) (wish_in (recording h)) b)
  unfolding answer_in book_answer outcome_in
  recording_same h =
      let o = record_hit_classified_of (added s b) h in
      recorded_numbers o
      ∙ ap (λ c. recorded_with c (memory_left o)) (ap said_in (same (recording h)))
      ∙ ap (λ m. recorded_with (verdict (book_granted (bare s) (wish_in (recording h)) b)) m) (left_same (recording h))

  refilter_same : (f : Option RayPathFilter) (d : ℕ) (work : List Float)
      → refilter_by f (added s b).detectors d (added s b).flux work (added s b).hit_values (added s b).hit_tags (added s b).used ≡ book_sifted s f (record { 0 = d }) work b
  unfolding refilter_by book_sifted answer_in book_answer
  refilter_same (Some f) d work = ap handed_in (same (refilter (record { 0 = d }) f work))
  refilter_same None d work = refl

  host_same : (c : HostCall) → host_answer_in c (added s b) ≡ host_book_answer s c b
  unfolding host_answer_in host_book_answer host_trace_rays_of host_refilter_of answer_in book_answer
  host_same (trace_rays g x k n v t r) = ap traced (tracing_same (ambient_in g) (batch_with g x k n v t r))
  host_same (trace_given_rays g x k n rs) = ap traced (tracing_same (ambient_in g) (batch_with g x k n (flat_values rs) (flat_tags rs) (length rs)))
  host_same (record_hit h) = ap recorded (recording_same h)
  host_same (refilter_map d f work) = ap (λ h. filtered (filtered_from h)) (refilter_same (numbered_filter_of f) d work)
  host_same (pixels_in d) = ap part (seen (λ ds. part_from (find_of ds (record { 0 = d }))) (bare_part (record { 0 = d })))
  host_same (irradiance_at d px py) = ap (λ c. reading (read_of c)) (ap read_in (same (irradiance (record { 0 = d }) px py)))
  host_same (put_answer buf r f) = ap written (texts buf r f)
  host_same check_detectors = ap (λ c. checked (checked_of c)) (seen check_detectors_of bare_checks)
  host_same (check_detector d) = refl
  host_same (intersect_ray d r) = refl
  host_same (pixel_area_m2 d) = refl

-- from the empty memory, after any list of calls
pub answers : (s : Memory) → length s.detectors.list ≡ 8 → Empty s → (cs : List HostCall) (c : HostCall) → host_answer_in c (host_memory_after cs s) ≡ host_book_answer s c (book_after (bare s) (calls_in cs) [])
answers s eight empty cs c =
    ap (host_answer_in c) (calls_left cs s ∙ after_calls s eight empty (calls_in cs))
    ∙ host_same s eight empty (book_after (bare s) (calls_in cs) []) (after_sane s eight empty (calls_in cs)) (written_same s eight empty (calls_in cs)) c
