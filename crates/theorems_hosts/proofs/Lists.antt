-- A list of hosts' calls leaves what the library's calls leave that they make. Assumes nothing.
use Rattle.std.specs.Prelude.{Option, None, Some}
use Prim.Native.Nat.{ℕ}
use mathlib.Core.Path.{◌≡◌, refl, ap, sym, subst, ◌∙◌}
use mathlib.Core.List.{List, [], ◌∷◌, ◌++◌}
use lib.Ieee.{Float}
use lib.ListN.{length}
use Rattle.material.specs.declared.OpticalMedium.{OpticalMedium}
use Rattle.memory.specs.Memory.{Memory, Outcome, done, refused, memory_left, record_hit_classified_of}
use Rattle.memory.specs.Plain.{Empty}
use Rattle.filter.specs.declared.RayPathFilter.{RayPathFilter}
use Rattle.filter.specs.Filters.{numbered_filter_of}
use Rattle.report.specs.Report.{start_report_of}
use Rattle.trace.specs.Trace.{Batch, Trace, trace_rays_of}
use Rattle.host_detectors.specs.Maps.{recorded_from}
use Rattle.host_tracing.specs.Flat.{flat_values, flat_tags}
use Rattle.host_tracing.specs.Tracing.{left_by, traced_in, host_trace_rays_of}
use Rattle.theorems_calls.specs.Calls.{Call, outcome_in, memory_after}
use Rattle.theorems_calls.specs.Book.{bare, book_after, Told}
use Rattle.theorems_calls.proofs.Lists as lists
use Rattle.theorems_hosts.specs.HostCalls.{HostCall, trace_rays, trace_given_rays, record_hit, refilter_map, pixels_in, irradiance_at, put_answer, check_detectors, check_detector, intersect_ray, pixel_area_m2}
use Rattle.theorems_hosts.specs.HostCalls.{tracing_left, recording_left, host_left, host_memory_after}
use Rattle.theorems_hosts.specs.HostBook.{ambient_in, batch_with, tracing_in, refilter_in, call_in, calls_in}
use Rattle.doubles.specs.Doubles.{#0}

-- ---- one call

left_whole : (t : Trace Memory) → tracing_left (left_by t) ≡ memory_left t.outcome
unfolding left_by
left_whole t = refl

recorded_whole : (o : Outcome Memory) → recording_left (recorded_from o) ≡ memory_left o
recorded_whole (done m) = refl
recorded_whole (refused n place m) = refl

tracing_left_lem : (ambient : Option OpticalMedium) (B : OpticalMedium → Batch) (m : Memory) → tracing_left (traced_in ambient (λ medium. trace_rays_of (B medium) m) m) ≡ memory_after (tracing_in ambient B) m
unfolding traced_in tracing_in memory_after outcome_in
tracing_left_lem (Some medium) B m = left_whole (trace_rays_of (B medium) m)
tracing_left_lem None B m = left_whole (record { outcome = refused 17 0 m; report = start_report_of 0 #0 })

refilter_left : (f : Option RayPathFilter) (d : ℕ) (work : List Float) (m : Memory) → m ≡ memory_after (refilter_in f d work) m
unfolding refilter_in memory_after outcome_in
refilter_left (Some f) d work m = refl
refilter_left None d work m = refl

call_left : (c : HostCall) (m : Memory) → host_left c m ≡ memory_after (call_in c) m
unfolding host_left call_in memory_after outcome_in host_trace_rays_of
call_left (trace_rays g x k n v t r) m = tracing_left_lem (ambient_in g) (batch_with g x k n v t r) m
call_left (trace_given_rays g x k n rs) m = tracing_left_lem (ambient_in g) (batch_with g x k n (flat_values rs) (flat_tags rs) (length rs)) m
call_left (record_hit h) m = recorded_whole (record_hit_classified_of m h)
call_left (refilter_map d f work) m = refilter_left (numbered_filter_of f) d work m
call_left (pixels_in d) m = refl
call_left (irradiance_at d px py) m = refl
call_left (put_answer buf r f) m = refl
call_left check_detectors m = refl
call_left (check_detector d) m = refl
call_left (intersect_ray d r) m = refl
call_left (pixel_area_m2 d) m = refl

-- ---- any list

after_both : (ps qs : List Call) (m : Memory) → memory_after (ps ++ qs) m ≡ memory_after qs (memory_after ps m)
unfolding memory_after
after_both [] qs m = refl
after_both (p ∷ ps) qs m = after_both ps qs (memory_left (outcome_in p m))

pub calls_left : (cs : List HostCall) (m : Memory) → host_memory_after cs m ≡ memory_after (calls_in cs) m
unfolding host_memory_after calls_in memory_after
calls_left [] m = refl
calls_left (c ∷ cs) m = ap (host_memory_after cs) (call_left c m) ∙ calls_left cs (memory_after (call_in c) m) ∙ sym (after_both (call_in c) (calls_in cs) m)

module _ (s : Memory) (eight : length s.detectors.list ≡ 8) (empty : Empty s) where
  pub told : (cs : List HostCall) → Told s (host_memory_after cs s) (book_after (bare s) (calls_in cs) [])
  told cs = subst (λ m. Told s m (book_after (bare s) (calls_in cs) [])) (sym (calls_left cs s)) (lists.told s eight empty (calls_in cs))
