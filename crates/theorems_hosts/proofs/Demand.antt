-- Demand 3 of the calls that hosts make: that the exported entries meet their contracts, and what follows for every list of them. Assumes nothing.
use Rattle.std.specs.Prelude.{Some}
use Prim.Native.Nat.{ℕ}
use mathlib.Core.Path.{◌≡◌}
use lib.Ieee.{Float}
use Rattle.error.specs.Refusals.{passed}
use Rattle.material.specs.declared.OpticalMedium.{OpticalMedium}
use Rattle.trace.specs.Trace.{check_batch}
use Rattle.host_tracing.specs.declared.answers.HostConfig.{HostConfig}
use Rattle.host_tracing.specs.Tracing.{host_trace_rays_of}
use Rattle.theorems_calls.specs.Parts.{Part, Splits}
use mathlib.Core.List.{List, []}
use lib.ListN.{length}
use Rattle.memory.specs.Memory.{Memory}
use Rattle.memory.specs.Plain.{Empty}
use Rattle.host_tracing.proofs.nonseq_trace_rays.Statement.{statement as trace-rays-meets}
use Rattle.host_tracing.proofs.nonseq_trace_rays.Met as trace_rays_lem
use Rattle.host_tracing.proofs.nonseq_trace_given_rays.Statement.{statement as trace-given-rays-meets}
use Rattle.host_tracing.proofs.nonseq_trace_given_rays.Met as trace_given_rays_lem
use Rattle.host_detectors.proofs.nonseq_record_hit_classified.Statement.{statement as record-hit-classified-meets}
use Rattle.host_detectors.proofs.nonseq_record_hit_classified.Met as record_hit_classified
use Rattle.host_detectors.proofs.nonseq_refilter.Statement.{statement as refilter-meets}
use Rattle.host_detectors.proofs.nonseq_refilter.Met as refilter
use Rattle.host_detectors.proofs.nonseq_pixels_of.Statement.{statement as pixels-of-meets}
use Rattle.host_detectors.proofs.nonseq_pixels_of.Met as pixels_of_lem
use Rattle.host_detectors.proofs.nonseq_irradiance_at.Statement.{statement as irradiance-at-meets}
use Rattle.host_detectors.proofs.nonseq_irradiance_at.Met as irradiance_at_lem
use Rattle.host_detectors.proofs.nonseq_check_detectors.Statement.{statement as check-detectors-meets}
use Rattle.host_detectors.proofs.nonseq_check_detectors.Met as check_detectors_lem
use Rattle.host_detectors.proofs.nonseq_check_detector.Statement.{statement as check-detector-meets}
use Rattle.host_detectors.proofs.nonseq_check_detector.Met as check_detector_lem
use Rattle.host_detectors.proofs.nonseq_intersect_ray.Statement.{statement as intersect-ray-meets}
use Rattle.host_detectors.proofs.nonseq_intersect_ray.Met as intersect_ray_lem
use Rattle.host_detectors.proofs.nonseq_pixel_area_m2.Statement.{statement as pixel-area-m2-meets}
use Rattle.host_detectors.proofs.nonseq_pixel_area_m2.Met as pixel_area_m2_lem
use Rattle.host_texts.proofs.nonseq_put_answer.Statement.{statement as put-answer-meets}
use Rattle.host_texts.proofs.nonseq_put_answer.Met as put_answer_lem
use Rattle.theorems_calls.specs.Book.{bare, book_after, Told}
use Rattle.theorems_hosts.specs.HostCalls.{HostCall, host_answer_in, host_memory_after}
use Rattle.theorems_hosts.specs.HostBook.{ambient_in, batch_with, calls_in, host_book_answer}
use Rattle.theorems_hosts.specs.HostParts.{outcome_from, host_trace_parts}
use Rattle.theorems_hosts.proofs.Parts as parts
use Rattle.theorems_hosts.proofs.Lists as lists
use Rattle.theorems_hosts.proofs.Answers as alike

pub record HostDemand3 (M : Type 1) : Type 2 where
  -- the entries of the list, as compiled
  pub trace_rays_lem : trace-rays-meets M
  pub trace_given_rays_lem : trace-given-rays-meets M
  pub record_hit_classified : record-hit-classified-meets M
  pub refilter : refilter-meets M
  pub pixels_of_lem : pixels-of-meets M
  pub irradiance_at_lem : irradiance-at-meets M
  pub put_answer_lem : put-answer-meets M
  pub check_detectors_lem : check-detectors-meets M
  pub check_detector_lem : check-detector-meets M
  pub intersect_ray_lem : intersect-ray-meets M
  pub pixel_area_m2_lem : pixel-area-m2-meets M
  -- a batch that passes the checks, traced in parts by an entry from any start
  pub split :
      (g : HostConfig) (x : List Float) (k : List ℕ) (n : ℕ) (medium : OpticalMedium) → ambient_in g ≡ Some medium → (v : List Float) (t : List ℕ) (r : ℕ) (ps : List Part) (s : Memory)
      → Splits (batch_with g x k n v t r medium) ps → check_batch (batch_with g x k n v t r medium) s ≡ passed tt → host_trace_parts g x k n ps s ≡ outcome_from (host_trace_rays_of g x k n v t r s)
  -- any list of calls from the empty memory; every list of detectors of the code has eight places
  pub calls : (s : Memory) → length s.detectors.list ≡ 8 → Empty s → (cs : List HostCall) → Told s (host_memory_after cs s) (book_after (bare s) (calls_in cs) [])
  -- and every call answers after them what it answers in the book, in numbers
  pub answers : (s : Memory) → length s.detectors.list ≡ 8 → Empty s → (cs : List HostCall) (c : HostCall) → host_answer_in c (host_memory_after cs s) ≡ host_book_answer s c (book_after (bare s) (calls_in cs) [])

pub host_demand_3 : {M : Type 1} → HostDemand3 M
host_demand_3 =
    record {
      trace_rays_lem = trace_rays_lem.met;
      trace_given_rays_lem = trace_given_rays_lem.met;
      record_hit_classified = record_hit_classified.met;
      refilter = refilter.met;
      pixels_of_lem = pixels_of_lem.met;
      irradiance_at_lem = irradiance_at_lem.met;
      put_answer_lem = put_answer_lem.met;
      check_detectors_lem = check_detectors_lem.met;
      check_detector_lem = check_detector_lem.met;
      intersect_ray_lem = intersect_ray_lem.met;
      pixel_area_m2_lem = pixel_area_m2_lem.met;
      split = parts.split;
      calls = lists.told;
      answers = alike.answers;
    }
