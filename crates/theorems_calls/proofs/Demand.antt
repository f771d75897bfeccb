-- Demand 3 in one place: that the compiled calls meet their contracts, and what follows of the definitions that these contracts name. Assumes nothing.
use Prim.Native.Nat.{ℕ}
use mathlib.Core.Path.{◌≡◌}
use mathlib.Core.List.{List, []}
use lib.ListN.{length}
use Rattle.error.specs.Refusals.{passed, refused_at}
use Rattle.memory.specs.Memory.{Memory, refused}
use Rattle.memory.specs.Plain.{Empty}
use Rattle.trace.specs.Trace.{Batch, check_batch, trace_rays_of}
use Rattle.detector.proofs.Detector2D.intersect_ray.Statement.{statement as intersect-ray-meets}
use Rattle.detector.proofs.Detector2D.intersect_ray.Met as intersect_ray_lem
use Rattle.detector.proofs.Detector2D.pixel_area_m2.Statement.{statement as pixel-area-m2-meets}
use Rattle.detector.proofs.Detector2D.pixel_area_m2.Met as pixel_area_m2_lem
use Rattle.detectors.proofs.irradiance_at.Statement.{statement as irradiance-at-meets}
use Rattle.detectors.proofs.irradiance_at.Met as irradiance_at_lem
use Rattle.memory.proofs.Memory.record_hit_classified.Statement.{statement as record-hit-classified-meets}
use Rattle.memory.proofs.Memory.record_hit_classified.Met as record_hit_classified
use Rattle.filter.proofs.Held.refilter.Statement.{statement as refilter-meets}
use Rattle.filter.proofs.Held.refilter.Met as refilter
use Rattle.filter.proofs.Held.filtered_pixel_flux.Statement.{statement as filtered-pixel-flux-meets}
use Rattle.filter.proofs.Held.filtered_pixel_flux.Met as filtered_pixel_flux
use Rattle.trace.proofs.trace_rays.Statement.{statement as trace-rays-meets}
use Rattle.trace.proofs.trace_rays.Met as trace_rays_lem
use Rattle.theorems_calls.specs.Parts.{Part, Splits, trace_parts}
use Rattle.theorems_calls.specs.Calls.{Call, answer_in, memory_after}
use Rattle.theorems_calls.specs.Book.{bare, book_after, book_answer, Told}
use Rattle.theorems_calls.proofs.Split as splitting
use Rattle.theorems_calls.proofs.Lists as lists
use Rattle.theorems_calls.proofs.Answers.{answers as answers-alike}
use Rattle.theorems_calls.proofs.Nine.{nine_before}

pub record Demand3 (M : Type 1) : Type 2 where
  -- the calls of the list, as compiled
  pub trace_rays_lem : trace-rays-meets M
  pub record_hit_classified : record-hit-classified-meets M
  pub refilter : refilter-meets M
  pub filtered_pixel_flux : filtered-pixel-flux-meets M
  pub irradiance_at_lem : irradiance-at-meets M
  pub intersect_ray_lem : intersect-ray-meets M
  pub pixel_area_m2_lem : pixel-area-m2-meets M
  -- a batch that passes the checks, traced in parts from any start
  pub split : (B : Batch) (ps : List Part) (s : Memory) → Splits B ps → check_batch B s ≡ passed tt → trace_parts B ps s ≡ (trace_rays_of B s).outcome
  -- any list of calls from the empty memory; every list of detectors of the code has eight places
  pub calls : (s : Memory) → length s.detectors.list ≡ 8 → Empty s → (cs : List Call) → Told s (memory_after cs s) (book_after (bare s) cs [])
  -- and every call answers after them what it answers in the book
  pub answers : (s : Memory) → length s.detectors.list ≡ 8 → Empty s → (cs : List Call) (c : Call) → answer_in c (memory_after cs s) ≡ book_answer (bare s) c (book_after (bare s) cs [])
  -- what the book is fed of the memory does not change with them
  pub fed : (s : Memory) → length s.detectors.list ≡ 8 → Empty s → (cs : List Call) → bare (memory_after cs s) ≡ bare s
  -- where a detector wins, only 12 and 13 end the run
  pub nine : (B : Batch) (s : Memory) (place : ℕ) (t : Memory) → (trace_rays_of B s).outcome ≡ refused 9 place t → check_batch B s ≡ refused_at 9 place

pub demand_3 : {M : Type 1} → Demand3 M
demand_3 =
    record {
      trace_rays_lem = trace_rays_lem.met;
      record_hit_classified = record_hit_classified.met;
      refilter = refilter.met;
      filtered_pixel_flux = filtered_pixel_flux.met;
      irradiance_at_lem = irradiance_at_lem.met;
      intersect_ray_lem = intersect_ray_lem.met;
      pixel_area_m2_lem = pixel_area_m2_lem.met;
      split = splitting.split;
      calls = lists.told;
      answers = answers-alike;
      fed = lists.fed;
      nine = nine_before;
    }
