-- No text has an answer longer than the buffer of `straymap`, so that nothing of it is dropped. Assumes nothing.
use Prim.Native.Nat.{ℕ, ◌≤◌}
use mathlib.Core.Path.{◌≡◌, refl, ap, ◌∙◌}
use mathlib.Core.List.{List}
use native.Mathlib.Omega.{arith}
use lib.ListN.{length, take}
use Rattle.error.specs.Refusals.{Checked, passed, refused_at}
use Rattle.memory.specs.Memory.{Memory, memory_left}
use Rattle.trace.specs.Trace.{Batch, check_batch, trace_rays_of}
use Rattle.theorems_calls.proofs.Reached.{added_flux}
use Rattle.theorems_calls.proofs.Checks.{passes}
use Rattle.theorems_calls.proofs.Split.{trace_reaches}
use Rattle.printing.specs.Printing.{out, put_all}
use Rattle.printing.proofs.Writing.{written}
use Rattle.answer_text.proofs.Lengths.{refusal_short}
use Rattle.map_text.specs.Tables.{Tables, tables, detectors_of, batch_in, memory_in, meant_of, whole_of, map_text}
use Rattle.map_text.proofs.Lengths.{trace_short, memory_short}
use Rattle.scene_text.specs.Scene.{Answer, read_scene_of}
use Rattle.map_text.specs.StrayMap.{room, read_text, answer_to, stray_map_text}

-- ---- a tracing leaves the map as long as it was

module _ (B : Batch) (s : Memory) where
  passed_flux : check_batch B s ≡ passed tt → length (memory_left (trace_rays_of B s).outcome).flux ≡ length s.flux
  passed_flux e =
      let r = trace_reaches B s (passes B s e) in
      ap (λ (m : Memory). length m.flux) r.sum ∙ added_flux r.hits s

  refused_flux : (n place : ℕ) → check_batch B s ≡ refused_at n place → length (memory_left (trace_rays_of B s).outcome).flux ≡ length s.flux
  unfolding trace_rays_of
  refused_flux n place e = rw e

  pub left_flux : length (memory_left (trace_rays_of B s).outcome).flux ≡ length s.flux
  left_flux = go (check_batch B s) refl
    where
      go : (c : Checked Unit) → check_batch B s ≡ c → length (memory_left (trace_rays_of B s).outcome).flux ≡ length s.flux
      go (passed tt) e = passed_flux e
      go (refused_at n place) e = refused_flux n place e

-- ---- the answer

map_short : (t : Tables) → length (map_text t) ≤ 120016
unfolding map_text
map_short t =
    let m = memory_in (detectors_of t.detector_values t.detector_tags t.detectors) in
    trace_short (meant_of (whole_of t.run_tags 1)) (trace_rays_of (batch_in t) m) (rw (left_flux (batch_in t) m) (memory_short (detectors_of t.detector_values t.detector_tags t.detectors)))

read_short : (c : Checked Unit) (a : Answer) → length (read_text c a) ≤ 120016
read_short (passed u) a =
    let m = a.left in
    map_short (tables m.run_values m.run_tags m.solid_values m.solid_tags a.solids m.detector_values m.detector_tags a.detectors m.ray_values m.ray_tags a.rays)
read_short (refused_at n place) a = omega (arith, refusal_short n place)

pub answer_most : (s : List ℕ) → length (stray_map_text s) ≤ 120016
unfolding stray_map_text answer_to
answer_most s = read_short (read_scene_of s room).check (read_scene_of s room)

pub answer_fits : (s : List ℕ) → length (stray_map_text s) ≤ 131072
answer_fits s = omega (arith, answer_most s)

-- What `put_stray_map` leaves, by its contract, in a buffer of at least 131,072 bytes that it writes from place 0 on; n is the place that it gives back, and no larger than the program lets it be.
pub answer_whole : (buf left s : List ℕ) (n : ℕ) → 131072 ≤ length buf → out left n ≡ put_all buf 0 (stray_map_text s) → (n ≡ length (stray_map_text s)) × (take n left ≡ stray_map_text s) × (n ≤ 131072)
answer_whole buf left s n h e =
    let w = written buf left (stray_map_text s) n (omega (arith, answer_fits s)) e in
    (w.0, w.1, omega (arith, answer_fits s))
