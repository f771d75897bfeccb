-- Document 01's plain book of a list of calls: one list of hits.
use Rattle.std.specs.Prelude.{ℕ, ◌<◌, ◌≡◌, cond, ◌||◌, List, [], ◌∷◌, ◌++◌, map, leb, eqb, Float, length, replicate}
use Rattle.error.specs.Refusals.{Checked, passed, refused_at, after}
use Rattle.detector.specs.declared.Detector2D.{Detector2D}
use Rattle.detector.specs.declared.DetectorNo.{DetectorNo}
use Rattle.detector.specs.declared.DetectorHit.{DetectorHit}
use Rattle.detector.specs.Faces.{intersect_ray_of}
use Rattle.detector.specs.Pixels.{max_count, pixel_area_m2_of}
use Rattle.detectors.specs.declared.Detectors.{Detectors}
use Rattle.detectors.specs.declared.Placed.{Placed}
use Rattle.detectors.specs.Detectors.{max_detectors, detector_at, all_pixels_of, check_asked, find_of}
use Rattle.detectors.specs.Readings.{irradiance_in_of}
use Rattle.memory.specs.Memory.{Memory, Outcome, done, memory_left, unless, judged, listed, cell_in, capacity, is_memory}
use Rattle.memory.specs.Plain.{View, sharing, number_in, added, view_in, plus_all}
use Rattle.filter.specs.declared.RayPathFilter.{RayPathFilter}
use Rattle.filter.specs.Filters.{is_all_of, passes_of, refill_of}
use Rattle.filter.specs.Handed.{Handed, handed, from_map, check_filter_of}
use Rattle.trace.specs.Trace.{Batch, Trace, check_batch, run_on, trace_after}
use Rattle.theorems_calls.specs.Calls.{Call, tracing, recording, refilter, part, irradiance, crossing, area}
use Rattle.theorems_calls.specs.Calls.{Answer, record_said, filter_said, part_said, reading_said, crossing_said}
use Rattle.theorems_calls.specs.Calls.{verdict, traced_answer}
use Rattle.doubles.specs.Doubles.{#0}

-- ---- what the book is fed of the memory: detectors without totals and counts, and lengths

abbrev pub bare_detector : Detector2D → Detector2D
bare_detector d =
    record {
      center = d.center;
      normal = d.normal;
      up = d.up;
      width_mm = d.width_mm;
      height_mm = d.height_mm;
      res_x = d.res_x;
      res_y = d.res_y;
      total_flux_watts = #0;
      total_rays_hit = 0;
    }

abbrev pub bare_detectors : Detectors → Detectors
bare_detectors ds = record { list = map bare_detector ds.list; count = ds.count }

unfoldable pub bare : Memory → Memory
bare s =
    record {
      detectors = bare_detectors s.detectors;
      flux = replicate (length s.flux) #0;
      hits = replicate (length s.hits) 0;
      hit_values = replicate (length s.hit_values) #0;
      hit_tags = replicate (length s.hit_tags) 0;
      used = 0;
    }

abbrev pub with_used : Memory → ℕ → Memory
with_used s n =
    record {
      detectors = s.detectors;
      flux = s.flux;
      hits = s.hits;
      hit_values = s.hit_values;
      hit_tags = s.hit_tags;
      used = n;
    }

-- ---- what a call asks of a memory: a check of the memory without contents, then a writer that puts hits one by one
-- into any memory

pub record Wish : Type 1 where
  pub check : Memory → Checked Unit
  pub write : (M : Type 0) → (M → DetectorHit → Outcome M) → Detectors → M → Outcome M

-- refused by its check it changes nothing; s is the memory without contents, m what is written
unfoldable pub granted : {M : Type 0} → Wish → Memory → (M → DetectorHit → Outcome M) → M → Outcome M
granted w s put m = unless (w.check s) m (w.write _ put s.detectors m)

-- a recording's: 3, 5 to 8 and 18, 4, then 9
unfoldable pub check_hit : DetectorHit → Memory → Checked Unit
check_hit h s =
    after (check_asked s.detectors h.detector) (cond (is_memory s) (passed tt) (refused_at 9 0))

abbrev pub no_wish : Wish
no_wish = record { check = λ s. passed tt; write = λ M put ds m. done m }

unfoldable pub wish_in : Call → Wish
wish_in (tracing B) = record { check = check_batch B; write = λ M put ds m. (run_on put ds B m).outcome }
wish_in (recording h) = record { check = check_hit h; write = λ M put ds m. put m h }
wish_in (refilter d f work) = no_wish
wish_in (part d f work) = no_wish
wish_in (irradiance d px py) = no_wish
wish_in (crossing d r) = no_wish
wish_in (area d) = no_wish

-- ---- the book b; s is the memory without contents

-- 12 if the lent slices hold no more, 13 if 2^32 - 1 listed hits share that pixel or detector; else the hit is appended
unfoldable pub plain_hit : Memory → List DetectorHit → DetectorHit → Outcome (List DetectorHit)
plain_hit s b h =
    let cell = cell_in s.detectors.list in
    judged (leb (capacity s) (length b))
    (eqb (sharing cell (cell h) b) max_count || eqb (sharing number_in h.detector.0 b) max_count) b (b ++ h ∷ [])

-- its number used is its length
abbrev pub book_granted : Memory → Wish → List DetectorHit → Outcome (List DetectorHit)
book_granted s w b = granted w (with_used s (length b)) (plain_hit s) b

unfoldable pub book_after : Memory → List Call → List DetectorHit → List DetectorHit
book_after s [] b = b
book_after s (c ∷ cs) b = book_after s cs (memory_left (book_granted s (wish_in c) b))

-- ---- a detector's maps, total and count are what zeros become when its listed hits are added in list order

-- nf and nh are how many places of the two maps are its own
abbrev pub zero_view : ℕ → ℕ → View
zero_view nf nh = record { total = #0; count = 0; flux = replicate nf #0; hits = replicate nh 0 }

unfoldable pub book_view : Memory → ℕ → List DetectorHit → View
book_view s d b =
    plus_all d (detector_at s.detectors.list d)
    (zero_view (length (view_in s d).flux) (length (view_in s d).hits)) b

-- ---- what a call answers in the book

-- a tracing's rays go by the same steps, each hit into the book
unfoldable pub book_traced : Memory → Batch → List DetectorHit → Trace (List DetectorHit)
book_traced s B b = trace_after (check_batch B (with_used s (length b))) b (run_on (plain_hit s) s.detectors B b)

-- the detector that a filter is asked for, or its refusal, by lengths
unfoldable pub book_asked : Memory → DetectorNo → List Float → List DetectorHit → Checked Placed
book_asked s d work b =
    check_filter_of s.detectors d (length s.flux) (length work) (length s.hit_values) (length s.hit_tags)
    (length b)

-- All answers the detector's total and count, the others what they make of the book
unfoldable pub book_filtered :
    Memory → DetectorNo → RayPathFilter → List Float → List DetectorHit → Checked Placed → Handed
book_filtered s d f work b (passed p) =
    let v = book_view s d.0 b in
    cond (is_all_of f) (handed (passed tt) work v.total v.count)
    (from_map (refill_of (passes_of f d) p.detector (length work) b))
book_filtered s d f work b (refused_at n place) = handed (refused_at n place) work #0 0

unfoldable pub book_part :
    Memory → DetectorNo → RayPathFilter → List Float → List DetectorHit → Checked Placed → List Float
book_part s d f work b (passed p) = cond (is_all_of f) (book_view s d.0 b).flux work
book_part s d f work b (refused_at n place) = []

-- a reading of the detector's own map
unfoldable pub book_reading : Memory → DetectorNo → ℕ → ℕ → List DetectorHit → Checked Placed → Checked Float
book_reading s d px py b (passed p) =
    cond (eqb (length s.flux) (all_pixels_of s.detectors))
    (passed (irradiance_in_of (record { detector = p.detector; first = 0 }) (book_view s d.0 b).flux px py))
    (refused_at 9 0)
book_reading s d px py b (refused_at n place) = refused_at n place

unfoldable pub book_answer : Memory → Call → List DetectorHit → Answer
book_answer s (tracing B) b = traced_answer (book_traced s B b)
book_answer s (recording h) b = record_said (verdict (book_granted s (wish_in (recording h)) b))
book_answer s (refilter d f work) b = filter_said (book_filtered s d f work b (book_asked s d work b))
book_answer s (part d f work) b = part_said (book_part s d f work b (book_asked s d work b))
book_answer s (irradiance d px py) b = reading_said (book_reading s d px py b (find_of s.detectors d))
book_answer s (crossing d r) b = crossing_said (intersect_ray_of d r)
book_answer s (area d) b = reading_said (pixel_area_m2_of d)

-- ---- what is claimed of the memory m after a list of calls: s is the memory before it, b the book

pub record Told (s m : Memory) (b : List DetectorHit) : Type 0 where
  -- the number used and the hit list are the book's
  pub used : m.used ≡ length b
  pub list : listed m ≡ b
  -- each detector's maps, total and count are what the listed hits make of zeros
  pub views : (d : ℕ) → d < s.detectors.count → d < max_detectors → view_in m d ≡ book_view (bare s) d b
  -- and nothing else has changed
  pub memory : m ≡ added s b
