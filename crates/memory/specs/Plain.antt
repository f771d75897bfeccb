-- Document 01's plain book: one list of hits. Of the memory s that a list of calls starts from it uses the lengths and
-- the detectors without their totals and counts.
use Rattle.std.specs.Prelude.{ℕ, ◌+◌, ◌<◌, ◌≡◌, cond, ◌||◌, List, [], ◌∷◌, ◌++◌, leb, eqb, Float, length, get_or, set, take, drop}
use Rattle.std.specs.Float.{nan, binary64}
use Rattle.std.specs.Float.Ieee.{add}
use Rattle.detector.specs.declared.Detector2D.{Detector2D}
use Rattle.detector.specs.Pixels.{pixels_of, pixel_at_of, max_count}
use Rattle.detector.specs.declared.DetectorHit.{DetectorHit}
use Rattle.detectors.specs.Detectors.{detector_at, first_pixel_of, max_detectors}
use Rattle.memory.specs.Memory.{Memory, Outcome, refused, judged, cell_in, capacity, has_pixel, written_at}
use Rattle.doubles.specs.Doubles.{#0}

-- how many of the listed hits have the key x
unfoldable pub sharing : (DetectorHit → ℕ) → ℕ → List DetectorHit → ℕ
sharing key x [] = 0
sharing key x (h ∷ b) = cond (eqb (key h) x) 1 0 + sharing key x b

abbrev pub number_in : DetectorHit → ℕ
number_in h = h.detector.0

-- One hit into the book: 9 where the memory lacks its pixel, which document 01's book does not know and no call meets
-- after its checks; 12 if the lent slices hold no more, 13 if 2^32 - 1 listed hits share its pixel or detector, else
-- appended.
unfoldable pub book_hit : Memory → List DetectorHit → DetectorHit → Outcome (List DetectorHit)
book_hit s b h =
    let cell = cell_in s.detectors.list in
    cond (has_pixel s h)
    (judged (leb (capacity s) (length b))
    (eqb (sharing cell (cell h) b) max_count || eqb (sharing number_in h.detector.0 b) max_count) b (b ++ h ∷ []))
    (refused 9 0 b)

-- the memory with the listed hits added in list order
unfoldable pub added : Memory → List DetectorHit → Memory
added s [] = s
added s (h ∷ b) = added (written_at s (cell_in s.detectors.list h) h) b

-- the empty memory: zero bits, no hits used; array places beyond the detectors may hold anything
pub record Empty (s : Memory) : Type 0 where
  pub used : s.used ≡ 0
  pub flux : (p : ℕ) → p < length s.flux → get_or s.flux p nan ≡ #0
  pub hits : (p : ℕ) → p < length s.hits → get_or s.hits p 0 ≡ 0
  pub totals :
      (d : ℕ) → d < s.detectors.count → d < max_detectors
      → (detector_at s.detectors.list d).total_flux_watts ≡ #0
  pub counts :
      (d : ℕ) → d < s.detectors.count → d < max_detectors → (detector_at s.detectors.list d).total_rays_hit ≡ 0

-- ---- one detector's own maps, total and count

pub record View : Type 0 where
  pub total : Float
  pub count : ℕ
  pub flux : List Float
  pub hits : List ℕ

-- the part of a map that holds a detector's pixels
unfoldable pub part_in : (A : Type 0) → List Detector2D → ℕ → List A → List A
part_in A l d map = take (pixels_of (detector_at l d)) (drop (first_pixel_of l d) map)

unfoldable pub view_in : Memory → ℕ → View
view_in s d =
    let e = detector_at s.detectors.list d in
    record {
      total = e.total_flux_watts;
      count = e.total_rays_hit;
      flux = part_in Float s.detectors.list d s.flux;
      hits = part_in ℕ s.detectors.list d s.hits;
    }

-- adding a hit raises its pixel's flux and the total by its flux, and both counts by 1
unfoldable pub plus_hit : Detector2D → View → DetectorHit → View
plus_hit d v h =
    let p = pixel_at_of d h.local_x h.local_y in
    record {
      total = add binary64 v.total h.flux_watts;
      count = v.count + 1;
      flux = set v.flux p (add binary64 (get_or v.flux p nan) h.flux_watts);
      hits = set v.hits p (get_or v.hits p 0 + 1);
    }

-- the listed hits of detector d, whose record is e, added in list order
unfoldable pub plus_all : ℕ → Detector2D → View → List DetectorHit → View
plus_all d e v [] = v
plus_all d e v (h ∷ b) = plus_all d e (cond (eqb h.detector.0 d) (plus_hit e v h) v) b
