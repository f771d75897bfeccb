-- Up to 8 detectors: which of them, where its pixels start, and the refusals 3, 5 to 8 and 18 of the list and 4 of an
-- asked one.
use Rattle.std.specs.Prelude.{ℕ, zero, suc, ◌+◌, cond, List, leb, ltb, get_or, Option, None, Some}
use Rattle.std.specs.Float.{nan}
use Rattle.error.specs.Refusals.{Checked, passed, refused_at, after}
use Rattle.rays.specs.Vectors.{vec3}
use Rattle.detector.specs.declared.DetectorNo.{DetectorNo}
use Rattle.detector.specs.declared.Detector2D.{Detector2D}
use Rattle.detector.specs.Checks.{check_detector_of}
use Rattle.detector.specs.Pixels.{pixels_of}
use Rattle.detectors.specs.declared.Detectors.{Detectors}
use Rattle.detectors.specs.declared.Placed.{Placed}

abbrev pub max_detectors : ℕ
max_detectors = 8

-- what stands for a detector that is not there
abbrev pub no_detector : Detector2D
no_detector =
    record {
      center = vec3 nan nan nan;
      normal = vec3 nan nan nan;
      up = vec3 nan nan nan;
      width_mm = nan;
      height_mm = nan;
      res_x = 0;
      res_y = 0;
      total_flux_watts = nan;
      total_rays_hit = 0;
    }

abbrev pub detector_at : List Detector2D → ℕ → Detector2D
detector_at l i = get_or l i no_detector

-- a detector's first pixel: the pixels of those before it
unfoldable pub first_pixel_of : List Detector2D → ℕ → ℕ
first_pixel_of l zero = 0
first_pixel_of l (suc i) = first_pixel_of l i + pixels_of (detector_at l i)

-- the pixels of all; a list that 3 refuses has none
unfoldable pub all_pixels_of : Detectors → ℕ
all_pixels_of ds = cond (leb ds.count max_detectors) (first_pixel_of ds.list ds.count) 0

-- 3 for more than 8
unfoldable pub check_count_of : ℕ → Checked Unit
check_count_of n = cond (leb n max_detectors) (passed tt) (refused_at 3 0)

-- the n detectors from place i on, in list order
unfoldable pub check_list_of : List Detector2D → ℕ → ℕ → Checked Unit
check_list_of l zero i = passed tt
check_list_of l (suc n) i = after (check_detector_of (detector_at l i) i) (check_list_of l n (i + 1))

-- 5 to 8 and 18 of each; a list that 3 refuses has none
unfoldable pub check_each_of : Detectors → Checked Unit
check_each_of ds = cond (leb ds.count max_detectors) (check_list_of ds.list ds.count 0) (passed tt)

-- 3, then 5 to 8 and 18 of each
unfoldable pub check_detectors_of : Detectors → Checked Unit
check_detectors_of ds = after (check_count_of ds.count) (check_each_of ds)

-- these, then 4
unfoldable pub check_asked : Detectors → DetectorNo → Checked Unit
check_asked ds d = after (check_detectors_of ds) (cond (ltb d.0 ds.count) (passed tt) (refused_at 4 0))

-- a detector and its first pixel
unfoldable pub placed_of : List Detector2D → ℕ → Placed
placed_of l d = record { detector = detector_at l d; first = first_pixel_of l d }

-- detector d, whatever the count
unfoldable pub at_of : Detectors → DetectorNo → Option Placed
at_of ds d = cond (ltb d.0 max_detectors) (Some (placed_of ds.list d.0)) None

-- the asked one
unfoldable pub find_of : Detectors → DetectorNo → Checked Placed
find_of ds d = after (check_asked ds d) (passed (placed_of ds.list d.0))
