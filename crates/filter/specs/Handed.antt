-- What a filter hands back: document 01, "Maps and lists".
use Rattle.std.specs.Prelude.{ℕ, ◌+◌, ◌*◌, cond, ◌&&◌, List, [], eqb, Float, length, take, drop, Result, Ok, Err}
use Rattle.error.specs.declared.Refusal.{Refusal}
use Rattle.error.specs.Refusals.{number_of, Checked, passed, refused_at}
use Rattle.detector.specs.declared.DetectorNo.{DetectorNo}
use Rattle.detector.specs.Pixels.{pixels_of}
use Rattle.detectors.specs.declared.Detectors.{Detectors}
use Rattle.detectors.specs.declared.Placed.{Placed}
use Rattle.detector.specs.declared.DetectorHit.{DetectorHit}
use Rattle.detectors.specs.Detectors.{all_pixels_of, find_of}
use Rattle.memory.specs.Memory.{hits_from, is_hit_list_of}
use Rattle.filter.specs.declared.RayPathFilter.{RayPathFilter}
use Rattle.filter.specs.declared.sifting.Tally.{Tally}
use Rattle.filter.specs.Filters.{Map, is_all_of, passes_of, refill_of}
use Rattle.doubles.specs.Doubles.{#0}

-- ---- the checks: 3, 5 to 8 and 18, 4, then 9, also for All

unfoldable pub check_placed : Detectors → ℕ → ℕ → ℕ → ℕ → ℕ → Checked Placed → Checked Placed
check_placed ds stored work hit_values hit_tags used (passed p) =
    cond (eqb stored (all_pixels_of ds) && (eqb work (pixels_of p.detector) && is_hit_list_of hit_values hit_tags used))
    (passed p) (refused_at 9 0)
check_placed ds stored work hit_values hit_tags used (refused_at n place) = refused_at n place

-- the asked detector, if slices of these lengths are its stored map, work map and hit list
unfoldable pub check_filter_of : Detectors → DetectorNo → ℕ → ℕ → ℕ → ℕ → ℕ → Checked Placed
check_filter_of ds asked stored work hit_values hit_tags used =
    check_placed ds stored work hit_values hit_tags used (find_of ds asked)

-- ---- what is handed back: the check's word, the work map, a total and a count

pub record Handed : Type 0 where
  pub check : Checked Unit
  pub map : List Float
  pub total : Float
  pub count : ℕ

abbrev pub handed : Checked Unit → List Float → Float → ℕ → Handed
handed c m t n = record { check = c; map = m; total = t; count = n }

abbrev pub from_map : Map → Handed
from_map m = handed (passed tt) m.flux m.total m.count

-- ---- the work map afterwards: All and a refusal leave it

unfoldable pub refilter_placed : RayPathFilter → DetectorNo → List Float → List DetectorHit → Checked Placed → Handed
refilter_placed f asked work hits (passed p) =
    cond (is_all_of f) (handed (passed tt) work p.detector.total_flux_watts p.detector.total_rays_hit)
    (from_map (refill_of (passes_of f asked) p.detector (length work) hits))
refilter_placed f asked work hits (refused_at n place) = handed (refused_at n place) work #0 0

unfoldable pub refilter_of :
    Detectors → DetectorNo → RayPathFilter → List Float → List Float → List Float → List ℕ → ℕ → Handed
refilter_of ds asked f stored work hit_values hit_tags used =
    refilter_placed f asked work (hits_from hit_values hit_tags used 0)
    (check_filter_of ds asked (length stored) (length work) (length hit_values) (length hit_tags) used)

-- ---- the part that is handed back: of the stored map for All, else the work map; an empty one where the call is
-- refused

unfoldable pub stored_part_of : Placed → List Float → List Float
stored_part_of p stored = take (pixels_of p.detector) (drop p.first stored)

unfoldable pub part_placed : RayPathFilter → List Float → List Float → Checked Placed → List Float
part_placed f stored work (passed p) = cond (is_all_of f) (stored_part_of p stored) work
part_placed f stored work (refused_at n place) = []

unfoldable pub filtered_pixel_flux_of :
    Detectors → DetectorNo → RayPathFilter → List Float → List Float → List Float → List ℕ → ℕ → List Float
filtered_pixel_flux_of ds asked f stored work hit_values hit_tags used =
    part_placed f stored work
    (check_filter_of ds asked (length stored) (length work) (length hit_values) (length hit_tags) used)

-- ---- after both calls, `refilter` first (the theorem `both_calls`): the stored map's part for All, else what the hits
-- that pass make of zeros

unfoldable pub map_placed :
    RayPathFilter → DetectorNo → List Float → ℕ → List DetectorHit → Checked Placed → List Float
map_placed f asked stored n hits (passed p) =
    cond (is_all_of f) (stored_part_of p stored) (refill_of (passes_of f asked) p.detector n hits).flux
map_placed f asked stored n hits (refused_at k place) = []

-- ---- where it lies, by the places in memory where the two maps begin: a block, and how many bytes into it

-- n doubles further on
abbrev pub doubles_on : ℕ → ℕ × ℕ → ℕ × ℕ
doubles_on n at = (at.0, n * 8 + at.1)

-- for All from the detector's first pixel on; the empty part lies at the stored map's start
unfoldable pub lies_placed : RayPathFilter → ℕ × ℕ → ℕ × ℕ → Checked Placed → ℕ × ℕ
lies_placed f stored work (passed p) = cond (is_all_of f) (doubles_on p.first stored) work
lies_placed f stored work (refused_at n place) = stored

-- what the code's answer says, with the work map that it leaves
abbrev pub as_handed : Result Tally Refusal → List Float → Handed
as_handed (Ok t) m = handed (passed tt) m t.total t.count
as_handed (Err r) m = handed (refused_at (number_of r.error) r.place) m #0 0
