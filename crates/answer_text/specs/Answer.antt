-- The answer of a tracing as text: ledger, tallies, detectors, pixels.
use Rattle.std.specs.Prelude.{ℕ, zero, suc, ◌+◌, ◌/◌, ◌%◌, List, [], ◌∷◌, ◌++◌, cond, leb, eqb, Float, take, replicate, Option, Some, None}
use Prim.Native.String.{String}
use Rattle.std.specs.Float.Ieee.{ne}
use Rattle.detector.specs.Pixels.{pixels_of}
use Rattle.detectors.specs.declared.Detectors.{Detectors}
use Rattle.detectors.specs.declared.Placed.{Placed}
use Rattle.detectors.specs.Detectors.{max_detectors, at_of}
use Rattle.filter.specs.declared.calls.Held as code
use Rattle.filter.specs.declared.RayPathFilter.{RayPathFilter}
use Rattle.filter.specs.declared.RayPathFilter.TheVariants.{SignalOnly, StrayLight}
use Rattle.filter.specs.Handed.{Handed, refilter_of, filtered_pixel_flux_of}
use Rattle.report.specs.declared.NonSeqTraceReport.{NonSeqTraceReport}
use Rattle.report.specs.declared.tallies.Tallies.{Tallies}
use Rattle.printing.specs.Rows.{row_text}
use Rattle.answer_text.specs.declared.maps.Grid.{Grid}
use Rattle.memory.specs.Memory.{text_pixels}
use Rattle.doubles.specs.Doubles.{#0}
use Rattle.fields.specs.Split.{bytes}

-- a line of names
abbrev named : String → List ℕ
named s = bytes s ++ 10 ∷ []

-- ---- ledger and tallies

unfoldable pub ledger_text : NonSeqTraceReport → List ℕ
ledger_text r =
    let l = r.ledger in
    named "rays interactions launched detected absorbed escaped lost"
    ++ row_text (r.total_rays_traced ∷ r.total_interactions ∷ [])
    (l.launched_flux_watts ∷ l.detected_flux_watts ∷ l.absorbed_flux_watts ∷ l.escaped_flux_watts
    ∷ l.lost_flux_watts ∷ [])

unfoldable pub tallies_text : Tallies → List ℕ
tallies_text t =
    named "made dim spent caught gone surface weak" ++ row_text
    (t.made ∷ t.dim ∷ t.spent ∷ t.caught ∷ t.gone ∷ t.surface ∷ t.weak ∷ []) []

-- ---- detectors: what the memory holds of them

pub record Held : Type 0 where
  pub detectors : Detectors
  pub flux : List Float
  pub hit_values : List Float
  pub hit_tags : List ℕ
  pub used : ℕ

abbrev pub held : Detectors → List Float → List Float → List ℕ → ℕ → Held
held ds f v t n = record { detectors = ds; flux = f; hit_values = v; hit_tags = t; used = n }

-- as the code has it
abbrev pub as_held : code.Held → Held
as_held h = held h.detectors h.flux.now h.hit_values.now h.hit_tags.now h.used

-- as many pixels as there is room for
unfoldable pub few_of : ℕ → ℕ
few_of n = cond (leb n text_pixels) n text_pixels

-- how many pixels a detector has, and how many columns; none if it is not there
unfoldable pub grid_from : Option Placed → Grid
grid_from (Some p) = record { pixels = few_of (pixels_of p.detector); columns = p.detector.res_x }
grid_from None = record { pixels = 0; columns = 0 }

unfoldable pub grid_at_of : Detectors → ℕ → Grid
grid_at_of ds d = grid_from (at_of ds (record { 0 = d }))

-- what a filter makes of detector d's hits: work map, total and count
unfoldable pub shown_of : Held → RayPathFilter → ℕ → Handed
shown_of m f d =
    refilter_of m.detectors (record { 0 = d }) f m.flux
    (take (grid_at_of m.detectors d).pixels (replicate text_pixels #0)) m.hit_values m.hit_tags m.used

-- and the map that it then hands back
unfoldable pub shown_map : Held → RayPathFilter → ℕ → List Float
shown_map m f d =
    filtered_pixel_flux_of m.detectors (record { 0 = d }) f m.flux (shown_of m f d).map m.hit_values m.hit_tags
    m.used

-- hits and flux are under the filter, signal and stray are always the full counts
unfoldable pub detector_text : Held → RayPathFilter → ℕ → List ℕ
detector_text m f d =
    row_text (d ∷ (shown_of m f d).count ∷ (shown_of m SignalOnly d).count ∷ (shown_of m StrayLight d).count ∷ [])
    ((shown_of m f d).total ∷ [])

-- ---- pixels

-- those of zero flux aren't listed
unfoldable pub pixel_text : ℕ → ℕ → ℕ → Float → List ℕ
pixel_text d px py x = cond (ne x #0) (row_text (d ∷ px ∷ py ∷ []) (x ∷ [])) []

-- the pixels of a map with w columns, from pixel i on, row by row
unfoldable pub pixels_text : ℕ → ℕ → ℕ → List Float → List ℕ
pixels_text d w i [] = []
pixels_text d w i (x ∷ l) = pixel_text d (i % w) (i / w) x ++ pixels_text d w (i + 1) l

-- the map of detector d under the filter
unfoldable pub detector_map_text : Held → RayPathFilter → ℕ → List ℕ
detector_map_text m f d =
    let w = (grid_at_of m.detectors d).columns in
    cond (eqb w 0) [] (pixels_text d w 0 (shown_map m f d))

-- ---- all of it

-- the n detectors from d on, each by its text
unfoldable pub each_from : (ℕ → List ℕ) → ℕ → ℕ → List ℕ
each_from text zero d = []
each_from text (suc n) d = text d ++ each_from text n (d + 1)

-- a count that 3 refuses is no count
unfoldable pub detector_count_of : ℕ → ℕ
detector_count_of n = cond (leb n max_detectors) n 0

abbrev pub count_in : Held → ℕ
count_in m = detector_count_of m.detectors.count

unfoldable pub detectors_text : RayPathFilter → Held → List ℕ
detectors_text f m = named "detector hits signal stray flux" ++ each_from (detector_text m f) (count_in m) 0

unfoldable pub maps_text : RayPathFilter → Held → List ℕ
maps_text f m = named "detector px py flux" ++ each_from (detector_map_text m f) (count_in m) 0

unfoldable pub answer_text : NonSeqTraceReport → RayPathFilter → Held → List ℕ
answer_text r f m = ledger_text r ++ (tallies_text r.tallies ++ (detectors_text f m ++ maps_text f m))

-- ---- a refusal

unfoldable pub refusal_text : ℕ → ℕ → List ℕ
refusal_text n place = named "refusal place" ++ row_text (n ∷ place ∷ []) []
