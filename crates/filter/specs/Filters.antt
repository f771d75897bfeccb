-- Which hits a filter lets through, and the map that they make.
use Rattle.std.specs.Prelude.{ℕ, ◌+◌, Bool, true, false, cond, ◌&&◌, ◌||◌, List, [], ◌∷◌, leb, ltb, eqb, Float, get_or, set, replicate, Option, None, Some}
use Rattle.std.specs.Float.{nan, binary64}
use Rattle.std.specs.Float.Ieee.{add}
use Rattle.detector.specs.declared.DetectorNo.{DetectorNo}
use Rattle.detector.specs.declared.Detector2D.{Detector2D}
use Rattle.detector.specs.Pixels.{pixel_at_of}
use Rattle.detector.specs.declared.DetectorHit.{DetectorHit}
use Rattle.filter.specs.declared.RayPathFilter.{RayPathFilter}
use Rattle.filter.specs.declared.RayPathFilter.TheVariants.{All, SignalOnly, GhostsOnly, TirOnly, StrayLight}
use Rattle.filter.specs.declared.sifting.Tally.{Tally}
use Rattle.doubles.specs.Doubles.{#0}

-- numbers 0 to 4 in this order; no other number is a filter's
unfoldable pub numbered_filter_of : ℕ → Option RayPathFilter
numbered_filter_of n =
    cond (eqb n 0) (Some All) (cond (eqb n 1) (Some SignalOnly) (cond (eqb n 2) (Some GhostsOnly)
    (cond (eqb n 3) (Some TirOnly) (cond (eqb n 4) (Some StrayLight) None))))

abbrev pub is_all_of : RayPathFilter → Bool
is_all_of All = true
is_all_of SignalOnly = false
is_all_of GhostsOnly = false
is_all_of TirOnly = false
is_all_of StrayLight = false

-- By a hit's reflections r and total reflections t. Light that was only totally reflected is no ghost.
abbrev pub lets_of : RayPathFilter → ℕ → ℕ → Bool
lets_of All r t = true
lets_of SignalOnly r t = eqb r 0 && eqb t 0
lets_of GhostsOnly r t = leb 1 r
lets_of TirOnly r t = ltb 0 t
lets_of StrayLight r t = ltb 0 r || ltb 0 t

-- a map with its total and its count
pub record Map : Type 0 where
  pub flux : List Float
  pub total : Float
  pub count : ℕ

abbrev pub as_map : Tally → List Float → Map
as_map t m = record { flux = m; total = t.total; count = t.count }

abbrev pub zeros : ℕ → Map
zeros n = record { flux = replicate n #0; total = #0; count = 0 }

-- a flux added at a place
unfoldable pub add_at_of : List Float → ℕ → Float → List Float
add_at_of m p x = set m p (add binary64 (get_or m p nan) x)

-- a hit of detector d added: to its pixel, to the total, to the count
unfoldable pub add_hit_of : Detector2D → Map → DetectorHit → Map
add_hit_of d m h =
    let p = pixel_at_of d h.local_x h.local_y in
    record {
      flux = add_at_of m.flux p h.flux_watts;
      total = add binary64 m.total h.flux_watts;
      count = m.count + 1;
    }

unfoldable pub plus_each : Detector2D → Map → List DetectorHit → Map
plus_each d m [] = m
plus_each d m (h ∷ b) = plus_each d (add_hit_of d m h) b

-- the hits that a filter wants: of detector `asked`, and let through
unfoldable pub passes_of : RayPathFilter → DetectorNo → DetectorHit → Bool
passes_of f asked h = eqb h.detector.0 asked.0 && lets_of f h.reflection_count h.tir_count

-- ---- a map of the wanted hits of a list, whichever these are

-- those that are wanted, in list order
unfoldable pub passing : (DetectorHit → Bool) → List DetectorHit → List DetectorHit
passing wanted [] = []
passing wanted (h ∷ b) = cond (wanted h) (h ∷ passing wanted b) (passing wanted b)

-- n zeros, and those that are wanted added in list order
unfoldable pub refill_of : (DetectorHit → Bool) → Detector2D → ℕ → List DetectorHit → Map
refill_of wanted d n hits = plus_each d (zeros n) (passing wanted hits)

-- one hit on the way
unfoldable pub sift_hit_of : (DetectorHit → Bool) → Detector2D → Map → DetectorHit → Map
sift_hit_of wanted d m h = cond (wanted h) (add_hit_of d m h) m
