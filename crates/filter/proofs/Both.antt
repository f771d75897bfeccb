-- The two filter calls, one after the other, hand back document 01's map: the stored one, or the work map zeroed and refilled. Assumes nothing.
use Prim.Native.Nat.{ℕ}
use mathlib.Core.Path.{◌≡◌, refl, ap, ◌∙◌}
use mathlib.Core.Bool.{Bool, true, false, cond}
use mathlib.Core.List.{List, [], ◌∷◌}
use lib.Ieee.{Float}
use lib.ListN.{length, length-set, length-replicate}
use Rattle.error.specs.Refusals.{Checked, passed, refused_at}
use Rattle.detector.specs.declared.DetectorNo.{DetectorNo}
use Rattle.detector.specs.declared.Detector2D.{Detector2D}
use Rattle.detector.specs.declared.DetectorHit.{DetectorHit}
use Rattle.detectors.specs.declared.Detectors.{Detectors}
use Rattle.detectors.specs.declared.Placed.{Placed}
use Rattle.memory.specs.Memory.{hits_from}
use Rattle.filter.specs.declared.RayPathFilter.{RayPathFilter}
use Rattle.filter.specs.Filters.{Map, is_all_of, add_at_of, add_hit_of, zeros, plus_each, passing, passes_of, refill_of}
use Rattle.filter.specs.Handed.{Handed, handed, from_map, check_filter_of, refilter_placed, refilter_of, stored_part_of, part_placed, filtered_pixel_flux_of, map_placed}

-- ---- the work map is as long as it was

hit_length : (d : Detector2D) (m : Map) (h : DetectorHit) → length (add_hit_of d m h).flux ≡ length m.flux
unfolding add_hit_of add_at_of
hit_length d m h = length-set m.flux _ _

each_length : (d : Detector2D) (m : Map) (b : List DetectorHit) → length (plus_each d m b).flux ≡ length m.flux
unfolding plus_each
each_length d m [] = refl
each_length d m (h ∷ b) = each_length d (add_hit_of d m h) b ∙ hit_length d m h

refill_length : (wanted : DetectorHit → Bool) (d : Detector2D) (n : ℕ) (b : List DetectorHit) → length (refill_of wanted d n b).flux ≡ n
unfolding refill_of
refill_length wanted d n b = each_length d (zeros n) (passing wanted b) ∙ length-replicate n _

module _ (f : RayPathFilter) (asked : DetectorNo) (stored work : List Float) (hits : List DetectorHit) where
  abbrev stored-as : Placed → Handed
  stored-as p = handed (passed tt) work p.detector.total_flux_watts p.detector.total_rays_hit

  abbrev sifted : Placed → Handed
  sifted p = from_map (refill_of (passes_of f asked) p.detector (length work) hits)

  kept : (c : Checked Placed) → length (refilter_placed f asked work hits c).map ≡ length work
  unfolding refilter_placed
  kept (passed p) = go (is_all_of f)
    where
      go : (b : Bool) → length (cond b (stored-as p) (sifted p)).map ≡ length work
      go true = refl
      go false = refill_length (passes_of f asked) p.detector (length work) hits
  kept (refused_at n place) = refl

  placed : (c : Checked Placed) → part_placed f stored (refilter_placed f asked work hits c).map c ≡ map_placed f asked stored (length work) hits c
  unfolding part_placed refilter_placed map_placed
  placed (passed p) = go (is_all_of f)
    where
      go : (b : Bool) → cond b (stored_part_of p stored) (cond b (stored-as p) (sifted p)).map ≡ cond b (stored_part_of p stored) (sifted p).map
      go true = refl
      go false = refl
  placed (refused_at n place) = refl

pub both_calls : (ds : Detectors) (asked : DetectorNo) (f : RayPathFilter) (stored work values : List Float) (tags : List ℕ) (used : ℕ)
    → filtered_pixel_flux_of ds asked f stored (refilter_of ds asked f stored work values tags used).map values tags used
    ≡ map_placed f asked stored (length work) (hits_from values tags used 0) (check_filter_of ds asked (length stored) (length work) (length values) (length tags) used)
unfolding filtered_pixel_flux_of refilter_of
both_calls ds asked f stored work values tags used =
    let hits = hits_from values tags used 0 in
    let c = check_filter_of ds asked (length stored) (length work) (length values) (length tags) used in
    let left = (refilter_placed f asked work hits c).map in
    ap (λ n. part_placed f stored left (check_filter_of ds asked (length stored) n (length values) (length tags) used)) (kept f asked stored work hits c)
    ∙ placed f asked stored work hits c
