-- The map that a filter makes of the hit list and the map that was stored: where a filter lets all of a detector's hits through they are one. Assumes nothing.
use Prim.Native.Nat.{ℕ, zero, suc, ◌+◌, ◌≤◌, ◌<◌}
use mathlib.Core.Path.{◌≡◌, refl, ap, sym, ◌∙◌}
use mathlib.Core.Bool.{Bool, true, false, cond, ◌&&◌}
use mathlib.Core.List.{List, [], ◌∷◌}
use native.Mathlib.Nat.{le_of_suc-le-suc}
use native.Mathlib.Omega.{arith}
use lib.Dec.{eqb}
use lib.Ieee.{Float, nan}
use lib.ListN.{length, get_or, take, drop, replicate}
use Rattle.detector.specs.declared.DetectorNo.{DetectorNo}
use Rattle.detector.specs.declared.Detector2D.{Detector2D}
use Rattle.detector.specs.Pixels.{pixels_of, pixel_at_of}
use Rattle.detector.specs.declared.DetectorHit.{DetectorHit}
use Rattle.detectors.specs.Detectors.{detector_at, first_pixel_of}
use Rattle.memory.specs.Memory.{Memory, listed}
use Rattle.memory.specs.Plain.{Empty, View, part_in, view_in, plus_hit, plus_all}
use Rattle.memory.proofs.Booked.{Booked, booked_view, booked_pixels, booked_pixel}
use Rattle.filter.specs.declared.RayPathFilter.TheVariants.{All}
use Rattle.filter.specs.Filters.{Map, zeros, add_at_of, add_hit_of, plus_each, passes_of, passing, refill_of}
use Rattle.doubles.specs.Doubles.{#0}

-- ---- a detector's view without its hit counts

abbrev pub map_in_view : View → Map
map_in_view v = record { flux = v.flux; total = v.total; count = v.count }

plus_flux : (e : Detector2D) (v : View) (h : DetectorHit) → map_in_view (plus_hit e v h) ≡ add_hit_of e (map_in_view v) h
unfolding plus_hit add_hit_of add_at_of
plus_flux e v h = refl

and_true : (x : Bool) → (x && true) ≡ x
and_true true = refl
and_true false = refl

-- adding a detector's hits to its view is adding those that pass All
views_flux : (e : Detector2D) (d : DetectorNo) (b : List DetectorHit) (v : View) → map_in_view (plus_all d.0 e v b) ≡ plus_each e (map_in_view v) (passing (passes_of All d) b)
unfolding plus_all plus_each passing passes_of
views_flux e d [] v = refl
views_flux e d (h ∷ b) v = rw (and_true (eqb h.detector.0 d.0)) (go (eqb h.detector.0 d.0) (views_flux e d b v) (views_flux e d b (plus_hit e v h)))
  where
    go : (x : Bool) → map_in_view (plus_all d.0 e v b) ≡ plus_each e (map_in_view v) (passing (passes_of All d) b) → map_in_view (plus_all d.0 e (plus_hit e v h) b) ≡ plus_each e (map_in_view (plus_hit e v h)) (passing (passes_of All d) b)
        → map_in_view (plus_all d.0 e (cond x (plus_hit e v h) v) b) ≡ plus_each e (map_in_view v) (cond x (h ∷ passing (passes_of All d) b) (passing (passes_of All d) b))
    go true p q = q ∙ ap (λ m. plus_each e m (passing (passes_of All d) b)) (plus_flux e v h)
    go false p q = p

-- ---- an empty map's part

front : (z : Float) (n : ℕ) (l : List Float) → n ≤ length l → ((p : ℕ) → p < length l → get_or l p nan ≡ z) → take n l ≡ replicate n z
front z zero l k e = refl
front z (suc n) [] k e = absurd (omega arith)
front z (suc n) (x ∷ l) k e = rw (e 0 (omega arith)) (ap (λ t. z ∷ t) (front z n l (le_of_suc-le-suc k) (λ p q. e (suc p) (omega arith))))

zero_part : (z : Float) (b n : ℕ) (l : List Float) → b + n ≤ length l → ((p : ℕ) → p < length l → get_or l p nan ≡ z) → take n (drop b l) ≡ replicate n z
zero_part z zero n l k e = front z n l (omega arith) e
zero_part z (suc b) n [] k e = absurd (omega arith)
zero_part z (suc b) n (x ∷ l) k e = zero_part z b n l (omega arith) (λ p q. e (suc p) (omega arith))

-- ---- only a hit's place is read of the detector

pub each_same : (e e' : Detector2D) → ((x y : Float) → pixel_at_of e' x y ≡ pixel_at_of e x y) → (b : List DetectorHit) (m : Map) → plus_each e' m b ≡ plus_each e m b
unfolding plus_each add_hit_of
each_same e e' f [] m = refl
each_same e e' f (h ∷ b) m = rw (f h.local_x h.local_y) (each_same e e' f b _)

module _ (s : Memory) (eight : length s.detectors.list ≡ 8) (empty : Empty s) (m : Memory) (booked : Booked s eight empty m) (d : DetectorNo) (there : d.0 < s.detectors.count) (few : d.0 < 8)
    (within : first_pixel_of s.detectors.list d.0 + pixels_of (detector_at s.detectors.list d.0) ≤ length s.flux) where
  abbrev own : Detector2D
  own = detector_at m.detectors.list d.0

  start : map_in_view (view_in s d.0) ≡ zeros (pixels_of (detector_at s.detectors.list d.0))
  unfolding view_in part_in
  start = rw (empty.totals d.0 there few, empty.counts d.0 there few, zero_part #0 (first_pixel_of s.detectors.list d.0) (pixels_of (detector_at s.detectors.list d.0)) s.flux within empty.flux)

  -- the stored map, total and count are those that All would make anew
  pub all_agrees : map_in_view (view_in m d.0) ≡ refill_of (passes_of All d) own (pixels_of own) (listed m)
  unfolding refill_of
  all_agrees =
      ap map_in_view (booked_view s eight empty m d.0 booked)
      ∙ views_flux (detector_at s.detectors.list d.0) d (listed m) (view_in s d.0)
      ∙ ap (λ z. plus_each (detector_at s.detectors.list d.0) z (passing (passes_of All d) (listed m))) start
      ∙ sym (each_same (detector_at s.detectors.list d.0) own (booked_pixel s eight empty m d.0 booked) (passing (passes_of All d) (listed m)) _)
      ∙ ap (λ n. plus_each own (zeros n) (passing (passes_of All d) (listed m))) (sym (booked_pixels s eight empty m d.0 booked))

  -- so are those of any choice of hits that takes just the detector's
  pub full_agrees : (wanted : DetectorHit → Bool) → passing wanted (listed m) ≡ passing (passes_of All d) (listed m) → refill_of wanted own (pixels_of own) (listed m) ≡ map_in_view (view_in m d.0)
  unfolding refill_of
  full_agrees wanted e = ap (plus_each own (zeros (pixels_of own))) e ∙ sym all_agrees
