-- What a recorded hit keeps: lengths, and all of the detectors but totals and counts. Assumes nothing.
use Prim.Native.Nat.{ℕ, zero, suc, ◌*◌}
use mathlib.Core.Path.{◌≡◌, refl, ◌∙◌}
use mathlib.Core.List.{List, [], ◌∷◌}
use lib.Ieee.{Float}
use lib.ListN.{length, set, length-set}
use lib.Seq.{length-sets}
use Rattle.detector.specs.declared.Detector2D.{Detector2D}
use Rattle.detector.specs.Pixels.{pixels_of, pixel_at_of}
use Rattle.detector.specs.declared.DetectorHit.{DetectorHit}
use Rattle.detectors.specs.Detectors.{detector_at, first_pixel_of, placed_of}
use Rattle.memory.specs.Memory.{Memory, hit_doubles, hit_wholes, hit_values_row, hit_tags_row, capacity, raised, cell_of, cell_in, has_pixel, written_at}
use Rattle.memory.specs.Plain.{added}

-- ---- the detectors

-- a record raised keeps every g that raising keeps
pub kept : {A : Type 0} (g : Detector2D → A) → ((d : Detector2D) (f : Float) → g (raised d f) ≡ g d)
    → (l : List Detector2D) (i j : ℕ) (f : Float) → g (detector_at (set l i (raised (detector_at l i) f)) j) ≡ g (detector_at l j)
kept g e [] i j f = refl
kept g e (x ∷ l) zero zero f = e x f
kept g e (x ∷ l) zero (suc j) f = refl
kept g e (x ∷ l) (suc i) zero f = refl
kept g e (x ∷ l) (suc i) (suc j) f = kept g e l i j f

pub same_pixels : (d : Detector2D) (f : Float) → pixels_of (raised d f) ≡ pixels_of d
unfolding pixels_of
same_pixels d f = refl

pub same_pixel : (x y : Float) (d : Detector2D) (f : Float) → pixel_at_of (raised d f) x y ≡ pixel_at_of d x y
unfolding pixel_at_of
same_pixel x y d f = refl

pub first_kept : (l : List Detector2D) (i n : ℕ) (f : Float) → first_pixel_of (set l i (raised (detector_at l i) f)) n ≡ first_pixel_of l n
unfolding first_pixel_of
first_kept l i zero f = refl
first_kept l i (suc n) f = rw (first_kept l i n f, kept pixels_of same_pixels l i n f)

cell_kept : (l : List Detector2D) (i : ℕ) (f : Float) (h : DetectorHit) → cell_in (set l i (raised (detector_at l i) f)) h ≡ cell_in l h
unfolding cell_in cell_of placed_of
cell_kept l i f h = rw (first_kept l i h.detector.0 f, kept (λ d. pixel_at_of d h.local_x h.local_y) (same_pixel h.local_x h.local_y) l i h.detector.0 f)

-- ---- one hit written at any place

module _ (s : Memory) (p : ℕ) (k : DetectorHit) where
  pub written_pixels : (d : ℕ) → pixels_of (detector_at (written_at s p k).detectors.list d) ≡ pixels_of (detector_at s.detectors.list d)
  unfolding written_at
  written_pixels d = kept pixels_of same_pixels s.detectors.list k.detector.0 d k.flux_watts

  pub written_pixel : (d : ℕ) (x y : Float) → pixel_at_of (detector_at (written_at s p k).detectors.list d) x y ≡ pixel_at_of (detector_at s.detectors.list d) x y
  unfolding written_at
  written_pixel d x y = kept (λ e. pixel_at_of e x y) (same_pixel x y) s.detectors.list k.detector.0 d k.flux_watts

  pub written_first : (d : ℕ) → first_pixel_of (written_at s p k).detectors.list d ≡ first_pixel_of s.detectors.list d
  unfolding written_at
  written_first d = first_kept s.detectors.list k.detector.0 d k.flux_watts

  pub written_cell : (h : DetectorHit) → cell_in (written_at s p k).detectors.list h ≡ cell_in s.detectors.list h
  unfolding written_at
  written_cell h = cell_kept s.detectors.list k.detector.0 k.flux_watts h

  pub written_list : length (written_at s p k).detectors.list ≡ length s.detectors.list
  unfolding written_at
  written_list = simp length-set

  pub written_flux : length (written_at s p k).flux ≡ length s.flux
  unfolding written_at
  written_flux = simp length-set

  pub written_hits : length (written_at s p k).hits ≡ length s.hits
  unfolding written_at
  written_hits = simp length-set

  pub written_values : length (written_at s p k).hit_values ≡ length s.hit_values
  unfolding written_at
  written_values = length-sets s.hit_values (hit_doubles * s.used) (hit_values_row k)

  pub written_tags : length (written_at s p k).hit_tags ≡ length s.hit_tags
  unfolding written_at
  written_tags = length-sets s.hit_tags (hit_wholes * s.used) (hit_tags_row k)

-- ---- any number of hits added

-- what a hit keeps wherever it is written, any number of hits keep
pub added_keeps : {A : Type 0} (g : Memory → A) → ((s : Memory) (p : ℕ) (k : DetectorHit) → g (written_at s p k) ≡ g s) → (b : List DetectorHit) (s : Memory) → g (added s b) ≡ g s
unfolding added
added_keeps g e [] s = refl
added_keeps g e (k ∷ b) s = added_keeps g e b (written_at s _ k) ∙ e s _ k

pub added_cell : (b : List DetectorHit) (s : Memory) (h : DetectorHit) → cell_in (added s b).detectors.list h ≡ cell_in s.detectors.list h
added_cell b s h = added_keeps (λ m. cell_in m.detectors.list h) (λ s p k. written_cell s p k h) b s

pub added_count : (b : List DetectorHit) (s : Memory) → (added s b).detectors.count ≡ s.detectors.count
unfolding written_at
added_count = added_keeps (λ m. m.detectors.count) (λ s p k. refl)

added_flux : (b : List DetectorHit) (s : Memory) → length (added s b).flux ≡ length s.flux
added_flux = added_keeps (λ m. length m.flux) written_flux

added_hits : (b : List DetectorHit) (s : Memory) → length (added s b).hits ≡ length s.hits
added_hits = added_keeps (λ m. length m.hits) written_hits

added_values : (b : List DetectorHit) (s : Memory) → length (added s b).hit_values ≡ length s.hit_values
added_values = added_keeps (λ m. length m.hit_values) written_values

added_tags : (b : List DetectorHit) (s : Memory) → length (added s b).hit_tags ≡ length s.hit_tags
added_tags = added_keeps (λ m. length m.hit_tags) written_tags

pub added_holds : (b : List DetectorHit) (s : Memory) (h : DetectorHit) → has_pixel (added s b) h ≡ has_pixel s h
unfolding has_pixel
added_holds b s h = rw (added_cell b s h, added_flux b s, added_hits b s, added_values b s, added_tags b s)

pub added_capacity : (b : List DetectorHit) (s : Memory) → capacity (added s b) ≡ capacity s
unfolding capacity
added_capacity b s = rw (added_values b s)
