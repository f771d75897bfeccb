-- The memory that maps are made of, as one value, and what recording a hit makes of it.
use Rattle.std.specs.Prelude.{◌≡◌, ℕ, zero, suc, ◌+◌, ◌*◌, ◌/◌, ◌%◌, Bool, cond, ◌&&◌, ◌||◌, List, [], ◌∷◌, leb, ltb, eqb, Float, length, get_or, set, take, drop, Result, Ok, Err}
use Rattle.std.specs.Float.{nan, binary64}
use Rattle.std.specs.Float.Ieee.{add}
use Rattle.std.proofs.lemmas.List.Edits.{sets}
use Rattle.error.specs.declared.Refusal.{Refusal}
use Rattle.error.specs.Refusals.{number_of, Checked, passed, refused_at}
use Rattle.detector.specs.declared.Detector2D.{Detector2D}
use Rattle.detector.specs.Pixels.{pixel_at_of, max_count}
use Rattle.detectors.specs.declared.Detectors.{Detectors}
use Rattle.detectors.specs.declared.Placed.{Placed}
use Rattle.detectors.specs.Detectors.{max_detectors, detector_at, all_pixels_of, placed_of, find_of}
use Rattle.detector.specs.declared.DetectorHit.{DetectorHit}
use Rattle.memory.specs.declared.recording.Memory as code

-- detectors, flux and hits of all pixels, the doubles and the whole numbers of the hit list, how many hits are used
pub record Memory : Type 0 where
  pub detectors : Detectors
  pub flux : List Float
  pub hits : List ℕ
  pub hit_values : List Float
  pub hit_tags : List ℕ
  pub used : ℕ

abbrev pub lent_memory : Detectors → List Float → List ℕ → List Float → List ℕ → ℕ → Memory
lent_memory ds f h v t n = record { detectors = ds; flux = f; hits = h; hit_values = v; hit_tags = t; used = n }

abbrev pub as_memory : code.Memory → Memory
as_memory m = lent_memory m.detectors m.flux.now m.hits.now m.hit_values.now m.hit_tags.now m.used

abbrev pub SameSlices : code.Memory → code.Memory → Type 0
SameSlices a b =
    (b.flux.ghost_name ≡ a.flux.ghost_name) × (b.hits.ghost_name ≡ a.hits.ghost_name)
    × (b.hit_values.ghost_name ≡ a.hit_values.ghost_name) × (b.hit_tags.ghost_name ≡ a.hit_tags.ghost_name)

-- what a call leaves: done, or the number and the place of the refusal
pub data Outcome (M : Type 0) : Type 0 where
  done : M → Outcome M
  refused : ℕ → ℕ → M → Outcome M

abbrev pub memory_left : {M : Type 0} → Outcome M → M
memory_left (done m) = m
memory_left (refused n place m) = m

-- ---- the hit list: of each hit a row of doubles and a row of whole numbers

-- doubles and whole numbers of a hit
abbrev pub hit_doubles : ℕ
hit_doubles = 4

abbrev pub hit_wholes : ℕ
hit_wholes = 4

-- x, y, flux, wavelength
unfoldable pub hit_values_row : DetectorHit → List Float
hit_values_row h = h.local_x ∷ h.local_y ∷ h.flux_watts ∷ h.wavelength_nm ∷ []

-- detector, bounce, reflections, total reflections
unfoldable pub hit_tags_row : DetectorHit → List ℕ
hit_tags_row h = h.detector.0 ∷ h.bounce_count ∷ h.reflection_count ∷ h.tir_count ∷ []

-- the hit whose rows these are; NaN and 0 where a row has no more
unfoldable pub hit_from : List Float → List ℕ → DetectorHit
hit_from v t =
    record {
      local_x = get_or v 0 nan;
      local_y = get_or v 1 nan;
      flux_watts = get_or v 2 nan;
      wavelength_nm = get_or v 3 nan;
      detector = record { 0 = get_or t 0 0 };
      bounce_count = get_or t 1 0;
      reflection_count = get_or t 2 0;
      tir_count = get_or t 3 0;
    }

-- row i of a list of rows of n
unfoldable pub row_at : {A : Type 0} → ℕ → List A → ℕ → List A
row_at n l i = take n (drop (n * i) l)

unfoldable pub read_hit_of : List Float → List ℕ → ℕ → DetectorHit
read_hit_of v t i = hit_from (row_at hit_doubles v i) (row_at hit_wholes t i)

-- what stands for a hit that the slices do not hold
abbrev pub no_hit_of : DetectorHit
no_hit_of = hit_from [] []

-- hit i of the list
unfoldable pub hit_at_of : List Float → List ℕ → ℕ → DetectorHit
hit_at_of v t i = cond (ltb i (length v / hit_doubles) && ltb i (length t / hit_wholes)) (read_hit_of v t i) no_hit_of

-- the n hits from place i on
unfoldable pub hits_from : List Float → List ℕ → ℕ → ℕ → List DetectorHit
hits_from v t zero i = []
hits_from v t (suc n) i = hit_at_of v t i ∷ hits_from v t n (i + 1)

abbrev pub listed : Memory → List DetectorHit
listed s = hits_from s.hit_values s.hit_tags s.used 0

-- whether slices of these lengths hold whole rows, and of as many hits
unfoldable pub are_hits_of : ℕ → ℕ → Bool
are_hits_of nv nt = eqb (nv % hit_doubles) 0 && (eqb (nt % hit_wholes) 0 && eqb (nv / hit_doubles) (nt / hit_wholes))

unfoldable pub capacity : Memory → ℕ
capacity s = length s.hit_values / hit_doubles

-- pixels and hits of the memory that a scene text is traced into
abbrev pub text_pixels : ℕ
text_pixels = 4096

abbrev pub text_hits : ℕ
text_hits = 1024

-- ---- recording

abbrev pub hit_detector : Memory → DetectorHit → Detector2D
hit_detector s h = detector_at s.detectors.list h.detector.0

-- the place of a hit's pixel among the pixels of all detectors; p is the hit's detector
unfoldable pub cell_of : Placed → DetectorHit → ℕ
cell_of p h = p.first + pixel_at_of p.detector h.local_x h.local_y

unfoldable pub cell_in : List Detector2D → DetectorHit → ℕ
cell_in l h = cell_of (placed_of l h.detector.0) h

-- a detector that has caught a flux more
abbrev pub raised : Detector2D → Float → Detector2D
raised d f =
    record {
      center = d.center;
      normal = d.normal;
      up = d.up;
      width_mm = d.width_mm;
      height_mm = d.height_mm;
      res_x = d.res_x;
      res_y = d.res_y;
      total_flux_watts = add binary64 d.total_flux_watts f;
      total_rays_hit = d.total_rays_hit + 1;
    }

-- the hit added to its pixel, at place p, and to its detector, and written behind the list
unfoldable pub written_at : Memory → ℕ → DetectorHit → Memory
written_at s p h =
    record {
      detectors = record {
        list = set s.detectors.list h.detector.0 (raised (hit_detector s h) h.flux_watts);
        count = s.detectors.count;
      };
      flux = set s.flux p (add binary64 (get_or s.flux p nan) h.flux_watts);
      hits = set s.hits p (get_or s.hits p 0 + 1);
      hit_values = sets s.hit_values (hit_doubles * s.used) (hit_values_row h);
      hit_tags = sets s.hit_tags (hit_wholes * s.used) (hit_tags_row h);
      used = s.used + 1;
    }

-- 12 where the list is full, else 13 where a count cannot be raised, else done; the memory and the plain book share it
unfoldable pub judged : {M : Type 0} → Bool → Bool → M → M → Outcome M
judged full most m next = cond full (refused 12 0 m) (cond most (refused 13 0 m) (done next))

unfoldable pub put_of : Memory → ℕ → DetectorHit → Outcome Memory
put_of s p h =
    judged (leb (capacity s) s.used)
    (eqb (get_or s.hits p 0) max_count || eqb (hit_detector s h).total_rays_hit max_count) s (written_at s p h)

-- whether a place lies in both maps, and the hit slices hold hits
unfoldable pub in_maps_of : ℕ → ℕ → ℕ → ℕ → ℕ → Bool
in_maps_of p nf nh nv nt = ltb p nf && (ltb p nh && are_hits_of nv nt)

-- whether the memory has the hit's detector and pixel, as one that passed the checks has
unfoldable pub has_pixel : Memory → DetectorHit → Bool
has_pixel s h =
    ltb h.detector.0 max_detectors
    && in_maps_of (cell_in s.detectors.list h) (length s.flux) (length s.hits) (length s.hit_values)
    (length s.hit_tags)

-- one hit into any memory: wholly or not at all
unfoldable pub record_of : Memory → DetectorHit → Outcome Memory
record_of s h = cond (has_pixel s h) (put_of s (cell_in s.detectors.list h) h) (refused 9 0 s)

-- ---- the checks of a recording

-- the slices of a hit list, with room for those used
unfoldable pub is_hit_list_of : ℕ → ℕ → ℕ → Bool
is_hit_list_of nv nt used = are_hits_of nv nt && leb used (nv / hit_doubles)

-- 9 unless every slice is as long as it must be
unfoldable pub are_lengths_of : Detectors → ℕ → ℕ → ℕ → ℕ → ℕ → Bool
are_lengths_of ds nf nh nv nt used = eqb nf (all_pixels_of ds) && (eqb nh (all_pixels_of ds) && is_hit_list_of nv nt used)

unfoldable pub is_memory : Memory → Bool
is_memory s =
    are_lengths_of s.detectors (length s.flux) (length s.hits) (length s.hit_values) (length s.hit_tags)
    s.used

-- an outcome, unless a check before it refuses and leaves all as it is
abbrev pub unless : {A M : Type 0} → Checked A → M → Outcome M → Outcome M
unless (passed a) m o = o
unless (refused_at n place) m o = refused n place m

-- the call that is open to hosts: 3, 5 to 8 and 18, 4, 9, then 12 before 13
unfoldable pub record_hit_classified_of : Memory → DetectorHit → Outcome Memory
record_hit_classified_of s h =
    unless (find_of s.detectors h.detector) s (cond (is_memory s) (record_of s h) (refused 9 0 s))

-- ---- what the code's answers say

abbrev pub as_outcome : {M : Type 0} → Result Unit Refusal → M → Outcome M
as_outcome (Ok u) m = done m
as_outcome (Err r) m = refused (number_of r.error) r.place m
