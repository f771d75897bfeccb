-- What the plain book is fed is all that it needs: checks, pixels, faces and cells look at no total and no count, and hits added to a memory change nothing of what is fed. Assumes nothing.
use Prim.Native.Nat.{ℕ, zero, suc, ◌+◌, ◌-◌, ◌<◌, min}
use mathlib.Core.Path.{◌≡◌, refl, ap, sym, subst, ◌∙◌, fun_ext}
use mathlib.Core.List.{List, [], ◌∷◌, map}
use native.Mathlib.Omega.{arith}
use lib.Ieee.{Float, nan}
use lib.ListN.{length, get_or, set, replicate, take, drop, length-replicate, get_or-replicate, length-take, length-drop}
use lib.Seq.{ext_get_or, get_or-take, get_or-drop}
use Rattle.detector.specs.declared.Detector2D.{Detector2D}
use Rattle.detector.specs.declared.DetectorNo.{DetectorNo}
use Rattle.detector.specs.declared.DetectorHit.{DetectorHit}
use Rattle.detector.specs.Checks.{check_detector_of}
use Rattle.detector.proofs.Refused.{check_unseen}
use Rattle.detector.specs.Faces.{face_of}
use Rattle.detector.specs.Pixels.{pixels_of, pixel_at_of, area_of, irradiance_of}
use Rattle.detectors.specs.declared.Detectors.{Detectors}
use Rattle.detectors.specs.Detectors.{detector_at, first_pixel_of, all_pixels_of, check_list_of, check_each_of, check_detectors_of, check_asked, placed_of}
use Rattle.memory.specs.Memory.{Memory, raised, cell_of, cell_in, capacity, are_lengths_of, is_memory, written_at}
use Rattle.memory.specs.Plain.{Empty, added, view_in, part_in}
use Rattle.memory.proofs.Keeps.{added_keeps, written_flux, written_hits, written_values, written_tags}
use Rattle.memory.proofs.Plain.{used_by}
use Rattle.memory.proofs.Views.{plus_same}
use Rattle.faces.specs.Faces.{new_faces_of}
use Rattle.theorems_calls.specs.Book.{bare_detector, bare_detectors, bare, with_used, plain_hit, zero_view, book_view}
use Rattle.doubles.specs.Doubles.{#0}

-- ---- one detector

bare_pixels : (d : Detector2D) → pixels_of (bare_detector d) ≡ pixels_of d
unfolding pixels_of
bare_pixels d = refl

bare_pixel : (x y : Float) (d : Detector2D) → pixel_at_of (bare_detector d) x y ≡ pixel_at_of d x y
unfolding pixel_at_of
bare_pixel x y d = refl

bare_check : (place : ℕ) (d : Detector2D) → check_detector_of (bare_detector d) place ≡ check_detector_of d place
bare_check place d = check_unseen d _ _ place

bare_face : (d : Detector2D) → face_of (bare_detector d) ≡ face_of d
unfolding face_of
bare_face d = refl

pub bare_irradiance : (x : Float) (d : Detector2D) → irradiance_of (bare_detector d) x ≡ irradiance_of d x
unfolding irradiance_of area_of
bare_irradiance x d = refl

-- ---- a detector of a list

pub bare_at : {A : Type 0} (g : Detector2D → A) → ((d : Detector2D) → g (bare_detector d) ≡ g d) → (l : List Detector2D) (i : ℕ) → g (detector_at (map bare_detector l) i) ≡ g (detector_at l i)
bare_at g e [] i = refl
bare_at g e (x ∷ l) zero = e x
bare_at g e (x ∷ l) (suc i) = bare_at g e l i

pub bare_first : (l : List Detector2D) (n : ℕ) → first_pixel_of (map bare_detector l) n ≡ first_pixel_of l n
unfolding first_pixel_of
bare_first l zero = refl
bare_first l (suc n) = rw (bare_first l n, bare_at pixels_of bare_pixels l n)

pub bare_pixels_at : (l : List Detector2D) (i : ℕ) → pixels_of (detector_at (map bare_detector l) i) ≡ pixels_of (detector_at l i)
bare_pixels_at = bare_at pixels_of bare_pixels

pub bare_pixel_at : (l : List Detector2D) (i : ℕ) (x y : Float) → pixel_at_of (detector_at (map bare_detector l) i) x y ≡ pixel_at_of (detector_at l i) x y
bare_pixel_at l i x y = bare_at (λ d. pixel_at_of d x y) (bare_pixel x y) l i

pub bare_cell : (l : List Detector2D) (h : DetectorHit) → cell_in (map bare_detector l) h ≡ cell_in l h
unfolding cell_in cell_of placed_of
bare_cell l h = rw (bare_first l h.detector.0, bare_pixel_at l h.detector.0 h.local_x h.local_y)

-- ---- the detectors

bare_list : (l : List Detector2D) (n i : ℕ) → check_list_of (map bare_detector l) n i ≡ check_list_of l n i
unfolding check_list_of
bare_list l zero i = refl
bare_list l (suc n) i = rw (bare_at (λ d. check_detector_of d i) (bare_check i) l i, bare_list l n (i + 1))

pub bare_each : (ds : Detectors) → check_each_of (bare_detectors ds) ≡ check_each_of ds
unfolding check_each_of
bare_each ds = rw (bare_list ds.list ds.count 0)

pub bare_checks : (ds : Detectors) → check_detectors_of (bare_detectors ds) ≡ check_detectors_of ds
unfolding check_detectors_of
bare_checks ds = rw (bare_each ds)

pub bare_asked : (d : DetectorNo) (ds : Detectors) → check_asked (bare_detectors ds) d ≡ check_asked ds d
unfolding check_asked
bare_asked d ds = rw (bare_checks ds)

pub bare_all : (ds : Detectors) → all_pixels_of (bare_detectors ds) ≡ all_pixels_of ds
unfolding all_pixels_of
bare_all ds = rw (bare_first ds.list ds.count)

pub bare_faces : (ds : Detectors) → new_faces_of (bare_detectors ds) ≡ new_faces_of ds
unfolding new_faces_of
bare_faces ds =
    rw (
      bare_at face_of bare_face ds.list 0,
      bare_at face_of bare_face ds.list 1,
      bare_at face_of bare_face ds.list 2,
      bare_at face_of bare_face ds.list 3,
      bare_at face_of bare_face ds.list 4,
      bare_at face_of bare_face ds.list 5,
      bare_at face_of bare_face ds.list 6,
      bare_at face_of bare_face ds.list 7,
    )

-- ---- hits added change nothing of it

bare_set : (l : List Detector2D) (i : ℕ) (f : Float) → map bare_detector (set l i (raised (detector_at l i) f)) ≡ map bare_detector l
bare_set [] i f = refl
bare_set (x ∷ l) zero f = refl
bare_set (x ∷ l) (suc i) f = ap (λ t. bare_detector x ∷ t) (bare_set l i f)

bare_raised : (s : Memory) (p : ℕ) (k : DetectorHit) → bare_detectors (written_at s p k).detectors ≡ bare_detectors s.detectors
unfolding written_at
bare_raised s p k = ap (λ (l : List Detector2D). counted l) (bare_set s.detectors.list k.detector.0 k.flux_watts)
  where
    counted : List Detector2D → Detectors
    counted l = record { list = l; count = s.detectors.count }

pub bare_hits : (b : List DetectorHit) (s : Memory) → bare_detectors (added s b).detectors ≡ bare_detectors s.detectors
bare_hits = added_keeps (λ m. bare_detectors m.detectors) bare_raised

-- what looks at no total and no count sees the same detectors with hits added
pub same_seen : {A : Type 0} (g : Detectors → A) → ((ds : Detectors) → g (bare_detectors ds) ≡ g ds) → (b : List DetectorHit) (s : Memory) → g (added s b).detectors ≡ g s.detectors
same_seen g e b s = sym (e (added s b).detectors) ∙ ap g (bare_hits b s) ∙ e s.detectors

abbrev cleared : Detectors → ℕ → ℕ → ℕ → ℕ → Memory
cleared ds nf nh nv nt = record { detectors = ds; flux = replicate nf #0; hits = replicate nh 0; hit_values = replicate nv #0; hit_tags = replicate nt 0; used = 0 }

same_cleared : (ds es : Detectors) (a a' b b' c c' d d' : ℕ) → ds ≡ es → a ≡ a' → b ≡ b' → c ≡ c' → d ≡ d' → cleared ds a b c d ≡ cleared es a' b' c' d'
same_cleared ds es a a' b b' c c' d d' e f g h k = rw (e, f, g, h, k)

bare_written : (s : Memory) (p : ℕ) (k : DetectorHit) → bare (written_at s p k) ≡ bare s
unfolding bare
bare_written s p k =
    let w = written_at s p k in
    same_cleared (bare_detectors w.detectors) (bare_detectors s.detectors) (length w.flux) (length s.flux) (length w.hits) (length s.hits) (length w.hit_values) (length s.hit_values) (length w.hit_tags) (length s.hit_tags)
    (bare_raised s p k) (written_flux s p k) (written_hits s p k) (written_values s p k) (written_tags s p k)

pub bare_added : (b : List DetectorHit) (s : Memory) → bare (added s b) ≡ bare s
bare_added = added_keeps bare bare_written

-- ---- what the book reads of the memory

-- the memory without contents, and the number used
abbrev pub emptied : Memory → Memory
emptied m = with_used (bare m) m.used

part_length : (A : Type 0) (l : List Detector2D) (d : ℕ) (m : List A) → length (part_in A l d m) ≡ min (pixels_of (detector_at l d)) (length m - first_pixel_of l d)
unfolding part_in
part_length A l d m = rw (length-take, length-drop)

module _ (s : Memory) where
  pub bare_flux : length (bare s).flux ≡ length s.flux
  unfolding bare
  bare_flux = length-replicate _ _

  pub bare_counts : length (bare s).hits ≡ length s.hits
  unfolding bare
  bare_counts = length-replicate _ _

  pub bare_values : length (bare s).hit_values ≡ length s.hit_values
  unfolding bare
  bare_values = length-replicate _ _

  pub bare_tags : length (bare s).hit_tags ≡ length s.hit_tags
  unfolding bare
  bare_tags = length-replicate _ _

  bare_capacity : capacity (bare s) ≡ capacity s
  unfolding capacity
  bare_capacity = rw bare_values

  pub bare_detectors_lem : (bare s).detectors ≡ bare_detectors s.detectors
  unfolding bare
  bare_detectors_lem = refl

  pub faces_bare : new_faces_of (bare s).detectors ≡ new_faces_of s.detectors
  faces_bare = ap new_faces_of bare_detectors_lem ∙ bare_faces s.detectors

  pub plain_bare : (b : List DetectorHit) (h : DetectorHit) → plain_hit (bare s) b h ≡ plain_hit s b h
  unfolding plain_hit
  plain_bare b h = rw (bare_capacity, ap (λ (ds : Detectors). cell_in ds.list) bare_detectors_lem, fun_ext (bare_cell s.detectors.list))

  pub bare_memory : (n : ℕ) → is_memory (with_used (bare s) n) ≡ is_memory (with_used s n)
  unfolding is_memory are_lengths_of
  bare_memory n = rw (bare_detectors_lem, bare_flux, bare_counts, bare_values, bare_tags, bare_all s.detectors)

  -- ---- how long a detector's parts are

  bare_part : (A : Type 0) (d : ℕ) (l k : List A) → length k ≡ length l → length (part_in A (map bare_detector s.detectors.list) d k) ≡ length (part_in A s.detectors.list d l)
  bare_part A d l k e =
      part_length A (map bare_detector s.detectors.list) d k
      ∙ rw (bare_pixels_at s.detectors.list d, bare_first s.detectors.list d, e) (sym (part_length A s.detectors.list d l))

  part_flux : (d : ℕ) → length (view_in (bare s) d).flux ≡ length (view_in s d).flux
  unfolding view_in
  part_flux d = rw bare_detectors_lem (bare_part Float d s.flux (bare s).flux bare_flux)

  part_hits : (d : ℕ) → length (view_in (bare s) d).hits ≡ length (view_in s d).hits
  unfolding view_in
  part_hits d = rw bare_detectors_lem (bare_part ℕ d s.hits (bare s).hits bare_counts)

  pub view_bare : (d : ℕ) (b : List DetectorHit) → book_view (bare s) d b ≡ book_view s d b
  unfolding book_view
  view_bare d b =
      rw (part_flux d, part_hits d, bare_detectors_lem)
      (plus_same d (detector_at s.detectors.list d) (detector_at (map bare_detector s.detectors.list) d) (bare_pixel_at s.detectors.list d) b _)

-- ---- lists of one value

all_same : {A : Type 0} (z a : A) (l : List A) → ((i : ℕ) → i < length l → get_or l i z ≡ a) → replicate (length l) a ≡ l
all_same z a l e =
    ext_get_or z (replicate (length l) a) l (length-replicate (length l) a)
    (λ i k. let q : i < length l = subst (λ n. i < n) (length-replicate (length l) a) k in get_or-replicate (length l) i a z q ∙ sym (e i q))

part_same : {A : Type 0} (z a : A) (l : List A) → ((i : ℕ) → i < length l → get_or l i z ≡ a) → (n k : ℕ) → replicate (length (take n (drop k l))) a ≡ take n (drop k l)
part_same z a l e n k =
    all_same z a (take n (drop k l))
    (λ i q.
    let r : (i < n) × (k + i < length l) = inside i q in
    get_or-take n (drop k l) i z r.0 ∙ get_or-drop k l i z ∙ e (k + i) r.1)
  where
    inside : (i : ℕ) → i < length (take n (drop k l)) → (i < n) × (k + i < length l)
    inside i q = let t = rw (length-take, length-drop) at q in (omega (arith, t), omega (arith, t))

-- ---- the empty memory s

module _ (s : Memory) (eight : length s.detectors.list ≡ 8) (empty : Empty s) where
  -- the maps, total and count of each detector that is there are zeros
  pub zero_view_lem : (d : ℕ) → d < s.detectors.count → d < 8 → view_in s d ≡ zero_view (length (view_in s d).flux) (length (view_in s d).hits)
  unfolding view_in part_in
  zero_view_lem d n k =
      sym
      (rw (
        empty.totals d n k,
        empty.counts d n k,
        part_same nan #0 s.flux empty.flux _ _,
        part_same 0 0 s.hits empty.hits _ _,
      ))

  -- the book's hits added, and the number used
  pub bare_used : (b : List DetectorHit) → emptied (added s b) ≡ with_used (bare s) (length b)
  bare_used b = ap (λ m. with_used m (added s b).used) (bare_added b s) ∙ ap (with_used (bare s)) (used_by s eight empty b)
