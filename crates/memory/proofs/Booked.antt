-- What every recording keeps, from the empty memory on: the memory is the empty one with its listed hits added in list order, each of them on a detector that is there. Assumes nothing.
use Prim.{tt}
use Prim.Native.Nat.{ℕ, ◌+◌, ◌<◌}
use mathlib.Core.Path.{◌≡◌, refl, ap, sym, subst, ◌∙◌}
use mathlib.Core.Bool.{Bool, true, false, cond, ◌||◌}
use mathlib.Core.List.{List, [], ◌∷◌, ◌++◌}
use native.Mathlib.Omega.{arith}
use lib.Dec.{leb, eqb}
use lib.Ieee.{Float}
use lib.ListN.{length}
use borrow.Author.Tests.{lt-ltb}
use Rattle.error.specs.Refusals.{Checked, passed, refused_at}
use Rattle.detector.specs.declared.Detector2D.{Detector2D}
use Rattle.detector.specs.Pixels.{pixels_of, pixel_at_of, max_count}
use Rattle.detector.proofs.Grid.{Gridded, pixel_in}
use Rattle.detectors.specs.declared.Placed.{Placed}
use Rattle.detector.specs.declared.DetectorHit.{DetectorHit}
use Rattle.detectors.specs.Detectors.{detector_at, first_pixel_of, placed_of, find_of}
use Rattle.memory.specs.Memory.{Memory, done, refused, memory_left, listed, hits_from, cell_of, cell_in, in_maps_of, has_pixel, judged, capacity, raised, put_of, record_of, is_memory, unless, record_hit_classified_of, written_at}
use Rattle.memory.specs.Plain.{Empty, added, view_in, plus_all, book_hit, sharing, number_in}
use Rattle.detectors.proofs.Passed.{Sound, asked_there, part_in}
use Rattle.memory.proofs.Lengths.{long}
use Rattle.memory.proofs.Keeps.{kept, added_keeps, same_pixels, same_pixel}
use Rattle.memory.proofs.Plain.{Kept, asked_below, record_keeps, record_lists}
use Rattle.memory.proofs.Views.{Fits, AllFit, gridded_kept, views}

-- ---- after the checks a hit is never refused by 9

pub holds_checked : (s : Memory) (h : DetectorHit) → Sound s.detectors → h.detector.0 < s.detectors.count → is_memory s ≡ true → has_pixel s h ≡ true
unfolding is_memory has_pixel in_maps_of cell_in cell_of placed_of
holds_checked s h sound k e =
    let d = h.detector.0 in
    let l = s.detectors.list in
    let t = long _ _ _ _ _ _ e in
    let i = pixel_in (detector_at l d) h.local_x h.local_y (sound.each d k) in
    let f = part_in s.detectors d (length s.flux) sound k t.flux in
    let g = part_in s.detectors d (length s.hits) sound k t.hits in
    rw (
      lt-ltb d 8 (omega (arith, sound.most)),
      lt-ltb (first_pixel_of l d + pixel_at_of (detector_at l d) h.local_x h.local_y) (length s.flux) (omega (arith, i, f)),
      lt-ltb (first_pixel_of l d + pixel_at_of (detector_at l d) h.local_x h.local_y) (length s.hits) (omega (arith, i, g)),
      t.rows,
    )

-- the call that is open to hosts, once the checks passed: only 12 and 13 are left
pub checked_record : (s : Memory) (h : DetectorHit) (p : Placed) → find_of s.detectors h.detector ≡ passed p → is_memory s ≡ true
    → record_hit_classified_of s h ≡ put_of s (cell_in s.detectors.list h) h
unfolding record_hit_classified_of record_of
checked_record s h p e m =
    let t = asked_there s.detectors h.detector p e in
    rw (e, m, holds_checked s h t.0 t.1 m)

-- ---- the detectors of the memory are those that it began with, but for totals and counts

added_kept : {A : Type 0} (g : Detector2D → A) → ((d : Detector2D) (f : Float) → g (raised d f) ≡ g d) → (b : List DetectorHit) (s : Memory) (d : ℕ)
    → g (detector_at (added s b).detectors.list d) ≡ g (detector_at s.detectors.list d)
unfolding written_at
added_kept g e b s d = added_keeps (λ m. g (detector_at m.detectors.list d)) (λ s p k. kept g e s.detectors.list k.detector.0 d k.flux_watts) b s

grid_before : (b : List DetectorHit) (s : Memory) (d : ℕ) → Gridded (detector_at (added s b).detectors.list d) → Gridded (detector_at s.detectors.list d)
grid_before b s d g = gridded_kept _ _ (added_kept (λ d. d.res_x) (λ d f. refl) b s d) (added_kept (λ d. d.res_y) (λ d f. refl) b s d) g

all_snoc : (l : List Detector2D) (b : List DetectorHit) (h : DetectorHit) → AllFit l b → Fits l h → AllFit l (b ++ h ∷ [])
unfolding AllFit
all_snoc l [] h f g = (g, tt)
all_snoc l (k ∷ b) h f g = (f.0, all_snoc l b h f.1 g)

book_fits : (s : Memory) (b : List DetectorHit) (h : DetectorHit) → AllFit s.detectors.list b → Fits s.detectors.list h → AllFit s.detectors.list (memory_left (book_hit s b h))
unfolding book_hit judged
book_fits s b h f g = go (has_pixel s h) (leb (capacity s) (length b)) (eqb (sharing (cell_in s.detectors.list) (cell_in s.detectors.list h) b) max_count || eqb (sharing number_in h.detector.0 b) max_count)
  where
    go : (x y z : Bool) → AllFit s.detectors.list (memory_left (cond x (cond y (refused 12 0 b) (cond z (refused 13 0 b) (done (b ++ h ∷ [])))) (refused 9 0 b)))
    go false y z = f
    go true true z = f
    go true false true = f
    go true false false = all_snoc s.detectors.list b h f g

-- ---- the invariant; s is the empty memory

module _ (s : Memory) (eight : length s.detectors.list ≡ 8) (empty : Empty s) where
  pub record Booked (m : Memory) : Type 0 where
    pub kept : Kept s eight empty m
    pub fit : AllFit s.detectors.list (listed m)

  pub empty_booked : Booked s
  unfolding added AllFit hits_from
  empty_booked = record { kept = ap (added s) none; fit = subst (λ b. AllFit s.detectors.list b) (sym none) tt }
    where
      none : listed s ≡ []
      none = ap (λ n. hits_from s.hit_values s.hit_tags n 0) empty.used

  -- one hit of a detector that is there into any such memory, as in a run
  pub record_books : (m : Memory) (h : DetectorHit) → h.detector.0 < s.detectors.count → Fits s.detectors.list h → Booked m → Booked (memory_left (record_of m h))
  record_books m h n g b =
      record { kept = record_keeps s eight empty m h n b.kept; fit = subst (λ b. AllFit s.detectors.list b) (sym (record_lists s eight empty m h n b.kept)) (book_fits s (listed m) h b.fit g) }

  -- a hit whose detector passed the checks
  asked_fits : (m : Memory) (h : DetectorHit) (p : Placed) → Booked m → find_of m.detectors h.detector ≡ passed p → Fits s.detectors.list h
  asked_fits m h p b e =
      let t = asked_there m.detectors h.detector p e in
      let g = t.0.each h.detector.0 t.1 in
      record {
        named = omega (arith, t.0.most, t.1, eight);
        grid = grid_before (listed m) s h.detector.0 (subst (λ (x : Memory). Gridded (detector_at x.detectors.list h.detector.0)) (sym b.kept) g);
      }

  -- the call that is open to hosts, refused or not
  pub recording_books : (m : Memory) (h : DetectorHit) → Booked m → Booked (memory_left (record_hit_classified_of m h))
  unfolding record_hit_classified_of
  recording_books m h b = go (find_of m.detectors h.detector) (is_memory m) refl
    where
      go : (c : Checked Placed) (x : Bool) → find_of m.detectors h.detector ≡ c → Booked (memory_left (unless c m (cond x (record_of m h) (refused 9 0 m))))
      go (passed p) true e = record_books m h (asked_below s eight empty m h p b.kept e) (asked_fits m h p b e) b
      go (passed p) false e = b
      go (refused_at n place) x e = b

  -- each detector's maps, total and count are what zeros become when its listed hits are added in list order
  pub booked_view : (m : Memory) (d : ℕ) → Booked m → view_in m d ≡ plus_all d (detector_at s.detectors.list d) (view_in s d) (listed m)
  booked_view m d b = ap (λ x. view_in x d) (sym b.kept) ∙ views (listed m) s d b.fit

  -- its pixels are those that it began with
  pub booked_pixels : (m : Memory) (d : ℕ) → Booked m → pixels_of (detector_at m.detectors.list d) ≡ pixels_of (detector_at s.detectors.list d)
  booked_pixels m d b = ap (λ x. pixels_of (detector_at x.detectors.list d)) (sym b.kept) ∙ added_kept pixels_of same_pixels (listed m) s d

  pub booked_pixel : (m : Memory) (d : ℕ) → Booked m → (x y : Float) → pixel_at_of (detector_at m.detectors.list d) x y ≡ pixel_at_of (detector_at s.detectors.list d) x y
  booked_pixel m d b x y = ap (λ z. pixel_at_of (detector_at z.detectors.list d) x y) (sym b.kept) ∙ added_kept (λ e. pixel_at_of e x y) (same_pixel x y) (listed m) s d
