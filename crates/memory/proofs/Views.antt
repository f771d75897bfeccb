-- Each detector's maps, total and count are what its own hits make of its own. Assumes nothing.
use Prim.{yes, no, Unit, tt}
use Prim.Native.Nat.{ℕ, ◌+◌, ◌-◌, ◌≤◌, ◌<◌}
use mathlib.Core.Path.{◌≡◌, refl, ap, sym, ◌∙◌}
use mathlib.Core.Bool.{cond}
use mathlib.Core.Logic.{◌⊎◌, inl, inr}
use mathlib.Core.List.{List, [], ◌∷◌}
use native.Mathlib.Omega.{arith}
use native.Mathlib.Decide.{ℕ_discrete}
use lib.Dec.{eqb}
use lib.Ieee.{Float, nan, add, binary64}
use lib.ListN.{length, get_or, set, take, drop, length-set}
use lib.Seq.{get_or-set_same, get_or-set_other, drop-set-add, drop-set-lt, take-set-lt, take-set-le, get_or-take, get_or-drop}
use borrow.Author.Tests.{eq-eqb, ne_eqb}
use Rattle.detector.specs.declared.Detector2D.{Detector2D}
use Rattle.detector.specs.Pixels.{pixels_of, pixel_at_of}
use Rattle.detector.proofs.Grid.{Gridded, pixel_in}
use Rattle.detector.specs.declared.DetectorHit.{DetectorHit}
use Rattle.detectors.specs.Detectors.{no_detector, detector_at, first_pixel_of, placed_of}
use Rattle.memory.specs.Memory.{Memory, raised, written_at, cell_of, cell_in}
use Rattle.memory.specs.Plain.{added, View, part_in, view_in, plus_hit, plus_all}
use Rattle.detectors.proofs.Passed.{apart}
use Rattle.memory.proofs.Keeps.{kept, written_pixels, written_pixel, written_first}

-- ---- a store seen through a part

module _ (A : Type 0) (l : List A) (base n : ℕ) where
  part_set : (p : ℕ) (v : A) → p < n → take n (drop base (set l (base + p) v)) ≡ set (take n (drop base l)) p v
  part_set p v k = ap (take n) (drop-set-add base l p v) ∙ take-set-lt n (drop base l) p v k

  pub part_get : (p : ℕ) (z : A) → p < n → get_or (take n (drop base l)) p z ≡ get_or l (base + p) z
  part_get p z k = get_or-take n (drop base l) p z k ∙ get_or-drop base l p z

  part_before : (c : ℕ) (v : A) → c < base → take n (drop base (set l c v)) ≡ take n (drop base l)
  part_before c v k = ap (take n) (drop-set-lt base l c v k)

  part_behind : (c : ℕ) (v : A) → base + n ≤ c → take n (drop base (set l c v)) ≡ take n (drop base l)
  part_behind c v k =
      let e : c ≡ base + (c - base) = omega arith in
      ap (λ m. take n (drop base (set l m v))) e ∙ ap (take n) (drop-set-add base l (c - base) v) ∙ take-set-le n (drop base l) (c - base) v (omega arith)

same_view : (t t' : Float) (c c' : ℕ) (f f' : List Float) (n n' : List ℕ) → t ≡ t' → c ≡ c' → f ≡ f' → n ≡ n'
    → ◌≡◌ {A = View} (record { total = t; count = c; flux = f; hits = n }) (record { total = t'; count = c'; flux = f'; hits = n' })
same_view t t' c c' f f' n n' et ec ef en = cc

-- ---- a detector's part of a map, seen by two lists of detectors with the same pixels

module _ (A : Type 0) (l l' : List Detector2D) (d : ℕ) (m : List A) (e : pixels_of (detector_at l' d) ≡ pixels_of (detector_at l d)) (f : first_pixel_of l' d ≡ first_pixel_of l d) where
  own_part : (p : ℕ) (v : A) → p < pixels_of (detector_at l d) → part_in A l' d (set m (first_pixel_of l d + p) v) ≡ set (part_in A l d m) p v
  unfolding part_in
  own_part p v k = rw (e, f) (part_set A m (first_pixel_of l d) (pixels_of (detector_at l d)) p v k)

  own_read : (p : ℕ) (z : A) → p < pixels_of (detector_at l d) → get_or m (first_pixel_of l d + p) z ≡ get_or (part_in A l d m) p z
  unfolding part_in
  own_read p z k = sym (part_get A m (first_pixel_of l d) (pixels_of (detector_at l d)) p z k)

  other_part : (c : ℕ) (v : A) → (c < first_pixel_of l d) ⊎ (first_pixel_of l d + pixels_of (detector_at l d) ≤ c) → part_in A l' d (set m c v) ≡ part_in A l d m
  unfolding part_in
  other_part c v (inl k) = rw (e, f) (part_before A m (first_pixel_of l d) (pixels_of (detector_at l d)) c v k)
  other_part c v (inr k) = rw (e, f) (part_behind A m (first_pixel_of l d) (pixels_of (detector_at l d)) c v k)

-- ---- one hit

-- a hit whose detector is there and has its pixels
pub record Fits (l : List Detector2D) (h : DetectorHit) : Type 0 where
  pub named : h.detector.0 < length l
  pub grid : Gridded (detector_at l h.detector.0)

module _ (s : Memory) (h : DetectorHit) (fits : Fits s.detectors.list h) where
  abbrev list : List Detector2D
  list = s.detectors.list

  abbrev own : ℕ
  own = h.detector.0

  abbrev cell : ℕ
  cell = cell_in list h

  abbrev next : Memory
  next = written_at s cell h

  abbrev pixel : ℕ
  pixel = pixel_at_of (detector_at list own) h.local_x h.local_y

  inside : pixel < pixels_of (detector_at list own)
  inside = pixel_in (detector_at list own) h.local_x h.local_y fits.grid

  cell_is : cell ≡ first_pixel_of list own + pixel
  unfolding cell_in cell_of placed_of
  cell_is = refl

  raised_own : detector_at next.detectors.list own ≡ raised (detector_at list own) h.flux_watts
  unfolding written_at
  raised_own = get_or-set_same list own _ no_detector fits.named

  flux_stored : next.flux ≡ set s.flux (first_pixel_of list own + pixel) (add binary64 (get_or s.flux (first_pixel_of list own + pixel) nan) h.flux_watts)
  unfolding written_at cell_in cell_of placed_of
  flux_stored = refl

  hits_stored : next.hits ≡ set s.hits (first_pixel_of list own + pixel) (get_or s.hits (first_pixel_of list own + pixel) 0 + 1)
  unfolding written_at cell_in cell_of placed_of
  hits_stored = refl

  flux_own : part_in Float next.detectors.list own next.flux ≡ set (part_in Float list own s.flux) pixel (add binary64 (get_or (part_in Float list own s.flux) pixel nan) h.flux_watts)
  flux_own =
      ap (part_in Float next.detectors.list own) flux_stored
      ∙ own_part Float list next.detectors.list own s.flux (written_pixels s cell h own) (written_first s cell h own) pixel _ inside
      ∙ ap (λ x. set (part_in Float list own s.flux) pixel (add binary64 x h.flux_watts)) (own_read Float list list own s.flux refl refl pixel nan inside)

  hits_own : part_in ℕ next.detectors.list own next.hits ≡ set (part_in ℕ list own s.hits) pixel (get_or (part_in ℕ list own s.hits) pixel 0 + 1)
  hits_own =
      ap (part_in ℕ next.detectors.list own) hits_stored
      ∙ own_part ℕ list next.detectors.list own s.hits (written_pixels s cell h own) (written_first s cell h own) pixel _ inside
      ∙ ap (λ x. set (part_in ℕ list own s.hits) pixel (x + 1)) (own_read ℕ list list own s.hits refl refl pixel 0 inside)

  -- its own detector takes it
  view_own : view_in next own ≡ plus_hit (detector_at list own) (view_in s own) h
  unfolding view_in plus_hit
  view_own =
      same_view _ _ _ _ _ _ _ _ (ap (λ e. e.total_flux_watts) raised_own) (ap (λ e. e.total_rays_hit) raised_own) flux_own hits_own

  outside : (d : ℕ) → (own ≡ d → ⊥) → (cell < first_pixel_of list d) ⊎ (first_pixel_of list d + pixels_of (detector_at list d) ≤ cell)
  outside d n = go (apart list own d n)
    where
      go : (first_pixel_of list own + pixels_of (detector_at list own) ≤ first_pixel_of list d) ⊎ (first_pixel_of list d + pixels_of (detector_at list d) ≤ first_pixel_of list own)
          → (cell < first_pixel_of list d) ⊎ (first_pixel_of list d + pixels_of (detector_at list d) ≤ cell)
      go (inl k) = inl (omega (arith, inside, cell_is, k))
      go (inr k) = inr (omega (arith, cell_is, k))

  kept_other : (d : ℕ) → (own ≡ d → ⊥) → detector_at next.detectors.list d ≡ detector_at list d
  unfolding written_at
  kept_other d n = get_or-set_other list own d _ no_detector (λ q. n (sym q))

  flux_set : next.flux ≡ set s.flux cell (add binary64 (get_or s.flux cell nan) h.flux_watts)
  unfolding written_at
  flux_set = refl

  hits_set : next.hits ≡ set s.hits cell (get_or s.hits cell 0 + 1)
  unfolding written_at
  hits_set = refl

  -- every other keeps what it has
  view_other : (d : ℕ) → (own ≡ d → ⊥) → view_in next d ≡ view_in s d
  unfolding view_in
  view_other d n =
      same_view _ _ _ _ _ _ _ _ (ap (λ e. e.total_flux_watts) (kept_other d n)) (ap (λ e. e.total_rays_hit) (kept_other d n))
      (ap (part_in Float next.detectors.list d) flux_set ∙ other_part Float list next.detectors.list d s.flux (written_pixels s cell h d) (written_first s cell h d) cell _ (outside d n))
      (ap (part_in ℕ next.detectors.list d) hits_set ∙ other_part ℕ list next.detectors.list d s.hits (written_pixels s cell h d) (written_first s cell h d) cell _ (outside d n))

  view_written : (d : ℕ) → view_in next d ≡ cond (eqb own d) (plus_hit (detector_at list d) (view_in s d) h) (view_in s d)
  view_written d =
      elim (ℕ_discrete own d) [
        | yes e ↦ rw (sym e, eq-eqb own own refl) view_own
        | no n ↦ rw (ne_eqb own d n) (view_other d n)
      ]

-- ---- any number of hits

unfoldable pub AllFit : List Detector2D → List DetectorHit → Type 0
AllFit l [] = Unit {0}
AllFit l (h ∷ b) = Fits l h × AllFit l b

pub gridded_kept : (d e : Detector2D) → d.res_x ≡ e.res_x → d.res_y ≡ e.res_y → Gridded d → Gridded e
gridded_kept d e p q g = record { some_x = rw p at g.some_x; some_y = rw q at g.some_y; most_x = rw p at g.most_x; most_y = rw q at g.most_y }

fits_written : (s : Memory) (p : ℕ) (k h : DetectorHit) → Fits s.detectors.list h → Fits (written_at s p k).detectors.list h
unfolding written_at
fits_written s p k h f =
    let l = s.detectors.list in
    record {
      named = simp length-set f.named;
      grid = gridded_kept (detector_at l h.detector.0) _ (sym (kept (λ d. d.res_x) (λ d f. refl) l k.detector.0 h.detector.0 k.flux_watts)) (sym (kept (λ d. d.res_y) (λ d f. refl) l k.detector.0 h.detector.0 k.flux_watts)) f.grid;
    }

all_written : (b : List DetectorHit) (s : Memory) (p : ℕ) (k : DetectorHit) → AllFit s.detectors.list b → AllFit (written_at s p k).detectors.list b
unfolding AllFit
all_written [] s p k f = tt
all_written (h ∷ b) s p k f = (fits_written s p k h f.0, all_written b s p k f.1)

-- a hit's place is all that is read of the detector
pub plus_same : (d : ℕ) (e e' : Detector2D) → ((x y : Float) → pixel_at_of e' x y ≡ pixel_at_of e x y) → (b : List DetectorHit) (v : View) → plus_all d e' v b ≡ plus_all d e v b
unfolding plus_all plus_hit
plus_same d e e' f [] v = refl
plus_same d e e' f (h ∷ b) v = rw (f h.local_x h.local_y) (plus_same d e e' f b _)

-- each detector's maps, total and count are what its own hits of b, in list order, make of its own
pub views : (b : List DetectorHit) (s : Memory) (d : ℕ) → AllFit s.detectors.list b → view_in (added s b) d ≡ plus_all d (detector_at s.detectors.list d) (view_in s d) b
unfolding added plus_all AllFit
views [] s d f = refl
views (h ∷ b) s d f =
    let c = cell_in s.detectors.list h in
    let w = written_at s c h in
    views b w d (all_written b s c h f.1)
    ∙ plus_same d (detector_at s.detectors.list d) (detector_at w.detectors.list d) (written_pixel s c h d) b (view_in w d)
    ∙ ap (λ v. plus_all d (detector_at s.detectors.list d) v b) (view_written s h f.0 d)
