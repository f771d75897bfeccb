-- What holds of detectors that passed the check: each has its pixels, none shares one with another, and the pixel of every point of one is among its own. Assumes nothing.
use Prim.Native.Nat.{ℕ, zero, suc, ◌+◌, ◌*◌, ◌≤◌, ◌<◌}
use mathlib.Core.Path.{◌≡◌, refl, sym, ap, ◌∙◌}
use mathlib.Core.Bool.{Bool, true, false, cond}
use mathlib.Core.List.{List}
use mathlib.Core.Logic.{◌⊎◌, inl, inr}
use Prim.{Dec, yes, no}
use native.Mathlib.Omega.{arith}
use native.Mathlib.Nat.{add-zero, zero-add}
use native.Mathlib.Decide.{ℕ_discrete, dec_le}
use lib.Dec.{leb, ltb}
use borrow.Author.Tests.{leb-true, ltb-true, le-leb}
use Rattle.error.specs.Refusals.{Checked, passed, refused_at, after}
use Rattle.detector.specs.declared.DetectorNo.{DetectorNo}
use Rattle.detector.specs.declared.Detector2D.{Detector2D}
use Rattle.detector.specs.Checks.{check_detector_of}
use Rattle.detector.specs.Pixels.{pixels_of}
use Rattle.detector.proofs.Grid.{never, Gridded, passed_grid, pixels_are}
use Rattle.detectors.specs.declared.Detectors.{Detectors}
use Rattle.detectors.specs.declared.Placed.{Placed}
use Rattle.detectors.specs.Detectors.{max_detectors, detector_at, first_pixel_of, all_pixels_of, check_count_of, check_list_of, check_each_of, check_detectors_of, check_asked, placed_of, find_of}

-- ---- what passed

pub record Sound (ds : Detectors) : Type 0 where
  pub most : ds.count ≤ max_detectors
  pub each : (i : ℕ) → i < ds.count → Gridded (detector_at ds.list i)

pub counted : (n : ℕ) → check_count_of n ≡ passed tt → n ≤ max_detectors
unfolding check_count_of
counted n = go (leb n max_detectors) refl
  where
    go : (b : Bool) → leb n max_detectors ≡ b → ◌≡◌ {A = Checked Unit} (cond b (passed tt) (refused_at 3 0)) (passed tt) → n ≤ max_detectors
    go true e k = leb-true _ _ e
    go false e k = never 3 0 tt k

pub count_passes : (n : ℕ) → n ≤ max_detectors → check_count_of n ≡ passed tt
unfolding check_count_of
count_passes n k = rw (le-leb n max_detectors k)

pub both_passed : {A : Type 0} (a : A) (c : Checked Unit) (x : Checked A) → after c x ≡ passed a → (c ≡ passed tt) × (x ≡ passed a)
both_passed a (passed tt) x e = (refl, e)
both_passed a (refused_at n p) x e = never n p a e

pub pieces : (ds : Detectors) → check_detectors_of ds ≡ passed tt → (ds.count ≤ max_detectors) × (check_each_of ds ≡ passed tt)
unfolding check_detectors_of
pieces ds e =
    let p = both_passed tt (check_count_of ds.count) (check_each_of ds) e in
    (counted ds.count p.0, p.1)

pub whole : (ds : Detectors) → ds.count ≤ max_detectors → check_each_of ds ≡ passed tt → check_detectors_of ds ≡ passed tt
unfolding check_detectors_of
whole ds k e = rw (count_passes ds.count k, e)

pub each_is : (ds : Detectors) → ds.count ≤ max_detectors → check_each_of ds ≡ check_list_of ds.list ds.count 0
unfolding check_each_of
each_is ds k = rw (le-leb ds.count max_detectors k)

pub count_most : (ds : Detectors) → passed tt ≡ check_detectors_of ds → ds.count ≤ 8
count_most ds e = (pieces ds (sym e)).0

each_passed : (l : List Detector2D) (n i j : ℕ) → check_list_of l n i ≡ passed tt → j < n → Gridded (detector_at l (i + j))
unfolding check_list_of
each_passed l zero i j e k = absurd (omega arith)
each_passed l (suc n) i zero e k = rw add-zero (passed_grid (detector_at l i) i (both_passed tt (check_detector_of (detector_at l i) i) (check_list_of l n (i + 1)) e).0)
each_passed l (suc n) i (suc j) e k =
    let q : i + suc j ≡ i + 1 + j = omega arith in
    rw q (each_passed l n (i + 1) j (both_passed tt (check_detector_of (detector_at l i) i) (check_list_of l n (i + 1)) e).1 (omega arith))

pub sound : (ds : Detectors) → check_detectors_of ds ≡ passed tt → Sound ds
sound ds e =
    let p = pieces ds e in
    record { most = p.0; each = λ i k. rw zero-add at (each_passed ds.list ds.count 0 i (sym (each_is ds p.0) ∙ p.1) k) }

pub asked_sound : (ds : Detectors) (d : DetectorNo) → check_asked ds d ≡ passed tt → Sound ds × (d.0 < ds.count)
unfolding check_asked
asked_sound ds d e =
    let b = both_passed tt (check_detectors_of ds) _ e in
    (sound ds b.0, go (ltb d.0 ds.count) refl b.1)
  where
    go : (b : Bool) → ltb d.0 ds.count ≡ b → ◌≡◌ {A = Checked Unit} (cond b (passed tt) (refused_at 4 0)) (passed tt) → d.0 < ds.count
    go true t e = ltb-true _ _ t
    go false t e = never 4 0 tt e

abbrev held : {A : Type 0} → A → Checked A → A
held z (passed x) = x
held z (refused_at n p) = z

inside : {A : Type 0} (a b : A) → passed a ≡ passed b → a ≡ b
inside a b e = ap (λ c. held a c) e

pub asked_there : (ds : Detectors) (d : DetectorNo) (p : Placed) → find_of ds d ≡ passed p → Sound ds × (d.0 < ds.count) × (p ≡ placed_of ds.list d.0)
unfolding find_of
asked_there ds d p e =
    let b = both_passed p (check_asked ds d) _ e in
    let s = asked_sound ds d b.0 in
    (s.0, s.1, sym (inside _ _ b.1))

-- ---- where pixels lie

-- a detector's pixels end before those of any later one start
pub first_part : (l : List Detector2D) (i n : ℕ) → i < n → first_pixel_of l i + pixels_of (detector_at l i) ≤ first_pixel_of l n
unfolding first_pixel_of
first_part l i zero k = absurd (omega arith)
first_part l i (suc n) k =
    elim (ℕ_discrete i n) [ yes e ↦ rw e (omega arith) | no e ↦ omega (arith, first_part l i n (omega arith)) ]

-- no two detectors share a pixel
pub apart : (l : List Detector2D) (d k : ℕ) → (d ≡ k → ⊥)
    → (first_pixel_of l d + pixels_of (detector_at l d) ≤ first_pixel_of l k) ⊎ (first_pixel_of l k + pixels_of (detector_at l k) ≤ first_pixel_of l d)
apart l d k n = go (dec_le d k)
  where
    go : Dec (d ≤ k) → (first_pixel_of l d + pixels_of (detector_at l d) ≤ first_pixel_of l k) ⊎ (first_pixel_of l k + pixels_of (detector_at l k) ≤ first_pixel_of l d)
    go (yes h) = inl (first_part l d k (omega arith))
    go (no h) = inr (first_part l k d (omega arith))

pub all_are : (ds : Detectors) → Sound ds → all_pixels_of ds ≡ first_pixel_of ds.list ds.count
unfolding all_pixels_of
all_are ds s = rw (le-leb _ _ s.most)

-- the pixels of a detector that passed lie in a map of all pixels
pub part_in : (ds : Detectors) (d n : ℕ) → Sound ds → d < ds.count → n ≡ all_pixels_of ds → first_pixel_of ds.list d + pixels_of (detector_at ds.list d) ≤ n
part_in ds d n s k e = omega (arith, e, all_are ds s, first_part ds.list d ds.count k)

-- ---- what `irradiance_at` needs

pub grid_in : (ds : Detectors) (d : DetectorNo) (p : Placed) (n m : ℕ) → passed p ≡ find_of ds d → m ≡ all_pixels_of ds → n ≡ m → p.first + p.detector.res_x * p.detector.res_y ≤ n
unfolding placed_of
grid_in ds d p n m e g h =
    let t = asked_there ds d p (sym e) in
    rw t.2
    (omega (arith, part_in ds d.0 n t.0 t.1 (h ∙ g), pixels_are _ (t.0.each d.0 t.1)))
