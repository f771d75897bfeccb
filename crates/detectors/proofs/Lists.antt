-- A list of detectors: its check turn by turn, and where pixels start. Assumes nothing.
use Rattle.std.specs.Prelude.{None, Some}
use Rattle.std.proofs.lemmas.Option.{cond_some, none-some}
use Prim.Native.Nat.{ℕ, zero, suc, ◌+◌, ◌-◌, ◌*◌, ◌^◌, ◌≤◌, ◌<◌}
use mathlib.Core.Path.{◌≡◌, refl, sym, ap, ◌∙◌}
use mathlib.Core.Bool.{Bool, true, false, cond}
use mathlib.Core.List.{List}
use native.Mathlib.Omega.{arith}
use native.Mathlib.Numerals.{add-one}
use lib.Dec.{ltb}
use borrow.Author.Tests.{ltb-true}
use Rattle.error.specs.Refusals.{Checked, passed, refused_at, after}
use Rattle.detector.specs.declared.DetectorNo.{DetectorNo}
use Rattle.detector.specs.declared.Detector2D.{Detector2D}
use Rattle.detector.specs.Checks.{check_detector_of}
use Rattle.detector.specs.Pixels.{pixels_of}
use Rattle.detector.proofs.Grid.{pixels_most}
use Rattle.detectors.specs.declared.Detectors.{Detectors}
use Rattle.detectors.specs.declared.Placed.{Placed}
use Rattle.detectors.specs.Detectors.{detector_at, first_pixel_of, placed_of, at_of, check_count_of, check_list_of, check_each_of, check_detectors_of}

-- ---- the check, turn by turn

module _ (l : List Detector2D) (n i : ℕ) (z : Checked Unit) (p : i < n) (e : check_list_of l (n - i) i ≡ z) where
  one : after (check_detector_of (detector_at l i) i) (check_list_of l (n - (i + 1)) (i + 1)) ≡ z
  unfolding check_list_of
  one = let q : n - i ≡ suc (n - (i + 1)) = omega arith in rw q at e

  pub check_again : passed tt ≡ check_detector_of (detector_at l i) i → check_list_of l (n - (i + 1)) (i + 1) ≡ z
  check_again f = rw (sym f) at one

  pub check_refused : (number place : ℕ) → refused_at number place ≡ check_detector_of (detector_at l i) i → refused_at number place ≡ z
  check_refused number place f = rw (sym f) at one

pub check_end : (l : List Detector2D) (n i : ℕ) (z : Checked Unit) → n ≤ i → check_list_of l (n - i) i ≡ z → passed tt ≡ z
unfolding check_list_of
check_end l n i z p e = let q : n - i ≡ 0 = omega arith in rw q at e

-- ---- lists of which each detector is checked as the other's

list_same : (l k : List Detector2D) → ((i : ℕ) → check_detector_of (detector_at k i) i ≡ check_detector_of (detector_at l i) i) → (n i : ℕ) → check_list_of k n i ≡ check_list_of l n i
unfolding check_list_of
list_same l k same zero i = refl
list_same l k same (suc n) i = rw (same i, list_same l k same n (i + 1))

module _ (ds es : Detectors) (count : es.count ≡ ds.count) where
  pub each_same : ((i : ℕ) → check_detector_of (detector_at es.list i) i ≡ check_detector_of (detector_at ds.list i) i) → check_each_of es ≡ check_each_of ds
  unfolding check_each_of
  each_same same = rw (count, list_same ds.list es.list same ds.count 0)

  pub all_same : check_each_of es ≡ check_each_of ds → check_detectors_of es ≡ check_detectors_of ds
  unfolding check_detectors_of
  all_same same = ap (λ n. after (check_count_of n) (check_each_of es)) count ∙ ap (after (check_count_of ds.count)) same

-- ---- pixels

pub first_more : (l : List Detector2D) (i : ℕ) → first_pixel_of l (i + 1) ≡ first_pixel_of l i + pixels_of (detector_at l i)
unfolding first_pixel_of
first_more l i = ap (first_pixel_of l) (add-one i)

-- at most 2 ^ 24 each
pub first_most : (l : List Detector2D) (i sum : ℕ) → sum ≡ first_pixel_of l i → sum ≤ i * 2 ^ 24
unfolding first_pixel_of
first_most l zero sum e = omega (arith, e)
first_most l (suc i) sum e = omega (arith, e, first_most l i _ refl, pixels_most (detector_at l i))

pub turn_most : (d : Detector2D) (m : ℕ) → m ≡ pixels_of d → m ≤ 2 ^ 24
turn_most d m e = omega (arith, e, pixels_most d)

-- ---- detector d of the list

pub there : (ds : Detectors) (d : DetectorNo) (p : Placed) → at_of ds d ≡ Some p → (d.0 < 8) × (p ≡ placed_of ds.list d.0)
unfolding at_of
there ds d p e = let c = cond_some (ltb d.0 8) (placed_of ds.list d.0) p e in (ltb-true _ _ c.0, sym c.1)

pub nowhere : (ds : Detectors) (d : DetectorNo) → at_of ds d ≡ None → ltb d.0 8 ≡ false
unfolding at_of
nowhere ds d e = go (ltb d.0 8) e
  where
    go : (b : Bool) → cond b (Some (placed_of ds.list d.0)) None ≡ None → b ≡ false
    go true e = absurd (none-some _ (sym e))
    go false e = refl

-- its first pixel is not far
pub there_first : (ds : Detectors) (d : DetectorNo) (p : Placed) → at_of ds d ≡ Some p → p.first ≤ 8 * 2 ^ 24
unfolding placed_of
there_first ds d p e =
    let t = there ds d p e in
    omega (arith, first_most ds.list d.0 p.first (ap (λ x. x.first) t.1), t.0)

pub there_below : (ds : Detectors) (d : DetectorNo) (p : Placed) → at_of ds d ≡ Some p → d.0 < 8
there_below ds d p e = (there ds d p e).0
