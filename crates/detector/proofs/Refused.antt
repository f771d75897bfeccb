-- What a detector's check answers and what it looks at, for those that do not open it. Assumes nothing.
use Prim.Native.Nat.{ℕ}
use mathlib.Core.Path.{◌≡◌, refl}
use mathlib.Core.Bool.{Bool, true, false, cond, ◌&&◌, ◌||◌}
use lib.Dec.{leb, eqb}
use lib.Ieee.{Float}
use Rattle.error.specs.Refusals.{Checked, passed, refused_at}
use Rattle.detector.specs.declared.Detector2D.{Detector2D}
use Rattle.detector.specs.Checks.{max_res, is_size_of, is_pose_of, is_parallel_of, check_pose_of, check_grid_of, check_detector_of}
use Rattle.detector.proofs.Grid.{never}

-- 18 is asked before 8
pub pose_first : (d : Detector2D) (place : ℕ) → is_pose_of d.center d.normal d.up ≡ false → check_pose_of d place ≡ refused_at 18 place
unfolding check_pose_of
pose_first d place e = rw e

-- what holds of each answer that there is holds of the check's
pub by_check : (P : Checked Unit → Type 0) (d : Detector2D) (place : ℕ) → P (refused_at 5 place) → P (refused_at 6 place) → P (refused_at 7 place) → P (refused_at 18 place) → P (refused_at 8 place) → P (passed tt) → P (check_detector_of d place)
unfolding check_detector_of check_grid_of check_pose_of
by_check P d place p5 p6 p7 p18 p8 p =
    either (is_size_of d.width_mm && is_size_of d.height_mm)
    (either (eqb d.res_x 0 || eqb d.res_y 0) p6
    (either (leb d.res_x max_res && leb d.res_y max_res)
    (either (is_pose_of d.center d.normal d.up) (either (is_parallel_of d.normal d.up) p8 p) p18) p7))
    p5
  where
    either : (t : Bool) {a b : Checked Unit} → P a → P b → P (cond t a b)
    either true x y = x
    either false x y = y

-- what the detector has caught is not looked at
pub check_unseen : (d : Detector2D) (flux : Float) (hits place : ℕ) → let e : Detector2D = record {
  center = d.center;
  normal = d.normal;
  up = d.up;
  width_mm = d.width_mm;
  height_mm = d.height_mm;
  res_x = d.res_x;
  res_y = d.res_y;
  total_flux_watts = flux;
  total_rays_hit = hits;
} in check_detector_of e place ≡ check_detector_of d place
unfolding check_detector_of check_grid_of check_pose_of
check_unseen d flux hits place = refl

-- a detector that passes: a centre, normal and up that face somewhere, and no parallel ones
pub passed_pose : (d : Detector2D) (place : ℕ) → check_detector_of d place ≡ passed tt → (is_pose_of d.center d.normal d.up ≡ true) × (is_parallel_of d.normal d.up ≡ false)
unfolding check_detector_of check_grid_of check_pose_of
passed_pose d place e =
    go (is_size_of d.width_mm && is_size_of d.height_mm) (eqb d.res_x 0 || eqb d.res_y 0) (leb d.res_x max_res && leb d.res_y max_res)
    (is_pose_of d.center d.normal d.up) (is_parallel_of d.normal d.up) e
  where
    go : (size none large pose parallel : Bool) → ◌≡◌ {A = Checked Unit} (cond size (cond none (refused_at 6 place) (cond large (cond pose (cond parallel (refused_at 8 place) (passed tt)) (refused_at 18 place)) (refused_at 7 place))) (refused_at 5 place)) (passed tt) → (pose ≡ true) × (parallel ≡ false)
    go false none large pose parallel e = never 5 place tt e
    go true true large pose parallel e = never 6 place tt e
    go true false false pose parallel e = never 7 place tt e
    go true false true false parallel e = never 18 place tt e
    go true false true true true e = never 8 place tt e
    go true false true true false e = (refl, refl)
