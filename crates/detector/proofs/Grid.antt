-- The pixels of a detector that passed its check: each point lies in one of them. Assumes nothing.
use mathlib.Core.Path.{◌≡◌, refl, sym, subst}
use Prim.Native.Nat.{ℕ, ◌+◌, ◌*◌, ◌^◌, ◌≤◌, ◌<◌, zero-le}
use native.Mathlib.Nat.{le_trans, le_of_eq, mul-le-mul, mul-le-mul_right, mul_comm, add-mul, one-mul}
use native.Mathlib.Omega.{arith}
use mathlib.Core.Bool.{Bool, true, false, cond, ◌&&◌, ◌||◌}
use lib.Dec.{T, leb, eqb, leb→le}
use lib.Ieee.{Float}
use borrow.Author.Tests.{eqb-false, leb-true, le-leb}
use Rattle.error.specs.Refusals.{Checked, passed, refused_at}
use Rattle.detector.specs.declared.Detector2D.{Detector2D}
use Rattle.detector.specs.Checks.{max_res, is_size_of, check_pose_of, check_grid_of, check_detector_of}
use Rattle.detector.specs.Pixels.{index_along_of, pixel_at_of, pixels_of}
use Rattle.detector.proofs.Along.{index_in, index_most}

-- ---- no place of any record is too large for a usize

square : (p nx ny : ℕ) → p ≤ ny → ny < 2 ^ 32 → nx < 2 ^ 32 → p * nx ≤ 4294967295 * 4294967295
square p nx ny h g k =
    let a : p ≤ 4294967295 = omega arith in
    let b : nx ≤ 4294967295 = omega arith in
    mul-le-mul a b

module _ (y h : Float) (ny nx py : ℕ) (e : py ≡ index_along_of y h ny) (gy : ny < 2 ^ 32) (gx : nx < 2 ^ 32) where
  row_most : py * nx ≤ 4294967295 * 4294967295
  row_most = square py nx ny (le_trans (le_of_eq e) (index_most y h ny gy)) gy gx

  pub row_fits : py * nx < 2 ^ 64
  row_fits = omega (arith, row_most)

  pub place_most : (x w : Float) (px : ℕ) → px ≡ index_along_of x w nx → py * nx + px ≤ 4294967295 * 4294967296
  place_most x w px f = omega (arith, row_most, le_trans (le_of_eq f) (index_most x w nx gx))

  pub place_fits : (x w : Float) (px : ℕ) → px ≡ index_along_of x w nx → py * nx + px < 2 ^ 64
  place_fits x w px f = omega (arith, place_most x w px f)

pub pixel_most : (d : Detector2D) (x y : Float) → d.res_x < 2 ^ 32 → d.res_y < 2 ^ 32 → pixel_at_of d x y ≤ 4294967295 * 4294967296
unfolding pixel_at_of
pixel_most d x y gx gy = place_most y _ d.res_y d.res_x _ refl gy gx x _ _ refl

pub grid_most : (m n : ℕ) → m ≤ max_res → n ≤ max_res → m * n ≤ 2 ^ 24
grid_most m n h g = mul-le-mul h g

pub pixels_most : (d : Detector2D) → pixels_of d ≤ 2 ^ 24
unfolding pixels_of
pixels_most d = go (leb d.res_x max_res) (leb d.res_y max_res) (leb→le d.res_x max_res) (leb→le d.res_y max_res)
  where
    go : (a b : Bool) → (T a → d.res_x ≤ max_res) → (T b → d.res_y ≤ max_res) → cond (a && b) (d.res_x * d.res_y) 0 ≤ 2 ^ 24
    go true true f g = grid_most d.res_x d.res_y (f tt) (g tt)
    go true false f g = zero-le
    go false b f g = zero-le

-- ---- a detector that passed

-- both resolutions are from 1 to 4,096
pub record Gridded (d : Detector2D) : Type 0 where
  pub some_x : 0 < d.res_x
  pub some_y : 0 < d.res_y
  pub most_x : d.res_x ≤ max_res
  pub most_y : d.res_y ≤ max_res

abbrev Passes : {A : Type 0} → Checked A → Type 0
Passes (passed a) = Unit {0}
Passes (refused_at n p) = ⊥

-- what is refused has not passed
pub never : {A B : Type 0} (n p : ℕ) (a : A) → refused_at n p ≡ passed a → B
never n p a e = absurd (subst (λ c. Passes c) (sym e) tt)

pub passed_grid : (d : Detector2D) (place : ℕ) → check_detector_of d place ≡ passed tt → Gridded d
unfolding check_detector_of check_grid_of
passed_grid d place e = size (is_size_of d.width_mm && is_size_of d.height_mm) e
  where
    grid : (zx zy lx ly : Bool) (pose : Checked Unit) → eqb d.res_x 0 ≡ zx → eqb d.res_y 0 ≡ zy → leb d.res_x max_res ≡ lx → leb d.res_y max_res ≡ ly
        → Passes {A = Unit {0}} (cond (zx || zy) (refused_at 6 place) (cond (lx && ly) pose (refused_at 7 place))) → Gridded d
    grid true zy lx ly p a b c f t = absurd t
    grid false true lx ly p a b c f t = absurd t
    grid false false false ly p a b c f t = absurd t
    grid false false true false p a b c f t = absurd t
    grid false false true true p a b c f t =
        let x = eqb-false d.res_x 0 a in
        let y = eqb-false d.res_y 0 b in
        record { some_x = omega arith; some_y = omega arith; most_x = leb-true _ _ c; most_y = leb-true _ _ f }

    size : (b : Bool) → cond b (check_grid_of d place) (refused_at 5 place) ≡ passed tt → Gridded d
    size true e = grid (eqb d.res_x 0) (eqb d.res_y 0) (leb d.res_x max_res) (leb d.res_y max_res) (check_pose_of d place) refl refl refl refl (subst (λ c. Passes c) (sym e) tt)
    size false e = never 5 place tt e

-- a row and a column give a place in a grid
pub in_grid_lem : (px py nx ny : ℕ) → px < nx → py < ny → py * nx + px < nx * ny
in_grid_lem px py nx ny h g =
    let a : py + 1 ≤ ny = omega arith in
    let b : (py + 1) * nx ≤ ny * nx = mul-le-mul_right nx a in
    omega (arith, b, add-mul py 1 nx, mul_comm nx ny, one-mul nx)

pub pixels_are : (d : Detector2D) → Gridded d → pixels_of d ≡ d.res_x * d.res_y
unfolding pixels_of
pixels_are d g = rw (le-leb _ _ g.most_x, le-leb _ _ g.most_y)

pub pixel_in : (d : Detector2D) (x y : Float) → Gridded d → pixel_at_of d x y < pixels_of d
unfolding pixel_at_of
pixel_in d x y g =
    rw (pixels_are d g)
    (in_grid_lem _ _ _ _ (index_in x _ d.res_x g.some_x (omega (arith, g.most_x))) (index_in y _ d.res_y g.some_y (omega (arith, g.most_y))))
