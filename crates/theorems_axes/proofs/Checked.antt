-- A detector that passes its check has three unit vectors for axes, so that none of their parts is NaN and no detector
-- misses all light for want of a direction; and the dot product that 8 asks for is a number. Assumes nothing.
use Prim.Native.Nat.{ℕ}
use mathlib.Core.Path.{◌≡◌}
use mathlib.Core.Bool.{true, ◌&&◌}
use Rattle.doubles.specs.Doubles.{is_finite_of}
use Rattle.doubles.proofs.Floats.{and_left, and_right, and_both}
use Rattle.error.specs.Refusals.{passed}
use Rattle.rays.specs.declared.vector.Vec3.{Vec3}
use Rattle.rays.specs.Vectors.{dot_of, has_direction_of, normalize_of, is_finite_vec_of}
use Rattle.detector.specs.declared.Detector2D.{Detector2D}
use Rattle.detector.specs.Checks.{is_pose_of, check_detector_of}
use Rattle.detector.specs.Faces.{face_of}
use Rattle.detector.proofs.Refused.{passed_pose}
use Rattle.theorems_axes.specs.Axes.{are_doubles, IsUnit, UnitAxes}
use Rattle.theorems_axes.proofs.Values.{has_finite}
use Rattle.theorems_axes.proofs.Axes.{dot_number, unit_normal, unit-orthogonal, unit-cross}

-- no part of a unit vector is NaN or infinite
pub unit_finite : (v : Vec3) → IsUnit v → is_finite_vec_of v ≡ true
unfolding is_finite_vec_of
unit_finite v k =
    and_both (is_finite_of v.x && is_finite_of v.y) (is_finite_of v.z)
    (and_both (is_finite_of v.x) (is_finite_of v.y) (has_finite v.x k.r k.a k.is_x) (has_finite v.y k.s k.b k.is_y))
    (has_finite v.z k.t k.c k.is_z)

-- what a pose says of normal and up
record Facing (n u : Vec3) : Type 0 where
  finite_n : is_finite_vec_of n ≡ true
  finite_u : is_finite_vec_of u ≡ true
  long_n : has_direction_of n ≡ true
  long_u : has_direction_of u ≡ true

facing : (c n u : Vec3) → is_pose_of c n u ≡ true → Facing n u
unfolding is_pose_of
facing c n u e =
    let C = is_finite_vec_of c in
    let N = is_finite_vec_of n in
    let U = is_finite_vec_of u in
    let four = and_left (C && N && U && has_direction_of n) (has_direction_of u) e in
    let all = and_left (C && N && U) (has_direction_of n) four in
    record {
      finite_n = and_right C N (and_left (C && N) U all);
      finite_u = and_right (C && N) U all;
      long_n = and_right (C && N && U) (has_direction_of n) four;
      long_u = and_right (C && N && U && has_direction_of n) (has_direction_of u) e;
    }

-- where 18 is not given, what 8 compares with 0.9999 is a number
pub dot_finite : (c n u : Vec3) → are_doubles n ≡ true → are_doubles u ≡ true → is_pose_of c n u ≡ true → is_finite_of (dot_of (normalize_of n) (normalize_of u)) ≡ true
dot_finite c n u t t' e =
    let f = facing c n u e in
    dot_number n u f.finite_n f.finite_u t t' f.long_n f.long_u

pub axes : (d : Detector2D) (place : ℕ) → are_doubles d.normal ≡ true → are_doubles d.up ≡ true → check_detector_of d place ≡ passed tt → UnitAxes (face_of d)
unfolding face_of
axes d place t t' e =
    let n = d.normal in
    let u = d.up in
    let p = passed_pose d place e in
    let f = facing d.center n u p.0 in
    record {
      normal = unit_normal n u f.finite_n f.finite_u t t' f.long_n f.long_u;
      up = unit-orthogonal n u f.finite_n f.finite_u t t' f.long_n f.long_u p.1;
      right = unit-cross n u f.finite_n f.finite_u t t' f.long_n f.long_u p.1;
    }
