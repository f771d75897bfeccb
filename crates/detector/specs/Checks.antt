-- What a detector is refused for: document 01, "When it says no", 5 to 8, and document 02 (c), 18. The order is 5, 6,
-- 7, 18, 8.
use Rattle.std.specs.Prelude.{ℕ, Bool, cond, ◌&&◌, ◌||◌, eqb, leb, Float}
use Rattle.std.specs.Float.{binary64}
use Rattle.std.specs.Float.Ieee.{of_bits, lt}
use Rattle.doubles.specs.Doubles.{abs_of, is_finite_of}
use Rattle.error.specs.Refusals.{Checked, passed, refused_at, after}
use Rattle.rays.specs.declared.vector.Vec3.{Vec3}
use Rattle.rays.specs.Vectors.{dot_of, has_direction_of, normalize_of, is_finite_vec_of}
use Rattle.detector.specs.declared.Detector2D.{Detector2D}

-- above 0 and finite
unfoldable pub is_size_of : Float → Bool
is_size_of x = lt (of_bits binary64 0) x && is_finite_of x

abbrev pub max_res : ℕ
max_res = 4096

-- the centre, normal and up of a detector that faces somewhere: every part is finite, and normal and up are longer than
-- 1e-15 and of finite length
unfoldable pub is_pose_of : Vec3 → Vec3 → Vec3 → Bool
is_pose_of c n u = is_finite_vec_of c && is_finite_vec_of n && is_finite_vec_of u && has_direction_of n && has_direction_of u

-- unit normal dot unit up beyond 0.9999 in size
unfoldable pub is_parallel_of : Vec3 → Vec3 → Bool
is_parallel_of n u = lt (of_bits binary64 0x3fefff2e48e8a71e) (abs_of (dot_of (normalize_of n) (normalize_of u)))

-- 18, 8
unfoldable pub check_pose_of : Detector2D → ℕ → Checked Unit
check_pose_of d place =
    cond (is_pose_of d.center d.normal d.up)
    (cond (is_parallel_of d.normal d.up) (refused_at 8 place) (passed tt)) (refused_at 18 place)

-- 6, 7, then the pose
unfoldable pub check_grid_of : Detector2D → ℕ → Checked Unit
check_grid_of d place =
    cond (eqb d.res_x 0 || eqb d.res_y 0) (refused_at 6 place)
    (cond (leb d.res_x max_res && leb d.res_y max_res) (check_pose_of d place) (refused_at 7 place))

-- 5, then these
unfoldable pub check_detector_of : Detector2D → ℕ → Checked Unit
check_detector_of d place =
    cond (is_size_of d.width_mm && is_size_of d.height_mm) (check_grid_of d place) (refused_at 5 place)

-- a new detector has caught nothing
unfoldable pub new_detector_of : Vec3 → Vec3 → Vec3 → Float → Float → ℕ → ℕ → Checked Detector2D
new_detector_of c n u w h resx resy =
    let d : Detector2D = record {
      center = c;
      normal = n;
      up = u;
      width_mm = w;
      height_mm = h;
      res_x = resx;
      res_y = resy;
      total_flux_watts = of_bits binary64 0;
      total_rays_hit = 0;
    } in
    after (check_detector_of d 0) (passed d)
