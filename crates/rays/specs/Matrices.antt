-- 4 by 4 matrices. A row's product adds left to right, the fourth column included.
use Rattle.std.specs.Prelude.{Float}
use Rattle.std.specs.Float.{binary64}
use Rattle.std.specs.Float.Ieee.{add, mul, of_bits}
use Rattle.rays.specs.declared.vector.Vec3.{Vec3}
use Rattle.rays.specs.declared.matrix.Row.{Row}
use Rattle.rays.specs.declared.matrix.Mat4.{Mat4}
use Rattle.rays.specs.Vectors.{vec3}

-- the row times (v, last)
unfoldable pub row_times_of : Row → Vec3 → Float → Float
row_times_of m v last =
    add binary64 (add binary64 (add binary64 (mul binary64 m.a v.x) (mul binary64 m.b v.y))
    (mul binary64 m.c v.z))
    (mul binary64 m.d last)

-- the first three rows times (v, last)
unfoldable pub times_of : Mat4 → Vec3 → Float → Vec3
times_of m v last = vec3 (row_times_of m.r0 v last) (row_times_of m.r1 v last) (row_times_of m.r2 v last)

unfoldable pub transpose_of : Mat4 → Mat4
transpose_of m =
    record {
      r0 = record { a = m.r0.a; b = m.r1.a; c = m.r2.a; d = m.r3.a };
      r1 = record { a = m.r0.b; b = m.r1.b; c = m.r2.b; d = m.r3.b };
      r2 = record { a = m.r0.c; b = m.r1.c; c = m.r2.c; d = m.r3.c };
      r3 = record { a = m.r0.d; b = m.r1.d; c = m.r2.d; d = m.r3.d };
    }

-- a point has a fourth part of 1, a direction and a normal one of 0
unfoldable pub transform_point_of : Mat4 → Vec3 → Vec3
transform_point_of m p = times_of m p (of_bits binary64 0x3ff0000000000000)

unfoldable pub transform_direction_of : Mat4 → Vec3 → Vec3
transform_direction_of m d = times_of m d (of_bits binary64 0)

-- by the inverse-transpose: m is the inverse matrix
unfoldable pub transform_normal_of : Mat4 → Vec3 → Vec3
transform_normal_of m n = times_of (transpose_of m) n (of_bits binary64 0)
