-- A hit in plain numbers, and a ray from six.
use Rattle.std.specs.Prelude.{cond, Float, Option, None, Some}
use Rattle.std.specs.Float.{binary64}
use Rattle.std.specs.Float.Ieee.{of_bits}
use Rattle.rays.specs.declared.Ray.{Ray}
use Rattle.rays.specs.Vectors.{vec3}
use Rattle.scene.specs.declared.NonSeqHit.{NonSeqHit}
use Rattle.bench.specs.declared.BenchHit.{BenchHit}
use Rattle.doubles.specs.Doubles.{#0}

-- 550 nm and 1 W
unfoldable pub bench_ray : Float → Float → Float → Float → Float → Float → Ray
bench_ray ox oy oz dx dy dz =
    record {
      origin = vec3 ox oy oz;
      direction = vec3 dx dy dz;
      wavelength_nm = of_bits binary64 0x4081300000000000;
      energy = of_bits binary64 0x3ff0000000000000;
    }

unfoldable pub met_of : NonSeqHit → BenchHit
met_of h =
    record {
      met = 1;
      solid = h.object_id.0;
      entering = cond h.entering 1 0;
      t = h.t;
      x = h.point.x;
      y = h.point.y;
      z = h.point.z;
      nx = h.normal.x;
      ny = h.normal.y;
      nz = h.normal.z;
      gx = h.geometric_normal.x;
      gy = h.geometric_normal.y;
      gz = h.geometric_normal.z;
    }

unfoldable pub missed_of : BenchHit
missed_of =
    record {
      met = 0;
      solid = 0;
      entering = 0;
      t = #0;
      x = #0;
      y = #0;
      z = #0;
      nx = #0;
      ny = #0;
      nz = #0;
      gx = #0;
      gy = #0;
      gz = #0;
    }

unfoldable pub bench_hit_of : Option NonSeqHit → BenchHit
bench_hit_of (Some h) = met_of h
bench_hit_of None = missed_of
