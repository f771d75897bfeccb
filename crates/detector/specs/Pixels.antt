-- The pixels of a detector: how many, which one a point lies in, how large one is.
use Rattle.std.specs.Prelude.{ℕ, ◌+◌, ◌*◌, cond, ◌&&◌, leb, pos, Float}
use Rattle.std.specs.Float.{binary64}
use Rattle.std.specs.Float.Ieee.{of_bits, of_int, to_unsigned, add, mul, div, le}
use Rattle.doubles.specs.Doubles.{clamp_of, #0}
use Rattle.error.specs.Refusals.{Checked, passed, after}
use Rattle.detector.specs.declared.Detector2D.{Detector2D}
use Rattle.detector.specs.Checks.{max_res, check_detector_of}

-- the largest count
abbrev pub max_count : ℕ
max_count = 4294967295

-- a whole number as a double
abbrev real : ℕ → Float
real n = of_int binary64 (pos n)

-- Which of n equal steps along a size a place lies in, from the negative end: (place + size / 2) / size clamped to 0 ..
-- 0.999999, times n, the fraction dropped. NaN goes to 0.
unfoldable pub index_along_of : Float → Float → ℕ → ℕ
index_along_of x size n =
    let u = clamp_of (div binary64 (add binary64 x (mul binary64 size (of_bits binary64 0x3fe0000000000000))) size) #0
    (of_bits binary64 0x3feffffde7210be9) in
    to_unsigned 64 (mul binary64 u (real n))

-- row py, column px at py times resx + px
unfoldable pub pixel_at_of : Detector2D → Float → Float → ℕ
pixel_at_of d x y =
    index_along_of y d.height_mm d.res_y * d.res_x + index_along_of x d.width_mm d.res_x

-- how many; a resolution that 7 refuses has none
unfoldable pub pixels_of : Detector2D → ℕ
pixels_of d = cond (leb d.res_x max_res && leb d.res_y max_res) (d.res_x * d.res_y) 0

-- in square metres, from sizes in millimetres
unfoldable pub area_of : Detector2D → Float
area_of d =
    let metres = of_bits binary64 0x3f50624dd2f1a9fc in
    mul binary64 (div binary64 (mul binary64 d.width_mm metres) (real d.res_x))
    (div binary64 (mul binary64 d.height_mm metres) (real d.res_y))

-- 5 to 8 and 18, then the area
unfoldable pub pixel_area_m2_of : Detector2D → Checked Float
pixel_area_m2_of d = after (check_detector_of d 0) (passed (area_of d))

-- flux by area, or 0 where the area is at most 0
unfoldable pub irradiance_of : Detector2D → Float → Float
irradiance_of d flux = cond (le (area_of d) #0) #0 (div binary64 flux (area_of d))
