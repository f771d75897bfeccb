-- Whether a stored line agrees with the definitions that the functions equal.
use Rattle.std.specs.Prelude.{ℕ, Bool, false, ◌&&◌, List, from_bits, Float, Option, None, Some}
use Rattle.std.specs.Float.{binary64}
use Rattle.std.specs.Float.Ieee.{add}
use Rattle.error.specs.Refusals.{Checked, passed, refused_at}
use Rattle.fields.specs.Number.{read_whole_of}
use Rattle.rays.specs.declared.Ray.{Ray}
use Rattle.rays.specs.Vectors.{vec3}
use Rattle.detector.specs.declared.Detector2D.{Detector2D}
use Rattle.detector.specs.declared.face.Crossing.{Crossing}
use Rattle.detector.specs.Faces.{face_of, face_intersect_ray_of}
use Rattle.detector.specs.Pixels.{index_along_of, pixel_area_m2_of, irradiance_of}
use Rattle.test_vectors.specs.Parts.{part_in, has_shape_of, is_read, is_number, number_or0, are_bits_of, double_at_of}
use Rattle.test_vectors.specs.Parts.{is_double_of, vec_at_of, is_dash_of}

-- ---- for both tables

-- part k as a decimal, 0 where it is malformed
unfoldable pub whole_at_of : List ℕ → ℕ → ℕ
whole_at_of l k = number_or0 (read_whole_of (part_in l k))

-- part k is a decimal
unfoldable pub is_any_whole_of : List ℕ → ℕ → Bool
is_any_whole_of l k = is_read (read_whole_of (part_in l k))

-- a detector at the origin that faces along z with y up
unfoldable pub grid_of : Float → Float → ℕ → ℕ → Detector2D
grid_of w h resx resy =
    let #0 : Float = from_bits binary64 0 in
    let #1 : Float = from_bits binary64 0x3ff0000000000000 in
    record {
      center = vec3 #0 #0 #0;
      normal = vec3 #0 #0 #1;
      up = vec3 #0 #1 #0;
      width_mm = w;
      height_mm = h;
      res_x = resx;
      res_y = resy;
      total_flux_watts = #0;
      total_rays_hit = 0;
    }

-- part k is which of n steps along a size a place lies in
unfoldable pub is_index_of : List ℕ → ℕ → Float → Float → ℕ → Bool
is_index_of l k x size n = is_number (read_whole_of (part_in l k)) (index_along_of x size n)

-- ---- centre, normal, up, width, height, two resolutions, origin and direction = distance, place, pixel; or -

unfoldable pub detector_in_of : List ℕ → Detector2D
detector_in_of l =
    record {
      center = vec_at_of l 0;
      normal = vec_at_of l 3;
      up = vec_at_of l 6;
      width_mm = double_at_of l 9;
      height_mm = double_at_of l 10;
      res_x = whole_at_of l 11;
      res_y = whole_at_of l 12;
      total_flux_watts = from_bits binary64 0;
      total_rays_hit = 0;
    }

unfoldable pub ray_in_of : List ℕ → Ray
ray_in_of l =
    record {
      origin = vec_at_of l 13;
      direction = vec_at_of l 16;
      wavelength_nm = from_bits binary64 0;
      energy = from_bits binary64 0;
    }

-- the parts before "="
unfoldable pub is_crossing_given_of : List ℕ → Bool
is_crossing_given_of l = are_bits_of l 0 11 && (is_any_whole_of l 11 && (is_any_whole_of l 12 && are_bits_of l 13 19))

unfoldable pub is_crossing_at_of : List ℕ → Detector2D → Crossing → Bool
is_crossing_at_of l d c =
    is_double_of (part_in l 20) c.t
    && (is_double_of (part_in l 21) c.local_x
    && (is_double_of (part_in l 22) c.local_y
    && (is_index_of l 23 c.local_x d.width_mm d.res_x && is_index_of l 24 c.local_y d.height_mm
    d.res_y)))

unfoldable pub is_crossing_of : List ℕ → Detector2D → Option Crossing → Bool
is_crossing_of l d (Some c) = has_shape_of l 25 19 && is_crossing_at_of l d c
is_crossing_of l d None = has_shape_of l 21 19 && is_dash_of l 20

unfoldable pub crossing_line_of : List ℕ → Bool
crossing_line_of l =
    let d = detector_in_of l in is_crossing_given_of l && is_crossing_of l d (face_intersect_ray_of (face_of d) (ray_in_of l))

-- ---- width, height, two resolutions, place and flux = pixel, a pixel's area, irradiance

unfoldable pub grid_in_of : List ℕ → Detector2D
grid_in_of l = grid_of (double_at_of l 0) (double_at_of l 1) (whole_at_of l 2) (whole_at_of l 3)

-- the number of parts, "=", and the parts before it
unfoldable pub is_recording_given_of : List ℕ → Bool
is_recording_given_of l =
    (has_shape_of l 12 7 && are_bits_of l 0 2) && (is_any_whole_of l 2 && (is_any_whole_of l 3 && are_bits_of l 4 7))

unfoldable pub is_pixel_of : List ℕ → Detector2D → Bool
is_pixel_of l d =
    is_index_of l 8 (double_at_of l 4) d.width_mm d.res_x && is_index_of l 9 (double_at_of l 5) d.height_mm
    d.res_y

unfoldable pub is_area_of : List ℕ → Checked Float → Bool
is_area_of l (passed x) = is_double_of (part_in l 10) x
is_area_of l (refused_at n p) = false

-- the irradiance of a pixel that held 0 before the flux was added to it
unfoldable pub recording_line_of : List ℕ → Bool
recording_line_of l =
    let d = grid_in_of l in
    let caught = add binary64 (from_bits binary64 0) (double_at_of l 6) in
    (is_recording_given_of l && is_pixel_of l d) &&
    (is_area_of l (pixel_area_m2_of d) && is_double_of (part_in l 11) (irradiance_of d caught))
