-- A reading of the flux map.
use Rattle.std.specs.Prelude.{ℕ, ◌+◌, ◌*◌, cond, ◌&&◌, List, ltb, eqb, Float, length, get_or}
use Rattle.std.specs.Float.{nan, binary64}
use Rattle.std.specs.Float.Ieee.{of_bits}
use Rattle.error.specs.Refusals.{Checked, passed, refused_at}
use Rattle.detector.specs.declared.DetectorNo.{DetectorNo}
use Rattle.detector.specs.Pixels.{irradiance_of}
use Rattle.detectors.specs.declared.Detectors.{Detectors}
use Rattle.detectors.specs.declared.Placed.{Placed}
use Rattle.detectors.specs.Detectors.{all_pixels_of, find_of}

-- of pixel (px, py) of a detector; 0 outside the resolution
unfoldable pub irradiance_in_of : Placed → List Float → ℕ → ℕ → Float
irradiance_in_of p flux px py =
    let d = p.detector in
    cond (ltb px d.res_x && ltb py d.res_y)
    (irradiance_of d (get_or flux (p.first + (py * d.res_x + px)) nan)) (of_bits binary64 0)

-- 9 for a map of another length than all pixels
unfoldable pub irradiance_from : Detectors → List Float → ℕ → ℕ → Checked Placed → Checked Float
irradiance_from ds flux px py (passed p) =
    cond (eqb (length flux) (all_pixels_of ds)) (passed (irradiance_in_of p flux px py)) (refused_at 9 0)
irradiance_from ds flux px py (refused_at n place) = refused_at n place

-- 3, 5 to 8 and 18, 4, 9, then the irradiance
unfoldable pub irradiance_at_of : Detectors → DetectorNo → List Float → ℕ → ℕ → Checked Float
irradiance_at_of ds d flux px py = irradiance_from ds flux px py (find_of ds d)
