-- Detectors, and where a ray crosses one.
use Rattle.std.specs.Prelude.{ℕ, Float, Option, None, Some}
use Rattle.error.specs.Refusals.{Checked, passed, refused_at}
use Rattle.rays.specs.Vectors.{vec3}
use Rattle.detector.specs.declared.Detector2D.{Detector2D}
use Rattle.detector.specs.declared.face.Crossing.{Crossing}
use Rattle.host_detectors.specs.declared.detecting.HostDetector.{HostDetector}
use Rattle.host_detectors.specs.declared.detecting.HostCrossing.{HostCrossing}
use Rattle.doubles.specs.Doubles.{#0}

-- all zeros
unfoldable pub no_detector_of : Detector2D
no_detector_of =
    record {
      center = vec3 #0 #0 #0;
      normal = vec3 #0 #0 #0;
      up = vec3 #0 #0 #0;
      width_mm = #0;
      height_mm = #0;
      res_x = 0;
      res_y = 0;
      total_flux_watts = #0;
      total_rays_hit = 0;
    }

abbrev pub made_from : Checked Detector2D → HostDetector
made_from (passed d) = record { refusal = 0; place = 0; detector = d }
made_from (refused_at n place) = record { refusal = n; place = place; detector = no_detector_of }

abbrev pub host_crossing : ℕ → ℕ → ℕ → Float → Float → Float → HostCrossing
host_crossing n place k t x y = record { refusal = n; place = place; crosses = k; t = t; local_x = x; local_y = y }

abbrev pub crossing_from : Checked (Option Crossing) → HostCrossing
crossing_from (passed (Some c)) = host_crossing 0 0 1 c.t c.local_x c.local_y
crossing_from (passed None) = host_crossing 0 0 0 #0 #0 #0
crossing_from (refused_at n place) = host_crossing n place 0 #0 #0 #0
