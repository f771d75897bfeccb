-- The faces of up to 8 detectors, worked out once a call, and the nearest that a ray crosses.
use Rattle.std.specs.Prelude.{ℕ, cond, List, [], ◌∷◌, leb, ltb, Float, get_or, Option, None, Some}
use Rattle.std.specs.Float.{nan}
use Rattle.rays.specs.declared.Ray.{Ray}
use Rattle.rays.specs.Vectors.{vec3}
use Rattle.nearest.specs.Nearest.{nearer_of, nearest_among}
use Rattle.detector.specs.declared.Detector2D.{Detector2D}
use Rattle.detector.specs.declared.face.Face.{Face}
use Rattle.detector.specs.declared.face.Crossing.{Crossing}
use Rattle.detector.specs.Faces.{face_of, face_intersect_ray_of}
use Rattle.detectors.specs.declared.Detectors.{Detectors}
use Rattle.detectors.specs.Detectors.{max_detectors, detector_at}
use Rattle.faces.specs.declared.Faces.{Faces}
use Rattle.faces.specs.declared.Sight.{Sight}

-- what stands for a face that is not there
abbrev pub no_face : Face
no_face =
    record {
      center = vec3 nan nan nan;
      normal = vec3 nan nan nan;
      up = vec3 nan nan nan;
      right = vec3 nan nan nan;
      half_width = nan;
      half_height = nan;
    }

abbrev face_in : List Detector2D → ℕ → Face
face_in l i = face_of (detector_at l i)

unfoldable pub new_faces_of : Detectors → Faces
new_faces_of ds =
    let l = ds.list in
    record {
      list = face_in l 0 ∷ face_in l 1 ∷ face_in l 2 ∷ face_in l 3 ∷ face_in l 4 ∷ face_in l 5 ∷ face_in l 6 ∷ face_in l 7 ∷ [];
      count = ds.count;
    }

abbrev pub sight_distance : Sight → Float
sight_distance s = s.crossing.t

-- a crossing of detector i
unfoldable pub sight_from : ℕ → Option Crossing → Option Sight
sight_from i (Some c) = Some (record { detector = record { 0 = i }; crossing = c })
sight_from i None = None

abbrev pub sights : List Face → Ray → ℕ → Option Sight
sights l r i = sight_from i (face_intersect_ray_of (get_or l i no_face) r)

-- the best so far, or what detector i offers if that is one of the first n
unfoldable pub seen_of : ℕ → ℕ → Option Sight → Option Sight → Option Sight
seen_of i n best offer = cond (ltb i n) (nearer_of Sight sight_distance best offer) best

-- how many faces there are; a list that 3 refuses has 8
unfoldable pub face_count_of : ℕ → ℕ
face_count_of n = cond (leb n max_detectors) n max_detectors

unfoldable pub nearest_detector_of : Faces → Ray → Option Sight
nearest_detector_of fs r = nearest_among Sight sight_distance (sights fs.list r) (face_count_of fs.count)
