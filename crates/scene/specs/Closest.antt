-- The nearest solid along a ray. f i is solid i, however it is kept, if there is one.
use Rattle.std.specs.Prelude.{ℕ, Bool, true, false, cond, List, leb, Float, Option, None, Some}
use Rattle.error.specs.Refusals.{Checked, passed, refused_at, after}
use Rattle.rays.specs.declared.Ray.{Ray}
use Rattle.rays.specs.Rays.{is_valid_ray_of}
use Rattle.nearest.specs.Nearest.{nearest_among}
use Rattle.scene.specs.declared.NonSeqObject.{NonSeqObject}
use Rattle.scene.specs.declared.NonSeqHit.{NonSeqHit}
use Rattle.scene.specs.declared.object.Approach.{Approach}
use Rattle.scene.specs.declared.closest.Candidate.{Candidate}
use Rattle.scene.specs.Objects.{approach_of, arrive_of, intersect_of}
use Rattle.scene.specs.Solids.{object_at_of, check_solids_of, max_solids}

abbrev pub hit_distance : NonSeqHit → Float
hit_distance h = h.t

unfoldable pub offer_by : Option NonSeqObject → Ray → Option NonSeqHit
offer_by (Some o) r = intersect_of o r
offer_by None r = None

abbrev pub offers_in : (ℕ → Option NonSeqObject) → Ray → ℕ → Option NonSeqHit
offers_in f r i = offer_by (f i) r

-- of the first n solids
unfoldable pub closest_object_of : (ℕ → Option NonSeqObject) → ℕ → Ray → Option NonSeqHit
closest_object_of f n r = nearest_among NonSeqHit hit_distance (offers_in f r) n

-- 17, then 3 for more than 32 solids, then 10, then the search
unfoldable pub intersect_closest_object_of : List Float → List ℕ → ℕ → Ray → Checked (Option NonSeqHit)
intersect_closest_object_of x k n r =
    after (check_solids_of x k n) (cond (leb n max_solids)
    (cond (is_valid_ray_of r) (passed (closest_object_of (object_at_of x k) n r)) (refused_at 10 0)) (refused_at 3 0))

-- ---- the search without normals: the nearest approach, and the place of its solid

unfoldable pub approach_at_of : Option NonSeqObject → Ray → Option Approach
approach_at_of (Some o) r = approach_of o r
approach_at_of None r = None

unfoldable pub arrive_at_of : Option NonSeqObject → Ray → Approach → Option NonSeqHit
arrive_at_of (Some o) r a = arrive_of o r a
arrive_at_of None r a = None

-- whether an approach with this hit is kept: a strict search keeps none whose normal can't be made
unfoldable pub is_kept_of : Bool → Option NonSeqHit → Bool
is_kept_of false h = true
is_kept_of true (Some h) = true
is_kept_of true None = false

unfoldable pub candidate_at : Bool → Option NonSeqObject → Ray → ℕ → Option Approach → Option Candidate
candidate_at strict o r i (Some a) =
    cond (is_kept_of strict (arrive_at_of o r a)) (Some (record { place = i; approach = a })) None
candidate_at strict o r i None = None

abbrev pub candidate_distance : Candidate → Float
candidate_distance c = c.approach.t

abbrev pub candidates_in : Bool → (ℕ → Option NonSeqObject) → Ray → ℕ → Option Candidate
candidates_in strict f r i = candidate_at strict (f i) r i (approach_at_of (f i) r)
