-- No check before a run refuses with 12 to 16. Assumes nothing.
use Prim.Native.Nat.{ℕ, zero, suc, ◌+◌, ◌*◌}
use mathlib.Core.Path.{◌≡◌, refl, sym, ap, ◌∙◌}
use mathlib.Core.Bool.{Bool, true, false, cond, ◌&&◌, ◌||◌}
use mathlib.Core.List.{List}
use lib.Dec.{leb, eqb}
use lib.Ieee.{le}
use lib.ListN.{length, get_or}
use Rattle.doubles.specs.Doubles.{is_finite_of, #0}
use Rattle.error.specs.Refusals.{Checked, passed, refused_at, after}
use Rattle.rays.specs.Rays.{is_valid_ray_of}
use Rattle.scene.specs.Solids.{tags_fit_of, check_tags_of, check_solids_of}
use Rattle.detector.specs.declared.Detector2D.{Detector2D}
use Rattle.detector.specs.Checks.{check_detector_of}
use Rattle.detector.proofs.Refused.{by_check}
use Rattle.detectors.specs.declared.Detectors.{Detectors}
use Rattle.detectors.specs.Detectors.{max_detectors, detector_at, check_count_of, check_list_of, check_each_of}
use Rattle.memory.specs.Memory.{Memory, are_lengths_of}
use Rattle.step.specs.declared.NonSeqTraceConfig.{NonSeqTraceConfig}
use Rattle.step.specs.declared.ActiveRay.{ActiveRay}
use Rattle.given_rays.specs.Given.{valid_media_of, check_lists_of, check_ray_of, check_rays_of}
use Rattle.trace.specs.Trace.{Batch, rays_in, check_flat_of, check_config_of, check_counts_of, check_lengths_of, check_batch}
use Rattle.trace.proofs.Pieces.{of_all}

-- 1 to 11, 17 and 18
abbrev pub is_early : ℕ → Bool
is_early n = (leb 1 n && leb n 11) || eqb n 17 || eqb n 18

unfoldable early : Checked Unit → Bool
early (passed u) = true
early (refused_at n place) = is_early n

after_early : (a b : Checked Unit) → early a ≡ true → early b ≡ true → early (after a b) ≡ true
unfolding early
after_early (passed u) b e f = f
after_early (refused_at n place) b e f = e

if_early : (t : Bool) (a b : Checked Unit) → early a ≡ true → early b ≡ true → early (cond t a b) ≡ true
if_early true a b e f = e
if_early false a b e f = f

well : early (passed tt) ≡ true
unfolding early
well = refl

bad : (n place : ℕ) → is_early n ≡ true → early (refused_at n place) ≡ true
unfolding early
bad n place e = e

tags_early : (k : List ℕ) (n i : ℕ) → early (check_tags_of k n i) ≡ true
unfolding check_tags_of
tags_early k zero i = well
tags_early k (suc n) i = if_early (tags_fit_of (get_or k (i * 4) 0) (get_or k (i * 4 + 1) 0) (get_or k (i * 4 + 2) 0) (get_or k (i * 4 + 3) 0)) _ _ (tags_early k n (i + 1)) (bad 17 i refl)

flat_early : (B : Batch) → early (check_flat_of B) ≡ true
unfolding check_flat_of check_solids_of check_lists_of
flat_early B =
    after_early _ _
    (if_early (eqb (length B.solid_values) (B.solids * 42) && eqb (length B.solid_tags) (B.solids * 4)) _ _ (tags_early B.solid_tags B.solids 0) (bad 17 0 refl))
    (if_early (eqb (length B.ray_values) (B.rays * 8) && eqb (length B.ray_tags) (B.rays * 10)) _ _ well (bad 17 0 refl))

config_early : (g : NonSeqTraceConfig) → early (check_config_of g) ≡ true
unfolding check_config_of
config_early g = if_early (is_finite_of g.min_power_threshold && le #0 g.min_power_threshold) _ _ (if_early (leb g.max_bounces 16) _ _ well (bad 2 0 refl)) (bad 1 0 refl)

counts_early : (solids rays detectors : ℕ) → early (check_counts_of solids rays detectors) ≡ true
unfolding check_counts_of check_count_of
counts_early solids rays detectors = if_early (leb solids 32 && leb rays 4096) _ _ (if_early (leb detectors max_detectors) _ _ well (bad 3 0 refl)) (bad 3 0 refl)

detector_early : (d : Detector2D) (place : ℕ) → early (check_detector_of d place) ≡ true
detector_early d place =
    by_check (λ c. early c ≡ true) d place (bad 5 place refl) (bad 6 place refl) (bad 7 place refl) (bad 18 place refl) (bad 8 place refl) well

from_early : (l : List Detector2D) (n i : ℕ) → early (check_list_of l n i) ≡ true
unfolding check_list_of
from_early l zero i = well
from_early l (suc n) i = after_early _ _ (detector_early (detector_at l i) i) (from_early l n (i + 1))

each_early : (ds : Detectors) → early (check_each_of ds) ≡ true
unfolding check_each_of
each_early ds = if_early (leb ds.count max_detectors) _ _ (from_early ds.list ds.count 0) well

lengths_early : (ds : Detectors) (nf nh nv nt used : ℕ) → early (check_lengths_of ds nf nh nv nt used) ≡ true
unfolding check_lengths_of
lengths_early ds nf nh nv nt used = if_early (are_lengths_of ds nf nh nv nt used) _ _ well (bad 9 0 refl)

rays_early : (given : ℕ → ActiveRay) (solids n i : ℕ) → early (check_rays_of given solids n i) ≡ true
unfolding check_rays_of check_ray_of
rays_early given solids zero i = well
rays_early given solids (suc n) i = after_early _ _ (if_early (is_valid_ray_of (given i).ray) _ _ (if_early (valid_media_of (given i).media solids) _ _ well (bad 11 i refl)) (bad 10 i refl)) (rays_early given solids n (i + 1))

all_early : (B : Batch) (s : Memory) → early (check_batch B s) ≡ true
all_early B s =
    of_all (λ (c : Checked Unit). early c ≡ true) after_early B s (flat_early B) (config_early B.config) (counts_early B.solids B.rays s.detectors.count)
    (each_early s.detectors) (lengths_early s.detectors _ _ _ _ _) (rays_early (rays_in B) B.solids B.rays 0)

pub check_refuses : (B : Batch) (s : Memory) (n place : ℕ) → check_batch B s ≡ refused_at n place → is_early n ≡ true
unfolding early
check_refuses B s n place e = sym (ap early e) ∙ all_early B s
