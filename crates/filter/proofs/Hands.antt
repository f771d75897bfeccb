-- The part of the stored map that a filter call hands back lies in it. Assumes nothing.
use Prim.Native.Nat.{ℕ, ◌+◌, ◌≤◌}
use mathlib.Core.Path.{◌≡◌, refl, sym, ◌∙◌}
use mathlib.Core.Bool.{Bool, true, false, cond, ◌&&◌}
use lib.Dec.{eqb}
use borrow.Author.Tests.{eqb-true}
use Rattle.error.specs.Refusals.{Checked, passed, refused_at}
use Rattle.detector.specs.declared.DetectorNo.{DetectorNo}
use Rattle.detector.specs.Pixels.{pixels_of}
use Rattle.detector.proofs.Grid.{never}
use Rattle.detectors.specs.declared.Detectors.{Detectors}
use Rattle.detectors.specs.declared.Placed.{Placed}
use Rattle.detectors.specs.Detectors.{all_pixels_of, placed_of, find_of}
use Rattle.memory.specs.Memory.{is_hit_list_of}
use Rattle.detectors.proofs.Passed.{asked_there, part_in}
use Rattle.filter.specs.Handed.{check_placed, check_filter_of}

-- the part of the asked detector lies in the stored map
pub part_fits : (ds : Detectors) (asked : DetectorNo) (stored work values tags used : ℕ) (p : Placed)
    → passed p ≡ check_filter_of ds asked stored work values tags used → p.first + pixels_of p.detector ≤ stored
unfolding check_filter_of check_placed placed_of
part_fits ds asked stored work values tags used p said = go (find_of ds asked) refl (sym said)
  where
    inner : (x y : Bool) (q : Placed) → eqb stored (all_pixels_of ds) ≡ x → find_of ds asked ≡ passed q → cond (x && y) (passed q) (refused_at 9 0) ≡ passed p → p.first + pixels_of p.detector ≤ stored
    inner false y q u v r = never 9 0 p r
    inner true false q u v r = never 9 0 p r
    inner true true q u v r =
        let t = asked_there ds asked p (v ∙ r) in
        let z = part_in ds asked.0 stored t.0 t.1 (eqb-true stored (all_pixels_of ds) u) in
        rw t.2 z

    go : (c : Checked Placed) → find_of ds asked ≡ c → check_placed ds stored work values tags used c ≡ passed p → p.first + pixels_of p.detector ≤ stored
    go (passed q) v r = inner (eqb stored (all_pixels_of ds)) (eqb work (pixels_of q.detector) && is_hit_list_of values tags used) q refl v r
    go (refused_at m place) v r = never m place p r
