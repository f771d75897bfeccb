-- A hit that a step brings is on a detector that is there. Assumes nothing.
use Rattle.std.specs.Prelude.{Option, None, Some}
use Prim.Native.Nat.{ℕ, ◌<◌}
use mathlib.Core.Path.{◌≡◌, ap, sym, subst}
use mathlib.Core.Bool.{Bool, true, false}
use lib.Ieee.{Float}
use Rattle.error.specs.Refusals.{value}
use Rattle.rays.specs.declared.Ray.{Ray}
use Rattle.surface.specs.declared.FresnelInteraction.{FresnelInteraction}
use Rattle.surface.specs.declared.FresnelInteraction.TheVariants.{Total, Split}
use Rattle.media.specs.declared.Media.{Media}
use Rattle.nearest.specs.Nearest.{IsNearest}
use Rattle.nearest.proofs.Laws.{nearest_is}
use Rattle.detector.specs.declared.face.Crossing.{Crossing}
use Rattle.detector.specs.declared.DetectorHit.{DetectorHit}
use Rattle.faces.specs.declared.Sight.{Sight}
use Rattle.faces.specs.Faces.{sight_distance, sight_from, sights, face_count_of, nearest_detector_of}
use Rattle.step.specs.declared.ActiveRay.{ActiveRay}
use Rattle.step.specs.Rays.{Scene, Step, Meeting, End, dim, spent, gone, caught, met, refusing}
use Rattle.step.specs.Steps.{parted_by, mirror_from_of, take_step_of}
use Rattle.step.proofs.Ways.{by_tests, by-ahead, by-surface}
use Rattle.theorems_runs.proofs.Bred.{false_true}
use Rattle.theorems_calls.proofs.Drives.{Brought}

-- ---- the nearest of n detectors is one of them

abbrev is_some : Option Sight → Bool
is_some (Some s) = true
is_some None = false

abbrev number : Option Sight → ℕ
number (Some s) = s.detector.0
number None = 0

sight_number : (i : ℕ) (o : Option Crossing) (s : Sight) → sight_from i o ≡ Some s → s.detector.0 ≡ i
unfolding sight_from
sight_number i (Some c) s e = sym (ap number e)
sight_number i None s e = false_true (ap is_some e)

seen_there : (f : ℕ → Option Sight) (n : ℕ) → ((i : ℕ) (s : Sight) → f i ≡ Some s → s.detector.0 ≡ i) → (o : Option Sight) → IsNearest Sight sight_distance f n o → (s : Sight) → o ≡ Some s → s.detector.0 < n
seen_there f n named None w s e = false_true (ap is_some e)
seen_there f n named (Some u) w s e = subst (λ k. k < n) (ap number e) (subst (λ k. k < n) (sym (named w.0 u w.1.1.0)) w.1.0)

-- ---- what a step ends with

-- a hit is on one of n detectors
abbrev There : ℕ → End → Type 0
There n dim = Unit
There n spent = Unit
There n gone = Unit
There n (caught h) = h.detector.0 < n
There n (met m) = Unit
There n (refusing k) = Unit

parted_there : (n : ℕ) (threshold : Float) (a : ActiveRay) (m : Media) (p : FresnelInteraction) → There n (parted_by threshold a m p).end
unfolding parted_by
parted_there n threshold a m (Total r) = tt
parted_there n threshold a m (Split r t) = tt

mirror_there : (n : ℕ) (a : ActiveRay) (m : Meeting) (r : Ray) → There n (mirror_from_of a m (value r)).end
unfolding mirror_from_of
mirror_there n a m r = tt

step_there : (S : Scene) (a : ActiveRay) → There (face_count_of S.faces.count) (take_step_of S a).end
unfolding nearest_detector_of
step_there S a =
    let n : ℕ = face_count_of S.faces.count in
    let Q : Step → Type 0 = λ s. There n s.end in
    by_tests Q a S (λ e. tt) (λ e. tt)
    (λ e f.
    by-ahead Q a S
    (λ s q z. seen_there (sights S.faces.list a.ray) n (λ i s q. sight_number i _ s q) _ (nearest_is Sight sight_distance (sights S.faces.list a.ray) n) s q)
    (λ h q. by-surface Q a S.optics h (λ m. tt) (λ k g. tt) (λ power m r g. mirror_there n a m r) (λ n1 n2 p g. parted_there n _ a _ p))
    (λ q. tt))

-- a hit that a step brings
pub brought_there : (P : ActiveRay → Type 0) (S : Scene) (h : DetectorHit) → Brought P S h → h.detector.0 < face_count_of S.faces.count
brought_there P S h b = subst (There (face_count_of S.faces.count)) b.1.1 (step_there S b.0)
