-- No ray comes of a ray that a detector catches. Assumes nothing.
use Rattle.std.specs.Prelude.{None, Some}
use Rattle.std.proofs.lemmas.Option.{none-some}
use mathlib.Core.Path.{◌≡◌, refl}
use Rattle.error.specs.Refusals.{value}
use Rattle.rays.specs.declared.Ray.{Ray}
use Rattle.media.specs.declared.Media.{Media}
use Rattle.detector.specs.declared.DetectorHit.{DetectorHit}
use Rattle.surface.specs.declared.FresnelInteraction.{FresnelInteraction}
use Rattle.surface.specs.declared.FresnelInteraction.TheVariants.{Total, Split}
use Rattle.step.specs.declared.ActiveRay.{ActiveRay}
use Rattle.step.specs.Rays.{Scene, Step, Meeting, End, ends_of, dim, spent, gone, caught, met, refusing}
use Rattle.step.specs.Steps.{parted_by, mirror_from_of, caught_by_of, take_step_of}
use Rattle.step.proofs.Ways.{by_tests, by-ahead, by-surface}
use Rattle.run.specs.Run.{hit_in_of}
use lib.Ieee.{Float}

-- if the step brings a hit, neither ray is made
abbrev Quiet : Step → Type 0
Quiet s = (h : DetectorHit) → hit_in_of s.end ≡ Some h → (s.reflected ≡ None) × (s.transmitted ≡ None)

ended_quiet : (e : End) → Quiet (ends_of e)
ended_quiet e h q = (refl, refl)

parted_quiet : (threshold : Float) (a : ActiveRay) (m : Media) (p : FresnelInteraction) → Quiet (parted_by threshold a m p)
unfolding parted_by hit_in_of
parted_quiet threshold a m (Total r) h e = absurd (none-some h e)
parted_quiet threshold a m (Split r t) h e = absurd (none-some h e)

mirror_quiet : (a : ActiveRay) (m : Meeting) (r : Ray) → Quiet (mirror_from_of a m (value r))
unfolding mirror_from_of hit_in_of
mirror_quiet a m r h e = absurd (none-some h e)

pub step_quiet : (S : Scene) (a : ActiveRay) → Quiet (take_step_of S a)
step_quiet S a =
    by_tests Quiet a S (λ e. ended_quiet dim) (λ e. ended_quiet spent)
    (λ e f.
    by-ahead Quiet a S (λ s q z. ended_quiet (caught (caught_by_of a s)))
    (λ h q.
    by-surface Quiet a S.optics h (λ m. ended_quiet (met m)) (λ n g. ended_quiet (refusing n)) (λ power m r g. mirror_quiet a m r)
    (λ n1 n2 p g. parted_quiet _ a _ p))
    (λ q. ended_quiet gone))
