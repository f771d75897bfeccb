-- The rays that come of a step have the wavelength of its ray, so that none in a run is infinite or NaN. Assumes nothing.
use Rattle.std.specs.Prelude.{IfSome}
use Rattle.std.proofs.lemmas.Option.{IfSome_then}
use mathlib.Core.Path.{◌≡◌, refl, ap, subst, ◌∙◌}
use lib.Ieee.{Float, binary64, sub, mul, div, lt, le}
use Rattle.doubles.specs.Doubles.{is_finite_of, #0, #1}
use Rattle.doubles.specs.Root.{sqrt_of}
use Rattle.error.specs.Refusals.{Answer, value, refusal}
use Rattle.rays.specs.declared.vector.Vec3.{Vec3}
use Rattle.rays.specs.declared.Ray.{Ray}
use Rattle.rays.specs.Rays.{new_ray_of, is_finite_ray_of}
use Rattle.scene.specs.declared.NonSeqHit.{NonSeqHit}
use Rattle.surface.specs.Fresnel.{leaving_of, cosine_of, radicand_of, reflected_direction_of, refracted_direction_of, reflectance_of, total_of, both_of, refract_of, compute_snell_fresnel_interaction_of, mirrored_of}
use Rattle.surface.specs.declared.FresnelInteraction.{FresnelInteraction}
use Rattle.surface.specs.declared.FresnelInteraction.TheVariants.{Total, Split}
use Rattle.media.specs.declared.Media.{Media}
use Rattle.step.specs.declared.ActiveRay.{ActiveRay}
use Rattle.step.specs.Rays.{Scene, Step, Meeting, reflected_of, transmitted_of}
use Rattle.step.specs.Steps.{parted_by, mirror_from_of, take_step_of}
use Rattle.step.proofs.Ways.{by_tests, by-ahead, by-surface}
use Rattle.theorems_runs.specs.Room.{EachMade, Keeps, Admitted}
use Rattle.theorems_runs.proofs.Bred.{pick}

-- an answered ray, if there is one, has wavelength w
abbrev OneWave : Float → Answer Ray → Type 0
OneWave w (value r) = r.wavelength_nm ≡ w
OneWave w (refusal n) = Unit

abbrev Parts : Float → Answer FresnelInteraction → Type 0
Parts w (value (Total r)) = r.wavelength_nm ≡ w
Parts w (value (Split r t)) = (r.wavelength_nm ≡ w) × (t.wavelength_nm ≡ w)
Parts w (refusal n) = Unit

total_wave : (w : Float) (x : Answer Ray) → OneWave w x → Parts w (total_of x)
total_wave w (value r) e = e
total_wave w (refusal n) e = tt

both_wave : (w : Float) (x y : Answer Ray) → OneWave w x → OneWave w y → Parts w (both_of x y)
both_wave w (value r) (value t) e f = (e, f)
both_wave w (value r) (refusal n) e f = tt
both_wave w (refusal n) y e f = tt

leaving_wave : (r : Ray) (p d : Vec3) (power : Float) → OneWave r.wavelength_nm (leaving_of r p d power)
unfolding leaving_of new_ray_of
leaving_wave r p d power = pick (OneWave r.wavelength_nm) (is_finite_ray_of _) (λ q. refl) (λ q. tt)

snell_wave : (r : Ray) (h : NonSeqHit) (n1 n2 power : Float) → Parts r.wavelength_nm (compute_snell_fresnel_interaction_of r h n1 n2 power)
unfolding compute_snell_fresnel_interaction_of refract_of
snell_wave r h n1 n2 power =
    let w : Float = r.wavelength_nm in
    let c1 : Float = cosine_of r.direction h.normal in
    let eta : Float = div binary64 n1 n2 in
    let c2 : Float = sqrt_of (radicand_of eta c1) in
    let f : Float = reflectance_of n1 n2 c1 c2 in
    let back : Vec3 = reflected_direction_of r.direction h.normal c1 in
    let on : Vec3 = refracted_direction_of r.direction h.normal eta c1 c2 in
    let rest : Float = mul binary64 power (sub binary64 #1 f) in
    pick (Parts w) (le (radicand_of eta c1) #0) (λ q. total_wave w (leaving_of r h.point back power) (leaving_wave r h.point back power))
    (λ q.
    both_wave w (leaving_of r h.point back (mul binary64 power f)) (leaving_of r h.point on rest)
    (leaving_wave r h.point back (mul binary64 power f)) (leaving_wave r h.point on rest))

mirror_wave : (r : Ray) (h : NonSeqHit) (power : Float) → OneWave r.wavelength_nm (mirrored_of r h power)
unfolding mirrored_of
mirror_wave r h power = leaving_wave r _ _ power

-- ---- a step

abbrev Same : ActiveRay → ActiveRay → Type 0
Same a c = c.ray.wavelength_nm ≡ a.ray.wavelength_nm

mirrored_same : (a : ActiveRay) (m : Meeting) (r : Ray) → r.wavelength_nm ≡ a.ray.wavelength_nm → EachMade (Same a) (mirror_from_of a m (value r))
unfolding mirror_from_of reflected_of
mirrored_same a m r e = (e, tt)

parted_same : (threshold : Float) (a : ActiveRay) (m : Media) (p : FresnelInteraction) → Parts a.ray.wavelength_nm (value p) → EachMade (Same a) (parted_by threshold a m p)
unfolding parted_by reflected_of transmitted_of
parted_same threshold a m (Total r) e = (pick (λ o. IfSome o (Same a)) (lt threshold r.energy) (λ q. e) (λ q. tt), tt)
parted_same threshold a m (Split r t) e =
    (pick (λ o. IfSome o (Same a)) (lt threshold r.energy) (λ q. e.0) (λ q. tt), pick (λ o. IfSome o (Same a)) (lt threshold t.energy) (λ q. e.1) (λ q. tt))

pub same_wave : (S : Scene) (a : ActiveRay) → EachMade (Same a) (take_step_of S a)
same_wave S a =
    let Q : Step → Type 0 = EachMade (Same a) in
    by_tests Q a S (λ e. (tt, tt)) (λ e. (tt, tt))
    (λ e f.
    by-ahead Q a S (λ s q z. (tt, tt))
    (λ h q.
    by-surface Q a S.optics h (λ m. (tt, tt)) (λ n g. (tt, tt))
    (λ power m r g. mirrored_same a m r (subst (OneWave a.ray.wavelength_nm) g (mirror_wave a.ray h power)))
    (λ n1 n2 p g. parted_same _ a _ p (subst (Parts a.ray.wavelength_nm) g (snell_wave a.ray h n1 n2 a.ray.energy))))
    (λ q. (tt, tt)))

pub admitted_kept : (S : Scene) → Keeps Admitted S
admitted_kept S a h =
    let s : Step = take_step_of S a in
    let made : EachMade (Same a) s = same_wave S a in
    let kept : (c : ActiveRay) → Same a c → Admitted c = λ c q. record { wave = ap is_finite_of q ∙ h.wave } in
    (IfSome_then s.reflected made.0 kept, IfSome_then s.transmitted made.1 kept)
