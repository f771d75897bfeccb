-- A finish and a medium by their number: up to the last there is one, beyond it none. Assumes nothing.
use Rattle.std.specs.Prelude.{None, Some}
use Prim.Native.Nat.{ℕ, zero, suc, ◌≤◌, ◌<◌}
use mathlib.Core.Path.{◌≡◌, refl}
use native.Mathlib.Omega.{arith}
use lib.Ieee.{Float}
use borrow.Author.Tests.{ne_eqb}
use Rattle.material.specs.declared.OpticalMedium.{OpticalMedium}
use Rattle.material.specs.declared.OpticalMedium.TheVariants.{Air, Constant, Sellmeier1, Schott}
use Rattle.material.specs.declared.SurfaceFinish.{SurfaceFinish}
use Rattle.material.specs.declared.SurfaceFinish.TheVariants.{Specular, Mirror, Absorber}
use Rattle.material.specs.Media.{last_finish, numbered_finish_of, last_medium, numbered_medium_of}

pub finish_there : (k : ℕ) (rho : Float) → k ≤ last_finish → (f : SurfaceFinish) × (numbered_finish_of k rho ≡ Some f)
unfolding numbered_finish_of
finish_there zero rho h = (Specular, refl)
finish_there (suc zero) rho h = (Mirror rho, refl)
finish_there (suc (suc zero)) rho h = (Absorber, refl)
finish_there (suc (suc (suc k))) rho h = absurd (omega (arith, h))

pub finish_beyond : (k : ℕ) (rho : Float) → last_finish < k → numbered_finish_of k rho ≡ None
unfolding numbered_finish_of
finish_beyond k rho h = simp (ne_eqb k 0 (omega (arith, h)), ne_eqb k 1 (omega (arith, h)), ne_eqb k 2 (omega (arith, h)))

pub medium_there : (k : ℕ) (a b c d e f : Float) → k ≤ last_medium → (m : OpticalMedium) × (numbered_medium_of k a b c d e f ≡ Some m)
unfolding numbered_medium_of
medium_there zero a b c d e f h = (Air, refl)
medium_there (suc zero) a b c d e f h = (Constant a, refl)
medium_there (suc (suc zero)) a b c d e f h = (Sellmeier1 a b c d e f, refl)
medium_there (suc (suc (suc zero))) a b c d e f h = (Schott a b c d e f, refl)
medium_there (suc (suc (suc (suc k)))) a b c d e f h = absurd (omega (arith, h))

pub medium_beyond : (k : ℕ) (a b c d e f : Float) → last_medium < k → numbered_medium_of k a b c d e f ≡ None
unfolding numbered_medium_of
medium_beyond k a b c d e f h =
    simp (ne_eqb k 0 (omega (arith, h)), ne_eqb k 1 (omega (arith, h)), ne_eqb k 2 (omega (arith, h)), ne_eqb k 3 (omega (arith, h)))
