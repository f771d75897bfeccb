-- The refractive index of a medium at a wavelength in nanometres. The formulas take micrometres; the order of the
-- operations is material.rs's.
use Rattle.std.specs.Prelude.{ℕ, eqb, Float, cond, Option, None, Some, unwrap_or}
use Rattle.std.specs.Float.{binary64}
use Rattle.std.specs.Float.Ieee.{add, sub, mul, div, lt, le, of_bits}
use Rattle.doubles.specs.Doubles.{is_finite_of, #0, #1}
use Rattle.doubles.specs.Root.{sqrt_of}
use Rattle.error.specs.Refusals.{Answer, value, refusal}
use Rattle.material.specs.declared.OpticalMedium.{OpticalMedium}
use Rattle.material.specs.declared.OpticalMedium.TheVariants.{Air, Constant, Sellmeier1, Schott}
use Rattle.material.specs.declared.SurfaceFinish.{SurfaceFinish}
use Rattle.material.specs.declared.SurfaceFinish.TheVariants.{Specular, Mirror, Absorber}

-- finishes 0 to 2 in document 01's order, and none beyond; rho is the mirror's reflectance
abbrev pub last_finish : ℕ
last_finish = 2

unfoldable pub numbered_finish_of : ℕ → Float → Option SurfaceFinish
numbered_finish_of k rho =
    cond (eqb k 0) (Some Specular) (cond (eqb k 1) (Some (Mirror rho)) (cond (eqb k 2) (Some Absorber) None))

abbrev pub or_clear_of : Option SurfaceFinish → SurfaceFinish
or_clear_of f = unwrap_or f Specular

-- media 0 to 3 in document 01's order, and none beyond, with their coefficients from a on
abbrev pub last_medium : ℕ
last_medium = 3

unfoldable pub numbered_medium_of : ℕ → Float → Float → Float → Float → Float → Float → Option OpticalMedium
numbered_medium_of k a b c d e f =
    cond (eqb k 0) (Some Air) (cond (eqb k 1) (Some (Constant a)) (cond (eqb k 2) (Some (Sellmeier1 a b c d e f))
    (cond (eqb k 3) (Some (Schott a b c d e f)) None)))

abbrev pub or_air_of : Option OpticalMedium → OpticalMedium
or_air_of m = unwrap_or m Air

-- (λ * 1e-3) squared
unfoldable pub square_um_of : Float → Float
square_um_of w = let um = mul binary64 w (of_bits binary64 0x3f50624dd2f1a9fc) in mul binary64 um um

-- Sellmeier's equation (W. Sellmeier, Annalen der Physik 219, 1871): n² = 1 + B₁λ² / (λ² - C₁) + B₂λ² / (λ² - C₂) +
-- B₃λ² / (λ² - C₃)
unfoldable pub sellmeier_term_of : Float → Float → Float → Float
sellmeier_term_of l2 b c = div binary64 (mul binary64 b l2) (sub binary64 l2 c)

unfoldable pub sellmeier_of : Float → Float → Float → Float → Float → Float → Float → Float
sellmeier_of l2 b1 c1 b2 c2 b3 c3 =
    add binary64 (add binary64 (add binary64 #1 (sellmeier_term_of l2 b1 c1)) (sellmeier_term_of l2 b2 c2))
    (sellmeier_term_of l2 b3 c3)

-- Schott's polynomial, of Schott's earlier glass catalogues: n² = A₀ + A₁λ² + A₂λ⁻² + A₃λ⁻⁴ + A₄λ⁻⁶ + A₅λ⁻⁸
unfoldable pub schott_of : Float → Float → Float → Float → Float → Float → Float → Float
schott_of l2 a0 a1 a2 a3 a4 a5 =
    let inv2 = div binary64 #1 l2 in
    let inv4 = mul binary64 inv2 inv2 in
    let inv6 = mul binary64 inv4 inv2 in
    let inv8 = mul binary64 inv6 inv2 in
    add binary64
    (add binary64
    (add binary64 (add binary64 (add binary64 a0 (mul binary64 a1 l2)) (mul binary64 a2 inv2)) (mul binary64 a3 inv4))
    (mul binary64 a4 inv6))
    (mul binary64 a5 inv8)

-- 15: a constant index below 1 or not finite
unfoldable pub constant_of : Float → Answer Float
constant_of n = cond (lt n #1) (refusal 15) (cond (is_finite_of n) (value n) (refusal 15))

-- 15: a squared index at most 0 or not finite
unfoldable pub root_of_square_of : Float → Answer Float
root_of_square_of n2 = cond (le n2 #0) (refusal 15) (cond (is_finite_of n2) (value (sqrt_of n2)) (refusal 15))

-- by the medium's rule
unfoldable pub index_at_of : OpticalMedium → Float → Answer Float
index_at_of Air w = value #1
index_at_of (Constant n) w = constant_of n
index_at_of (Sellmeier1 b1 c1 b2 c2 b3 c3) w = root_of_square_of (sellmeier_of (square_um_of w) b1 c1 b2 c2 b3 c3)
index_at_of (Schott a0 a1 a2 a3 a4 a5) w = root_of_square_of (schott_of (square_um_of w) a0 a1 a2 a3 a4 a5)

-- 14, before the medium is looked at: a wavelength at most 0 or not finite
unfoldable pub refractive_index_of : OpticalMedium → Float → Answer Float
refractive_index_of m w = cond (le w #0) (refusal 14) (cond (is_finite_of w) (index_at_of m w) (refusal 14))
