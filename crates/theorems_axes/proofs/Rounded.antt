-- How far rounding to a double moves a number: at most one of 2 ^ 50 parts of it and one smallest double. And the
-- product, the sum and the quotient of doubles as the rounded fractions of their values. Assumes nothing.
use Prim.Native.Nat.{ℕ, zero, suc, ◌+◌, ◌*◌, ◌^◌, ◌≤◌, ◌<◌}
use native.Mathlib.Nat.{mul-le-mul_left, mul-pos, eq_of_mul-eq-mul_right, zero-mul, zero-lt-suc, lt_irrefl}
use native.Mathlib.Omega.{arith}
use mathlib.Core.Path.{◌≡◌, sym, ap, ◌∙◌, subst}
use mathlib.Core.Bool.{Bool, true, false, not, cond, true≢false}
use lib.Dec.{T, eqb, eqb→eq, not_T}
use lib.Ieee.Bits.{cond_no}
use lib.Pow.{pow_pos}
use lib.IntN.{ℤ}
use lib.Ieee.{Float, nan, inf, fin, binary64, up, down, round, sum, add, div}
use lib.Ieee.Exact.{HasValue, units_val}
use lib.Ieee.Fits.{round_is, up_pos, down_pos}
use lib.Ieee.Order.{drop, kept}
use lib.Ieee.Scale.{grid, round_same}
use Rattle.doubles.proofs.Rounding.{Half, closest_half, unit_small}
use Rattle.theorems_axes.specs.Axes.{L}
use Rattle.theorems_axes.proofs.Nearly.{Near}

-- ---- the error of rounding to a double

-- w is 2 ^ 49 * u, for K = 2 ^ 50
near_part : (K x n u w d : ℕ) → K * u ≡ 2 * w → u ≤ w → 8 * w ≤ n + 4 * (K * d) → Half u x n → (K * x ≤ (K + 1) * n + K * d) × (K * n ≤ (K + 1) * x + K * d)
near_part K x n u w d e s h c = (above (mul-le-mul_left K c.0), below c.1 (mul-le-mul_left K c.1))
  where
    above : K * (2 * x) ≤ K * (2 * n + u) → K * x ≤ (K + 1) * n + K * d
    above a = omega arith

    below : 2 * n ≤ 2 * x + u → K * (2 * n) ≤ K * (2 * x + u) → K * n ≤ (K + 1) * x + K * d
    below a b = omega arith

pub grid_near : (num den : ℕ) → 0 < den → Near 1 den (grid binary64 num den * den) (num * L)
grid_near num den D =
    let n = num * L in
    let k = drop 53 n den in
    let u = den * 2 ^ k in
    subst (λ (x : ℕ). Near 1 den x n) (sym (shape (kept 53 n den) (2 ^ k) den))
    (near_part (2 ^ 50) (kept 53 n den * u) n u (2 ^ 49 * u) den (twice u) (grow u) (eight u n den (unit_small n den D)) (closest_half n u (mul-pos D (pow_pos k))))
  where
    shape : (q p d : ℕ) → q * p * d ≡ q * (d * p)
    shape q p d = omega arith

    twice : (u : ℕ) → 2 ^ 50 * u ≡ 2 * (2 ^ 49 * u)
    twice u = omega arith

    grow : (u : ℕ) → u ≤ 2 ^ 49 * u
    grow u = omega arith

    eight : (u n d : ℕ) → u * 2 ^ 52 ≤ n + d * 2 ^ 52 → 8 * (2 ^ 49 * u) ≤ n + 4 * (2 ^ 50 * d)
    eight u n d h = omega arith

-- what a fraction is rounded to, with either sign, below the overflow
pub round_value : (s : Bool) (a c : ℕ) → grid binary64 a c < 2 ^ 2098 → HasValue (round binary64 s a c) s (grid binary64 a c) L
round_value s a c h =
    subst (λ (z : Float). HasValue z s (grid binary64 a c) L) (sym (round_is binary64 s a c))
    (units_val binary64 s (kept 53 (a * L) c) (drop 53 (a * L) c) h)

-- ---- the operations

-- x / d is a / l and y / e is b / l: their sum
over_one : (x y a b d e l : ℕ) → x * l ≡ a * d → y * l ≡ b * e → (x * e + y * d) * l ≡ (a + b) * (d * e)
over_one x y a b d e l p q =
    let s : x * l * e ≡ a * d * e = ap (λ (z : ℕ). z * e) p in
    let t : y * l * d ≡ b * e * d = ap (λ (z : ℕ). z * d) q in
    omega arith

pub sum_is : (x y : Float) (a b : ℕ) → HasValue x false a L → HasValue y false b L → add binary64 x y ≡ round binary64 false (a + b) L
unfolding add sum
sum_is nan y a b v w = absurd v
sum_is (inf s) y a b v w = absurd v
sum_is (fin true m e) y a b v w = absurd (true≢false v.0)
sum_is (fin false m e) nan a b v w = absurd w
sum_is (fin false m e) (inf s) a b v w = absurd w
sum_is (fin false m e) (fin true n d) a b v w = absurd (true≢false w.0)
sum_is (fin false m e) (fin false n d) a b v w =
    round_same binary64 false (m * up e * down d + n * up d * down e) (down e * down d) (a + b) L (mul-pos (down_pos e) (down_pos d)) (pow_pos 1074)
    (over_one (m * up e) (n * up d) a b (down e) (down d) L v.1 w.1)

-- and their quotient
cross : (x y a m d e l : ℕ) → 0 < l → x * l ≡ a * d → y * l ≡ m * e → x * e * m ≡ a * (y * d)
cross x y a m d e l pos p q =
    let s : x * l * (e * m) ≡ a * d * (e * m) = ap (λ (z : ℕ). z * (e * m)) p in
    let t : y * l * (a * d) ≡ m * e * (a * d) = ap (λ (z : ℕ). z * (a * d)) q in
    let c : x * e * m * l ≡ a * (y * d) * l = omega arith in
    eq_of_mul-eq-mul_right l pos (x * e * m) (a * (y * d)) c

some_not_none : (n : ℕ) → T (not (eqb (suc n) 0))
some_not_none n = not_T (eqb (suc n) 0) (λ (t : T (eqb (suc n) 0)). none (eqb→eq (suc n) 0 t))
  where
    none : suc n ≡ 0 → ⊥
    none e = omega arith

divided : (s : Bool) (m : ℕ) (e : ℤ) (n : ℕ) (d : ℤ) → div binary64 (fin s m e) (fin false (suc n) d) ≡ round binary64 s (m * up e * down d) (suc n * up d * down e)
unfolding div
divided true m e n d = cond_no (eqb (suc n) 0) (cond (eqb m 0) nan (inf true)) (round binary64 true (m * up e * down d) (suc n * up d * down e)) (some_not_none n)
divided false m e n d = cond_no (eqb (suc n) 0) (cond (eqb m 0) nan (inf false)) (round binary64 false (m * up e * down d) (suc n * up d * down e)) (some_not_none n)

pub quotient_is : (x y : Float) (r : Bool) (a m : ℕ) → 0 < m → HasValue x r a L → HasValue y false m L → div binary64 x y ≡ round binary64 r a m
quotient_is nan y r a m p v w = absurd v
quotient_is (inf s) y r a m p v w = absurd v
quotient_is (fin s k e) nan r a m p v w = absurd w
quotient_is (fin s k e) (inf t) r a m p v w = absurd w
quotient_is (fin s k e) (fin true n d) r a m p v w = absurd (true≢false w.0)
quotient_is (fin s k e) (fin false zero d) r a m p v w =
    absurd (lt_irrefl 0 (subst (λ (x : ℕ). 0 < x) (sym w.1 ∙ ap (λ (z : ℕ). z * L) (zero-mul (up d)) ∙ zero-mul L) (mul-pos p (down_pos d))))
quotient_is (fin s k e) (fin false (suc n) d) r a m p v w =
    divided s k e n d
    ∙ ap (λ (t : Bool). round binary64 t (k * up e * down d) (suc n * up d * down e)) v.0
    ∙ round_same binary64 r (k * up e * down d) (suc n * up d * down e) a m (mul-pos (mul-pos (zero-lt-suc n) (up_pos d)) (down_pos e)) p
    (cross (k * up e) (suc n * up d) a m (down e) (down d) L (pow_pos 1074) v.1 w.1)
