-- Doubles as whole numbers of the smallest one: a finite double has one such number, and what has one is finite.
-- By cases over the three kinds of values, since `HasValue` is defined so. Assumes nothing.
use Prim.Native.Nat.{ℕ, zero, suc, ◌-◌, ◌*◌, ◌%◌, ◌^◌, ◌≤◌, ◌<◌}
use native.Mathlib.Nat.{le_of_suc-le-suc, lt_of_not-le, not-le_of_lt, mul-one, mul_assoc, mul-le-mul_right, le_of_mul-le-mul_right, eq_of_mul-eq-mul_right}
use native.Mathlib.Omega.{arith}
use mathlib.Core.Path.{◌≡◌, refl, sym, ap, ◌∙◌, subst}
use mathlib.Core.Bool.{Bool, true, false, not, ◌&&◌}
use lib.Dec.{T, ltb, leb, eqb, leb→le, nltb→le, lit≤}
use lib.IntN.{pos, negsuc}
use lib.Pow.{pow-add, pow_pos, pow-lt}
use lib.Ieee.{Float, nan, inf, fin, binary64, up, down, lt, of_bits, fits}
use lib.Ieee.Digits.{back}
use lib.Ieee.Exact.{HasValue}
use lib.Ieee.Fits.{down_pos, and_l, and_r}
use Rattle.doubles.proofs.Floats.{clash}
use Rattle.doubles.specs.Doubles.{abs_of, is_finite_of}
use Rattle.theorems_axes.specs.Axes.{L}

pub has_finite : (x : Float) (s : Bool) (a : ℕ) → HasValue x s a L → is_finite_of x ≡ true
unfolding is_finite_of
has_finite nan s a v = absurd v
has_finite (inf t) s a v = absurd v
has_finite (fin t m e) s a v = refl

pub same_value : (x : Float) (s t : Bool) (a b : ℕ) → HasValue x s a L → HasValue x t b L → a ≡ b
same_value nan s t a b v w = absurd v
same_value (inf u) s t a b v w = absurd v
same_value (fin u m e) s t a b v w = eq_of_mul-eq-mul_right (down e) (down_pos e) a b (sym v.1 ∙ w.1)

pub value : (x : Float) → is_finite_of x ≡ true → T (fits binary64 x) → (s : Bool) × (a : ℕ) × HasValue x s a L
unfolding is_finite_of fits
value nan h t = absurd (clash (sym h))
value (inf s) h t = absurd (clash (sym h))
value (fin s zero e) h t = (s, 0, (refl, none (up e) (down e) L))
  where
    none : (u d l : ℕ) → 0 * u * l ≡ 0 * d
    none u d l = omega arith
value (fin s (suc m) (pos k)) h t = (s, suc m * 2 ^ k * L, (refl, sym (mul-one (suc m * 2 ^ k * L))))
value (fin s (suc m) (negsuc k)) h t =
    (s, suc m * 2 ^ (1074 - suc k), (refl, ap (λ (x : ℕ). x * L) (mul-one (suc m)) ∙ ap (λ (x : ℕ). suc m * x) whole ∙ sym (mul_assoc (suc m) (2 ^ (1074 - suc k)) (2 ^ suc k))))
  where
    third : (a b c d : Bool) → T (a && b && c && d) → T c
    third a b c d t = and_r (a && b) c (and_l (a && b && c) d t)

    room : 2 ^ suc k ≤ L
    room = leb→le (2 ^ suc k) L (third (eqb (suc m % 2) 1) (ltb (suc m) (2 ^ 53)) (leb (2 ^ suc k) L) (ltb (suc m * 1) (2 ^ 1024 * 2 ^ suc k)) t)

    few : suc k ≤ 1074
    few = le_of_suc-le-suc (lt_of_not-le (λ (g : 1074 < suc k). not-le_of_lt (pow-lt g) room))

    whole : L ≡ 2 ^ (1074 - suc k) * 2 ^ suc k
    whole = ap (λ (x : ℕ). 2 ^ x) (sym (back 1074 (suc k) few)) ∙ pow-add 2 (1074 - suc k) (suc k)

-- ---- a size that does not exceed 0.9999

-- 0.9999
abbrev pub limit : Float
limit = of_bits binary64 0x3fefff2e48e8a71e

limit_is : limit ≡ fin false 0xfff972474538f (negsuc 51)
unfolding of_bits
limit_is = refl

not_beyond_size : (x : Float) (s : Bool) (a : ℕ) → HasValue x s a L → lt (fin false 0xfff972474538f (negsuc 51)) (abs_of x) ≡ false → 100000 * a ≤ 99991 * L
unfolding lt abs_of
not_beyond_size nan s a v h = absurd v
not_beyond_size (inf u) s a v h = absurd v
not_beyond_size (fin u m e) s a v h =
    le_of_mul-le-mul_right
    (last a 0xfff972474538f (2 ^ 52) L
    (le_of_mul-le-mul_right
    (over (m * up e) (down e) L a 0xfff972474538f (2 ^ 52) (nltb→le (0xfff972474538f * 1 * down e) (m * up e * 2 ^ 52) (subst (λ (t : Bool). T (not t)) (sym h) tt)) v.1) (down_pos e))
    (lit≤ tt)) (pow_pos 52)
  where
    over : (x d l a k p : ℕ) → x * p ≤ k * 1 * d → x * l ≡ a * d → a * p * d ≤ k * l * d
    over x d l a k p h e =
        let y : x * p * l ≤ k * 1 * d * l = mul-le-mul_right l h in
        let z : x * l * p ≡ a * d * p = ap (λ (t : ℕ). t * p) e in
        omega arith

    last : (a k p l : ℕ) → a * p ≤ k * l → 100000 * k ≤ 99991 * p → 100000 * a * p ≤ 99991 * l * p
    last a k p l h g =
        let y : 100000 * k * l ≤ 99991 * p * l = mul-le-mul_right l g in
        omega arith

pub not_beyond : (x : Float) (s : Bool) (a : ℕ) → HasValue x s a L → lt limit (abs_of x) ≡ false → 100000 * a ≤ 99991 * L
not_beyond x s a v h = not_beyond_size x s a v (subst (λ (y : Float). lt y (abs_of x) ≡ false) limit_is h)
