-- No number is below itself, and divided by itself every finite one but 0 is 1. Assumes nothing.
use Prim.Native.Nat.compare
use Prim.Native.Nat.{ℕ, zero, suc, ◌-◌, ◌*◌, ◌/◌, ◌%◌, ◌^◌, ◌<◌, compare, Ordering}
use mathlib.Core.Path.{◌≡◌, refl, sym, ap, ◌∙◌}
use mathlib.Core.Bool.{Bool, true, false}
use native.Mathlib.Nat.{mul-pos, mul_assoc, mul-div_cancel_left, mul-div-mul_left, mul-mod_right}
use native.Mathlib.Omega.{arith}
use borrow.Author.Tests.{lt-leb, ne_eqb, ltb-true}
use lib.IntN.{ℤ}
use lib.Pow.{pow_pos}
use lib.Ieee.{Float, nan, inf, fin, up, down, binary64, div, lt, of_bits, round, size, units, nearest}
use lib.Ieee.Fits.{up_pos, down_pos}
use lib.Ieee.Positive.{first_pos}
use Rattle.doubles.specs.Doubles.{is_finite_of}
use Rattle.doubles.proofs.Floats.{clash}

self_below : (n : ℕ) → n < suc n
self_below n = omega arith

pub below_itself : (x : Float) → lt x x ≡ false
unfolding lt
below_itself nan = refl
below_itself (inf true) = refl
below_itself (inf false) = refl
below_itself (fin true m e) = lt-leb _ _ (self_below (m * up e * down e))
below_itself (fin false m e) = lt-leb _ _ (self_below (m * up e * down e))

-- ---- a / a rounds as 1 / 1 does

-- what `round` makes of a / a whose whole part in units is q
abbrev whole : ℕ → ℕ → Float
whole a q =
    let k = size q - 53 in
    units binary64 false (nearest (a * 2 ^ 1074 / (a * 2 ^ k)) (compare (a * 2 ^ 1074 % (a * 2 ^ k) * 2) (a * 2 ^ k))) k

no_rest : (r u : ℕ) → r ≡ 0 → 0 < u → compare (r * 2) u ≡ Ordering.lt
no_rest r zero e p = absurd (none p)
  where
    none : 0 < 0 → ⊥
    none p = omega arith
no_rest r (suc u) e p = rw e (compare.zero-suc u)

as_one : units binary64 false (nearest (2 ^ 1074 / 2 ^ 1022) Ordering.lt) 1022 ≡ of_bits binary64 0x3ff0000000000000
unfolding units of_bits
as_one = refl

digits : size (2 ^ 1074) ≡ 1075
unfolding size
digits = refl

from_whole : (a : ℕ) → 0 < a → round binary64 false a a ≡ whole a (2 ^ 1074)
unfolding round
from_whole a p = ap (whole a) (mul-div_cancel_left (2 ^ 1074) p)

one_whole : (a : ℕ) → 0 < a → whole a (2 ^ 1074) ≡ of_bits binary64 0x3ff0000000000000
one_whole a p =
    ap (λ (d : ℕ). units binary64 false (nearest (a * 2 ^ 1074 / (a * 2 ^ (d - 53))) (compare (a * 2 ^ 1074 % (a * 2 ^ (d - 53)) * 2) (a * 2 ^ (d - 53)))) (d - 53)) digits
    ∙ ap (λ (q : ℕ). units binary64 false (nearest q (compare (a * 2 ^ 1074 % (a * 2 ^ 1022) * 2) (a * 2 ^ 1022))) 1022) (mul-div-mul_left (2 ^ 1074) (2 ^ 1022) p)
    ∙ ap (λ (o : Ordering). units binary64 false (nearest (2 ^ 1074 / 2 ^ 1022) o) 1022) (no_rest (a * 2 ^ 1074 % (a * 2 ^ 1022)) (a * 2 ^ 1022) rest (mul-pos p (pow_pos 1022)))
    ∙ as_one
  where
    rest : a * 2 ^ 1074 % (a * 2 ^ 1022) ≡ 0
    rest = ap (λ (n : ℕ). n % (a * 2 ^ 1022)) (sym (mul_assoc a (2 ^ 1022) (2 ^ 52))) ∙ mul-mod_right (a * 2 ^ 1022) (2 ^ 52)

none : (m : ℕ) → 0 < m → m ≡ 0 → ⊥
none m p z = omega arith

some_left : (m : ℕ) (e : ℤ) → 0 < m → 0 < m * up e * down e
some_left m e p = mul-pos (mul-pos p (up_pos e)) (down_pos e)

pub by_itself : (s : Bool) (m : ℕ) (e : ℤ) → 0 < m → div binary64 (fin s m e) (fin s m e) ≡ of_bits binary64 0x3ff0000000000000
unfolding div
by_itself true m e p = rw (ne_eqb m 0 (λ (z : m ≡ 0). none m p z)) (from_whole (m * up e * down e) (some_left m e p) ∙ one_whole (m * up e * down e) (some_left m e p))
by_itself false m e p = rw (ne_eqb m 0 (λ (z : m ≡ 0). none m p z)) (from_whole (m * up e * down e) (some_left m e p) ∙ one_whole (m * up e * down e) (some_left m e p))

pub above_zero : (x : Float) → is_finite_of x ≡ true → lt (of_bits binary64 0) x ≡ true → div binary64 x x ≡ of_bits binary64 0x3ff0000000000000
unfolding is_finite_of lt of_bits
above_zero nan f l = absurd (clash (sym f))
above_zero (inf s) f l = absurd (clash (sym f))
above_zero (fin true m e) f l = absurd (clash (sym l))
above_zero (fin false m e) f l = by_itself false m e (first_pos m (up e) (first_pos (m * up e) 1 (more (ltb-true _ _ l))))
  where
    more : {a b : ℕ} → a < b → 0 < b
    more p = omega (arith, p)
