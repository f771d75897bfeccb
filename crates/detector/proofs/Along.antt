-- A step along a size is one of the steps. Assumes nothing.
use mathlib.Core.Path.{◌≡◌, refl, sym, ap, subst, ◌∙◌}
use Prim.Native.Nat.{ℕ, zero, suc, ◌+◌, ◌-◌, ◌*◌, ◌/◌, ◌^◌, ◌≤◌, ◌<◌, zero-le}
use native.Mathlib.Nat.{le_trans, le_of_eq, le_of_lt, lt_of_lt_of_le, mul-pos, mul_comm, mul_assoc, mul-one, mul_left_comm, mul-le-mul_right, le_of_mul-le-mul_right, min-le_left}
use native.Mathlib.Omega.{arith}
use mathlib.Core.Bool.{Bool, true, false, not, cond, beq, ◌&&◌, ◌||◌}
use lib.IntN.{pos, negsuc}
use lib.Dec.{T, ltb, eqb, ltb→lt, eqb→eq, nltb→le}
use lib.Pow.{pow_pos, pow_mono, shl_lt}
use lib.Ieee.{Float, nan, inf, fin, binary64, up, down, odd, units, round, mul, lt, le, eq, of_bits, of_int, to_unsigned}
use lib.Ieee.Fits.{down_pos, round_is}
use lib.Ieee.Exact.{HasValue, round_exact}
use lib.Ieee.Back.{round_whole}
use lib.Ieee.Nearest.{div_mono}
use lib.Ieee.Order.{round_mono}
use Rattle.doubles.specs.Doubles.{clamp_of}
use Rattle.detector.specs.Pixels.{index_along_of}

-- x is not a number, or negative, or at most a / c
abbrev AtMost : Float → ℕ → ℕ → Type 0
AtMost nan a c = Unit {0}
AtMost (inf true) a c = Unit {0}
AtMost (inf false) a c = ⊥
AtMost (fin true m e) a c = Unit {0}
AtMost (fin false m e) a c = m * up e * c ≤ a * down e

-- 0.999999
abbrev most : ℕ
most = 0x1ffffde7210be9

abbrev last : Float
last = fin false most (negsuc 52)

no_more : (x : Float) → lt last x ≡ false → AtMost x most (2 ^ 53)
unfolding lt
no_more nan e = tt
no_more (inf true) e = tt
no_more (inf false) e = absurd (subst T e tt)
no_more (fin true m d) e = tt
no_more (fin false m d) e =
    subst (λ (n : ℕ). m * up d * 2 ^ 53 ≤ n * down d) (mul-one most)
    (nltb→le (most * 1 * down d) (m * up d * 2 ^ 53) (subst (λ (t : Bool). T (not t)) (sym e) tt))

clamped : (x : Float) → AtMost (clamp_of x (of_bits binary64 0) (of_bits binary64 0x3feffffde7210be9)) most (2 ^ 53)
unfolding clamp_of of_bits
clamped x = go (lt x (of_bits binary64 0)) (lt last x) refl
  where
    go : (a b : Bool) → lt last x ≡ b → AtMost (cond a (fin false 0 (pos 0)) (cond b last x)) most (2 ^ 53)
    go true b e = omega arith
    go false true e = omega arith
    go false false e = no_more x e

-- ---- a product

product : (p q de dd D N n a b : ℕ) → 0 < D → p * D ≤ N * de → q * 1 ≡ n * dd → N * n * b ≤ a * D → p * q * b ≤ a * (de * dd)
product p q de dd D N n a b some h e g =
    le_of_mul-le-mul_right
    (le_trans (le_of_eq first) (le_trans (mul-le-mul_right (q * b) h) (le_trans (le_of_eq middle) (le_trans (mul-le-mul_right (de * dd) g) (le_of_eq last')))))
    some
  where
    first : p * q * b * D ≡ p * D * (q * b)
    first = simp (mul_assoc, mul_comm, mul_left_comm) refl

    middle : N * de * (q * b) ≡ N * n * b * (de * dd)
    middle = ap (λ (x : ℕ). N * de * (x * b)) (sym (mul-one q) ∙ e) ∙ simp (mul_assoc, mul_comm, mul_left_comm) refl

    last' : a * D * (de * dd) ≡ a * (de * dd) * D
    last' = simp (mul_assoc, mul_comm, mul_left_comm) refl

cancel : (p q a b de dd : ℕ) → 0 < dd → p * dd ≤ q * de → q * b ≡ a * dd → p * b ≤ a * de
cancel p q a b de dd some h e =
    le_of_mul-le-mul_right (le_trans (le_of_eq first) (le_trans (mul-le-mul_right b h) (le_of_eq (second ∙ ap (λ (x : ℕ). x * de) e ∙ third)))) some
  where
    first : p * b * dd ≡ p * dd * b
    first = simp (mul_assoc, mul_comm) refl

    second : q * de * b ≡ q * b * de
    second = simp (mul_assoc, mul_comm) refl

    third : a * dd * de ≡ a * de * dd
    third = simp (mul_assoc, mul_comm) refl

-- ---- at most a fraction, and so cut to at most its whole part

no_greater : (a b : ℕ) (z : Bool) → T (ltb a b || (eqb a b && z)) → a ≤ b
no_greater a b z = go (ltb a b) (eqb a b) z (ltb→lt a b) (eqb→eq a b)
  where
    go : (x y z : Bool) → (T x → a < b) → (T y → a ≡ b) → T (x || (y && z)) → a ≤ b
    go true y z f g t = le_of_lt (f tt)
    go false true z f g t = le_of_eq (g tt)
    go false false z f g t = absurd t

cut : (x y : Float) (a c : ℕ) → 0 < c → HasValue y false a c → T (le x y) → to_unsigned 64 x ≤ a / c
unfolding le lt eq to_unsigned
cut x nan a c p v t = absurd v
cut x (inf s) a c p v t = absurd v
cut nan (fin s n d) a c p v t = absurd t
cut (inf true) (fin s n d) a c p v t = zero-le
cut (inf false) (fin s n d) a c p v t = absurd t
cut (fin true m e) (fin s n d) a c p v t = zero-le
cut (fin false m e) (fin true n d) a c p v t = absurd (subst T v.0 tt)
cut (fin false m e) (fin false n d) a c p v t =
    le_trans (min-le_left (m * up e / down e) (2 ^ 64 - 1))
    (div_mono (m * up e) (down e) a c (down_pos e) p
    (cancel (m * up e) (n * up d) a c (down e) (down d) (down_pos d) (no_greater (m * up e * down d) (n * up d * down e) _ t) v.1))

-- what is negative is cut to 0
below_zero : (q k l : ℕ) → to_unsigned 64 (odd 54 true q k l) ≡ 0
unfolding odd to_unsigned
below_zero zero k l = refl
below_zero (suc q) k l = refl

units_below : (q k : ℕ) → to_unsigned 64 (units binary64 true q k) ≡ 0
unfolding units to_unsigned
units_below q k = go (ltb (q * 2 ^ k) (2 ^ (1074 + 1024)))
  where
    go : (b : Bool) → to_unsigned 64 (cond b (odd 54 true q k 1074) (inf true)) ≡ 0
    go true = below_zero q k 1074
    go false = refl

round_below : (a c : ℕ) → to_unsigned 64 (round binary64 true a c) ≡ 0
round_below a c = ap (to_unsigned 64) (round_is binary64 true a c) ∙ units_below _ _

-- ---- the step

times : (u r : Float) (n a b : ℕ) → AtMost u most (2 ^ 53) → HasValue r false n 1 → 0 < b → most * n * b ≤ a * 2 ^ 53 → HasValue (round binary64 false a b) false a b
    → to_unsigned 64 (mul binary64 u r) ≤ a / b
unfolding mul to_unsigned
times u nan n a b k v p h w = absurd v
times u (inf s) n a b k v p h w = absurd v
times nan (fin s q d) n a b k v p h w = zero-le
times (inf true) (fin s q d) n a b k v p h w = go (eqb q 0) s v.0
  where
    go : (z s : Bool) → s ≡ false → to_unsigned 64 (cond z nan (inf (not (beq true s)))) ≤ a / b
    go true s e = zero-le
    go false true e = absurd (subst T e tt)
    go false false e = zero-le
times (inf false) (fin s q d) n a b k v p h w = absurd k
times (fin s m e) (fin true q d) n a b k v p h w = absurd (subst T v.0 tt)
times (fin true m e) (fin false q d) n a b k v p h w = le_trans (le_of_eq (round_below (m * up e * (q * up d)) (down e * down d))) zero-le
times (fin false m e) (fin false q d) n a b k v p h w =
    cut _ (round binary64 false a b) a b p w
    (round_mono binary64 (m * up e * (q * up d)) (down e * down d) a b (mul-pos (down_pos e) (down_pos d)) p
    (product (m * up e) (q * up d) (down e) (down d) (2 ^ 53) most n a b (pow_pos 53) k v.1 h))

real_is : (n : ℕ) → n ≤ 2 ^ 53 → HasValue (of_int binary64 (pos n)) false n 1
unfolding of_int
real_is n h = round_whole binary64 false n h

-- n - 2 ^ -20 is a double, and 0.999999 times n is no more
pub index_in : (x size : Float) (n : ℕ) → 0 < n → n < 2 ^ 32 → index_along_of x size n < n
unfolding index_along_of
index_in x size n some small =
    let a = n * 2 ^ 20 - 1 in
    let w : HasValue (round binary64 false a (2 ^ 20)) false a (2 ^ 20) = round_exact binary64 false a (2 ^ 20) a 1054 (pow_pos 20) (omega arith) (lt_of_lt_of_le (shl_lt 53 1054 (omega arith)) (let g : 53 + 1054 ≤ 1074 + 1024 = omega arith in pow_mono g)) (sym (mul_assoc a (2 ^ 1054) (2 ^ 20))) in
    let h : index_along_of x size n ≤ a / 2 ^ 20 = times _ _ n a (2 ^ 20) (clamped _) (real_is n (omega arith)) (pow_pos 20) (omega arith) w in
    omega arith

pub index_most : (x size : Float) (n : ℕ) → n < 2 ^ 32 → index_along_of x size n ≤ n
unfolding index_along_of
index_most x size zero small = times _ _ 0 0 1 (clamped _) (real_is 0 (omega arith)) (pow_pos 0) (omega arith) (round_whole binary64 false 0 (omega arith))
index_most x size (suc n) small = le_of_lt (index_in x size (suc n) (omega arith) small)
