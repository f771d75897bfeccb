-- Rounding to the nearest whole number, how large the unit is that a double is rounded to, and the square of a double as
-- a rounded fraction. Assumes nothing.
use Rattle.std.proofs.Common.{◌≡◌, ℕ, zero, suc, ◌+◌, ◌-◌, ◌*◌, ◌/◌, ◌%◌, ◌^◌, ◌<◌, ◌≤◌, Bool, true, false, not, T, leb, sym, refl, ap, ◌∙◌, subst, le_trans, le_of_eq, mod-lt, mul_assoc, mul_comm, mul-pos, le-div_iff_mul-le, mul_left_comm, arith, eqb→eq, leb→le, pow_pos, pow-add}
use Prim.Native.Nat.{compare, Ordering}
use native.Mathlib.Nat.{div-add-mod}
use lib.Dec.{is_le, compare_is_eq, nleb→lt}
use lib.Ieee.{Float, nan, inf, fin, binary64, up, down, size, nearest, round, mul}
use lib.Ieee.Digits.{size_reaches}
use lib.Ieee.Exact.{HasValue}
use lib.Ieee.Fits.{down_pos}
use lib.Ieee.Nearest.{closest}
use lib.Ieee.Order.{drop}
use lib.Ieee.Scale.{round_same}

-- ---- rounding to the nearest whole number: at most half a unit away

abbrev pub Half : ℕ → ℕ → ℕ → Type 0
Half u x n = (2 * x ≤ 2 * n + u) × (2 * n ≤ 2 * x + u)

half : (q u r : ℕ) (o : Ordering) → r < u → (T (is_le o) → r * 2 ≤ u) → (T (not (is_le o)) → u < r * 2) → (T (compare_is_eq o) → r * 2 ≡ u) → Half u (nearest q o * u) (q * u + r)
half q u r Ordering.lt p a b c = (omega arith, low (q * u) (a tt))
  where
    low : (x : ℕ) → r * 2 ≤ u → 2 * (x + r) ≤ 2 * x + u
    low x h = omega arith
half q u r Ordering.eq p a b c = tie (q % 2) (one q) (c tt)
  where
    one : (q : ℕ) → q % 2 ≤ 1
    one q = omega arith

    tie : (t : ℕ) → t ≤ 1 → r * 2 ≡ u → Half u ((q + t) * u) (q * u + r)
    tie zero h e = (omega arith, omega arith)
    tie (suc zero) h e = (omega arith, omega arith)
    tie (suc (suc t)) h e = (omega arith, omega arith)
half q u r Ordering.gt p a b c = above (b tt)
  where
    above : u < r * 2 → Half u (suc q * u) (q * u + r)
    above h = (omega arith, omega arith)

pub closest_half : (n u : ℕ) → 0 < u → Half u (closest n u * u) n
closest_half n u pos =
    subst (λ (x : ℕ). Half u (closest n u * u) x) (whole n u)
    (half (n / u) u (n % u) (compare (n % u * 2) u) (mod-lt n pos) (leb→le (n % u * 2) u) (nleb→lt (n % u * 2) u) (eqb→eq (n % u * 2) u))
  where
    whole : (n u : ℕ) → n / u * u + n % u ≡ n
    whole n u = ap (λ (x : ℕ). x + n % u) (mul_comm (n / u) u) ∙ div-add-mod n u

-- ---- the unit that a fraction in units is rounded to

-- with all digits in use a unit is at most 2 ^ -52 of the whole
pub unit_normal : (n d : ℕ) → 0 < d → 53 ≤ size (n / d) → d * 2 ^ drop 53 n d * 2 ^ 52 ≤ n
unit_normal n d D h =
    let z = size (n / d) in
    let k = z - 53 in
    let a : 2 ^ (52 + k) ≤ n / d = size_reaches (n / d) (52 + k) (under z h) in
    le_trans (le_of_eq (shape d (2 ^ k) (2 ^ 52) ∙ ap (λ (x : ℕ). x * d) (sym (pow-add 2 52 k)))) ((le-div_iff_mul-le D).0 a)
  where
    under : (z : ℕ) → 53 ≤ z → 52 + (z - 53) < z
    under z h = omega arith

    shape : (d p q : ℕ) → d * p * q ≡ q * p * d
    shape d p q = simp (mul_assoc, mul_comm, mul_left_comm) refl

-- or the smallest there is
pub unit_small : (n d : ℕ) → 0 < d → d * 2 ^ drop 53 n d * 2 ^ 52 ≤ n + d * 2 ^ 52
unit_small n d D = go (leb 53 (size (n / d))) (leb→le 53 (size (n / d))) (nleb→lt 53 (size (n / d)))
  where
    none : (z : ℕ) → z < 53 → z - 53 ≡ 0
    none z h = omega arith

    more : (n x y : ℕ) → x ≤ n → x ≤ n + y
    more n x y h = omega arith

    least : (n d : ℕ) → d * 1 * 2 ^ 52 ≤ n + d * 2 ^ 52
    least n d = omega arith

    go : (b : Bool) → (T b → 53 ≤ size (n / d)) → (T (not b) → size (n / d) < 53) → d * 2 ^ drop 53 n d * 2 ^ 52 ≤ n + d * 2 ^ 52
    go true h g = more n (d * 2 ^ drop 53 n d * 2 ^ 52) (d * 2 ^ 52) (unit_normal n d D (h tt))
    go false h g = subst (λ (k : ℕ). d * 2 ^ k * 2 ^ 52 ≤ n + d * 2 ^ 52) (sym (none (size (n / d)) (g tt))) (least n d)

-- ---- the square

-- x / d is m / l, so their squares are equal
both_sides : (x m d l : ℕ) → x * l ≡ m * d → x * x * (l * l) ≡ m * m * (d * d)
both_sides x m d l e = let a : x * l * (x * l) ≡ m * d * (m * d) = ap (λ (z : ℕ). z * z) e in omega arith

pub square_is : (b : Float) (r : Bool) (m : ℕ) → HasValue b r m (2 ^ 1074) → mul binary64 b b ≡ round binary64 false (m * m) (2 ^ 1074 * 2 ^ 1074)
unfolding mul
square_is nan r m v = absurd v
square_is (inf s) r m v = absurd v
square_is (fin true x e) r m v =
    round_same binary64 false (x * up e * (x * up e)) (down e * down e) (m * m) (2 ^ 1074 * 2 ^ 1074) (mul-pos (down_pos e) (down_pos e)) (mul-pos (pow_pos 1074) (pow_pos 1074))
    (both_sides (x * up e) m (down e) (2 ^ 1074) v.1)
square_is (fin false x e) r m v =
    round_same binary64 false (x * up e * (x * up e)) (down e * down e) (m * m) (2 ^ 1074 * 2 ^ 1074) (mul-pos (down_pos e) (down_pos e)) (mul-pos (pow_pos 1074) (pow_pos 1074))
    (both_sides (x * up e) m (down e) (2 ^ 1074) v.1)
