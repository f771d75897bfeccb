-- The root of a double, in units: within a digit of the exact root's whole part. The zero has the root 0. Assumes
-- nothing.
use Prim.Native.Nat.{ℕ, zero, suc, ◌+◌, ◌-◌, ◌*◌, ◌/◌, ◌^◌, ◌≤◌, ◌<◌, compare}
use native.Mathlib.Nat.{div-one, le_trans, le_of_eq, lt_of_le_of_lt, lt_of_lt_of_le, lt-suc_self, mul-le-mul, mul-le-mul_left, mul-le-mul_right, mul-lt-mul_of_pos_right, mul-pos, div-mul-le_self, div-lt_iff_lt-mul, zero-mul, zero-lt-suc, lt_irrefl}
use native.Mathlib.Omega.{arith}
use mathlib.Core.Path.{sym, ap, ◌∙◌, subst}
use mathlib.Core.Bool.{true, false, true≢false}
use lib.Dec.{lit≤, lit<}
use lib.Pow.{pow-add, pow_pos}
use lib.Ieee.{Float, nan, inf, fin, binary64, up, down, size, nearest}
use lib.Ieee.Exact.{HasValue, units_val}
use lib.Ieee.Fits.{nearest-le, up_pos, down_pos}
use lib.Ieee.Nearest.{nearest-ge}
use Rattle.doubles.specs.Root.{whole_root, root_round, sqrt_in, sqrt_of}
use Rattle.doubles.proofs.Rounding.{unit_small}
use Rattle.doubles.proofs.Patterns.{positive_root}
use Rattle.doubles.proofs.Whole.{IsRoot, whole_root_is, less_root}
use Rattle.theorems_axes.specs.Axes.{L}
use Rattle.theorems_axes.proofs.Nearly.{Near}

-- the root m is at most a unit u away from the whole part w
pub record Rooted (y : Float) (N : ℕ) : Type 0 where
  pub m : ℕ
  pub w : ℕ
  pub u : ℕ
  pub is : HasValue y false m L
  pub whole : IsRoot N w
  pub above : m ≤ w + u
  pub below : w ≤ m + u
  pub some : 0 < u
  pub small : u * 2 ^ 52 ≤ w + 2 ^ 52

-- all 53 digits are in use, or none is dropped
root_unit : (w : ℕ) → 2 ^ (size w - 53) * 2 ^ 52 ≤ w + 2 ^ 52
root_unit w = plain (2 ^ (size w - 53)) w (subst (λ (q : ℕ). 1 * 2 ^ (size q - 53) * 2 ^ 52 ≤ w + 1 * 2 ^ 52) (div-one w) (unit_small w 1 (lit< tt)))
  where
    plain : (p w : ℕ) → 1 * p * 2 ^ 52 ≤ w + 1 * 2 ^ 52 → p * 2 ^ 52 ≤ w + 2 ^ 52
    plain p w h = omega arith

rounded : (N : ℕ) → N < 2 ^ 3172 → Rooted (root_round binary64 N) N
unfolding root_round
rounded N few =
    let w = whole_root N in
    let k = size w - 53 in
    let p = 2 ^ k in
    let v = w / p in
    let h = (2 * v + 1) * p in
    let q = nearest v (compare (4 * N) (h * h)) in
    let up : q * p ≤ suc v * p = mul-le-mul_right p (nearest-le v (compare (4 * N) (h * h))) in
    let down : v * p ≤ q * p = mul-le-mul_right p (nearest-ge v (compare (4 * N) (h * h))) in
    let least : v * p ≤ w = div-mul-le_self w p in
    let most : w < suc v * p = (div-lt_iff_lt-mul (pow_pos k)).0 (lt-suc_self v) in
    let a : q * p ≤ w + p = over q v w p up least in
    let s : p * 2 ^ 52 ≤ w + 2 ^ 52 = root_unit w in
    let short : w < 2 ^ 1586 = less_root w (2 ^ 1586) (lt_of_le_of_lt (whole_root_is N).0 (lt_of_lt_of_le few (le_of_eq (pow-add 2 1586 1586)))) in
    record {
      m = q * p;
      w = w;
      u = p;
      is = units_val binary64 false q k (lt_of_lt_of_le (under (q * p) w p (2 ^ 1586) a s short) (lit≤ tt));
      whole = whole_root_is N;
      above = a;
      below = beneath q v w p down most;
      some = pow_pos k;
      small = s;
    }
  where
    over : (q v w p : ℕ) → q * p ≤ suc v * p → v * p ≤ w → q * p ≤ w + p
    over q v w p a b = omega arith

    beneath : (q v w p : ℕ) → v * p ≤ q * p → w < suc v * p → w ≤ q * p + p
    beneath q v w p a b = omega arith

    under : (m w p W : ℕ) → m ≤ w + p → p * 2 ^ 52 ≤ w + 2 ^ 52 → w < W → m < 2 * W
    under m w p W a b c = omega arith

pub root_value : (x : Float) (a : ℕ) → HasValue x false a L → a < 2 ^ 2098 → Rooted (sqrt_of x) (a * L)
unfolding sqrt_of sqrt_in
root_value nan a v h = absurd v
root_value (inf s) a v h = absurd v
root_value (fin true n e) a v h = absurd (true≢false v.0)
root_value (fin false zero e) zero v h =
    record {
      m = 0;
      w = 0;
      u = 1;
      is = v;
      whole = (le_of_eq (sym (zero-mul L)), subst (λ (x : ℕ). x < 1) (sym (zero-mul L)) (lit< tt));
      above = lit≤ tt;
      below = lit≤ tt;
      some = lit< tt;
      small = lit≤ tt;
    }
root_value (fin false zero e) (suc a) v h = absurd (lt_irrefl 0 (subst (λ (x : ℕ). 0 < x) (sym v.1 ∙ ap (λ (z : ℕ). z * L) (zero-mul (up e)) ∙ zero-mul L) (mul-pos (zero-lt-suc a) (down_pos e))))
root_value (fin false (suc n) e) zero v h = absurd (lt_irrefl 0 (subst (λ (x : ℕ). 0 < x) (v.1 ∙ zero-mul (down e)) (mul-pos (mul-pos (zero-lt-suc n) (up_pos e)) (pow_pos 1074))))
root_value (fin false (suc n) e) (suc a) v h =
    subst (λ (y : Float). Rooted y (suc a * L)) (sym (positive_root binary64 (fin false (suc n) e) (suc a) v (zero-lt-suc a)))
    (rounded (suc a * L) (lt_of_lt_of_le (mul-lt-mul_of_pos_right h (pow_pos 1074)) (le_of_eq (sym (pow-add 2 2098 1074)))))

-- ---- the square of the root

square_above : (K m w u N : ℕ) → u ≤ w → 2 * K * u ≤ w → m ≤ w + u → w * w ≤ N → K * (m * m) ≤ (K + 3) * N
square_above K m w u N l s a lo =
    let p : K * (m * m) ≤ K * ((w + u) * (w + u)) = mul-le-mul_left K (mul-le-mul a a) in
    let q : 2 * K * u * w ≤ w * w = mul-le-mul_right w s in
    let t : 2 * K * u * u ≤ w * u = mul-le-mul_right u s in
    let e : w * u ≤ w * w = mul-le-mul_left w l in
    let k : K * (w * w) ≤ K * N = mul-le-mul_left K lo in
    omega arith

square_below : (K m w u N : ℕ) → u ≤ m → K * u ≤ m → w ≤ m + u → N ≤ (w + u) * (w + u) → K * N ≤ (K + 8) * (m * m)
square_below K m w u N l s b hi =
    let c : w + u ≤ m + 2 * u = omega arith in
    let p : (w + u) * (w + u) ≤ (m + 2 * u) * (m + 2 * u) = mul-le-mul c c in
    let k : K * N ≤ K * ((m + 2 * u) * (m + 2 * u)) = mul-le-mul_left K (le_trans hi p) in
    let q : K * u * m ≤ m * m = mul-le-mul_right m s in
    let t : K * u * u ≤ m * u = mul-le-mul_right u s in
    let e : m * u ≤ m * m = mul-le-mul_left m l in
    omega arith

-- a root that is not very small has a square near N
pub square_near : (m w u N : ℕ) → 2 ^ 60 ≤ m → m ≤ w + u → w ≤ m + u → 0 < u → u * 2 ^ 52 ≤ w + 2 ^ 52 → IsRoot N w → Near 8 0 (m * m) N
square_near m w u N big a b some small is =
    let large : 2 * 2 ^ 50 * u ≤ w = by_whole in
    let close : 2 ^ 50 * u ≤ m = by-root large in (
      loose (m * m) N (square_above (2 ^ 50) m w u N (grow-w large) large a is.0),
      plain (m * m) N (square_below (2 ^ 50) m w u N (grow-m close) close b (le_trans (less is.1) (mul-le-mul next next))),
    )
  where
    by_whole : 2 * 2 ^ 50 * u ≤ w
    by_whole = omega arith

    by-root : 2 * 2 ^ 50 * u ≤ w → 2 ^ 50 * u ≤ m
    by-root h = omega arith

    grow-w : 2 * 2 ^ 50 * u ≤ w → u ≤ w
    grow-w h = omega arith

    grow-m : 2 ^ 50 * u ≤ m → u ≤ m
    grow-m h = omega arith

    next : suc w ≤ w + u
    next = omega arith

    less : {x y : ℕ} → x < y → x ≤ y
    less h = omega arith

    loose : (x y : ℕ) → 2 ^ 50 * x ≤ (2 ^ 50 + 3) * y → 2 ^ 50 * x ≤ (2 ^ 50 + 8) * y + 2 ^ 50 * 0
    loose x y h = omega arith

    plain : (x y : ℕ) → 2 ^ 50 * y ≤ (2 ^ 50 + 8) * x → 2 ^ 50 * y ≤ (2 ^ 50 + 8) * x + 2 ^ 50 * 0
    plain x y h = omega arith

-- what has the root m is at most about 4 * m * m
pub square_most : (m w u N : ℕ) → w ≤ m + u → u * 2 ^ 52 ≤ w + 2 ^ 52 → IsRoot N w → N < (2 * m + 3) * (2 * m + 3)
square_most m w u N b small is = lt_of_lt_of_le is.1 (mul-le-mul next next)
  where
    next : suc w ≤ 2 * m + 3
    next = omega arith
