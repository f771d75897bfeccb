-- What becomes of a vector that is made of length 1, how large the parts of a short vector are, and the length of a
-- modest one. In units of the smallest double each rounding is an inequality of whole numbers, and a chain of few such
-- steps bounds the whole. Assumes nothing.
use Prim.Native.Nat.{ℕ, suc, ◌+◌, ◌*◌, ◌^◌, ◌≤◌, ◌<◌}
use native.Mathlib.Nat.{le_trans, le_of_lt, le_of_suc-le-suc, lt_of_le_of_lt, lt_of_lt_of_le, le_of_mul-le-mul_right, lt_of_mul-lt-mul_right, mul-le-mul, mul-le-mul_right, mul-lt-mul_of_pos_right, mul-pos}
use native.Mathlib.Omega.{arith}
use mathlib.Core.Path.{◌≡◌, refl, sym, ap, subst}
use mathlib.Core.Bool.{Bool, true, false, not, true≢false}
use lib.Dec.{T, ltb→lt, nltb→le, lit≤, lit<}
use lib.IntN.{negsuc}
use lib.Pow.{pow_pos}
use lib.Ieee.{Float, nan, inf, fin, binary64, up, down, div, lt}
use lib.Ieee.Exact.{HasValue}
use lib.Ieee.Fits.{down_pos}
use lib.Ieee.Scale.{grid}
use Rattle.doubles.proofs.Whole.{less_root}
use Rattle.doubles.specs.Doubles.{is_finite_of}
use Rattle.rays.specs.declared.vector.Vec3.{Vec3}
use Rattle.rays.specs.Vectors.{norm_of, min_length, divide_of, normalize_of}
use Rattle.rays.proofs.Shortest.{short, short_is}
use Rattle.theorems_axes.specs.Axes.{L, E, Within}
use Rattle.theorems_axes.proofs.Nearly.{Under, Near, chain}
use Rattle.theorems_axes.proofs.Rounded.{grid_near, round_value, quotient_is}
use Rattle.theorems_axes.proofs.Rooted.{square_near, square_most}
use Rattle.theorems_axes.proofs.Quotients.{quotient_within, quotient_most, square_above, square_below, unit_within}
use Rattle.theorems_axes.proofs.Dots.{dotted, dot_near, finite_length, modest_rooted}

-- ---- compared with 1e-15, which is between 2 ^ 1024 and 2 ^ 1025 units

-- a number n / d that is m / l, against c / p
more_in_units : (c p n d m l : ℕ) → 0 < d → n * l ≡ m * d → c * 1 * d < n * p → 0 < l → c * l < m * p
more_in_units c p n d m l pos e h some = lt_of_mul-lt-mul_right d scaled
  where
    scaled : c * l * d < m * p * d
    scaled =
        let a : c * 1 * d * l < n * p * l = mul-lt-mul_of_pos_right h some in
        let b : n * l * p ≡ m * d * p = ap (λ (z : ℕ). z * p) e in
        omega arith

less_in_units : (c p n d m l : ℕ) → 0 < d → n * l ≡ m * d → n * p ≤ c * 1 * d → m * p ≤ c * l
less_in_units c p n d m l pos e h = le_of_mul-le-mul_right scaled pos
  where
    scaled : m * p * d ≤ c * l * d
    scaled =
        let a : n * p * l ≤ c * 1 * d * l = mul-le-mul_right l h in
        let b : n * l * p ≡ m * d * p = ap (λ (z : ℕ). z * p) e in
        omega arith

above_short : (y : Float) (m : ℕ) → HasValue y false m L → lt (fin false short (negsuc 100)) y ≡ true → 2 ^ 1024 ≤ m
unfolding lt
above_short nan m v h = absurd v
above_short (inf s) m v h = absurd v
above_short (fin true n e) m v h = absurd (true≢false v.0)
above_short (fin false n e) m v h =
    le_of_mul-le-mul_right
    (le_trans least (le_of_lt (more_in_units short (2 ^ 101) (n * up e) (down e) m L (down_pos e) v.1 (ltb→lt (short * 1 * down e) (n * up e * 2 ^ 101) (subst T (sym h) tt)) (pow_pos 1074))))
    (pow_pos 101)
  where
    least : 2 ^ 1024 * 2 ^ 101 ≤ short * L
    least = lit≤ tt

not_above_short : (y : Float) (m : ℕ) → HasValue y false m L → lt (fin false short (negsuc 100)) y ≡ false → m ≤ 2 ^ 1025
unfolding lt
not_above_short nan m v h = absurd v
not_above_short (inf s) m v h = absurd v
not_above_short (fin true n e) m v h = absurd (true≢false v.0)
not_above_short (fin false n e) m v h =
    le_of_mul-le-mul_right
    (le_trans (less_in_units short (2 ^ 101) (n * up e) (down e) m L (down_pos e) v.1 (nltb→le (short * 1 * down e) (n * up e * 2 ^ 101) (subst (λ (t : Bool). T (not t)) (sym h) tt))) most)
    (pow_pos 101)
  where
    most : short * L ≤ 2 ^ 1025 * 2 ^ 101
    most = lit≤ tt

-- ---- a square is at most the sum of three

first_of : (x y z : ℕ) → x * x ≤ x * x + y * y + z * z
first_of x y z = omega arith

second_of : (x y z : ℕ) → y * y ≤ x * x + y * y + z * z
second_of x y z = omega arith

third_of : (x y z : ℕ) → z * z ≤ x * x + y * y + z * z
third_of x y z = omega arith

-- ---- the sum S of the squares is near the squared length M

module _ (M S l : ℕ) (near : Near 14 (28 * l) M S) (large : 2 ^ 50 * (28 * l) ≤ M) where
  sum_most : 2 ^ 50 * S ≤ (2 ^ 50 + 15) * M
  sum_most = fine near.1
    where
      fine : Under 14 (28 * l) S M → 2 ^ 50 * S ≤ (2 ^ 50 + 15) * M
      fine h = omega arith

  sum_twice : S ≤ 2 * M
  sum_twice = fine sum_most
    where
      fine : 2 ^ 50 * S ≤ (2 ^ 50 + 15) * M → S ≤ 2 * M
      fine h = omega arith

  sum_least : 2 ^ 50 * M ≤ 2 ^ 50 * S + 29 * M
  sum_least = fine near.0 sum_twice
    where
      fine : Under 14 (28 * l) M S → S ≤ 2 * M → 2 ^ 50 * M ≤ 2 ^ 50 * S + 29 * M
      fine h g = omega arith

-- so each part is at most twice the length
part_most : (x m S : ℕ) → x * x ≤ S → S ≤ 2 * (m * m) → x ≤ 2 * m
part_most x m S h g = le_of_suc-le-suc (less_root x (suc (2 * m)) (lt_of_le_of_lt (le_trans h g) more))
  where
    more : 2 * (m * m) < suc (2 * m) * suc (2 * m)
    more = omega arith

-- ---- a vector made of length 1

-- 2 ^ -48
abbrev F : ℕ
F = 2 ^ 1026

pub record Made (v : Vec3) (x y z : ℕ) (r s t : Bool) : Type 0 where
  pub m : ℕ
  pub a : ℕ
  pub b : ℕ
  pub c : ℕ
  pub long : HasValue (norm_of v) false m L
  pub some : 0 < m
  pub is_x : HasValue (normalize_of v).x r a L
  pub is_y : HasValue (normalize_of v).y s b L
  pub is_z : HasValue (normalize_of v).z t c L
  pub near_x : Within (E * m) (a * m) (x * L)
  pub near_y : Within (E * m) (b * m) (y * L)
  pub near_z : Within (E * m) (c * m) (z * L)
  pub unit : Within (E * L) (a * a + b * b + c * c) (L * L)

-- one part, divided by the length
record Divided (d : Float) (r : Bool) (x m : ℕ) : Type 0 where
  a : ℕ
  is : HasValue d r a L
  near : Within (F * m) (a * m) (x * L)

part_made : (f l : Float) (r : Bool) (x m : ℕ) → 0 < m → x ≤ 2 * m → HasValue f r x L → HasValue l false m L → Divided (div binary64 f l) r x m
part_made f l r x m pos modest v w =
    let a = grid binary64 x m in
    let g = grid_near x m pos in
    let n : Within (F * m) (a * m) (x * L) = quotient_within (2 ^ 50) L F m x a (lit< tt) refl (lit≤ tt) (lit≤ tt) modest g.0 g.1 in
    record {
      a = a;
      is = subst (λ (d : Float). HasValue d r a L) (sym (quotient_is f l r x m pos v w)) (round_value r x m (lt_of_le_of_lt (quotient_most L F m x a (lit≤ tt) modest n pos) (lit< tt)));
      near = n;
    }

-- with a larger error
wider : (e f m a b : ℕ) → f ≤ e → Within (f * m) a b → Within (e * m) a b
wider e f m a b h w = (more a b w.0 (mul-le-mul_right m h), more b a w.1 (mul-le-mul_right m h))
  where
    more : (a b : ℕ) → a ≤ b + f * m → f * m ≤ e * m → a ≤ b + e * m
    more a b p q = omega arith

-- by the length m, in units
made_with : (v : Vec3) (x y z : ℕ) (r s t : Bool) → HasValue v.x r x L → HasValue v.y s y L → HasValue v.z t z L → (m : ℕ) → HasValue (norm_of v) false m L → 2 ^ 1024 ≤ m → Near 8 0 (m * m) (dotted x y z * L) → Made v x y z r s t
unfolding normalize_of divide_of
made_with v x y z r s t hx hy hz m long big near =
    let S = x * x + y * y + z * z in
    let sums : Near 14 (28 * L) (m * m) S = chain 8 5 14 0 (14 * L) (28 * L) (m * m) (dotted x y z * L) S (lit≤ tt) (lit≤ tt) (lit≤ tt) (lit≤ tt) (lit≤ tt) near (dot_near x y z) in
    let large : 2 ^ 50 * (28 * L) ≤ m * m = le_trans few (mul-le-mul big big) in
    let pos : 0 < m = lt_of_lt_of_le (pow_pos 1024) big in
    let double : S ≤ 2 * (m * m) = sum_twice (m * m) S L sums large in
    let mx = part_most x m S (first_of x y z) double in
    let my = part_most y m S (second_of x y z) double in
    let mz = part_most z m S (third_of x y z) double in
    let px = part_made v.x (norm_of v) r x m pos mx hx long in
    let py = part_made v.y (norm_of v) s y m pos my hy long in
    let pz = part_made v.z (norm_of v) t z m pos mz hz long in
    let a = px.a in
    let b = py.a in
    let c = pz.a in
    record {
      m = m;
      a = a;
      b = b;
      c = c;
      long = long;
      some = pos;
      is_x = px.is;
      is_y = py.is;
      is_z = pz.is;
      near_x = wider E F m (a * m) (x * L) (lit≤ tt) px.near;
      near_y = wider E F m (b * m) (y * L) (lit≤ tt) py.near;
      near_z = wider E F m (c * m) (z * L) (lit≤ tt) pz.near;
      unit =
          unit_within (2 ^ 50) L F E (m * m) S (mul-pos pos pos) refl refl (sum_most (m * m) S L sums large) (sum_least (m * m) S L sums large) (a * a + b * b + c * c)
          (above L F m x y z a b c (square_above L F m x a (lit≤ tt) mx px.near) (square_above L F m y b (lit≤ tt) my py.near) (square_above L F m z c (lit≤ tt) mz pz.near))
          (below L F m x y z a b c (square_below L F m x a (lit≤ tt) mx px.near) (square_below L F m y b (lit≤ tt) my py.near) (square_below L F m z c (lit≤ tt) mz pz.near));
    }
  where
    few : 2 ^ 50 * (28 * L) ≤ 2 ^ 1024 * 2 ^ 1024
    few = lit≤ tt

    above : (L F m x y z a b c : ℕ) → a * a * (m * m) ≤ x * x * (L * L) + 5 * (L * F * (m * m)) → b * b * (m * m) ≤ y * y * (L * L) + 5 * (L * F * (m * m)) → c * c * (m * m) ≤ z * z * (L * L) + 5 * (L * F * (m * m)) → (a * a + b * b + c * c) * (m * m) ≤ (x * x + y * y + z * z) * (L * L) + 15 * (L * F * (m * m))
    above L F m x y z a b c p q o = omega arith

    below : (L F m x y z a b c : ℕ) → x * x * (L * L) ≤ a * a * (m * m) + 7 * (L * F * (m * m)) → y * y * (L * L) ≤ b * b * (m * m) + 7 * (L * F * (m * m)) → z * z * (L * L) ≤ c * c * (m * m) + 7 * (L * F * (m * m)) → (x * x + y * y + z * z) * (L * L) ≤ (a * a + b * b + c * c) * (m * m) + 21 * (L * F * (m * m))
    below L F m x y z a b c p q o = omega arith

-- what becomes of a vector whose length is above 1e-15 and finite
pub made : (v : Vec3) (x y z : ℕ) (r s t : Bool) → HasValue v.x r x L → HasValue v.y s y L → HasValue v.z t z L →
    lt min_length (norm_of v) ≡ true → is_finite_of (norm_of v) ≡ true → Made v x y z r s t
made v x y z r s t hx hy hz above finite =
    let o = finite_length v x y z r s t hx hy hz finite in
    let big : 2 ^ 1024 ≤ o.m = above_short (norm_of v) o.m o.is (subst (λ (f : Float). lt f (norm_of v) ≡ true) short_is above) in
    made_with v x y z r s t hx hy hz o.m o.is big
    (square_near o.m o.w o.u (dotted x y z * L) (le_trans (lit≤ tt) big) o.above o.below o.some o.small o.whole)

-- ---- a short vector

-- the parts of a vector with a length that is not above 1e-15
pub short_parts : (v : Vec3) (x y z : ℕ) (r s t : Bool) → HasValue v.x r x L → HasValue v.y s y L → HasValue v.z t z L →
    is_finite_of (norm_of v) ≡ true → lt min_length (norm_of v) ≡ false → (x ≤ E) × (y ≤ E) × (z ≤ E)
short_parts v x y z r s t hx hy hz finite below =
    let o = finite_length v x y z r s t hx hy hz finite in
    let small : o.m ≤ 2 ^ 1025 = not_above_short (norm_of v) o.m o.is (subst (λ (f : Float). lt f (norm_of v) ≡ false) short_is below) in
    let N = dotted x y z * L in
    let S = x * x + y * y + z * z in
    let edge : 2 * o.m + 3 ≤ 2 * 2 ^ 1025 + 3 = widen o.m (2 ^ 1025) small in
    let few : N ≤ (2 * 2 ^ 1025 + 3) * (2 * 2 ^ 1025 + 3) = le_trans (le_of_lt (square_most o.m o.w o.u N o.below o.small o.whole)) (mul-le-mul edge edge) in
    let sum : S < E * E = lt_of_le_of_lt (twice N S L (dot_near x y z).1) (lt_of_le_of_lt (widen-by N ((2 * 2 ^ 1025 + 3) * (2 * 2 ^ 1025 + 3)) (14 * L) few) (lit< tt)) in
    (part x S (first_of x y z) sum, part y S (second_of x y z) sum, part z S (third_of x y z) sum)
  where
    widen : (m e : ℕ) → m ≤ e → 2 * m + 3 ≤ 2 * e + 3
    widen m e h = omega arith

    widen-by : (n e t : ℕ) → n ≤ e → 2 * n + t ≤ 2 * e + t
    widen-by n e t h = omega arith

    twice : (N S l : ℕ) → Under 5 (14 * l) S N → S ≤ 2 * N + 14 * l
    twice N S l h = omega arith

    part : (x S : ℕ) → x * x ≤ S → S < E * E → x ≤ E
    part x S h g = le_of_lt (less_root x E (lt_of_le_of_lt h g))

-- ---- a modest vector

-- parts of at most 4 have a finite length of at most 8
pub modest_length : (v : Vec3) (x y z : ℕ) (r s t : Bool) → HasValue v.x r x L → HasValue v.y s y L → HasValue v.z t z L →
    x ≤ 4 * L → y ≤ 4 * L → z ≤ 4 * L → (m : ℕ) × HasValue (norm_of v) false m L × (m ≤ 8 * L)
modest_length v x y z r s t hx hy hz mx my mz =
    let o = modest_rooted v x y z r s t hx hy hz mx my mz in
    let N = dotted x y z * L in
    let S = x * x + y * y + z * z in
    let sum : S ≤ 48 * (L * L) = all L x y z (mul-le-mul mx mx) (mul-le-mul my my) (mul-le-mul mz mz) in
    let few : N ≤ 49 * (L * L) = most L N S (L * L) (lit≤ tt) (dot_near x y z).0 sum in
    let root : o.w ≤ 7 * L = le_of_suc-le-suc (less_root o.w (suc (7 * L)) (lt_of_le_of_lt (le_trans o.whole.0 few) (seven L))) in
    (o.m, o.is, eight L o.m o.w o.u (lit≤ tt) root o.above o.small)
  where
    all : (l x y z : ℕ) → x * x ≤ 4 * l * (4 * l) → y * y ≤ 4 * l * (4 * l) → z * z ≤ 4 * l * (4 * l) → x * x + y * y + z * z ≤ 48 * (l * l)
    all l x y z p q o = omega arith

    most : (l N S q : ℕ) → 2 ^ 10 * l ≤ q → Under 5 (14 * l) N S → S ≤ 48 * q → N ≤ 49 * q
    most l N S q few h g = omega arith

    seven : (l : ℕ) → 49 * (l * l) < suc (7 * l) * suc (7 * l)
    seven l = omega arith

    eight : (l m w u : ℕ) → 2 ^ 10 ≤ l → w ≤ 7 * l → m ≤ w + u → u * 2 ^ 52 ≤ w + 2 ^ 52 → m ≤ 8 * l
    eight l m w u big p a s = omega arith
