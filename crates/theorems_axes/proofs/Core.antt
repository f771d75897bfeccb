-- Two directions n and u (nearly unit vectors) whose cosine c is at most 0.99991 have a w = u - c n that is not nearly
-- parallel to n. L stands for 1 and E for 2 ^ -40; a number with a sign is a pair of numbers, of which it is the
-- difference, so that all is said with sizes. By contradiction: w is nearly at right angles to n; were it also nearly
-- parallel, it would be nearly 0, first along the largest part of n, then along the others. Then u would be nearly c n
-- and shorter than 1. Each step multiplies out what it needs and is linear in the products. Assumes nothing.
use Prim.Native.Nat.{ℕ, suc, ◌+◌, ◌*◌, ◌^◌, ◌≤◌, ◌<◌}
use native.Mathlib.Nat.{lt_of_not-le, mul-le-mul, mul-le-mul_left, mul-le-mul_right, mul-pos, le_of_mul-le-mul_right}
use native.Mathlib.Omega.{arith}
use mathlib.Core.Path.{◌≡◌}
use mathlib.Core.Bool.{Bool, true, false}
use Rattle.theorems_axes.specs.Axes.{Within}
use Rattle.theorems_axes.proofs.Words.{plus, minus}

-- ---- numbers

within_cancel : (l e a b : ℕ) → 0 < l → Within (e * l) (a * l) (b * l) → Within e a b
within_cancel l e a b pos h = (le_of_mul-le-mul_right (less a b h.0) pos, le_of_mul-le-mul_right (less b a h.1) pos)
  where
    less : (a b : ℕ) → a * l ≤ b * l + e * l → a * l ≤ (b + e) * l
    less a b h = omega arith

within_times : (k e a b : ℕ) → Within e a b → Within (k * e) (k * a) (k * b)
within_times k e a b h = (more a b h.0, more b a h.1)
  where
    more : (a b : ℕ) → a ≤ b + e → k * a ≤ k * b + k * e
    more a b h =
        let m : k * a ≤ k * (b + e) = mul-le-mul_left k h in
        omega arith

-- E is small beside 1, times 1
small_times : (L E : ℕ) → 3528200000 * E ≤ L → 1000000 * (E * L) ≤ L * L
small_times L E h =
    let t : 3528200000 * E * L ≤ L * L = mul-le-mul_right L h in
    omega arith

-- a part of a unit vector is at most 2
part_most : (L E n : ℕ) → 1000000 * (E * L) ≤ L * L → n * n ≤ L * L + E * L → n ≤ 2 * L
part_most L E n e h = at_most (lt_of_not-le over)
  where
    over : 2 * L < n → ⊥
    over g =
        let t : suc (2 * L) * suc (2 * L) ≤ n * n = mul-le-mul g g in
        omega arith

    at_most : n < suc (2 * L) → n ≤ 2 * L
    at_most g = omega arith

parts_most : (L E n1 n2 n3 : ℕ) → 1000000 * (E * L) ≤ L * L → n1 * n1 + n2 * n2 + n3 * n3 ≤ L * L + E * L → (n1 ≤ 2 * L) × (n2 ≤ 2 * L) × (n3 ≤ 2 * L)
parts_most L E n1 n2 n3 e h = (part_most L E n1 e (omega arith), part_most L E n2 e (omega arith), part_most L E n3 e (omega arith))

-- ---- w is nearly at right angles to n

-- w = u - p in one part, times n
times_w : (L E n x y a b p : ℕ) → n ≤ 2 * L → Within E (x + b + p) (y + a) → Within (2 * (E * L)) (n * x + n * b + n * p) (n * y + n * a)
times_w L E n x y a b p m h =
    let t : Within (n * E) (n * (x + b + p)) (n * (y + a)) = within_times n E (x + b + p) (y + a) h in
    let e : E * n ≤ E * (2 * L) = mul-le-mul_left E m in
    omega arith

-- p = c n in one part, times n
times_p : (L E n p c : ℕ) → n ≤ 2 * L → Within (E * L) (p * L) (n * c) → Within (2 * (E * L) * L) (n * p * L) (n * n * c)
times_p L E n p c m h =
    let t : Within (n * (E * L)) (n * (p * L)) (n * (n * c)) = within_times n (E * L) (p * L) (n * c) h in
    let e : E * L * n ≤ E * L * (2 * L) = mul-le-mul_left (E * L) m in
    omega arith

-- S is the square of n, q is n · p
along : (L E S q c : ℕ) → 0 < L → c ≤ L → Within (E * L) S (L * L) → Within (6 * (E * L) * L) (q * L) (S * c) → Within (7 * (E * L)) q (c * L)
along L E S q c pos m s h = within_cancel L (7 * (E * L)) q (c * L) pos near
  where
    near : Within (7 * (E * L) * L) (q * L) (c * L * L)
    near =
        let t : Within (c * (E * L)) (c * S) (c * (L * L)) = within_times c (E * L) S (L * L) s in
        let e : E * L * c ≤ E * L * L = mul-le-mul_left (E * L) m in
        omega arith

-- n · w = n · u - n · p, the products as numbers of their own
gather : (e r x1 x2 x3 y1 y2 y3 a1 a2 a3 b1 b2 b3 p1 p2 p3 : ℕ) → Within (2 * e) (x1 + b1 + p1) (y1 + a1) → Within (2 * e) (x2 + b2 + p2) (y2 + a2) → Within (2 * e) (x3 + b3 + p3) (y3 + a3)
    → Within (16 * e) (a1 + a2 + a3) (b1 + b2 + b3 + r) → Within (7 * e) (p1 + p2 + p3) r → Within (29 * e) (x1 + x2 + x3) (y1 + y2 + y3)
gather e r x1 x2 x3 y1 y2 y3 a1 a2 a3 b1 b2 b3 p1 p2 p3 h1 h2 h3 h4 h5 = omega arith

-- ---- w that is also parallel to n is nearly 0

-- w and n in two parts, times the second of n
times_cross : (L E n1 n2 x1 x2 y1 y2 : ℕ) → n2 ≤ 2 * L → n2 * x1 + n1 * y2 ≤ n1 * x2 + n2 * y1 + 1024 * (E * L) → x1 * (n2 * n2) + n1 * (n2 * y2) ≤ n1 * (n2 * x2) + y1 * (n2 * n2) + 2048 * (E * (L * L))
times_cross L E n1 n2 x1 x2 y1 y2 m h =
    let t : n2 * (n2 * x1 + n1 * y2) ≤ n2 * (n1 * x2 + n2 * y1 + 1024 * (E * L)) = mul-le-mul_left n2 h in
    let e : E * L * n2 ≤ E * L * (2 * L) = mul-le-mul_left (E * L) m in
    omega arith

-- n · w, times the first of n
times_dot : (L E n1 x1 y1 v w v' w' : ℕ) → n1 ≤ 2 * L → n1 * x1 + v + w ≤ n1 * y1 + v' + w' + 29 * (E * L) → x1 * (n1 * n1) + n1 * v + n1 * w ≤ y1 * (n1 * n1) + n1 * v' + n1 * w' + 58 * (E * (L * L))
times_dot L E n1 x1 y1 v w v' w' m h =
    let t : n1 * (n1 * x1 + v + w) ≤ n1 * (n1 * y1 + v' + w' + 29 * (E * L)) = mul-le-mul_left n1 h in
    let e : E * L * n1 ≤ E * L * (2 * L) = mul-le-mul_left (E * L) m in
    omega arith

-- in the part where n is large
first_part : (L E n1 n2 n3 x1 x2 x3 y1 y2 y3 : ℕ) → 0 < L → n1 ≤ 2 * L → n2 ≤ 2 * L → n3 ≤ 2 * L → L * L ≤ 2 * (n1 * n1 + n2 * n2 + n3 * n3)
    → n1 * x1 + n2 * x2 + n3 * x3 ≤ n1 * y1 + n2 * y2 + n3 * y3 + 29 * (E * L)
    → n2 * x1 + n1 * y2 ≤ n1 * x2 + n2 * y1 + 1024 * (E * L) → n3 * x1 + n1 * y3 ≤ n1 * x3 + n3 * y1 + 1024 * (E * L)
    → x1 ≤ y1 + 8308 * E
first_part L E n1 n2 n3 x1 x2 x3 y1 y2 y3 pos m1 m2 m3 s d h2 h3 =
    le_of_mul-le-mul_right
    (scaled (n1 * n1) (n2 * n2) (n3 * n3) (n1 * (n2 * x2)) (n1 * (n3 * x3)) (n1 * (n2 * y2)) (n1 * (n3 * y3)) (L * L) s
    (times_dot L E n1 x1 y1 (n2 * x2) (n3 * x3) (n2 * y2) (n3 * y3) m1 d) (times_cross L E n1 n2 x1 x2 y1 y2 m2 h2) (times_cross L E n1 n3 x1 x3 y1 y3 m3 h3))
    (square-pos (n1 * n1 + n2 * n2 + n3 * n3) (L * L) s (mul-pos pos pos))
  where
    square-pos : (S l : ℕ) → l ≤ 2 * S → 0 < l → 0 < S
    square-pos S l a b = omega arith

    scaled : (s1 s2 s3 v w v' w' l : ℕ) → l ≤ 2 * (s1 + s2 + s3) → x1 * s1 + v + w ≤ y1 * s1 + v' + w' + 58 * (E * l)
        → x1 * s2 + v' ≤ v + y1 * s2 + 2048 * (E * l) → x1 * s3 + w' ≤ w + y1 * s3 + 2048 * (E * l) → x1 * (s1 + s2 + s3) ≤ (y1 + 8308 * E) * (s1 + s2 + s3)
    scaled s1 s2 s3 v w v' w' l a b c d =
        let e : E * l ≤ E * (2 * (s1 + s2 + s3)) = mul-le-mul_left E a in
        omega arith

-- in another part
other_part : (L E n1 n2 x1 x2 y1 y2 : ℕ) → 0 < L → L ≤ 2 * n1 → n2 ≤ 2 * L → x1 ≤ y1 + 8308 * E → n1 * x2 + n2 * y1 ≤ n2 * x1 + n1 * y2 + 1024 * (E * L) → x2 ≤ y2 + 35280 * E
other_part L E n1 n2 x1 x2 y1 y2 pos l m h h2 = le_of_mul-le-mul_right scaled (half_pos l pos)
  where
    half_pos : L ≤ 2 * n1 → 0 < L → 0 < n1
    half_pos l pos = omega arith

    scaled : x2 * n1 ≤ (y2 + 35280 * E) * n1
    scaled =
        let h' : n2 * x1 ≤ n2 * (y1 + 8308 * E) = mul-le-mul_left n2 h in
        let e2 : E * n2 ≤ E * (2 * L) = mul-le-mul_left E m in
        let l' : E * L ≤ E * (2 * n1) = mul-le-mul_left E l in
        omega arith

-- the three parts of w, n being large in the first
still : (L E n1 n2 n3 x1 x2 x3 y1 y2 y3 : ℕ) → 0 < L → L ≤ 2 * n1 → n1 ≤ 2 * L → n2 ≤ 2 * L → n3 ≤ 2 * L → L * L ≤ 2 * (n1 * n1 + n2 * n2 + n3 * n3)
    → Within (29 * (E * L)) (n1 * x1 + n2 * x2 + n3 * x3) (n1 * y1 + n2 * y2 + n3 * y3)
    → Within (1024 * (E * L)) (n2 * x1 + n1 * y2) (n1 * x2 + n2 * y1) → Within (1024 * (E * L)) (n1 * x3 + n3 * y1) (n3 * x1 + n1 * y3)
    → Within (35280 * E) x1 y1 × Within (35280 * E) x2 y2 × Within (35280 * E) x3 y3
still L E n1 n2 n3 x1 x2 x3 y1 y2 y3 pos l m1 m2 m3 s d h2 h3 =
    let over : x1 ≤ y1 + 8308 * E = first_part L E n1 n2 n3 x1 x2 x3 y1 y2 y3 pos m1 m2 m3 s d.0 h2.0 h3.1 in
    let under : y1 ≤ x1 + 8308 * E = first_part L E n1 n2 n3 y1 y2 y3 x1 x2 x3 pos m1 m2 m3 s d.1 (turned (n1 * x2) (n2 * y1) (n2 * x1) (n1 * y2) h2.1) (turned (n1 * x3) (n3 * y1) (n3 * x1) (n1 * y3) h3.0) in (
      (wide x1 y1 over, wide y1 x1 under),
      (other_part L E n1 n2 x1 x2 y1 y2 pos l m2 over h2.1, other_part L E n1 n2 y1 y2 x1 x2 pos l m2 under (turned (n2 * x1) (n1 * y2) (n1 * x2) (n2 * y1) h2.0)),
      (other_part L E n1 n3 x1 x3 y1 y3 pos l m3 over h3.0, other_part L E n1 n3 y1 y3 x1 x3 pos l m3 under (turned (n3 * x1) (n1 * y3) (n1 * x3) (n3 * y1) h3.1)),
    )
  where
    turned : (a b c d : ℕ) → a + b ≤ c + d + 1024 * (E * L) → b + a ≤ d + c + 1024 * (E * L)
    turned a b c d h = omega arith

    wide : (x y : ℕ) → x ≤ y + 8308 * E → x ≤ y + 35280 * E
    wide x y h = omega arith

-- one of the three parts of n is large
some_large : (L E n1 n2 n3 : ℕ) → 0 < L → 1000000 * (E * L) ≤ L * L → L * L ≤ n1 * n1 + n2 * n2 + n3 * n3 + E * L → (L ≤ 2 * n1 → ⊥) → (L ≤ 2 * n2 → ⊥) → (L ≤ 2 * n3 → ⊥) → ⊥
some_large L E n1 n2 n3 pos e h f1 f2 f3 = short (L * L) (E * L) (n1 * n1) (n2 * n2) (n3 * n3) (mul-pos pos pos) e h (quarter n1 (lt_of_not-le f1)) (quarter n2 (lt_of_not-le f2)) (quarter n3 (lt_of_not-le f3))
  where
    quarter : (n : ℕ) → 2 * n < L → 4 * (n * n) ≤ L * L
    quarter n h =
        let t : suc (2 * n) * suc (2 * n) ≤ L * L = mul-le-mul h h in
        omega arith

    short : (l e s1 s2 s3 : ℕ) → 0 < l → 1000000 * e ≤ l → l ≤ s1 + s2 + s3 + e → 4 * s1 ≤ l → 4 * s2 ≤ l → 4 * s3 ≤ l → ⊥
    short l e s1 s2 s3 pos a b c d f = omega arith

-- ---- then u is nearly c n, and too short

-- in one part u is p up to 35281 E, as w is nearly 0
part_near : (E u x y p : ℕ) (s : Bool) → Within (35280 * E) x y → Within E (x + minus s u + p) (y + plus s u) → u ≤ p + 35281 * E
part_near E u x y p true w h = omega arith
part_near E u x y p false w h = omega arith

-- so it is at most 0.99991 n and a little
part_short : (L E n u c p : ℕ) → 0 < L → 3528200000 * E ≤ L → 100000 * c ≤ 99991 * L → p * L ≤ n * c + E * L → u ≤ p + 35281 * E → 100000 * u ≤ 99991 * n + L
part_short L E n u c p pos e m h k = le_of_mul-le-mul_right scaled pos
  where
    scaled : 100000 * u * L ≤ (99991 * n + L) * L
    scaled =
        let e' : 3528200000 * E * L ≤ L * L = mul-le-mul_right L e in
        let m' : n * (100000 * c) ≤ n * (99991 * L) = mul-le-mul_left n m in
        let k' : u * L ≤ (p + 35281 * E) * L = mul-le-mul_right L k in
        omega arith

-- its square, the little being at most 1 / 100000
square_short : (L n u : ℕ) → n ≤ 2 * L → 100000 * u ≤ 99991 * n + L → 10000000000 * (u * u) ≤ 9998200081 * (n * n) + 399965 * (L * L)
square_short L n u m h =
    let t : 100000 * u * (100000 * u) ≤ (99991 * n + L) * (99991 * n + L) = mul-le-mul h h in
    let e : n * L ≤ 2 * L * L = mul-le-mul_right L m in
    omega arith

-- the squares of all three parts
sum_short : (l n1 n2 n3 u1 u2 u3 : ℕ) → 10000000000 * u1 ≤ 9998200081 * n1 + 399965 * l → 10000000000 * u2 ≤ 9998200081 * n2 + 399965 * l → 10000000000 * u3 ≤ 9998200081 * n3 + 399965 * l
    → 10000000000 * (u1 + u2 + u3) ≤ 9998200081 * (n1 + n2 + n3) + 1199895 * l
sum_short l n1 n2 n3 u1 u2 u3 h1 h2 h3 = omega arith

too_short : (l e n u : ℕ) → 0 < l → 1000000 * e ≤ l → n ≤ l + e → l ≤ u + e → 10000000000 * u ≤ 9998200081 * n + 1199895 * l → ⊥
too_short l e n u pos a b c h = omega arith

-- ---- together

-- n · p is nearly c
dot_p : (L E n1 n2 n3 p1 p2 p3 c : ℕ) → 0 < L → c ≤ L → n1 ≤ 2 * L → n2 ≤ 2 * L → n3 ≤ 2 * L → Within (E * L) (n1 * n1 + n2 * n2 + n3 * n3) (L * L)
    → Within (E * L) (p1 * L) (n1 * c) → Within (E * L) (p2 * L) (n2 * c) → Within (E * L) (p3 * L) (n3 * c) → Within (7 * (E * L)) (n1 * p1 + n2 * p2 + n3 * p3) (c * L)
dot_p L E n1 n2 n3 p1 p2 p3 c pos m m1 m2 m3 s h1 h2 h3 =
    along L E (n1 * n1 + n2 * n2 + n3 * n3) (n1 * p1 + n2 * p2 + n3 * p3) c pos m s
    (sum (n1 * p1) (n2 * p2) (n3 * p3) (n1 * n1) (n2 * n2) (n3 * n3) (times_p L E n1 p1 c m1 h1) (times_p L E n2 p2 c m2 h2) (times_p L E n3 p3 c m3 h3))
  where
    sum : (q1 q2 q3 s1 s2 s3 : ℕ) → Within (2 * (E * L) * L) (q1 * L) (s1 * c) → Within (2 * (E * L) * L) (q2 * L) (s2 * c) → Within (2 * (E * L) * L) (q3 * L) (s3 * c)
        → Within (6 * (E * L) * L) ((q1 + q2 + q3) * L) ((s1 + s2 + s3) * c)
    sum q1 q2 q3 s1 s2 s3 a b d = omega arith

-- the parts in the order 2, 3, 1
turn : (e a1 a2 a3 b1 b2 b3 : ℕ) → Within e (a1 + a2 + a3) (b1 + b2 + b3) → Within e (a2 + a3 + a1) (b2 + b3 + b1)
turn e a1 a2 a3 b1 b2 b3 h = omega arith

turn_half : (l a b c : ℕ) → l ≤ 2 * (a + b + c) → l ≤ 2 * (b + c + a)
turn_half l a b c h = omega arith

at_least_half : (l e s : ℕ) → 1000000 * e ≤ l → l ≤ s + e → l ≤ 2 * s
at_least_half l e s a h = omega arith

pub below_one : (L c : ℕ) → 100000 * c ≤ 99991 * L → c ≤ L
below_one L c h = omega arith

-- w as pairs x, y
module _ (L E : ℕ) (pos : 0 < L) (small : 3528200000 * E ≤ L) (n1 n2 n3 : ℕ) (hn : Within (E * L) (n1 * n1 + n2 * n2 + n3 * n3) (L * L))
    (u1 u2 u3 : ℕ) (s1 s2 s3 : Bool) (hu : Within (E * L) (u1 * u1 + u2 * u2 + u3 * u3) (L * L)) (c : ℕ) (hc : 100000 * c ≤ 99991 * L)
    (hd : Within (16 * (E * L)) (n1 * plus s1 u1 + n2 * plus s2 u2 + n3 * plus s3 u3) (n1 * minus s1 u1 + n2 * minus s2 u2 + n3 * minus s3 u3 + c * L))
    (p1 p2 p3 : ℕ) (hp1 : Within (E * L) (p1 * L) (n1 * c)) (hp2 : Within (E * L) (p2 * L) (n2 * c)) (hp3 : Within (E * L) (p3 * L) (n3 * c))
    (x1 x2 x3 y1 y2 y3 : ℕ) (hw1 : Within E (x1 + minus s1 u1 + p1) (y1 + plus s1 u1)) (hw2 : Within E (x2 + minus s2 u2 + p2) (y2 + plus s2 u2)) (hw3 : Within E (x3 + minus s3 u3 + p3) (y3 + plus s3 u3)) where
  tiny : 1000000 * (E * L) ≤ L * L
  tiny = small_times L E small

  most : (n1 ≤ 2 * L) × (n2 ≤ 2 * L) × (n3 ≤ 2 * L)
  most = parts_most L E n1 n2 n3 tiny hn.0

  dot : Within (29 * (E * L)) (n1 * x1 + n2 * x2 + n3 * x3) (n1 * y1 + n2 * y2 + n3 * y3)
  dot =
      gather (E * L) (c * L) (n1 * x1) (n2 * x2) (n3 * x3) (n1 * y1) (n2 * y2) (n3 * y3) (n1 * plus s1 u1) (n2 * plus s2 u2) (n3 * plus s3 u3) (n1 * minus s1 u1) (n2 * minus s2 u2) (n3 * minus s3 u3) (n1 * p1) (n2 * p2) (n3 * p3)
      (times_w L E n1 x1 y1 (plus s1 u1) (minus s1 u1) p1 most.0 hw1)
      (times_w L E n2 x2 y2 (plus s2 u2) (minus s2 u2) p2 most.1 hw2)
      (times_w L E n3 x3 y3 (plus s3 u3) (minus s3 u3) p3 most.2 hw3)
      hd
      (dot_p L E n1 n2 n3 p1 p2 p3 c pos (below_one L c hc) most.0 most.1 most.2 hn hp1 hp2 hp3)

  part_square : (n u p x y : ℕ) (s : Bool) → n ≤ 2 * L → Within (E * L) (p * L) (n * c) → Within E (x + minus s u + p) (y + plus s u) → Within (35280 * E) x y
      → 10000000000 * (u * u) ≤ 9998200081 * (n * n) + 399965 * (L * L)
  part_square n u p x y s m hp hw h = square_short L n u m (part_short L E n u c p pos small hc hp.0 (part_near E u x y p s h hw))

  not_still : Within (35280 * E) x1 y1 → Within (35280 * E) x2 y2 → Within (35280 * E) x3 y3 → ⊥
  not_still h1 h2 h3 =
      too_short (L * L) (E * L) (n1 * n1 + n2 * n2 + n3 * n3) (u1 * u1 + u2 * u2 + u3 * u3) (mul-pos pos pos) tiny hn.0 hu.1
      (sum_short (L * L) (n1 * n1) (n2 * n2) (n3 * n3) (u1 * u1) (u2 * u2) (u3 * u3)
      (part_square n1 u1 p1 x1 y1 s1 most.0 hp1 hw1 h1) (part_square n2 u2 p2 x2 y2 s2 most.1 hp2 hw2 h2) (part_square n3 u3 p3 x3 y3 s3 most.2 hp3 hw3 h3))

  never : Within (1024 * (E * L)) (n2 * x1 + n1 * y2) (n1 * x2 + n2 * y1) → Within (1024 * (E * L)) (n3 * x2 + n2 * y3) (n2 * x3 + n3 * y2) → Within (1024 * (E * L)) (n1 * x3 + n3 * y1) (n3 * x1 + n1 * y3) → ⊥
  never h12 h23 h31 = some_large L E n1 n2 n3 pos tiny hn.1 first second third
    where
      long : L * L ≤ 2 * (n1 * n1 + n2 * n2 + n3 * n3)
      long = at_least_half (L * L) (E * L) (n1 * n1 + n2 * n2 + n3 * n3) tiny hn.1

      long' : L * L ≤ 2 * (n2 * n2 + n3 * n3 + n1 * n1)
      long' = turn_half (L * L) (n1 * n1) (n2 * n2) (n3 * n3) long

      dot' : Within (29 * (E * L)) (n2 * x2 + n3 * x3 + n1 * x1) (n2 * y2 + n3 * y3 + n1 * y1)
      dot' = turn (29 * (E * L)) (n1 * x1) (n2 * x2) (n3 * x3) (n1 * y1) (n2 * y2) (n3 * y3) dot

      first : L ≤ 2 * n1 → ⊥
      first l =
          let z = still L E n1 n2 n3 x1 x2 x3 y1 y2 y3 pos l most.0 most.1 most.2 long dot h12 h31 in
          not_still z.0 z.1 z.2

      second : L ≤ 2 * n2 → ⊥
      second l =
          let z = still L E n2 n3 n1 x2 x3 x1 y2 y3 y1 pos l most.1 most.2 most.0 long' dot' h23 h12 in
          not_still z.2 z.0 z.1

      third : L ≤ 2 * n3 → ⊥
      third l =
          let z = still L E n3 n1 n2 x3 x1 x2 y3 y1 y2 pos l most.2 most.0 most.1 (turn_half (L * L) (n2 * n2) (n3 * n3) (n1 * n1) long') (turn (29 * (E * L)) (n2 * x2) (n3 * x3) (n1 * x1) (n2 * y2) (n3 * y3) (n1 * y1) dot') h31 h23 in
          not_still z.1 z.2 z.0

pub core : (L E : ℕ) → 0 < E → L ≡ 2 ^ 40 * E →
    (n1 n2 n3 : ℕ) → Within (E * L) (n1 * n1 + n2 * n2 + n3 * n3) (L * L) →
    (u1 u2 u3 : ℕ) (s1 s2 s3 : Bool) → Within (E * L) (u1 * u1 + u2 * u2 + u3 * u3) (L * L) →
    (c : ℕ) → 100000 * c ≤ 99991 * L →
    Within (16 * (E * L)) (n1 * plus s1 u1 + n2 * plus s2 u2 + n3 * plus s3 u3) (n1 * minus s1 u1 + n2 * minus s2 u2 + n3 * minus s3 u3 + c * L) →
    (p1 p2 p3 : ℕ) → Within (E * L) (p1 * L) (n1 * c) → Within (E * L) (p2 * L) (n2 * c) → Within (E * L) (p3 * L) (n3 * c) →
    (w1 w2 w3 : ℕ) (t1 t2 t3 : Bool) →
    Within E (plus t1 w1 + minus s1 u1 + p1) (minus t1 w1 + plus s1 u1) →
    Within E (plus t2 w2 + minus s2 u2 + p2) (minus t2 w2 + plus s2 u2) →
    Within E (plus t3 w3 + minus s3 u3 + p3) (minus t3 w3 + plus s3 u3) →
    Within (1024 * (E * L)) (n2 * plus t1 w1 + n1 * minus t2 w2) (n1 * plus t2 w2 + n2 * minus t1 w1) →
    Within (1024 * (E * L)) (n3 * plus t2 w2 + n2 * minus t3 w3) (n2 * plus t3 w3 + n3 * minus t2 w2) →
    Within (1024 * (E * L)) (n1 * plus t3 w3 + n3 * minus t1 w1) (n3 * plus t1 w1 + n1 * minus t3 w3) → ⊥
core L E least is n1 n2 n3 hn u1 u2 u3 s1 s2 s3 hu c hc hd p1 p2 p3 hp1 hp2 hp3 w1 w2 w3 t1 t2 t3 hw1 hw2 hw3 =
    never L E (one-pos L E least is) (one-large L E is) n1 n2 n3 hn u1 u2 u3 s1 s2 s3 hu c hc hd p1 p2 p3 hp1 hp2 hp3 (plus t1 w1) (plus t2 w2) (plus t3 w3) (minus t1 w1) (minus t2 w2) (minus t3 w3) hw1 hw2 hw3
  where
    one-pos : (L E : ℕ) → 0 < E → L ≡ 2 ^ 40 * E → 0 < L
    one-pos L E h is = omega arith

    one-large : (L E : ℕ) → L ≡ 2 ^ 40 * E → 3528200000 * E ≤ L
    one-large L E is = omega arith
