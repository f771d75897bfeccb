-- The dot product of a vector with itself, rounded three times over: how near it is to the sum of the squares, and its
-- value where it is finite or the parts are modest. Assumes nothing.
use Prim.Native.Nat.{ℕ, ◌+◌, ◌*◌, ◌^◌, ◌≤◌, ◌<◌}
use native.Mathlib.Nat.{le_trans, lt_of_le_of_lt, le_of_mul-le-mul_right, mul_assoc, mul-le-mul, mul-le-mul_left, mul-pos}
use native.Mathlib.Omega.{arith}
use mathlib.Core.Path.{◌≡◌, sym, subst}
use mathlib.Core.Bool.{Bool, false}
use lib.Dec.{T, lit≤, lit<}
use lib.Pow.{pow_pos}
use lib.Ieee.{Float, nan, inf, fin, binary64, round, add, mul}
use lib.Ieee.Exact.{HasValue}
use lib.Ieee.Scale.{grid, finite, round_under}
use Rattle.doubles.proofs.Floats.{clash}
use Rattle.doubles.proofs.Rounding.{square_is}
use Rattle.doubles.proofs.Finite.{Finite, root_of_finite, sum_of_finite}
use Rattle.doubles.specs.Doubles.{is_finite_of}
use Rattle.rays.specs.declared.vector.Vec3.{Vec3}
use Rattle.rays.specs.Vectors.{dot_of, norm_of}
use Rattle.theorems_axes.specs.Axes.{L}
use Rattle.theorems_axes.proofs.Nearly.{Under, Near, chain}
use Rattle.theorems_axes.proofs.Rounded.{grid_near, round_value, sum_is}
use Rattle.theorems_axes.proofs.Rooted.{Rooted, root_value}

-- ---- in units: a rounded square, a rounded sum, and all of it

abbrev pub squared : ℕ → ℕ
squared x = grid binary64 (x * x) (L * L)

abbrev pub summed : ℕ → ℕ → ℕ
summed a b = grid binary64 (a + b) L

abbrev pub dotted : ℕ → ℕ → ℕ → ℕ
dotted x y z = summed (summed (squared x) (squared y)) (squared z)

-- without a common factor
cancel : (l t a b : ℕ) → 0 < l → Near 1 (t * l) (a * l) (b * l) → Near 1 t a b
cancel l t a b pos h = (le_of_mul-le-mul_right (out a b h.0) pos, le_of_mul-le-mul_right (out b a h.1) pos)
  where
    out : (a b : ℕ) → Under 1 (t * l) (a * l) (b * l) → 2 ^ 50 * a * l ≤ ((2 ^ 50 + 1) * b + 2 ^ 50 * t) * l
    out a b h = omega arith

squared_near : (x : ℕ) → Near 1 L (squared x * L) (x * x)
squared_near x =
    cancel L L (squared x * L) (x * x) (pow_pos 1074)
    (subst (λ (n : ℕ). Near 1 (L * L) n (x * x * L)) (sym (mul_assoc (squared x) L L)) (grid_near (x * x) (L * L) (mul-pos (pow_pos 1074) (pow_pos 1074))))

-- with the same number added to both
beside : (l q p c b : ℕ) → Near 1 l (q * l) ((p + b) * l) → Near 1 l ((q + c) * l) (p * l + b * l + c * l)
beside l q p c b h = (out h.0, back h.1)
  where
    out : Under 1 l (q * l) ((p + b) * l) → Under 1 l ((q + c) * l) (p * l + b * l + c * l)
    out h = omega arith

    back : Under 1 l ((p + b) * l) (q * l) → Under 1 l (p * l + b * l + c * l) ((q + c) * l)
    back h = omega arith

-- three sums
three : (t a b c x y z : ℕ) → Near 1 t a x → Near 1 t b y → Near 1 t c z → Near 1 (3 * t) (a + b + c) (x + y + z)
three t a b c x y z p q r = (add-up a b c x y z p.0 q.0 r.0, add-up x y z a b c p.1 q.1 r.1)
  where
    add-up : (a b c x y z : ℕ) → Under 1 t a x → Under 1 t b y → Under 1 t c z → Under 1 (3 * t) (a + b + c) (x + y + z)
    add-up a b c x y z p q r = omega arith

pub dot_near : (x y z : ℕ) → Near 5 (14 * L) (dotted x y z * L) (x * x + y * y + z * z)
dot_near x y z =
    let p = squared x in
    let q = squared y in
    let r = squared z in
    let s = summed p q in
    chain 3 1 5 (4 * L) (3 * L) (14 * L) (summed s r * L) (p * L + q * L + r * L) (x * x + y * y + z * z) (lit≤ tt) (lit≤ tt) (lit≤ tt) (lit≤ tt) (lit≤ tt)
    (chain 1 1 3 L L (4 * L) (summed s r * L) ((s + r) * L) (p * L + q * L + r * L) (lit≤ tt) (lit≤ tt) (lit≤ tt) (lit≤ tt) (lit≤ tt)
    (grid_near (s + r) L (pow_pos 1074)) (beside L s p r q (grid_near (p + q) L (pow_pos 1074))))
    (three L (p * L) (q * L) (r * L) (x * x) (y * y) (z * z) (squared_near x) (squared_near y) (squared_near z))

-- ---- the values, below the overflow

square_value : (b : Float) (r : Bool) (x : ℕ) → HasValue b r x L → squared x < 2 ^ 2098 → HasValue (mul binary64 b b) false (squared x) L
square_value b r x h under = subst (λ (f : Float). HasValue f false (squared x) L) (sym (square_is b r x h)) (round_value false (x * x) (L * L) under)

sum_value : (f g : Float) (a b : ℕ) → HasValue f false a L → HasValue g false b L → summed a b < 2 ^ 2098 → HasValue (add binary64 f g) false (summed a b) L
sum_value f g a b p q under = subst (λ (h : Float). HasValue h false (summed a b) L) (sym (sum_is f g a b p q)) (round_value false (a + b) L under)

-- ---- where the result is finite

finite_is : (x : Float) → Finite x → T (finite x)
unfolding is_finite_of
finite_is nan h = clash (sym h)
finite_is (inf s) h = clash (sym h)
finite_is (fin s m e) h = tt

-- what is rounded to a finite double stays below the overflow
finite_under : (f : Float) (a c : ℕ) → Finite f → f ≡ round binary64 false a c → grid binary64 a c < 2 ^ 2098
finite_under f a c h e = round_under binary64 a c (finite_is (round binary64 false a c) (subst Finite e h))

module _ (v : Vec3) (x y z : ℕ) (r s t : Bool) (hx : HasValue v.x r x L) (hy : HasValue v.y s y L) (hz : HasValue v.z t z L) where
  -- the length, where nothing overflows
  length_of : squared x < 2 ^ 2098 → squared y < 2 ^ 2098 → squared z < 2 ^ 2098 → summed (squared x) (squared y) < 2 ^ 2098 → dotted x y z < 2 ^ 2098 → Rooted (norm_of v) (dotted x y z * L)
  unfolding norm_of dot_of
  length_of p q o a b =
      root_value (dot_of v v) (dotted x y z)
      (sum_value (add binary64 (mul binary64 v.x v.x) (mul binary64 v.y v.y)) (mul binary64 v.z v.z) (summed (squared x) (squared y)) (squared z)
      (sum_value (mul binary64 v.x v.x) (mul binary64 v.y v.y) (squared x) (squared y) (square_value v.x r x hx p) (square_value v.y s y hy q) a)
      (square_value v.z t z hz o) b)
      b

  -- nothing does where the length is finite
  pub finite_length : Finite (norm_of v) → Rooted (norm_of v) (dotted x y z * L)
  unfolding norm_of dot_of
  finite_length f =
      let xx = mul binary64 v.x v.x in
      let yy = mul binary64 v.y v.y in
      let zz = mul binary64 v.z v.z in
      let all = root_of_finite (add binary64 (add binary64 xx yy) zz) f in
      let outer = sum_of_finite (add binary64 xx yy) zz all in
      let inner = sum_of_finite xx yy outer.0 in
      let p : squared x < 2 ^ 2098 = finite_under xx (x * x) (L * L) inner.0 (square_is v.x r x hx) in
      let q : squared y < 2 ^ 2098 = finite_under yy (y * y) (L * L) inner.1 (square_is v.y s y hy) in
      let o : squared z < 2 ^ 2098 = finite_under zz (z * z) (L * L) outer.1 (square_is v.z t z hz) in
      let vx = square_value v.x r x hx p in
      let vy = square_value v.y s y hy q in
      let vz = square_value v.z t z hz o in
      let a : summed (squared x) (squared y) < 2 ^ 2098 = finite_under (add binary64 xx yy) (squared x + squared y) L outer.0 (sum_is xx yy (squared x) (squared y) vx vy) in
      let b : dotted x y z < 2 ^ 2098 =
      finite_under (add binary64 (add binary64 xx yy) zz) (summed (squared x) (squared y) + squared z) L all (sum_is (add binary64 xx yy) zz (summed (squared x) (squared y)) (squared z) (sum_value xx yy (squared x) (squared y) vx vy a) vz) in
      length_of p q o a b

  -- ---- where the parts are at most 4

  pub modest_rooted : x ≤ 4 * L → y ≤ 4 * L → z ≤ 4 * L → Rooted (norm_of v) (dotted x y z * L)
  modest_rooted mx my mz =
      let p = square_most x mx in
      let q = square_most y my in
      let o = square_most z mz in
      let a : summed (squared x) (squared y) ≤ 133 * L = sum_most (squared x) (squared y) 66 133 (both (squared x) (squared y) L 33 33 p q) (lit≤ tt) in
      let b : dotted x y z ≤ 333 * L = sum_most (summed (squared x) (squared y)) (squared z) 166 333 (both (summed (squared x) (squared y)) (squared z) L 133 33 a o) (lit≤ tt) in
      length_of (lt_of_le_of_lt p (lit< tt)) (lt_of_le_of_lt q (lit< tt)) (lt_of_le_of_lt o (lit< tt)) (lt_of_le_of_lt a (lit< tt)) (lt_of_le_of_lt b (lit< tt))
    where
      -- no rounding doubles a number
      twice : (t a b : ℕ) → Under 1 t a b → a ≤ 2 * b + t
      twice t a b h = omega arith

      open_up : (l q x : ℕ) → 1 ≤ l → q * l ≤ 2 * (x * x) + l → x * x ≤ 4 * l * (4 * l) → q * l ≤ 33 * l * l
      open_up l q x pos h g = let k : l * 1 ≤ l * l = mul-le-mul_left l pos in omega arith

      square_most : (x : ℕ) → x ≤ 4 * L → squared x ≤ 33 * L
      square_most x h = le_of_mul-le-mul_right (open_up L (squared x) x (pow_pos 1074) (twice L (squared x * L) (x * x) (squared_near x).0) (mul-le-mul h h)) (pow_pos 1074)

      both : (a b l i j : ℕ) → a ≤ i * l → b ≤ j * l → a + b ≤ (i + j) * l
      both a b l i j p q = omega arith

      scale : (l s n : ℕ) → s * l ≤ 2 * (n * l) + l → s * l ≤ (2 * n + 1) * l
      scale l s n h = omega arith

      widen : (n i l : ℕ) → n ≤ i * l → 2 * n + 1 ≤ 2 * (i * l) + 1
      widen n i l h = omega arith

      sum_most : (a b i k : ℕ) → a + b ≤ i * L → 2 * (i * L) + 1 ≤ k * L → summed a b ≤ k * L
      sum_most a b i k h g =
          le_trans (le_of_mul-le-mul_right (scale L (summed a b) (a + b) (twice L (summed a b * L) ((a + b) * L) (grid_near (a + b) L (pow_pos 1074)).0)) (pow_pos 1074))
          (le_trans (widen (a + b) i L h) g)
