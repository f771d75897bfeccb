-- The root of a double that is at most the square of b, both rounded, is at most b. Assumes nothing.
use Prim.Native.Nat.{ℕ, zero, suc, ◌+◌, ◌-◌, ◌*◌, ◌/◌, ◌%◌, ◌^◌, ◌≤◌, ◌<◌, zero-le, compare, Ordering}
use native.Mathlib.Nat.{le_trans, le_of_eq, le_of_lt, le_of_suc-le-suc, lt_of_le_of_lt, lt_of_not-le, not-le_of_lt, eq-or-lt_of_le, mul_assoc, mul_comm, mul_left_comm, mul_right_comm, mul-mul-mul_comm, mul-le-mul, mul-le-mul_right, mul-le-mul_left, mul-pos, le_of_mul-le-mul_right, div-mul-le_self, add-mul, div-div-eq-div-mul, zero-mul, zero-lt-suc, lt_irrefl}
use native.Mathlib.Omega.{arith}
use mathlib.Core.Path.{◌≡◌, refl, sym, ap, ◌∙◌, subst}
use mathlib.Core.Logic.{◌⊎◌, inl, inr}
use mathlib.Core.Bool.{Bool, true, false, not, ◌&&◌, ◌||◌, true≢false}
use lib.Dec.{T, ltb, eqb, is_le, compare_is_eq, ltb→lt, nleb→lt, eqb→eq, lit<, lit≤}
use lib.Pow.{pow-add, pow_pos, pow_mono}
use lib.Ieee.{Float, nan, inf, fin, binary64, up, down, size, nearest, round, lt, le, eq}
use lib.Ieee.Digits.{size-le}
use lib.Ieee.Exact.{HasValue, units_val, round_exact}
use lib.Ieee.Fits.{kept-lt, nearest-le, up_pos, down_pos}
use lib.Ieee.Order.{drop, kept, round_mono, transfer}
use lib.Ieee.Scale.{grid, finite, round_val, round_under, normal_of_fraction}
use Rattle.doubles.specs.Root.{whole_root, root_round, sqrt_in, sqrt_of}
use Rattle.doubles.proofs.Patterns.{positive_root}
use Rattle.doubles.proofs.Rounding.{closest_half, unit_normal}
use Rattle.doubles.proofs.Whole.{whole_root_is, less_root}
use Rattle.geometry.proofs.Signs.{Signed, round_signed}

-- ---- the square of M * 2 ^ -1074, in the normal range

-- so rounding adds at most 2 ^ -53 of it
grid_up : (n d : ℕ) → 0 < d → 53 ≤ size (n / d) → kept 53 n d * 2 ^ drop 53 n d * d * 2 ^ 53 ≤ n * 2 ^ 53 + n
grid_up n d D h =
    let k = drop 53 n d in
    let u = d * 2 ^ k in
    le_trans (le_of_eq (ap (λ (x : ℕ). x * 2 ^ 53) (shape (kept 53 n d) (2 ^ k) d)))
    (double (kept 53 n d * u) n u (closest_half n u (mul-pos D (pow_pos k))).0 (unit_normal n d D h))
  where
    shape : (q p d : ℕ) → q * p * d ≡ q * (d * p)
    shape q p d = simp (mul_assoc, mul_comm, mul_left_comm) refl

    double : (x n u : ℕ) → 2 * x ≤ 2 * n + u → u * 2 ^ 52 ≤ n → x * 2 ^ 53 ≤ n * 2 ^ 53 + n
    double x n u a b = omega arith

-- ---- the rounded root of N is at most m * 2 ^ j, where √N is below halfway to the next number

below_keeps : (v x y : ℕ) → x < y → nearest v (compare x y) ≡ v
below_keeps v x y h = go (compare x y) (nleb→lt x y) (eqb→eq x y)
  where
    back : (x y : ℕ) → x < y → y < x → ⊥
    back x y a b = omega arith

    level : (x y : ℕ) → x < y → x ≡ y → ⊥
    level x y a b = omega arith

    go : (o : Ordering) → (T (not (is_le o)) → y < x) → (T (compare_is_eq o) → x ≡ y) → nearest v o ≡ v
    go Ordering.lt a b = refl
    go Ordering.eq a b = absurd (level x y h (b tt))
    go Ordering.gt a b = absurd (back x y h (a tt))

module _ (N m j : ℕ) (lo : 2 ^ 52 ≤ m) (hi : m < 2 ^ 53) (half : 4 * N < (2 * m + 1) * 2 ^ j * ((2 * m + 1) * 2 ^ j)) where
  abbrev w : ℕ
  w = whole_root N

  abbrev k : ℕ
  k = size w - 53

  abbrev v : ℕ
  v = w / 2 ^ k

  abbrev h : ℕ
  h = (2 * v + 1) * 2 ^ k

  root_under : 2 * w < (2 * m + 1) * 2 ^ j
  root_under =
      less_root (2 * w) ((2 * m + 1) * 2 ^ j)
      (lt_of_le_of_lt (le_trans (le_of_eq (four w)) (mul-le-mul_left 4 (whole_root_is N).0)) half)
    where
      four : (w : ℕ) → 2 * w * (2 * w) ≡ 4 * (w * w)
      four w = omega arith

  small : w < 2 ^ (53 + j)
  small = subst (λ (x : ℕ). w < x) (sym (pow-add 2 53 j)) (under w m (2 ^ j) (pow_pos j) root_under hi (mul-le-mul_right (2 ^ j) hi))
    where
      under : (w m p : ℕ) → 0 < p → 2 * w < (2 * m + 1) * p → m < 2 ^ 53 → suc m * p ≤ 2 ^ 53 * p → w < 2 ^ 53 * p
      under w m p a b c d = omega arith

  drops : k ≤ j
  drops = spare (size w) j (size-le w (53 + j) small)
    where
      spare : (z j : ℕ) → z ≤ 53 + j → z - 53 ≤ j
      spare z j h = omega arith

  fewer : k < j → nearest v (compare (4 * N) (h * h)) * 2 ^ k ≤ m * 2 ^ j
  fewer l =
      le_trans (mul-le-mul_right (2 ^ k) (le_trans (nearest-le v (compare (4 * N) (h * h))) (kept-lt 53 w)))
      (le_trans (le_of_eq (sym (pow-add 2 53 k)))
      (le_trans (pow_mono (room k j l)) (le_trans (le_of_eq (pow-add 2 52 j)) (mul-le-mul_right (2 ^ j) lo))))
    where
      room : (k j : ℕ) → k < j → 53 + k ≤ 52 + j
      room k j h = omega arith

  v_most : k ≡ j → v ≤ m
  v_most e = le_of_suc-le-suc (lt_of_not-le (λ (g : suc m ≤ v). over g))
    where
      scaled : v * 2 ^ j ≤ w
      scaled = subst (λ (x : ℕ). v * 2 ^ x ≤ w) e (div-mul-le_self w (2 ^ k))

      never : (w m p x : ℕ) → 0 < p → 2 * w < (2 * m + 1) * p → suc m * p ≤ x → x ≤ w → ⊥
      never w m p x a b c d = omega arith

      over : suc m ≤ v → ⊥
      over g = never w m (2 ^ j) (v * 2 ^ j) (pow_pos j) root_under (mul-le-mul_right (2 ^ j) g) scaled

  same : k ≡ j → nearest v (compare (4 * N) (h * h)) * 2 ^ k ≤ m * 2 ^ j
  same e = go (eq-or-lt_of_le (v_most e))
    where
      go : (v ≡ m) ⊎ (v < m) → nearest v (compare (4 * N) (h * h)) * 2 ^ k ≤ m * 2 ^ j
      go (inl p) =
          le_of_eq
          (ap (λ (x : ℕ). x * 2 ^ k)
          (below_keeps v (4 * N) (h * h)
          (subst (λ (x : ℕ). 4 * N < x * x) (ap (λ (x : ℕ). (2 * x + 1) * 2 ^ j) (sym p) ∙ ap (λ (x : ℕ). (2 * v + 1) * 2 ^ x) (sym e)) half))
          ∙ ap (λ (x : ℕ). x * 2 ^ k) p
          ∙ ap (λ (x : ℕ). m * 2 ^ x) e)
      go (inr l) =
          le_trans (mul-le-mul_right (2 ^ k) (le_trans (nearest-le v (compare (4 * N) (h * h))) l))
          (le_of_eq (ap (λ (x : ℕ). m * 2 ^ x) e))

  pub root_most : nearest v (compare (4 * N) (h * h)) * 2 ^ k ≤ m * 2 ^ j
  root_most = go (eq-or-lt_of_le drops)
    where
      go : (k ≡ j) ⊎ (k < j) → nearest v (compare (4 * N) (h * h)) * 2 ^ k ≤ m * 2 ^ j
      go (inl e) = same e
      go (inr l) = fewer l

-- ---- the square of b = M units, M = m * 2 ^ j of 53 digits, neither very small nor very large

-- the smallest value is 1 / L
abbrev pub L : ℕ
L = 2 ^ 1074

-- what b * b is rounded to, in units
abbrev pub squared : ℕ → ℕ
squared M = grid binary64 (M * M) (L * L)

-- ---- numbers

step : (x q n p : ℕ) → x * p ≤ q * p + q → q + n ≤ p * n → x * p ≤ (q + n) * p
step x q n p a b = omega arith

last : (x q n s : ℕ) → x ≤ q + n → 0 < s → 4 * x < 4 * q + 4 * n + s
last x q n s a b = omega arith

-- ---- values in order

or_le : (a b : ℕ) → T (ltb a b || (eqb a b && true)) → a ≤ b
or_le a b t = go (ltb a b) (eqb a b) (ltb→lt a b) (eqb→eq a b) t
  where
    less : (a b : ℕ) → a < b → a ≤ b
    less a b h = omega arith

    go : (x y : Bool) → (T x → a < b) → (T y → a ≡ b) → T (x || (y && true)) → a ≤ b
    go true y f g t = less a b (f tt)
    go false true f g t = le_of_eq (g tt)
    go false false f g t = absurd t

finite_below : (x y : Float) (b d : ℕ) → Signed false x → HasValue y false b d → T (le x y) → T (finite x)
unfolding le lt eq
finite_below nan y b d s v t = absurd s
finite_below (inf true) y b d s v t = absurd (true≢false s)
finite_below (inf false) nan b d s v t = absurd v
finite_below (inf false) (inf u) b d s v t = absurd v
finite_below (inf false) (fin u m e) b d s v t = absurd t
finite_below (fin u m e) y b d s v t = tt

cross_values : (x y : Float) (a c b d : ℕ) → 0 < c → 0 < d → HasValue x false a c → HasValue y false b d → T (le x y) → a * d ≤ b * c
unfolding le lt eq
cross_values nan y a c b d C D v w t = absurd v
cross_values (inf s) y a c b d C D v w t = absurd v
cross_values (fin true m e) y a c b d C D v w t = absurd (true≢false v.0)
cross_values (fin false m e) nan a c b d C D v w t = absurd w
cross_values (fin false m e) (inf s) a c b d C D v w t = absurd w
cross_values (fin false m e) (fin true n f) a c b d C D v w t = absurd (true≢false w.0)
cross_values (fin false m e) (fin false n f) a c b d C D v w t =
    transfer a b c d (m * up e) (n * up f) (down e) (down f) (down_pos e) (down_pos f) (sym v.1) (sym w.1) (or_le (m * up e * down f) (n * up f * down e) t)

module _ (m j : ℕ) (lo : 2 ^ 52 ≤ m) (hi : m < 2 ^ 53) (least : 511 ≤ j) (most : j ≤ 1278) where
  abbrev pub M : ℕ
  M = m * 2 ^ j

  large : 2 ^ 563 ≤ M
  large = le_trans (le_of_eq (pow-add 2 52 511)) (mul-le-mul lo (pow_mono least))

  modest : M ≤ 2 ^ 1331
  modest = le_trans (mul-le-mul (le_of_lt hi) (pow_mono most)) (le_of_eq (sym (pow-add 2 53 1278)))

  normal_square : 53 ≤ size (M * M * L / (L * L))
  normal_square = normal_of_fraction binary64 (M * M) (L * L) (mul-pos (pow_pos 1074) (pow_pos 1074)) (le_trans (le_of_eq (sym (mul_assoc (2 ^ 52) L L))) (mul-le-mul_right L (le_trans (le_of_eq fit) (mul-le-mul large large))))
    where
      fit : 2 ^ 52 * 2 ^ 1074 ≡ 2 ^ 563 * 2 ^ 563
      fit = sym (pow-add 2 52 1074) ∙ pow-add 2 563 563

  squared_up : squared M * L * 2 ^ 53 ≤ M * M * 2 ^ 53 + M * M
  squared_up =
      le_of_mul-le-mul_right
      (le_trans (le_of_eq (left (squared M) L (2 ^ 53)))
      (le_trans (grid_up (M * M * L) (L * L) (mul-pos (pow_pos 1074) (pow_pos 1074)) normal_square) (le_of_eq (right (M * M) L (2 ^ 53)))))
      (pow_pos 1074)
    where
      left : (g l p : ℕ) → g * l * p * l ≡ g * (l * l) * p
      left g l p = simp (mul_assoc, mul_comm, mul_left_comm) refl

      right : (s l p : ℕ) → s * l * p + s * l ≡ (s * p + s) * l
      right s l p = ap (λ (x : ℕ). x + s * l) (mul_right_comm s l p) ∙ sym (add-mul (s * p) s l)

  pub squared_most : squared M < 2 ^ 2098
  squared_most = lt_of_not-le (λ (g : 2 ^ 2098 ≤ squared M). not-le_of_lt far (le_trans (mul-le-mul_right (2 ^ 53) (mul-le-mul_right L g)) squared_up))
    where
      twice : (s p : ℕ) → 1 ≤ p → s * p + s ≤ s * (p + p)
      twice s p h = join (mul-le-mul_left s h)
        where
          join : s * 1 ≤ s * p → s * p + s ≤ s * (p + p)
          join a = omega arith

      far : M * M * 2 ^ 53 + M * M < 2 ^ 2098 * L * 2 ^ 53
      far = lt_of_le_of_lt (le_trans (twice (M * M) (2 ^ 53) (lit≤ tt)) (mul-le-mul_right (2 ^ 53 + 2 ^ 53) (mul-le-mul modest modest))) (lit< tt)

  -- what is at most that has a root below halfway to the next number
  below_half : (a : ℕ) → a ≤ squared M → 4 * (a * L) < (2 * m + 1) * 2 ^ j * ((2 * m + 1) * 2 ^ j)
  below_half a h =
      subst (λ (x : ℕ). 4 * (a * L) < x) (sym (expand m (2 ^ j)))
      (final (a * L) (m * m * (2 ^ j * 2 ^ j)) (m * (2 ^ j * 2 ^ j)) (2 ^ j * 2 ^ j)
      (le_trans (mul-le-mul_right (2 ^ 53) (mul-le-mul_right L h)) (le_trans squared_up (le_of_eq (ap (λ (x : ℕ). x * 2 ^ 53 + x) (mul-mul-mul_comm m (2 ^ j) m (2 ^ j))))))
      (le_trans (le_of_eq (more m (2 ^ j * 2 ^ j))) (mul-le-mul_right (m * (2 ^ j * 2 ^ j)) hi))
      (mul-pos (pow_pos j) (pow_pos j)))
    where
      expand : (m p : ℕ) → (2 * m + 1) * p * ((2 * m + 1) * p) ≡ 4 * (m * m * (p * p)) + 4 * (m * (p * p)) + p * p
      expand m p = mul-mul-mul_comm (2 * m + 1) p (2 * m + 1) p ∙ open_up m (p * p)
        where
          open_up : (m s : ℕ) → (2 * m + 1) * (2 * m + 1) * s ≡ 4 * (m * m * s) + 4 * (m * s) + s
          open_up m s = omega arith

      more : (m s : ℕ) → m * m * s + m * s ≡ suc m * (m * s)
      more m s = omega arith

      final : (x q n s : ℕ) → x * 2 ^ 53 ≤ q * 2 ^ 53 + q → q + n ≤ 2 ^ 53 * n → 0 < s → 4 * x < 4 * q + 4 * n + s
      final x q n s a b c = last x q n s (le_of_mul-le-mul_right (step x q n (2 ^ 53) a b) (pow_pos 53)) c

  -- ---- the value is kept exactly

  kept_most : kept 53 (M * M * L) (L * L) ≤ 2 ^ 53
  kept_most =
      let n = M * M * L in
      let k = drop 53 n (L * L) in
      let u = L * L * 2 ^ k in
      le_trans (nearest-le (n / u) (compare (n % u * 2) u)) (subst (λ (x : ℕ). x < 2 ^ 53) (div-div-eq-div-mul n (L * L) (2 ^ k)) (kept-lt 53 (n / (L * L))))

  own_value : HasValue (round binary64 false (squared M) L) false (squared M) L
  own_value = go (eq-or-lt_of_le kept_most)
    where
      go : (kept 53 (M * M * L) (L * L) ≡ 2 ^ 53) ⊎ (kept 53 (M * M * L) (L * L) < 2 ^ 53) → HasValue (round binary64 false (squared M) L) false (squared M) L
      go (inr l) = round_exact binary64 false (squared M) L (kept 53 (M * M * L) (L * L)) (drop 53 (M * M * L) (L * L)) (pow_pos 1074) l squared_most refl
      go (inl e) =
          let k = drop 53 (M * M * L) (L * L) in
          let shift : squared M ≡ 2 ^ 52 * 2 ^ (1 + k) = ap (λ (x : ℕ). x * 2 ^ k) e ∙ sym (pow-add 2 53 k) ∙ ap (λ (x : ℕ). 2 ^ x) (one k) ∙ pow-add 2 52 (1 + k) in
          round_exact binary64 false (squared M) L (2 ^ 52) (1 + k) (pow_pos 1074) (lit< tt) (subst (λ (x : ℕ). x < 2 ^ 2098) shift squared_most) (ap (λ (x : ℕ). x * L) shift)
        where
          one : (k : ℕ) → 53 + k ≡ 52 + (1 + k)
          one k = omega arith

  -- ---- its root

  -- in units
  abbrev pub RootMost : Float → Type 0
  RootMost y = (r : ℕ) × (HasValue y false r L × (r ≤ M))

  rounded_root : (N : ℕ) → 4 * N < (2 * m + 1) * 2 ^ j * ((2 * m + 1) * 2 ^ j) → RootMost (root_round binary64 N)
  unfolding root_round
  rounded_root N half =
      let k = size (whole_root N) - 53 in
      let v = whole_root N / 2 ^ k in
      let h = (2 * v + 1) * 2 ^ k in
      let q = nearest v (compare (4 * N) (h * h)) in
      let le = root_most N m j lo hi half in
      (q * 2 ^ k, (units_val binary64 false q k (lt_of_le_of_lt le (lt_of_le_of_lt modest (lit< tt))), le))

  pub root_value : (x : Float) (a : ℕ) → HasValue x false a L → a ≤ squared M → RootMost (sqrt_of x)
  unfolding sqrt_of sqrt_in
  root_value nan a v h = absurd v
  root_value (inf s) a v h = absurd v
  root_value (fin true n e) a v h = absurd (true≢false v.0)
  root_value (fin false zero e) a v h = (0, ((refl, zero-times (up e) L ∙ sym (zero-mul (down e))), zero-le))
    where
      zero-times : (x y : ℕ) → 0 * x * y ≡ 0
      zero-times x y = ap (λ (z : ℕ). z * y) (zero-mul x) ∙ zero-mul y
  root_value (fin false (suc n) e) zero v h = absurd (lt_irrefl 0 (subst (λ (x : ℕ). 0 < x) (v.1 ∙ zero-mul (down e)) (mul-pos (mul-pos (zero-lt-suc n) (up_pos e)) (pow_pos 1074))))
  root_value (fin false (suc n) e) (suc a) v h =
      subst RootMost (sym (positive_root binary64 (fin false (suc n) e) (suc a) v (zero-lt-suc a)))
      (rounded_root (suc a * L) (below_half (suc a) h))

  -- ---- the root of what is rounded from a fraction that is at most the square

  module _ (num den : ℕ) (D : 0 < den) (under : num * L ≤ squared M * den) where
    ordered : T (le (round binary64 false num den) (round binary64 false (squared M) L))
    ordered = round_mono binary64 num den (squared M) L D (pow_pos 1074) under

    pub in_range : grid binary64 num den < 2 ^ 2098
    in_range = round_under binary64 num den (finite_below (round binary64 false num den) (round binary64 false (squared M) L) (squared M) L (round_signed false num den) own_value ordered)

    pub at_most : grid binary64 num den ≤ squared M
    at_most = le_of_mul-le-mul_right (cross_values (round binary64 false num den) (round binary64 false (squared M) L) (grid binary64 num den) L (squared M) L (pow_pos 1074) (pow_pos 1074) (round_val binary64 num den in_range) own_value ordered) (pow_pos 1074)

    pub value_is : HasValue (round binary64 false num den) false (grid binary64 num den) L
    value_is = round_val binary64 num den in_range

    pub root-of : RootMost (sqrt_of (round binary64 false num den))
    root-of = root_value (round binary64 false num den) (grid binary64 num den) value_is at_most
